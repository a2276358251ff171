use Rattle.moving_model.proofs.FitLaws.{fits_from, tell_from}
use Rattle.moving_model.proofs.following.what_fits_is_told_one_after_another.Goals as goal

pub returns-clause-fits : goal.returns-clause-fits
returns-clause-fits c = fits_from

pub returns-clause-tells : goal.returns-clause-tells
returns-clause-tells c = tell_from
