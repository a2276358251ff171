use Rattle.attribution.proofs.ChargeLaws.{charged-used}
use Rattle.attribution.proofs.laws.charged_pages_add_up_to_the_frames_in_use.Goals as goal

pub returns : goal.returns
returns c = charged-used
