use Rattle.moving_model.proofs.PlaceLaws.{step_address, moving_address}
use Rattle.moving_model.proofs.laws.an_address_has_64_bits.Goals as goal

pub returns-clause-stays : goal.returns-clause-stays
returns-clause-stays c = step_address

pub returns-clause-moving : goal.returns-clause-moving
returns-clause-moving c = moving_address
