use Rattle.witness.proofs.Replayed.{a_long_selector_exists_lem}
use Rattle.witness.proofs.a_long_selector_exists.Goals as goal

pub returns : goal.returns
returns c = a_long_selector_exists_lem
