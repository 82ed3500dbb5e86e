use Rattle.witness.proofs.Rounds.{rounds_can_go_on_lem}
use Rattle.witness.proofs.rounds_can_go_on.Goals as goal

pub returns : goal.returns
returns c = rounds_can_go_on_lem
