use Rattle.witness.proofs.Worked.{never_stuck_can_be_met_lem}
use Rattle.witness.proofs.never_stuck_can_be_met.Goals as goal

pub returns : goal.returns
returns g c = never_stuck_can_be_met_lem g.C.Channel g.K.Coins
