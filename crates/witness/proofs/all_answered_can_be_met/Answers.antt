use Rattle.witness.proofs.Worked.{all_answered_can_be_met_lem}
use Rattle.witness.proofs.all_answered_can_be_met.Goals as goal

pub returns : goal.returns
returns g c = all_answered_can_be_met_lem g.C.Channel g.K.Coins
