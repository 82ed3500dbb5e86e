use Rattle.witness.proofs.Worked.{a_run_with_a_yes_and_a_permit_exists_lem}
use Rattle.witness.proofs.a_run_with_a_yes_and_a_permit_exists.Goals as goal

pub returns : goal.returns
returns g c = a_run_with_a_yes_and_a_permit_exists_lem g.C.Channel g.K.Coins
