use Rattle.witness.proofs.Opened.{a_fresh_park_exists_lem}
use Rattle.witness.proofs.a_fresh_park_exists.Goals as goal

pub returns : goal.returns
returns g c = a_fresh_park_exists_lem g.C.Channel g.K.Coins
