use Rattle.std.proofs.Common.{refl}
use Rattle.channel.proofs.RingChanges.{first_out}
use Rattle.channel.proofs.ring.Ring.drop_first.Goals as goal

pub returns : goal.returns
returns c =
    let p = c.place_of.ensures in
    (first_out c.args.self.now c.place_of.result p.place c.requires, (refl, refl))
