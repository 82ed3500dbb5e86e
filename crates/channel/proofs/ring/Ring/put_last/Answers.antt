use Rattle.std.proofs.Common.{refl, arith}
use Rattle.std.proofs.lemmas.List.{drop-set-lt}
use Rattle.channel.proofs.RingChanges.{one_behind}
use Rattle.channel.proofs.ring.Ring.put_last.Goals as goal

pub returns : goal.returns
returns c =
    let s = c.args.self.now in
    let p = c.place_of-place.ensures in
    let at = c.place_of-place.result in
    record { joins = (one_behind s at c.args.m p.place c.requires p.within, (refl, drop-set-lt 65535 s.memory.items at c.args.m (omega arith))); begins = refl }
