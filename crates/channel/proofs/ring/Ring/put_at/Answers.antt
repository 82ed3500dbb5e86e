use Rattle.std.proofs.Common.{◌<◌, refl, arith}
use Rattle.std.proofs.lemmas.List.{drop-set-lt}
use Rattle.channel.specs.Memory.{places_in}
use Rattle.channel.proofs.RingChanges.{written, from_0}
use Rattle.channel.proofs.ring.Ring.put_at.Goals as goal

pub returns : goal.returns
returns c =
    let s = c.args.self.now in
    let i = c.args.i in
    let h = c.requires.position in
    let low : i < places_in s.memory = omega (arith, h, s.within.0) in
    record { written = (written s i i c.args.m (from_0 s i c.requires.begins low) h low, (refl, drop-set-lt 65535 s.memory.items i c.args.m (omega (arith, low)))); begins = refl }
