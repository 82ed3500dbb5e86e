use Rattle.std.proofs.Common.{◌<◌, arith}
use Rattle.channel.specs.OrderLemmas.{length_in_order}
use Rattle.channel.specs.Memory.{places_in}
use Rattle.channel.proofs.RingChanges.{read_at, from_0}
use Rattle.channel.proofs.ring.Ring.message_at.Goals as goal

pub returns : goal.returns
returns c =
    let s = c.args.self.now in
    let i = c.args.i in
    let h = c.requires.position in
    let low : i < places_in s.memory = omega (arith, h, length_in_order s, s.within.0) in
    read_at s i i c.index.result.now (from_0 s i c.requires.begins low) h low c.index.ensures
