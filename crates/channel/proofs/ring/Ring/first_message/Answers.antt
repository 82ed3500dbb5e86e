use Rattle.std.proofs.Common.{arith}
use Rattle.channel.specs.OrderLemmas.{length_in_order}
use Rattle.channel.proofs.RingChanges.{read_at}
use Rattle.channel.proofs.ring.Ring.first_message.Goals as goal

pub returns : goal.returns
returns c =
    let p = c.place_of.ensures in
    read_at c.args.self.now 0 c.place_of.result c.index.result.now p.place (omega (arith, c.requires, length_in_order c.args.self.now)) p.within c.index.ensures
