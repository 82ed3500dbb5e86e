use Rattle.std.proofs.Common.{arith}
use Rattle.channel.proofs.Bags.{copied_where}
use Rattle.channel.proofs.bag.Bag.mark_of.Goals as goal

pub returns-then-len-places : goal.returns-then-len-places
returns-then-len-places c = copied_where c.args.self.now c.args.pick (omega arith) (omega (arith, c.len.ensures.waiting))
