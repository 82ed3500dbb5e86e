use Rattle.channel.proofs.Bags.{position_where}
use Rattle.channel.proofs.bag.Bag.position_of.Goals as goal

pub returns : goal.returns
returns c = position_where c.args.self.now c.args.pick c.len.result c.checked_rem.result c.len.ensures.waiting c.checked_rem.ensures
