use Rattle.std.proofs.Common.{arith}
use Rattle.terms.proofs.Read.{reading_is}
use Rattle.terms.proofs.reading.reading.Goals as goal

pub returns-then-all_alike : goal.returns-then-all_alike
returns-then-all_alike g c =
    reading_is g.T.PartialEq.eq c.args.entries.now c.first-item.result _ _ (omega arith) c.first-item.is c.all_alike.ensures c.if-all_alike.true

pub returns-else-all_alike : goal.returns-else-all_alike
returns-else-all_alike g c =
    reading_is g.T.PartialEq.eq c.args.entries.now c.first-item.result _ _ (omega arith) c.first-item.is c.all_alike.ensures c.if-all_alike.false
