use Rattle.std.proofs.Common.{arith}
use Rattle.script.proofs.Feeding.{shown}
use Rattle.script.proofs.split.Splitter.record.Goals as goal

pub returns : goal.returns
returns c text = shown c.args.self.now text c.get.result (omega arith) c.get.ensures.lookup
