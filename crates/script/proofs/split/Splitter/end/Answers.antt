use Rattle.script.proofs.Feeding.{end_feeds}
use Rattle.script.proofs.split.Splitter.end.Goals as goal

pub returns : goal.returns
returns c past holds h = end_feeds c.args.self.now past c.args.byte holds _ c.saturating_sub-self.ensures h
