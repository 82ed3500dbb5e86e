use Rattle.channel.proofs.Counts.{bags_are_counts_lem}
use Rattle.channel.proofs.channel.bags_are_counts.Goals as goal

pub returns : goal.returns
returns c = bags_are_counts_lem
