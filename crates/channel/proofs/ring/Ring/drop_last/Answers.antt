use Rattle.std.proofs.Common.{refl}
use Rattle.channel.proofs.RingChanges.{last_out}
use Rattle.channel.proofs.ring.Ring.drop_last.Goals as goal

pub returns : goal.returns
returns c = record { left = (last_out c.args.self.now, (refl, refl)); begins = refl }
