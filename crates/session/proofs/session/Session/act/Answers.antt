use Rattle.std.proofs.Common.{refl}
use Rattle.session.proofs.session.Session.act.Goals as goal

pub returns-in-Open : goal.returns-in-Open
returns-in-Open c = rw c.in-Open.is (c.act_on.new.park, refl, c.act_on.ensures.reports)
