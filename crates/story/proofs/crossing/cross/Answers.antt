-- Each return names what collecting told and the park that it left.
use Rattle.std.proofs.Common.{arith}
use Rattle.story.proofs.crossing.cross.Goals as goal

pub returns-in_err-permit : goal.returns-in_err-permit
returns-in_err-permit g c = (c.collect.result, c.collect.new.park, c.collect.ensures.does, grind arith, grind arith)

pub returns-in-Yes : goal.returns-in-Yes
returns-in-Yes g c = (c.collect.result, c.collect.new.park, c.collect.ensures.does, grind arith, grind arith)

pub returns-in-No : goal.returns-in-No
returns-in-No g c = (c.collect.result, c.collect.new.park, c.collect.ensures.does, grind arith, grind arith)

pub returns-in-Undecided : goal.returns-in-Undecided
returns-in-Undecided g c = (c.collect.result, c.collect.new.park, c.collect.ensures.does, grind arith, grind arith)
