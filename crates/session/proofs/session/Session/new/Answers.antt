use Rattle.std.proofs.Common.{refl}
use Rattle.session.proofs.session.Session.new.Goals as goal

pub returns : goal.returns
returns c = record { cells = c.in_ok-cells.cells; has = refl; empty = c.in_ok-cells.ensures.items_if_clones_equal (λ y e. e); enough = c.in_ok-cells.ensures.len }
