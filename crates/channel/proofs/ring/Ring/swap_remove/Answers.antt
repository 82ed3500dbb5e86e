use Rattle.std.proofs.Common.{◌≡◌, ap, sym, subst, ◌∙◌, length, ◌-◌, arith, length-set}
use Rattle.channel.specs.Order.{in_order}
use Rattle.channel.specs.OrderLemmas.{length_in_order}
use Rattle.channel.specs.Positions.{StandsAt}
use Rattle.channel.proofs.RingChanges.{moved_last}
use Rattle.channel.proofs.ring.Ring.swap_remove.Goals as goal

pub message_at-last-requires-clause-position : goal.message_at-last-requires-clause-position
message_at-last-requires-clause-position c = omega (arith, length_in_order c.args.self.now)

pub drop_last-requires : goal.drop_last-requires
drop_last-requires c =
    let l : length (in_order c.put_at.new.self) ≡ length (in_order c.args.self.now) = ap length c.put_at.ensures.written.0 ∙ length-set _ _ _ in
    omega (arith, length_in_order c.put_at.new.self)

pub returns-clause-left : goal.returns-clause-left
returns-clause-left c =
    let s = c.args.self.now in
    let put = c.put_at.ensures.written in
    let cut = c.drop_last.ensures.left in
    let last : StandsAt (in_order s) (length (in_order s) - 1) c.message_at-last.result = subst (λ n. StandsAt (in_order s) (n - 1) c.message_at-last.result) (sym (length_in_order s)) c.message_at-last.ensures in
    (moved_last _ _ _ c.args.i c.message_at-m.result c.message_at-last.result c.requires.position last put.0 cut.0, (cut.1.0 ∙ put.1.0, cut.1.1 ∙ put.1.1))
