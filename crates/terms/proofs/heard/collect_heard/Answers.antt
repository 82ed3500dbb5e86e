use Rattle.std.proofs.Common.{length, sym, ap, ◌∙◌}
use Rattle.terms.proofs.Hearing.{found_none, found_more, found_same, pushed_alike}
use Rattle.terms.proofs.heard.collect_heard.Goals as goal
use Rattle.terms.proofs.heard.collect_heard.Goals.{then-set-i-eq1, else-set-i-eq1}

pub loop-i-init : goal.loop-i-init
loop-i-init c = record {
  groups = found_none (λ w. w.group) c.args.set c.args.words.now _ c.new-groups.ensures;
  names = found_none (λ w. w.name) c.args.set c.args.words.now _ c.new-names.ensures;
  alike = ap length c.new-names.ensures ∙ sym (ap length c.new-groups.ensures);
}

pub loop-i-preserved : goal.loop-i-preserved
loop-i-preserved c =
    let l = c.loop-i in
    let set = c.args.set in
    let words = c.args.words.now in
    elim c.if-set-i-eq1.branch [
      | then-set-i-eq1 w ↦
          let bit = w.if-set-i-eq1.true in
          let end = c.min-end.result in
          record {
            groups = found_more (λ w. w.group) set words l.i l.groups l.invariant.groups end _ bit c.loop-i-test.true (w.groups-is ∙ w.push.ensures);
            names = found_more (λ w. w.name) set words l.i l.names l.invariant.names end _ bit c.loop-i-test.true (w.names-is ∙ w.push-then-set-i-eq1.ensures);
            alike = pushed_alike l.groups l.names _ _ _ _ l.invariant.alike (w.groups-is ∙ w.push.ensures) (w.names-is ∙ w.push-then-set-i-eq1.ensures);
          }
      | else-set-i-eq1 w ↦
          let bit = w.if-set-i-eq1.false in
          record {
            groups = found_same (λ w. w.group) set words l.i l.groups l.invariant.groups _ bit w.groups-is;
            names = found_same (λ w. w.name) set words l.i l.names l.invariant.names _ bit w.names-is;
            alike = ap length w.names-is ∙ l.invariant.alike ∙ sym (ap length w.groups-is);
          }
    ]
