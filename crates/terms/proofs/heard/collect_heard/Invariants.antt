use Rattle.std.proofs.Common.{◌≡◌, length}
use Rattle.terms.proofs.Hearing.{Found}
use Rattle.terms.proofs.heard.collect_heard.Given as goal

abbrev pub invariant-loop-i : goal.invariant-loop-i
invariant-loop-i l = record {
  groups : Found (λ w. w.group) l.set l.words l.i l.groups;
  names : Found (λ w. w.name) l.set l.words l.i l.names;
  alike : length l.names ≡ length l.groups;
}
