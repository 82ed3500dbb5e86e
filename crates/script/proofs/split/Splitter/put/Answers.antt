use Rattle.std.proofs.Common.{◌≡◌, length, set, sym, ap, ◌∙◌, arith}
use Rattle.std.proofs.lemmas.List.{set_past}
use Rattle.script.proofs.Feeding.{put_feeds}
use Rattle.script.proofs.split.Splitter.put.Goals as goal
use Rattle.script.proofs.split.Splitter.put.Goals.{then-self-lt-LONGEST, else-self-lt-LONGEST}

pub returns : goal.returns
returns c past keeps last h =
    let s = c.args.self.now in
    let size : length s.bytes ≡ 80 = omega arith in
    let bytes_are : c.if-self-lt-LONGEST.self.bytes ≡ set s.bytes s.len c.args.byte =
    elim c.if-self-lt-LONGEST.branch [ then-self-lt-LONGEST w ↦ ap (λ x. x.bytes) w.self-is | else-self-lt-LONGEST w ↦ ap (λ x. x.bytes) w.self-is ∙ sym (set_past s.bytes s.len c.args.byte (omega arith)) ] in
    let same_len : c.if-self-lt-LONGEST.self.len ≡ s.len = elim c.if-self-lt-LONGEST.branch [ then-self-lt-LONGEST w ↦ ap (λ x. x.len) w.self-is | else-self-lt-LONGEST w ↦ ap (λ x. x.len) w.self-is ] in
    put_feeds s past c.args.byte keeps last _ _ _ size bytes_are (omega arith) c.from-self.ensures h
