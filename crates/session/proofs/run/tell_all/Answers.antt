use Rattle.std.proofs.Common.{get_or, take, ◌∷◌, []}
use Rattle.std.proofs.lemmas.List.{take_more}
use Rattle.session.proofs.Telling.{added_more, held_more}
use Rattle.session.proofs.run.tell_all.Goals as goal

pub loop-byte-preserved : goal.loop-byte-preserved
loop-byte-preserved c past holds =
    let xs = c.args.bytes.now in
    let i = c.loop-byte.byte-index in
    let so_far = c.loop-byte.invariant past holds in
    let next = c.in_ok-tell_byte.ensures in
    rw (take_more xs i 0 c.loop-byte-test.true)
    (held_more _ past (take i xs) (get_or xs i 0) (next.fed _ so_far.0), added_more past (take i xs) (get_or xs i 0 ∷ []) _ _ _ _ _ _ so_far.1 (next.told _ so_far.0))
