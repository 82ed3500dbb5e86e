-- Lists that begin at a place and go on at their start, as a ring has them in its memory.
use Rattle.std.specs.Prelude.{◌≡◌, ℕ, ◌+◌, ◌-◌, ◌<◌, ◌≤◌, List, length, get_or, take, drop, slice_index_or, slice_set}
use Rattle.std.proofs.Common.{⊎_elim, arith, length-drop, length-take}
use Rattle.std.proofs.Math.Seq.{take-set-lt}
use Rattle.std.proofs.lemmas.Bool.{cases_lt}
use Rattle.std.proofs.lemmas.Grind.{common_steps}
use Rattle.std.proofs.lemmas.List.{same_lists, take-set-le, drop-set-add, drop-set-lt, set-append_left, set-append_right, get_or-take, get_or-drop, get_or_append_left, get_or-append_right}
use Rattle.channel.specs.Order.{turned, IsPlace}
use Rattle.channel.specs.OrderLemmas.{length_turned}

module _ {X : Type 0} where
  -- a read and a write at a place, as a read and a write in the order of the ring
  pub get_or_turned : (xs : List X) (f i at : ℕ) (d : X) → f ≤ length xs → i < length xs → IsPlace (length xs) f i at → slice_index_or (turned xs f) i d ≡ slice_index_or xs at d
  get_or_turned xs f i at d h k w = grind (arith, common_steps, get_or_append_left, get_or-append_right)

  pub set_turned : (xs : List X) (f i at : ℕ) (x : X) → f ≤ length xs → i < length xs → IsPlace (length xs) f i at → turned (slice_set xs at x) f ≡ slice_set (turned xs f) i x
  set_turned xs f i at x h k w =
      let l = length-drop f xs in
      ⊎_elim
      (λ (b : f + i < length xs). grind (arith, set-append_left (drop f xs) (take f xs) i x, drop-set-add f xs i x, take-set-le f xs at x))
      (λ (b : length xs ≤ f + i). grind (arith, set-append_right (drop f xs) (take f xs) (length xs - f) i x l, drop-set-lt f xs at x, take-set-lt f xs at x))
      (cases_lt (f + i) (length xs))

  -- the first of u leaves the ring
  pub ring_rest : (xs : List X) (f u at : ℕ) → f ≤ length xs → 0 < u → u ≤ length xs → IsPlace (length xs) f 0 at
      → take (u - 1) (turned xs (at + 1)) ≡ drop 1 (take u (turned xs f))
  ring_rest xs f u at h k l w =
      let next : at + 1 ≤ length xs = grind arith in
      let n = length_turned xs f h in
      let m = length_turned xs (at + 1) next in
      same_lists _ _ (simp (length-drop, length-take) (omega arith)) (λ j d below.
      let low : j + 1 < u = omega (arith, length-take (u - 1) (turned xs (at + 1))) in
      let left = get_or-take (u - 1) (turned xs (at + 1)) j d in
      let right = get_or-drop 1 (take u (turned xs f)) j d in
      let more = get_or-take u (turned xs f) (1 + j) d in
      let same : (p : ℕ) → IsPlace (length xs) f (1 + j) p → IsPlace (length xs) (at + 1) j p → get_or (take (u - 1) (turned xs (at + 1))) j d ≡ get_or (drop 1 (take u (turned xs f))) j d =
      λ p v w. grind (arith, get_or_turned xs f (1 + j) p d, get_or_turned xs (at + 1) j p d) in
      ⊎_elim
      (λ (b : f + (j + 1) < length xs). same (f + (j + 1)) (grind arith) (grind arith))
      (λ (b : length xs ≤ f + (j + 1)). same (f + (j + 1) - length xs) (grind arith) (grind arith))
      (cases_lt (f + (j + 1)) (length xs)))
