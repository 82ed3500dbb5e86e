-- A read, a write and a step at an end of a ring, as of the list of its messages in their order.
use Rattle.std.specs.Prelude.{◌≡◌, ℕ, ◌+◌, ◌-◌, ◌<◌, ◌≤◌, List, [], ◌∷◌, ◌++◌, length, get_or, take, drop, set, vec_items, slice_index_or, slice_set}
use Rattle.std.proofs.Common.{sym, ap, subst, ◌∙◌, arith, length-set}
use Rattle.std.specs.List.{swap_remove}
use Rattle.std.proofs.Math.Seq.{take-set-lt}
use Rattle.std.proofs.lemmas.List.{get_or-take, get_or_default, take_more_set, take-take}
use Rattle.terms.specs.declared.message.Message.{Message}
use Rattle.channel.specs.MeaningLemmas.{stands_at, get_or_standing}
use Rattle.channel.specs.Memory.{places_in}
use Rattle.channel.specs.Order.{turned, IsPlace, in_order}
use Rattle.channel.specs.OrderLemmas.{length_turned, placed, length_placed, length_in_order}
use Rattle.channel.specs.Positions.{StandsAt}
use Rattle.channel.proofs.Rings.{get_or_turned, set_turned, ring_rest}
use Rattle.channel.specs.declared.ring.Ring.{Ring}

-- in a ring that begins at place 0, a position is its place
pub from_0 : (r : Ring) (i : ℕ) → r.first ≡ 0 → i < places_in r.memory → IsPlace (places_in r.memory) r.first i i
from_0 r i b h = (λ (_ : r.first + i < places_in r.memory). omega (arith, b), λ (k : places_in r.memory ≤ r.first + i). absurd (omega (arith, b, h, k)))

module _ (r : Ring) (i at : ℕ) (m : Message) (w : IsPlace (places_in r.memory) r.first i at) where
  in_ring : IsPlace (length (placed r)) r.first i at
  in_ring = subst (λ (p : ℕ). IsPlace p r.first i at) (sym (length_placed r)) w

  -- what is read at a place stands at a position
  pub read_at : i < length (in_order r) → at < places_in r.memory → m ≡ slice_index_or (vec_items r.memory) at m → StandsAt (in_order r) i m
  read_at h k read =
      let l = length_placed r in
      let n = length_in_order r in
      stands_at (in_order r) i m h
      (get_or-take r.count (turned (placed r) r.first) i m (omega arith) ∙ get_or_turned (placed r) r.first i at m (omega arith) (omega arith) in_ring
      ∙ get_or-take 65535 (vec_items r.memory) at m (omega arith) ∙ sym read)

  -- a write at a place, as one at a position
  write_at : i < places_in r.memory → at < places_in r.memory → turned (take 65535 (slice_set (vec_items r.memory) at m)) r.first ≡ slice_set (turned (placed r) r.first) i m
  write_at h k =
      let l = length_placed r in
      ap (λ (q : List Message). turned q r.first) (take-set-lt 65535 (vec_items r.memory) at m (omega arith))
      ∙ set_turned (placed r) r.first i at m (omega arith) (omega arith) in_ring

  -- a message is written over one that waits
  pub written : i < r.count → at < places_in r.memory → take r.count (turned (take 65535 (slice_set (vec_items r.memory) at m)) r.first) ≡ slice_set (in_order r) i m
  written h k = ap (take r.count) (write_at (omega arith) k) ∙ take-set-lt r.count (turned (placed r) r.first) i m h

module _ (r : Ring) (at : ℕ) where
  -- a message is written after the last
  pub one_behind : (m : Message) → IsPlace (places_in r.memory) r.first r.count at → r.count < places_in r.memory → at < places_in r.memory
      → take (r.count + 1) (turned (take 65535 (slice_set (vec_items r.memory) at m)) r.first) ≡ in_order r ++ m ∷ []
  one_behind m w h k =
      let l = length_placed r in
      ap (take (r.count + 1)) (write_at r r.count at m w h k)
      ∙ take_more_set (turned (placed r) r.first) r.count m (omega (arith, length_turned (placed r) r.first (omega arith)))

  -- the first is left out
  pub first_out : IsPlace (places_in r.memory) r.first 0 at → 0 < r.count → take (r.count - 1) (turned (placed r) (at + 1)) ≡ drop 1 (in_order r)
  first_out w h =
      let l = length_placed r in
      ring_rest (placed r) r.first r.count at (omega arith) h (omega arith) (subst (λ (p : ℕ). IsPlace p r.first 0 at) (sym l) w)

-- the last is left out
pub last_out : (r : Ring) → take (r.count - 1) (turned (placed r) r.first) ≡ take (length (in_order r) - 1) (in_order r)
last_out r =
    sym (ap (λ (n : ℕ). take (n - 1) (in_order r)) (length_in_order r) ∙ take-take (r.count - 1) r.count (turned (placed r) r.first) (omega arith))

-- the last is written over one, and then the end is left out
pub moved_last : (xs ys zs : List Message) (i : ℕ) (m last : Message) → i < length xs → StandsAt xs (length xs - 1) last → ys ≡ slice_set xs i last → zs ≡ take (length ys - 1) ys
    → zs ≡ swap_remove xs i m
moved_last xs ys zs i m last h s wrote cut =
    let n = length xs - 1 in
    let is : get_or xs n m ≡ last = get_or_default xs n m last (omega arith) ∙ get_or_standing xs n last (omega arith) s in
    let l : length ys ≡ length xs = ap length wrote ∙ length-set xs i last in
    cut ∙ ap (λ (k : ℕ). take (k - 1) ys) l ∙ ap (take n) (wrote ∙ ap (set xs i) (sym is))
