-- Where in the memory the waiting messages of a bag lie, and what its mark tells.
use Rattle.std.specs.Prelude.{◌≡◌, ℕ, ◌-◌, ◌^◌, ◌<◌, ◌≤◌, Bool, true, false, cond, List, length, get_or, take, vec_items, slice_index_or, nat_le, nat_lt}
use Rattle.std.proofs.Common.{refl, sym, ap, ◌∙◌, arith}
use Rattle.std.proofs.lemmas.Bool.{and_parts, ltb-true}
use Rattle.std.proofs.lemmas.List.{append-nil, get_or-take, get_or_default, take-take}
use Rattle.terms.specs.declared.message.Message.{Message}
use Rattle.terms.specs.declared.message.Mark.TheVariants.{Gone, Copied}
use Rattle.channel.specs.BagOrder.{waiting, places_of, mark_of}
use Rattle.channel.specs.MeaningLemmas.{stands_at}
use Rattle.channel.specs.Order.{turned}
use Rattle.channel.specs.OrderLemmas.{placed, length_in_order}
use Rattle.channel.specs.Positions.{StandsAt}
use Rattle.channel.specs.declared.bag.Bag.{Bag}

pub length_waiting : (c : Bag) → length (waiting c) ≡ c.ring.count
length_waiting c = length_in_order c.ring

-- as many as wait are the first messages of the memory
pub lies_first : (c : Bag) → waiting c ≡ take c.ring.count (vec_items c.ring.memory)
lies_first c =
    let v = c.ring.memory.ok.0 in
    let w = c.ring.within in
    let few : c.ring.count ≤ 65535 = omega arith in
    ap (λ (f : ℕ). take c.ring.count (turned (placed c.ring) f)) c.begins
    ∙ ap (take c.ring.count) (append-nil (placed c.ring))
    ∙ take-take c.ring.count 65535 (vec_items c.ring.memory) few

pub first_of_memory : (c : Bag) → take (length (waiting c)) (vec_items c.ring.memory) ≡ waiting c
first_of_memory c = ap (λ (n : ℕ). take n (vec_items c.ring.memory)) (length_waiting c) ∙ sym (lies_first c)

-- what is read at a place stands at that position
pub waiting_at : (c : Bag) (i : ℕ) (m : Message) → i < c.ring.count → m ≡ slice_index_or (vec_items c.ring.memory) i m → StandsAt (waiting c) i m
waiting_at c i m h read =
    stands_at (waiting c) i m (omega (arith, length_waiting c)) (ap (λ (l : List Message). get_or l i m) (lies_first c) ∙ get_or-take c.ring.count (vec_items c.ring.memory) i m h ∙ sym read)

-- what is read at the place of the last is the last message
pub waiting_last : (c : Bag) (m z : Message) → 0 < c.ring.count → z ≡ slice_index_or (vec_items c.ring.memory) (c.ring.count - 1) z → z ≡ slice_index_or (waiting c) (length (waiting c) - 1) m
waiting_last c m z h read =
    let xs : List Message = vec_items c.ring.memory in
    let n = c.ring.count - 1 in
    let v = c.ring.memory.ok.0 in
    let l = length_waiting c in
    let k : length (waiting c) - 1 ≡ n = omega arith in
    sym (ap (λ (i : ℕ). get_or (waiting c) i m) k ∙ ap (λ (q : List Message). get_or q n m) (lies_first c) ∙ get_or-take c.ring.count xs n m (omega arith) ∙ get_or_default xs n m z (omega arith) ∙ sym read)

-- of copied and gone, a test that gives copied was met
met : (test : Bool) → Copied ≡ cond test Copied Gone → test ≡ true
met true e = refl
met false e = cc

pub copied_if_free : (c : Bag) (pick : ℕ) → Copied ≡ mark_of c pick → length (waiting c) < places_of c
copied_if_free c pick e =
    let large = nat_le (2 ^ 31) pick in
    let free = nat_lt (length (waiting c)) (places_of c) in
    ltb-true (length (waiting c)) (places_of c) (and_parts large free (met _ e)).1
