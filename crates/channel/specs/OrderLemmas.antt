-- How many messages wait in a ring, and what one more is to the bag of those that wait.
use Rattle.std.specs.Prelude.{◌≡◌, ℕ, ◌≤◌, min, List, ◌∷◌, length, take, drop, vec_items}
use Rattle.std.proofs.Common.{ap, arith, length-append, length-drop, length-take}
use Rattle.std.proofs.lemmas.List.{length-take-le}
use Rattle.terms.specs.declared.message.Message.{Message}
use Rattle.channel.specs.Meaning.{SameBag}
use Rattle.channel.specs.MeaningLemmas.{one_more}
use Rattle.channel.specs.Memory.{places_in}
use Rattle.channel.specs.Order.{turned, in_order, Joins}
use Rattle.channel.specs.declared.ring.Ring.{Ring}

pub length_turned : {X : Type 0} (xs : List X) (f : ℕ) → f ≤ length xs → length (turned xs f) ≡ length xs
length_turned xs f h = omega (arith, length-append (drop f xs) (take f xs), length-drop f xs, length-take-le f xs h)

-- the messages in the places
abbrev pub placed : Ring → List Message
placed r = take 65535 (vec_items r.memory)

pub length_placed : (r : Ring) → length (placed r) ≡ places_in r.memory
length_placed r = let v = r.memory.ok.0 in omega (arith, length-take 65535 (vec_items r.memory))

pub length_in_order : (r : Ring) → length (in_order r) ≡ r.count
length_in_order r =
    let l = length_placed r in
    length-take-le r.count (turned (placed r) r.first) (omega (arith, length_turned (placed r) r.first (omega arith)))

pub fits : (r : Ring) → length (in_order r) ≤ places_in r.memory
fits r = omega (arith, length_in_order r)

pub joins_bag : (r : Ring) (m : Message) (s : Ring) → Joins r m s → SameBag (m ∷ in_order r) (in_order s) × (places_in s.memory ≡ places_in r.memory)
joins_bag r m s j = (one_more _ _ m j.0, ap (min 65535) j.1.0)
