-- Examples of a bag: which position a pick means, when it says copied, and what is left once a message is gone.
use Rattle.std.specs.Prelude.{◌≡◌, ◌<◌, ◌≤◌, [], ◌∷◌, length}
use Rattle.terms.specs.declared.message.Message.{Message}
use Rattle.terms.specs.declared.message.Mark.TheVariants.{Gone, Copied}
use Rattle.channel.specs.declared.bag.Bag.{Bag}
use Rattle.channel.specs.BagOrder.{waiting, places_of, position, mark_of, MovesLast}

pub record BagsHold : Type 0 where
  -- of three waiting messages
  pub pick_0 : (c : Bag) → length (waiting c) ≡ 3 → position c 0 ≡ 0
  pub pick_2 : (c : Bag) → length (waiting c) ≡ 3 → position c 2 ≡ 2
  pub pick_4 : (c : Bag) → length (waiting c) ≡ 3 → position c 4 ≡ 1
  -- 2^31 and one below it, with a place free and with none
  pub copied : (c : Bag) → length (waiting c) < places_of c → mark_of c 2147483648 ≡ Copied
  pub gone_below : (c : Bag) → mark_of c 2147483647 ≡ Gone
  pub gone_when_full : (c : Bag) → places_of c ≤ length (waiting c) → mark_of c 2147483648 ≡ Gone
  -- the last of three moves to the front, or is cut off
  pub front_goes : (c d : Bag) (x y z : Message) → waiting c ≡ x ∷ y ∷ z ∷ [] → MovesLast c 0 x d → waiting d ≡ z ∷ y ∷ []
  pub last_goes : (c d : Bag) (x y z : Message) → waiting c ≡ x ∷ y ∷ z ∷ [] → MovesLast c 2 z d → waiting d ≡ x ∷ y ∷ []
  pub only_goes : (c d : Bag) (x : Message) → waiting c ≡ x ∷ [] → MovesLast c 0 x d → waiting d ≡ []
