-- The order in which the messages of a bag lie, and what a fetch does to it: the pick decides which message is given and whether it stays.
use Rattle.std.specs.Prelude.{◌≡◌, ℕ, ◌%◌, ◌^◌, ◌<◌, cond, ◌&&◌, List, [], length, Some, None, Option, nat_le, nat_lt}
use Rattle.std.specs.List.{swap_remove}
use Rattle.terms.specs.declared.message.Message.{Message}
use Rattle.terms.specs.declared.message.Mark.{Mark}
use Rattle.terms.specs.declared.message.Mark.TheVariants.{Gone, Copied}
use Rattle.channel.specs.Memory.{places_in}
use Rattle.channel.specs.Order.{in_order, Becomes}
use Rattle.channel.specs.Positions.{StandsAt}
use Rattle.channel.specs.declared.bag.Bag.{Bag}

-- The messages that wait, by their positions.
abbrev pub waiting : Bag → List Message
waiting c = in_order c.ring

abbrev pub places_of : Bag → ℕ
places_of c = places_in c.ring.memory

-- The pick modulo the number that wait.
abbrev pub position : Bag → ℕ → ℕ
position c pick = pick % length (waiting c)

-- Copied if the pick is 2^31 or more and a place is free, otherwise gone.
abbrev pub mark_of : Bag → ℕ → Mark
mark_of c pick = cond (nat_le (2 ^ 31) pick && nat_lt (length (waiting c)) (places_of c)) Copied Gone

-- The last moves to position i, where m stood, and the end is cut off.
abbrev pub MovesLast : Bag → ℕ → Message → Bag → Type 0
MovesLast c i m d = Becomes c.ring (swap_remove (waiting c) i m) d.ring

-- What giving m from position i with this mark leaves.
abbrev pub LeavesOrder : Bag → ℕ → Message → Mark → Bag → Type 0
LeavesOrder c i m Copied d = d ≡ c
LeavesOrder c i m Gone d = MovesLast c i m d

-- None if nothing waits; otherwise the message at the position, with its mark.
abbrev pub GivesAtPick : Bag → ℕ → Option (Message × Mark) → Bag → Type 0
GivesAtPick c pick None d = (waiting c ≡ []) × (d ≡ c)
GivesAtPick c pick (Some (m, mark)) d =
    (0 < length (waiting c)) × StandsAt (waiting c) (position c pick) m × (mark ≡ mark_of c pick) × LeavesOrder c (position c pick) m mark d
