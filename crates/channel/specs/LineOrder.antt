-- The order in which the messages of a line wait, and what a fetch does to it.
use Rattle.std.specs.Prelude.{◌≡◌, ℕ, List, [], ◌∷◌, Some, None, Option}
use Rattle.terms.specs.declared.message.Message.{Message}
use Rattle.terms.specs.declared.message.Mark.{Mark}
use Rattle.terms.specs.declared.message.Mark.TheVariants.{Gone}
use Rattle.channel.specs.Memory.{places_in, Kept}
use Rattle.channel.specs.Order.{in_order}
use Rattle.channel.specs.declared.line.Line.{Line}

-- The messages that wait, the oldest first.
abbrev pub waiting : Line → List Message
waiting c = in_order c.ring

abbrev pub places_of : Line → ℕ
places_of c = places_in c.ring.memory

-- None if nothing waits; otherwise the oldest is given, is gone, and the others wait as they did. The pick plays no part.
abbrev pub GivesOldest : Line → ℕ → Option (Message × Mark) → Line → Type 0
GivesOldest c pick None d = (waiting c ≡ []) × (d ≡ c)
GivesOldest c pick (Some (m, mark)) d = (waiting c ≡ m ∷ waiting d) × (mark ≡ Gone) × Kept c.ring.memory d.ring.memory
