-- What a channel means: a bag, which is how many of each message wait, and what a fetch does to it.
use Rattle.std.specs.Prelude.{◌≡◌, ℕ, ◌<◌, List, [], ◌∷◌, length, Some, None, Option}
use Rattle.std.specs.List.Sorted.{IsPermutation}
use Rattle.std.specs.List.{ContainsAt as Has}
use Rattle.terms.specs.declared.message.Message.{Message}
use Rattle.terms.specs.declared.message.Mark.{Mark}
use Rattle.terms.specs.declared.message.Mark.TheVariants.{Gone, Copied}

-- Two lists are arrangements of one bag: the same messages, as often.
abbrev pub SameBag : List Message → List Message → Type 0
SameBag xs ys = IsPermutation xs ys

-- Gone: one of m has left the bag. Copied: the bag is unchanged, m waits in it, and a place is free.
abbrev pub Leaves : List Message → ℕ → Message → Mark → List Message → Type 0
Leaves before places m Gone after = SameBag before (m ∷ after)
Leaves before places m Copied after = SameBag before after × Has before m × (length before < places)

-- A fetch from c gives none exactly when nothing waits, and then nothing changes.
-- Otherwise it gives a waiting message with its mark, and the number of places stays.
abbrev pub Gives : {C : Type 0} → (C → List Message) → (C → ℕ) → C → Option (Message × Mark) → C → Type 0
Gives bag places c None d = (bag c ≡ []) × (d ≡ c)
Gives bag places c (Some (m, mark)) d = (0 < length (bag c)) × Leaves (bag c) (places c) m mark (bag d) × (places d ≡ places c)
