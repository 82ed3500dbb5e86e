-- Where a message stands in a list of waiting messages, positions counted from 0.
use Rattle.std.specs.Prelude.{◌≡◌, ℕ, ◌+◌, List, ◌∷◌, ◌++◌, take, drop}
use Rattle.terms.specs.declared.message.Message.{Message}

-- Message m stands at position i: the list is i messages, then m, then the rest.
abbrev pub StandsAt : List Message → ℕ → Message → Type 0
StandsAt ms i m = ms ≡ take i ms ++ m ∷ drop (i + 1) ms
