-- Messages that a channel accepted one after another.
use Rattle.std.specs.Prelude.{◌≡◌, List, [], ◌∷◌}
use Rattle.terms.specs.declared.message.Message.{Message}

-- From channel c to channel d these messages were accepted, the first of the list first.
abbrev pub SentAll : {C : Type 0} → (C → Message → C → Type 0) → C → List Message → C → Type 0
SentAll sends c [] d = d ≡ c
SentAll {C} sends c (m ∷ ms) d = (x : C) × sends c m x × SentAll sends x ms d
