-- The order in which messages wait in a ring, and what putting one in does to it.
use Rattle.std.specs.Prelude.{◌≡◌, ℕ, ◌+◌, ◌<◌, ◌≤◌, List, [], ◌∷◌, ◌++◌, take, drop, vec_items}
use Rattle.terms.specs.declared.message.Message.{Message}
use Rattle.channel.specs.Memory.{Kept}
use Rattle.channel.specs.declared.ring.Ring.{Ring}

-- a list that begins at place i and goes on at its start
abbrev pub turned : {X : Type 0} → List X → ℕ → List X
turned xs i = drop i xs ++ take i xs

-- at is the place of a ring of p places that is i places after place f
abbrev pub IsPlace : ℕ → ℕ → ℕ → ℕ → Type 0
IsPlace p f i at = (f + i < p → at ≡ f + i) × (p ≤ f + i → at + p ≡ f + i)

-- The messages that wait, the first of them first.
abbrev pub in_order : Ring → List Message
in_order r = take r.count (turned (take 65535 (vec_items r.memory)) r.first)

-- These messages wait then, in the same memory.
abbrev pub Becomes : Ring → List Message → Ring → Type 0
Becomes r ms s = (in_order s ≡ ms) × Kept r.memory s.memory

-- The message waits after all others.
abbrev pub Joins : Ring → Message → Ring → Type 0
Joins r m s = Becomes r (in_order r ++ m ∷ []) s
