-- Where a place's cell lies in a page, and which places and messages are well formed.
use Rattle.std.specs.Prelude.{ℕ, ◌+◌, ◌-◌, ◌*◌, Bool, true, false, not, ◌&&◌, Some, None, Option, ◌==◌, nat_le}
use Rattle.terms.specs.declared.message.Kind.{Kind}
use Rattle.terms.specs.declared.message.Kind.TheVariants.{Phase, Echo}
use Rattle.terms.specs.declared.message.Message.{Message}
use Rattle.terms.specs.declared.word.Place.{Place}

-- the index of selector k, round r, phase x in a page
abbrev pub index_of : ℕ → ℕ → ℕ → ℕ
index_of k r x = ((k - 1) * 16 + (r - 1)) * 2 + (x - 1)

abbrev pub between : ℕ → ℕ → ℕ → Bool
between low high i = nat_le low i && nat_le i high

abbrev pub within : Place → Bool
within at = between 1 16 at.selector && (between 1 16 at.round && between 1 2 at.phase)

abbrev pub same_place : Place → Place → Bool
same_place a b = a.selector == b.selector && (a.round == b.round && a.phase == b.phase)

-- a name is blank or one of 1 to n
abbrev pub name_fits : ℕ → Option ℕ → Bool
name_fits n None = true
name_fits n (Some p) = between 1 n p

abbrev pub is_phase : Kind → Bool
is_phase Phase = true
is_phase Echo = false

-- what a park of n controllers can take: sender and receiver are two of them, the place is within its limits, a name is one of them
abbrev pub well_formed : ℕ → Message → Bool
well_formed n m =
    between 1 n m.sender && (between 1 n m.receiver && (not (m.receiver == m.sender) && (within m.place && name_fits n m.word.name)))
