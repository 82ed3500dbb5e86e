-- Which refusal applies first, and what an act does unless it is refused.
use Rattle.std.specs.Prelude.{◌≡◌, ℕ, ◌-◌, Bool, true, false, not, length, Some, None, Err, Option, Result, nat_lt}
use Rattle.channel.specs.declared.channel.Channel as channel
use Rattle.terms.specs.declared.refusal.Refusal.{Refusal}
use Rattle.terms.specs.declared.refusal.Refusal.TheVariants.{Name, Down}
use Rattle.terms.specs.Places.{between}
use Rattle.park.specs.States.{State, of}

abbrev pub when : Bool → Refusal → Option Refusal
when true e = Some e
when false e = None

-- the first of two that applies
abbrev pub first : Option Refusal → Option Refusal → Option Refusal
first (Some e) later = Some e
first None later = later

-- refused: that refusal is given, and the park is as it was
abbrev pub Refused : {R S : Type 0} → Refusal → S → Result R Refusal → S → Type 0
Refused e s r t = (r ≡ Err e) × (t ≡ s)

-- unless a refusal applies, this
abbrev pub Unless : {R S : Type 0} → Option Refusal → S → (Result R Refusal → S → Type 0) → Result R Refusal → S → Type 0
Unless (Some e) s U r t = Refused e s r t
Unless None s U r t = U r t

module _ {C K : Type 0} where
  abbrev pub no_such_name : State C K → ℕ → Bool
  no_such_name s p = not (between 1 s.n p)

  abbrev pub is_down : State C K → ℕ → Bool
  is_down s p = not (of s p).up

  -- the name is none of the park's, or that controller is down
  abbrev pub name_refusal : State C K → ℕ → Option Refusal
  name_refusal s p = first (when (no_such_name s p) Name) (when (is_down s p) Down)

  -- fewer places are free than there are other controllers
  abbrev pub too_few_places : channel.Ghosts C → State C K → Bool
  too_few_places ch s = nat_lt (ch.places s.channel - length (ch.bag s.channel)) (s.n - 1)
