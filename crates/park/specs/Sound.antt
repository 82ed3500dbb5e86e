-- What every open park has.
use Rattle.std.specs.Prelude.{◌≡◌, ℕ, ◌*◌, ◌≤◌, true, length}
use Rattle.terms.specs.Heard.{majority_of}
use Rattle.park.specs.Placed.{all_placed}
use Rattle.park.specs.States.{State}

-- 1 to 15 controllers and their majority, callers that ask within the limits, and cells for all controllers
pub record Sound {C K : Type 0} (s : State C K) : Type 0 where
  pub few : (1 ≤ s.n) × (s.n ≤ 15)
  pub majority : s.majority ≡ majority_of s.n
  pub placed : all_placed s.controllers ≡ true
  pub room : 1024 * s.n ≤ length s.cells

-- a park is so before an act and after it
abbrev pub StaysSound : {C K : Type 0} → State C K → State C K → Type 0
StaysSound before after = Sound before × Sound after
