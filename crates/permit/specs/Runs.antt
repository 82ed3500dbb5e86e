-- Runs of acts at a desk, in any order and with any permits, and what holds of every run: at most one permit is given, and it is spent at most once.
use Rattle.std.specs.Prelude.{ℕ, ◌+◌, ◌≤◌, Bool, cond, ◌&&◌, List, [], ◌∷◌, is_some, is_ok, Option, Result}
use Rattle.permit.specs.declared.desk.Desk.{Desk}
use Rattle.permit.specs.declared.desk.PermitStage.{PermitStage}
use Rattle.permit.specs.declared.desk.PermitStage.TheVariants.{Held, Loaded, Dispatched, HandedBack}
use Rattle.permit.specs.declared.acts.Returned.{Returned}
use Rattle.permit.specs.Permits.{HeldPermit, LoadedPermit}
use Rattle.permit.specs.Acts.{same_stage, Gives, Loads, Dispatches, HandsBack}

-- an act with its result
pub data Act : Type 0 where
  give : Option HeldPermit → Act
  load : HeldPermit → Result LoadedPermit (Returned HeldPermit) → Act
  dispatch : LoadedPermit → Result (Unit {0}) (Returned LoadedPermit) → Act
  hand_back : HeldPermit → Result (Unit {0}) (Returned HeldPermit) → Act

-- the act, with this result, makes the first desk the second
abbrev pub Does : Desk → Act → Desk → Type 0
Does desk (give r) after = Gives desk r after
Does desk (load permit r) after = Loads desk permit r after
Does desk (dispatch permit r) after = Dispatches desk permit r after
Does desk (hand_back permit r) after = HandsBack desk permit r after

-- the acts made so far, the newest first
pub data Run (first : Desk) : List Act → Desk → Type 0 where
  start : Run first [] first
  then : {acts : List Act} {desk : Desk} → Run first acts desk → (act : Act) (after : Desk) → Does desk act after → Run first (act ∷ acts) after

-- the act was not refused and brought the permit to this stage
abbrev pub brought_to : PermitStage → Act → Bool
brought_to stage (give r) = is_some r && same_stage stage Held
brought_to stage (load permit r) = is_ok r && same_stage stage Loaded
brought_to stage (dispatch permit r) = is_ok r && same_stage stage Dispatched
brought_to stage (hand_back permit r) = is_ok r && same_stage stage HandedBack

-- how often a permit was given, loaded, dispatched or handed back
abbrev pub times : PermitStage → List Act → ℕ
times stage [] = 0
times stage (act ∷ acts) = cond (brought_to stage act) 1 0 + times stage acts

pub record SpentOnce (acts : List Act) : Type 0 where
  pub given_at_most_once : times Held acts ≤ 1
  pub loaded_or_handed_back : times Loaded acts + times HandedBack acts ≤ times Held acts
  pub dispatched_or_handed_back : times Dispatched acts + times HandedBack acts ≤ times Held acts
  pub dispatched_only_when_loaded : times Dispatched acts ≤ times Loaded acts

abbrev pub EveryRunSpendsOnce : Desk → Type 0
EveryRunSpendsOnce first = (acts : List Act) (desk : Desk) → Run first acts desk → SpentOnce acts
