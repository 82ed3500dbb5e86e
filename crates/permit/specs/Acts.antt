-- What each act at the desk gives, and what becomes of the desk.
use Rattle.std.specs.Prelude.{◌≡◌, ℕ, Bool, true, false, ◌&&◌, Some, None, Ok, Err, Option, Result, ◌==◌}
use Rattle.terms.specs.declared.refusal.Refusal.TheVariants.{Permit}
use Rattle.permit.specs.declared.desk.Desk.{Desk}
use Rattle.permit.specs.declared.desk.PermitStage.{PermitStage}
use Rattle.permit.specs.declared.desk.PermitStage.TheVariants.{NotGiven, Held, Loaded, Dispatched, HandedBack}
use Rattle.permit.specs.declared.acts.Returned.{Returned}
use Rattle.permit.specs.Permits.{HeldPermit, LoadedPermit, held, loaded}

-- no permit was given yet
abbrev pub new_desk : ℕ → Desk
new_desk vehicle = record { vehicle = vehicle; stage = NotGiven }

abbrev pub at_stage : Desk → PermitStage → Desk
at_stage desk stage = record { vehicle = desk.vehicle; stage = stage }

-- kept: by number, as the tags are; specs cannot name the derived == of their own crate, and `take` is proved to agree with it
abbrev pub stage_number : PermitStage → ℕ
stage_number NotGiven = 0
stage_number Held = 1
stage_number Loaded = 2
stage_number Dispatched = 3
stage_number HandedBack = 4

abbrev pub same_stage : PermitStage → PermitStage → Bool
same_stage a b = stage_number a == stage_number b

-- a permit for this vehicle and at this stage is accepted: the desk keeps the same vehicle number and the same stage
abbrev pub fits : Desk → ℕ → PermitStage → Bool
fits desk vehicle stage = desk.vehicle == vehicle && same_stage desk.stage stage

-- a refused permit comes back with the refusal
abbrev pub refused : {P : Type 0} → P → Returned P
refused permit = record { refusal = Permit; permit = permit }

-- a permit is brought to the desk: accepted, what is due is given for it and the desk takes the next stage;
-- refused, the permit comes back and the desk stays as it is
abbrev pub Moves : {P Q : Type 0} → Bool → P → Q → PermitStage → Desk → Result Q (Returned P) → Desk → Type 0
Moves true permit due next desk r after = (r ≡ Ok due) × (after ≡ at_stage desk next)
Moves false permit due next desk r after = (r ≡ Err (refused permit)) × (after ≡ desk)

abbrev pub Loads : Desk → HeldPermit → Result LoadedPermit (Returned HeldPermit) → Desk → Type 0
Loads desk permit r after =
    Moves (fits desk permit.vehicle Held) permit (loaded permit.vehicle) Loaded desk r after

abbrev pub Dispatches : Desk → LoadedPermit → Result (Unit {0}) (Returned LoadedPermit) → Desk → Type 0
Dispatches desk permit r after = Moves (fits desk permit.vehicle Loaded) permit tt Dispatched desk r after

abbrev pub HandsBack : Desk → HeldPermit → Result (Unit {0}) (Returned HeldPermit) → Desk → Type 0
HandsBack desk permit r after = Moves (fits desk permit.vehicle Held) permit tt HandedBack desk r after

-- the first time a permit for the desk's vehicle, and ever after none
abbrev pub Given : Bool → Desk → Option HeldPermit → Desk → Type 0
Given true desk r after = (r ≡ Some (held desk.vehicle)) × (after ≡ at_stage desk Held)
Given false desk r after = (r ≡ None) × (after ≡ desk)

abbrev pub Gives : Desk → Option HeldPermit → Desk → Type 0
Gives desk r after = Given (same_stage desk.stage NotGiven) desk r after

-- the permit is the one that this desk has given, and it was neither loaded nor handed back
abbrev pub HeldAt : Desk → HeldPermit → Type 0
HeldAt desk permit = (permit.vehicle ≡ desk.vehicle) × (desk.stage ≡ Held)
