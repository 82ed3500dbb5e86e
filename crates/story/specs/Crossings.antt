-- What a crossing comes to: what collecting tells and, once the permit is given, a vehicle that is loaded and dispatched.
use Rattle.std.specs.Prelude.{◌≡◌, ℕ, Ok, Err, Result}
use Rattle.permit.specs.Acts.{at_stage}
use Rattle.permit.specs.declared.desk.PermitStage.TheVariants as stage
use Rattle.terms.specs.declared.refusal.Refusal.{Refusal}
use Rattle.park.specs.declared.collected.Collected.{Collected}
use Rattle.park.specs.declared.collected.Collected.TheVariants as collected
use Rattle.park.specs.Permits.{Collects}
use Rattle.park.specs.States.{State, with_desk}
use Rattle.story.specs.declared.crossing.Crossing.{Crossing}
use Rattle.story.specs.declared.crossing.Crossing.TheVariants.{Dispatched, No, Undecided}

-- what a station is told of its collecting
abbrev pub told_by : Result Collected Refusal → Result Crossing Refusal
told_by (Ok (collected.Yes permit)) = Ok Dispatched
told_by (Ok collected.No) = Ok No
told_by (Ok collected.Undecided) = Ok Undecided
told_by (Err refusal) = Err refusal

module _ {C K : Type 0} where
  -- the park with its vehicle dispatched, and all else as it was
  abbrev pub sent_off : State C K → State C K
  sent_off s = with_desk s (at_stage s.desk stage.Dispatched)

  abbrev pub left_by : Result Collected Refusal → State C K → State C K
  left_by (Ok (collected.Yes permit)) s = sent_off s
  left_by (Ok collected.No) s = s
  left_by (Ok collected.Undecided) s = s
  left_by (Err refusal) s = s

  -- p collects, is told what collecting gives, and a permit is spent at once
  abbrev pub Crosses : State C K → ℕ → Result Crossing Refusal → State C K → Type 0
  Crosses s p r t = (x : Result Collected Refusal) × (u : State C K) × Collects s p x u × (r ≡ told_by x) × (t ≡ left_by x u)
