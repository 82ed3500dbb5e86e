-- Collecting an answer, and the permit acts of a park.
use Rattle.std.specs.Prelude.{◌≡◌, ℕ, not, Some, None, Ok, Option, Result}
use Rattle.permit.specs.Acts.{at_stage, same_stage}
use Rattle.permit.specs.Permits.{held}
use Rattle.permit.specs.declared.desk.Desk.{Desk}
use Rattle.permit.specs.declared.desk.PermitStage.TheVariants.{NotGiven, Held}
use Rattle.terms.specs.declared.answer.Answer.{Answer}
use Rattle.terms.specs.declared.answer.Answer.TheVariants.{Yes, No, Undecided}
use Rattle.terms.specs.declared.refusal.Refusal.{Refusal}
use Rattle.terms.specs.declared.refusal.Refusal.TheVariants.{NoAnswer, Taken}
use Rattle.park.specs.declared.collected.Collected.{Collected}
use Rattle.park.specs.declared.collected.Collected.TheVariants as collected
use Rattle.park.specs.Controllers.{answer_in}
use Rattle.park.specs.Refusals.{Refused, Unless, when, name_refusal}
use Rattle.park.specs.States.{State, of, with_desk}

module _ {C K : Type 0} where
  -- no and undecided are told; a yes gives a permit for this vehicle, the first time
  abbrev pub Tells : Option Answer → State C K → Result Collected Refusal → State C K → Type 0
  Tells None s r t = Refused NoAnswer s r t
  Tells (Some No) s r t = (r ≡ Ok collected.No) × (t ≡ s)
  Tells (Some Undecided) s r t = (r ≡ Ok collected.Undecided) × (t ≡ s)
  Tells (Some Yes) s r t =
      Unless (when (not (same_stage s.desk.stage NotGiven)) Taken) s
      (λ r t. (r ≡ Ok (collected.Yes (held s.desk.vehicle))) × (t ≡ with_desk s (at_stage s.desk Held))) r t

  abbrev pub Collects : State C K → ℕ → Result Collected Refusal → State C K → Type 0
  Collects s p r t = Unless (name_refusal s p) s (Tells (answer_in (of s p).stage) s) r t

  -- a permit act changes the desk, and nothing else
  abbrev pub AtDesk : {R : Type 0} → (Desk → R → Desk → Type 0) → State C K → R → State C K → Type 0
  AtDesk Acts s r t = Acts s.desk r t.desk × (t ≡ with_desk s t.desk)
