-- At most one permit is given: none while the desk has given none, and one from then on.
use Rattle.std.proofs.Common.{◌≡◌, ℕ, ◌+◌, ◌≤◌, Bool, true, false, cond, not, eqb, ◌∷◌, Some, None, Err, Option, Result, sym, refl, ap, ◌∙◌, subst, inl, inr, arith}
use Rattle.std.proofs.lemmas.Bool.{and_parts, cond_both, not-false}
use Rattle.channel.specs.declared.channel.Channel as channel
use Rattle.coins.specs.declared.Coins as coins
use Rattle.permit.specs.Acts.{Moves, same_stage}
use Rattle.permit.specs.declared.acts.Returned.{Returned}
use Rattle.permit.specs.declared.desk.Desk.{Desk}
use Rattle.permit.specs.declared.desk.PermitStage.{PermitStage}
use Rattle.permit.specs.declared.desk.PermitStage.TheVariants.{NotGiven, Held, Loaded, Dispatched, HandedBack}
use Rattle.terms.specs.declared.answer.Answer.{Answer}
use Rattle.terms.specs.declared.answer.Answer.TheVariants.{Yes, No, Undecided}
use Rattle.terms.specs.declared.refusal.Refusal.{Refusal}
use Rattle.terms.specs.declared.refusal.Refusal.TheVariants as refusals
use Rattle.park.specs.declared.collected.Collected.{Collected}
use Rattle.park.specs.Controllers.{answer_in}
use Rattle.park.specs.Permits.{Tells}
use Rattle.park.specs.Refusals.{name_refusal, when}
use Rattle.park.specs.States.{State, of}
use Rattle.promise.specs.Promise.{permits_given, gives}
use Rattle.promise.specs.Runs.{Event, performed, collected, loaded, dispatched, handed_back, History, Does}
use Rattle.promise.proofs.Changes.{performs}
use Rattle.promise.proofs.RefusalsAndLimits.{clash, unless_cases, when_none}

-- how many permits a desk at this stage has given
abbrev pub given_at : PermitStage → ℕ
given_at stage = cond (same_stage stage NotGiven) 0 1

abbrev pub Counted : {C K : Type 0} → History → State C K → Type 0
Counted h s = permits_given h ≡ given_at s.desk.stage

-- a permit of any stage but none goes to another such stage
moved : {P Q : Type 0} (b : Bool) (permit : P) (due : Q) (next : PermitStage) (desk after : Desk) (r : Result Q (Returned P))
    → Moves b permit due next desk r after → given_at next ≡ 1 → (b ≡ true → given_at desk.stage ≡ 1) → given_at after.stage ≡ given_at desk.stage
moved true permit due next desk after r d one was = ap (λ z. given_at z.stage) d.1 ∙ one ∙ sym (was refl)
moved false permit due next desk after r d one was = ap (λ z. given_at z.stage) d.1

-- a desk at the stage of some permit has given one
was_given : (stage due : PermitStage) → given_at due ≡ 1 → same_stage stage due ≡ true → given_at stage ≡ 1
was_given NotGiven NotGiven one e = one
was_given NotGiven Held one e = clash (cc)
was_given NotGiven Loaded one e = clash (cc)
was_given NotGiven Dispatched one e = clash (cc)
was_given NotGiven HandedBack one e = clash (cc)
was_given Held due one e = refl
was_given Loaded due one e = refl
was_given Dispatched due one e = refl
was_given HandedBack due one e = refl

refused_gives : (p : ℕ) (r : Result Collected Refusal) (e : Refusal) → r ≡ Err e → gives (collected p r) ≡ 0
refused_gives p r e f = ap (λ z. gives (collected p z)) f

module _ {C K : Type 0} where
  told : (s t : State C K) (p : ℕ) (r : Result Collected Refusal) (o : Option Answer) → Tells o s r t → gives (collected p r) + given_at s.desk.stage ≡ given_at t.desk.stage
  told s t p r None d = let z = refused_gives p r _ d.0 in let y = ap (λ (u : State C K). given_at u.desk.stage) d.1 in omega arith
  told s t p r (Some No) d = let z = ap (λ (q : Result Collected Refusal). gives (collected p q)) d.0 in let y = ap (λ (u : State C K). given_at u.desk.stage) d.1 in omega arith
  told s t p r (Some Undecided) d = let z = ap (λ (q : Result Collected Refusal). gives (collected p q)) d.0 in let y = ap (λ (u : State C K). given_at u.desk.stage) d.1 in omega arith
  told s t p r (Some Yes) d = elim (unless_cases (when (not (same_stage s.desk.stage NotGiven)) refusals.Taken) s _ r t d) [
    | inl h ↦ let z = refused_gives p r _ h.1 in let y = ap (λ (u : State C K). given_at u.desk.stage) h.2 in omega arith
    | inr h ↦
        let z = ap (λ (q : Result Collected Refusal). gives (collected p q)) h.1.0 in
        let y = ap (λ (u : State C K). given_at u.desk.stage) h.1.1 in
        let x : given_at s.desk.stage ≡ 0 = ap (λ b. cond b 0 1) (not-false _ (when_none _ _ h.0)) in
        omega arith
  ]

module _ {C K : Type 0} (ch : channel.Ghosts C) (co : coins.Ghosts K) where
  pub counted_keeps : (s t : State C K) (e : Event) (h : History) → Counted h s → (performs e ≡ true → t.desk ≡ s.desk) → Does ch co s e t → Counted (e ∷ h) t
  counted_keeps s t (performed act r) h c same d = let z = ap (λ (k : Desk). given_at k.stage) (same refl) in omega arith
  counted_keeps s t (collected p r) h c same d = elim (unless_cases (name_refusal s p) s _ r t d) [
    | inl f ↦ let z = refused_gives p r _ f.1 in let y = ap (λ (u : State C K). given_at u.desk.stage) f.2 in omega arith
    | inr f ↦ let z = told s t p r (answer_in (of s p).stage) f.1 in omega arith
  ]
  counted_keeps s t (loaded permit r) h c same d =
      let z = moved _ permit _ Loaded s.desk t.desk r d.0 refl (λ b. was_given s.desk.stage Held refl (and_parts (eqb s.desk.vehicle permit.vehicle) _ b).1) in omega arith
  counted_keeps s t (dispatched permit r) h c same d =
      let z = moved _ permit _ Dispatched s.desk t.desk r d.0 refl (λ b. was_given s.desk.stage Loaded refl (and_parts (eqb s.desk.vehicle permit.vehicle) _ b).1) in omega arith
  counted_keeps s t (handed_back permit r) h c same d =
      let z = moved _ permit _ HandedBack s.desk t.desk r d.0 refl (λ b. was_given s.desk.stage Held refl (and_parts (eqb s.desk.vehicle permit.vehicle) _ b).1) in omega arith

pub at_most_one : (h : History) (stage : PermitStage) → permits_given h ≡ given_at stage → permits_given h ≤ 1
at_most_one h stage e = subst (λ k. k ≤ 1) (sym e) (cond_both (same_stage stage NotGiven) 0 1 (λ k. k ≤ 1) (λ _. omega arith) (λ _. omega arith))
