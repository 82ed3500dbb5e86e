-- The park's records are what its history says, after every event.
use Rattle.std.proofs.Common.{◌≡◌, ℕ, true, false, ◌⊎◌, [], ◌∷◌, Ok, sym, refl, ap, ◌∙◌, subst, inl, inr, arith}
use Rattle.std.proofs.lemmas.Bool.{cases_eq, true≢false}
use Rattle.channel.specs.declared.channel.Channel as channel
use Rattle.coins.specs.declared.Coins as coins
use Rattle.terms.specs.declared.answer.Answer.{Answer}
use Rattle.terms.specs.declared.answer.Progress.TheVariants as progress
use Rattle.park.specs.declared.controller.Controller.{Controller}
use Rattle.park.specs.declared.controller.Stage.TheVariants.{Uncalled, Answered}
use Rattle.park.specs.Controllers.{has_called, record_of, with_record}
use Rattle.park.specs.States.{State, of}
use Rattle.terms.specs.declared.act.Act.TheVariants.{Call, Step, Crash, Deliver}
use Rattle.promise.specs.declared.act.Outcome.{Outcome}
use Rattle.promise.specs.declared.act.Outcome.TheVariants.{Advanced}
use Rattle.promise.specs.Promise.{Called, Crashed, Holds}
use Rattle.promise.specs.Runs.{Event, performed, collected, loaded, dispatched, handed_back, History}
use Rattle.promise.proofs.Changes.{Change, stays, advances, keeps, hears, same, drops, crashes, quiet}
use Rattle.promise.proofs.Outline.{Sized, listed}
use Rattle.promise.proofs.RecordWrites.{record_common, record_here, record_other}
use Rattle.promise.proofs.RefusalsAndLimits.{Named, clash}

abbrev Iff : Type 0 → Type 0 → Type 0
Iff A B = (A → B) × (B → A)

-- who called, crashed or holds an answer, by the history, is who did by the records
pub record Recorded {C K : Type 0} (h : History) (s : State C K) : Type 0 where
  pub called : (p : ℕ) → Iff (Called h p) (Named s p × (has_called (of s p).stage ≡ true))
  pub crashed : (p : ℕ) → Iff (Crashed h p) (Named s p × ((of s p).up ≡ false))
  pub holds : (p : ℕ) (answer : Answer) → Iff (Holds h p answer) (Named s p × ((of s p).stage ≡ Answered answer))

-- nobody has done anything yet
pub recorded_none : {C K : Type 0} (s : State C K) → ((p : ℕ) → Named s p → ((of s p).up ≡ true) × ((of s p).stage ≡ Uncalled)) → Recorded [] s
recorded_none s new = record {
  called = λ p. (λ f. absurd f, λ i. clash (let z = sym (ap has_called (new p i.0).1) ∙ i.1 in cc));
  crashed = λ p. (λ f. absurd f, λ i. clash (let z = sym (new p i.0).0 ∙ i.1 in cc));
  holds = λ p answer. (λ f. absurd f, λ i. clash (let z = sym (new p i.0).1 ∙ i.1 in cc));
}

-- ---- what an event means for one controller

-- q, whose record was c and is d then
record Noted (e : Event) (q : ℕ) (c d : Controller) : Type 0 where
  called : Iff (((x : Outcome) × (e ≡ performed (Call q) (Ok x))) ⊎ (has_called c.stage ≡ true)) (has_called d.stage ≡ true)
  crashed : Iff (((x : Outcome) × (e ≡ performed (Crash q) (Ok x))) ⊎ (c.up ≡ false)) (d.up ≡ false)
  holds : (answer : Answer) → Iff ((e ≡ performed (Step q) (Ok (Advanced (progress.Answered answer)))) ⊎ (c.stage ≡ Answered answer)) (d.stage ≡ Answered answer)

-- the event is none of these, and the record says of it what it said
as_before : {E A B : Type 0} → (E → ⊥) → (A → B) → (B → A) → Iff (E ⊎ A) B
as_before none f g = (λ o. elim o [ inl x ↦ absurd (none x) | inr a ↦ f a ], λ b. inr (g b))

-- whose call, step or crash
abbrev who : Event → ℕ
who (performed (Call p) r) = p
who (performed (Step p) r) = p
who (performed (Crash p) r) = p
who (performed (Deliver pick) r) = 0
who (collected p r) = 0
who (loaded permit r) = 0
who (dispatched permit r) = 0
who (handed_back permit r) = 0

-- a call, a step or a crash of q was accepted
abbrev DoneBy : Event → ℕ → Type 0
DoneBy e q = (quiet e ≡ false) × (who e ≡ q)

unnoted : (e : Event) (q : ℕ) (c d : Controller) → (DoneBy e q → ⊥) → d.up ≡ c.up → d.stage ≡ c.stage → Noted e q c d
unnoted e q c d none u g = record {
  called = as_before (λ a. none (ap quiet a.1, ap who a.1)) (λ h. ap has_called g ∙ h) (λ h. ap has_called (sym g) ∙ h);
  crashed = as_before (λ a. none (ap quiet a.1, ap who a.1)) (λ h. u ∙ h) (λ h. sym u ∙ h);
  holds = λ answer. as_before (λ a. none (ap quiet a, ap who a)) (λ h. g ∙ h) (λ h. sym g ∙ h);
}

-- what was recorded so far and what is noted now
more : {E A B B' N N' : Type 0} → Iff A (N × B) → (E → N) → (N → Iff (E ⊎ B) B') → (N → N') → (N' → N) → Iff (E ⊎ A) (N' × B')
more old about now up down = (
  λ o. elim o [ inl x ↦ let n = about x in (up n, (now n).0 (inl x)) | inr a ↦ let b = old.0 a in (up b.0, (now b.0).0 (inr b.1)) ],
  λ b. let n = down b.0 in elim ((now n).1 b.1) [ inl x ↦ inl x | inr y ↦ inr (old.1 (n, y)) ],
)

record Story {C K : Type 0} (s : State C K) (e : Event) (t : State C K) : Type 0 where
  about : (q : ℕ) → DoneBy e q → Named s q
  noted : (q : ℕ) → Named s q → Noted e q (of s q) (of t q)

module _ {C K : Type 0} (ch : channel.Ghosts C) (co : coins.Ghosts K) (s t : State C K) (e : Event) (z : Sized s) where
  quietly : quiet e ≡ true → ((q : ℕ) → (of t q).up ≡ (of s q).up) → ((q : ℕ) → (of t q).stage ≡ (of s q).stage) → Story s e t
  quietly k u g =
      let none : (q : ℕ) → DoneBy e q → ⊥ = λ q d. true≢false (sym k ∙ d.0) in
      record { about = λ q d. absurd (none q d); noted = λ q n. unnoted e q (of s q) (of t q) (none q) (u q) (g q) }

  -- p's record, and no other, becomes c
  only : (p : ℕ) (c : Controller) → Named s p → who e ≡ p → t.controllers ≡ with_record s.controllers p c → Noted e p (of s p) c → Story s e t
  only p c n w b here = record {
    about = λ q d. subst (Named s) (sym w ∙ d.1) n;
    noted = λ q m. elim (cases_eq q p) [
      | inl eq ↦
          let is : of t p ≡ c = ap (λ l. record_of l p) b ∙ record_here s.controllers p c n.0 (listed s z p n.1) in
          subst (λ i. Noted e i (of s i) (of t i)) (sym eq) (subst (Noted e p (of s p)) (sym is) here)
      | inr d ↦
          let is : of t q ≡ of s q = ap (λ l. record_of l q) b ∙ record_other s.controllers p c n.0 q m.0 d in
          unnoted e q (of s q) (of t q) (λ o. d (sym o.1 ∙ w)) (ap (λ (c : Controller). c.up) is) (ap (λ (c : Controller). c.stage) is)
    ];
  }

  story : Change ch co s e t → Story s e t
  story (stays (same k desk _ h)) = quietly k (λ q. ap (λ (u : State C K). (of u q).up) h) (λ q. ap (λ (u : State C K). (of u q).stage) h)
  story (stays (drops k m rest f why h)) = quietly k (λ q. ap (λ (u : State C K). (of u q).up) h) (λ q. ap (λ (u : State C K). (of u q).stage) h)
  story (stays (crashes p f n h)) = only p _ n (ap who f) (ap (λ (u : State C K). u.controllers) h) (record {
    called = as_before (λ a. let b = a.1 in clash (cc)) (λ x. x) (λ x. x);
    crashed = (λ _. refl, λ _. inl (_, f));
    holds = λ answer. as_before (λ a. clash (cc)) (λ x. x) (λ x. x);
  })
  story (advances p (progress.Opened at w) n (inl why) h) =
      let f = why.0 in
      let was = why.1 in
      only p _ n (ap who f) (ap (λ (u : State C K). u.controllers) h.state) (record {
        called = (λ _. refl, λ _. inl (_, f));
        crashed = as_before (λ a. let b = a.1 in clash (cc)) (λ x. x) (λ x. x);
        holds = λ answer. as_before (λ a. clash (cc)) (λ a. clash (cc)) (λ a. clash (cc));
      })
  story (advances p (progress.Answered answer) n (inl why) h) = let f = why.2 in clash (cc)
  story (advances p (progress.Opened at w) n (inr why) h) =
      let f = why.1 in
      let was = why.2 in
      only p _ n (ap who f) (ap (λ (u : State C K). u.controllers) h.state) (record {
        called = as_before (λ a. let b = a.1 in clash (cc)) (λ _. refl) (λ _. ap has_called was);
        crashed = as_before (λ a. let b = a.1 in clash (cc)) (λ x. x) (λ x. x);
        holds = λ answer. as_before (λ a. clash (cc)) (λ a. clash (cc)) (λ a. clash (cc));
      })
  story (advances p (progress.Answered answer) n (inr why) h) =
      let f = why.1 in
      let was = why.2 in
      only p _ n (ap who f) (ap (λ (u : State C K). u.controllers) h) (record {
        called = as_before (λ a. let b = a.1 in clash (cc)) (λ _. refl) (λ _. ap has_called was);
        crashed = as_before (λ a. let b = a.1 in clash (cc)) (λ x. x) (λ x. x);
        holds = λ other. (λ o. elim o [ inl a ↦ cc | inr a ↦ clash (cc) ], λ a. inl (cc));
      })
  story (keeps k m rest f ok kind h sent) = quietly k (λ q. ap (λ (u : State C K). (of u q).up) h) (λ q. ap (λ (u : State C K). (of u q).stage) h)
  story (hears k m rest at f ok kind st c h) =
      quietly k (λ q. ap (λ (u : State C K). (of u q).up) h ∙ record_common s.controllers m.receiver _ (λ (c : Controller). c.up) refl q)
      (λ q. ap (λ (u : State C K). (of u q).stage) h ∙ record_common s.controllers m.receiver _ (λ (c : Controller). c.stage) refl q)

  pub recorded_keeps : (h : History) → Recorded h s → t.n ≡ s.n → Change ch co s e t → Recorded (e ∷ h) t
  recorded_keeps h R n c =
      let now = story c in
      record {
        called = λ p. more (R.called p) (λ a. now.about p (ap quiet a.1, ap who a.1)) (λ i. (now.noted p i).called) (λ i. (i.0, omega arith)) (λ i. (i.0, omega arith));
        crashed = λ p. more (R.crashed p) (λ a. now.about p (ap quiet a.1, ap who a.1)) (λ i. (now.noted p i).crashed) (λ i. (i.0, omega arith)) (λ i. (i.0, omega arith));
        holds = λ p answer. more (R.holds p answer) (λ a. now.about p (ap quiet a, ap who a)) (λ i. (now.noted p i).holds answer) (λ i. (i.0, omega arith)) (λ i. (i.0, omega arith));
      }
