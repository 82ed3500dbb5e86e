-- The said pages hold exactly what calls and steps opened.
use Rattle.std.proofs.Common.{◌≡◌, ℕ, true, ◌⊎◌, Some, Ok, sym, ap, ◌∙◌, subst, ap₂, inl, inr}
use mathlib.Core.Path.{subst₃}
use Rattle.std.proofs.lemmas.Bool.{true≢false}
use Rattle.channel.specs.declared.channel.Channel as channel
use Rattle.coins.specs.declared.Coins as coins
use Rattle.terms.specs.declared.answer.Answer.{Answer}
use Rattle.terms.specs.declared.answer.Progress.TheVariants as progress
use Rattle.terms.specs.declared.word.Place.{Place}
use Rattle.terms.specs.declared.word.Word.{Word}
use Rattle.park.specs.States.{State}
use Rattle.laws.proofs.Cells.{wrote_new}
use Rattle.laws.specs.Outlines.{Wrote}
use Rattle.terms.specs.declared.act.Act.TheVariants.{Call, Step}
use Rattle.promise.specs.declared.act.Outcome.TheVariants.{Advanced}
use Rattle.promise.specs.Runs.{Event, performed}
use Rattle.promise.proofs.CellWrites.{inside_from, keep_said, say_says}
use Rattle.promise.proofs.Changes.{Change, stays, advances, keeps, hears, Stays, same, drops, crashes, Whence, quiet, stays_still}
use Rattle.promise.proofs.Outline.{place, page, said_page, Sized}
use Rattle.promise.proofs.RefusalsAndLimits.{clash, parts}
use Rattle.promise.proofs.Sizes.{whence_within}

-- a call or a step of p opened this phase with this word
abbrev pub OpenedBy : Event → ℕ → Place → Word → Type 0
OpenedBy e p at w = (e ≡ performed (Call p) (Ok (Advanced (progress.Opened at w)))) ⊎ (e ≡ performed (Step p) (Ok (Advanced (progress.Opened at w))))

-- two openings in one event are one
same_opening : (e : Event) (p q : ℕ) (at bt : Place) (w v : Word) → OpenedBy e p at w → OpenedBy e q bt v → (p ≡ q) × (at ≡ bt) × (w ≡ v)
same_opening e p q at bt w v (inl a) (inl b) = (cc, cc, cc)
same_opening e p q at bt w v (inl a) (inr b) = clash (cc)
same_opening e p q at bt w v (inr a) (inl b) = clash (cc)
same_opening e p q at bt w v (inr a) (inr b) = (cc, cc, cc)

quiet_opens : (e : Event) (p : ℕ) (at : Place) (w : Word) → quiet e ≡ true → OpenedBy e p at w → ⊥
quiet_opens e p at w q (inl h) = true≢false (sym q ∙ ap quiet h)
quiet_opens e p at w q (inr h) = true≢false (sym q ∙ ap quiet h)

module _ {C K : Type 0} (ch : channel.Ghosts C) (co : coins.Ghosts K) where
  stays_opens : (s t : State C K) (e : Event) (p : ℕ) (at : Place) (w : Word) → Stays ch co s e t → OpenedBy e p at w → ⊥
  stays_opens s t e p at w (same q desk k h) o = quiet_opens e p at w q o
  stays_opens s t e p at w (drops q m rest f why h) o = quiet_opens e p at w q o
  stays_opens s t e p at w (crashes p' q n h) (inl o) = clash (cc)
  stays_opens s t e p at w (crashes p' q n h) (inr o) = clash (cc)

  -- the said page is as it was, or some phase was opened and its word was said
  data SaidSo (s t : State C K) (e : Event) : Type 0 where
    unsaid : ((p : ℕ) (at : Place) (w : Word) → OpenedBy e p at w → ⊥) → ((p k r x : ℕ) → said_page t p k r x ≡ said_page s p k r x) → SaidSo s t e
    says : (p : ℕ) (at : Place) (w : Word) → OpenedBy e p at w → Wrote (said_page s) (said_page t) p at.selector at.round at.phase w → SaidSo s t e

  opens_so : (s : State C K) (e : Event) (p : ℕ) (at : Place) (w : Word) → Whence ch co s e p (progress.Opened at w) → OpenedBy e p at w
  opens_so s e p at w (inl h) = inl h.0
  opens_so s e p at w (inr h) = inr h.1

  answers_so : (s : State C K) (e : Event) (p : ℕ) (answer : Answer) → Whence ch co s e p (progress.Answered answer) → (q : ℕ) (at : Place) (w : Word) → OpenedBy e q at w → ⊥
  answers_so s e p answer (inl h) q at w (inl o) = let z = h.0 in clash (cc)
  answers_so s e p answer (inl h) q at w (inr o) = let z = h.0 in clash (cc)
  answers_so s e p answer (inr h) q at w (inl o) = let z = h.1 in clash (cc)
  answers_so s e p answer (inr h) q at w (inr o) = let z = h.1 in clash (cc)

  change_said : (s t : State C K) (e : Event) → Sized s → Change ch co s e t → SaidSo s t e
  change_said s t e z (stays x) =
      let h = stays_still ch co s t e x in
      unsaid (λ p at w. stays_opens s t e p at w x) (λ p k r x. ap₂ (λ n cells. page true n cells p k r x) h.n h.cells)
  change_said s t e z (advances p (progress.Answered answer) n why h) = unsaid (answers_so s e p answer why) (λ p k r x. ap (λ (u : State C K). said_page u p k r x) h)
  change_said s t e z (advances p (progress.Opened at w) n why h) = says p at w (opens_so s e p at w why)
      (subst (λ (u : State C K). Wrote (said_page s) (said_page u) p at.selector at.round at.phase w) (sym h.state)
      (say_says s.n s.cells p at w z.room (inside_from s.n p at n.0 n.1 (whence_within ch co s z e p n (progress.Opened at w) why))))
  change_said s t e z (keeps q m rest f ok k h sent) =
      let i = parts s.n m ok in
      unsaid (λ p at w. quiet_opens e p at w q) (λ p k r x. ap (λ (u : State C K). said_page u p k r x) h
      ∙ keep_said s.n s.cells m.receiver m.place m.word z.room (inside_from s.n m.receiver m.place i.receiver_low i.receiver_high i.place) p k r x)
  change_said s t e z (hears q m rest at f ok k st c h) = unsaid (λ p at w. quiet_opens e p at w q) (λ p k r x. ap (λ (u : State C K). said_page u p k r x) h)

  pub said_opened : (s t : State C K) (e : Event) → Sized s → Change ch co s e t → (p : ℕ) (at : Place) (w : Word) → OpenedBy e p at w
      → said_page t p at.selector at.round at.phase ≡ Some w
  said_opened s t e z c p at w o = elim (change_said s t e z c) [
    | unsaid none h ↦ absurd (none p at w o)
    | says q bt v i W ↦
        let is = same_opening e q p bt at v w i o in
        subst₃ (λ i (l : Place) v. said_page t i l.selector l.round l.phase ≡ Some v) is.0 is.1 is.2 W.here
  ]

  pub said_opened_by : (s t : State C K) (e : Event) → Sized s → Change ch co s e t → (p k r x : ℕ) (w : Word) → said_page t p k r x ≡ Some w
      → (said_page s p k r x ≡ Some w) ⊎ OpenedBy e p (place k r x) w
  said_opened_by s t e z c p k r x w said = elim (change_said s t e z c) [
    | unsaid none h ↦ inl (sym (h p k r x) ∙ said)
    | says q at v i W ↦ elim (wrote_new W p k r x w said) [
      | inl was ↦ inl was
      | inr is ↦ inr (subst₃ (OpenedBy e) (sym is.0.0) (λ i. place (sym is.0.1 i) (sym is.0.2 i) (sym is.0.3 i)) (sym is.1) i)
    ]
  ]
