-- The invariant gives lawful pages, and what callers said.
use Rattle.std.proofs.Common.{◌≡◌, ℕ, ◌+◌, ◌≤◌, Some, None, sym, refl, ap, ◌∙◌, subst, inl, inr, arith}
use native.Mathlib.Decide.{ℕ_discrete}
use Rattle.terms.specs.declared.answer.Answer.{Answer}
use Rattle.terms.specs.declared.answer.Answer.TheVariants.{Yes}
use Rattle.terms.specs.declared.word.Side.{Side}
use Rattle.terms.specs.declared.word.Word.{Word}
use Rattle.laws.specs.Rules.{yes_yes, yes_no, on, first, later}
use Rattle.laws.specs.Outlines.{Stage, idle, asking, done, Outline, Tables}
use Rattle.laws.specs.Pages.{answer_in, pages, Grounded, Carried}
use Rattle.laws.proofs.Finding.{Spoke, some_inj}
use Rattle.laws.proofs.Invariant.{At, EndedIn, ReadIn, Ground, by_call, by_selector, by_round, by_phase, Fit, Inv}
use Rattle.laws.proofs.Readings.{none_some}
use Rattle.laws.proofs.Safety.{called}

module _ (c : Tables) (n : ℕ) (s : Outline) (I : Inv c n s) where
  opens_ground : (p k r : ℕ) (w : Word) → r ≡ 1 → s.said p k r 1 ≡ Some w → w ≡ first (c.draw p k) p
  opens_ground p k r w e h = go (I.ground p k r 1 w h)
    where
      go : Ground c n s p k r 1 w → w ≡ first (c.draw p k) p
      go (by_call a b d f) = f
      go (by_selector k₀ r₀ a b d f E) = f
      go (by_round r₀ g a d f E) = let b = I.bounds p k r₀ 2 _ E.spoke in absurd (omega arith)
      go (by_phase a f g) = absurd (omega arith)

  selector_ground : (p k k' : ℕ) (w : Word) → 1 ≤ k → k' ≡ k + 1 → s.said p k' 1 1 ≡ Some w → (r : ℕ) × EndedIn c n s p k r yes_no
  selector_ground p k k' w l e h = go (I.ground p k' 1 1 w h)
    where
      go : Ground c n s p k' 1 1 w → (r : ℕ) × EndedIn c n s p k r yes_no
      go (by_call a b d f) = absurd (omega arith)
      go (by_selector k₀ r₀ a b d f E) = let z : k₀ ≡ k = omega arith in (r₀, subst (λ y. EndedIn c n s p y r₀ yes_no) z E)
      go (by_round r₀ g a d f E) = let b = I.bounds p k' r₀ 2 _ E.spoke in absurd (omega arith)
      go (by_phase a f g) = absurd (omega arith)

  round_ground : (p k r r' : ℕ) (w : Word) → 1 ≤ r → r' ≡ r + 1 → s.said p k r' 1 ≡ Some w → (g : Side) × (w ≡ later g) × EndedIn c n s p k r (on g)
  round_ground p k r r' w l e h = go (I.ground p k r' 1 w h)
    where
      go : Ground c n s p k r' 1 w → (g : Side) × (w ≡ later g) × EndedIn c n s p k r (on g)
      go (by_call a b d f) = absurd (omega arith)
      go (by_selector k₀ r₀ a b d f E) = absurd (omega arith)
      go (by_round r₀ g a d f E) = let z : r₀ ≡ r = omega arith in (g, f, subst (λ y. EndedIn c n s p k y (on g)) z E)
      go (by_phase a f g) = absurd (omega arith)

  second_ground : (p k r : ℕ) (w : Word) → s.said p k r 2 ≡ Some w → ReadIn c n s k r w × Spoke (s.said p k r 1)
  second_ground p k r w h = go (I.ground p k r 2 w h)
    where
      go : Ground c n s p k r 2 w → ReadIn c n s k r w × Spoke (s.said p k r 1)
      go (by_call a b d f) = absurd (omega arith)
      go (by_selector k₀ r₀ a b d f E) = absurd (omega arith)
      go (by_round r₀ g a d f E) = absurd (omega arith)
      go (by_phase a f g) = (f, g)

  yes_ground : (p : ℕ) (u : Stage) → Fit c n s p u → answer_in u ≡ Some Yes → (k r : ℕ) × EndedIn c n s p k r yes_yes
  yes_ground p idle f e = absurd (none_some None Yes refl e)
  yes_ground p (asking k r x S) f e = absurd (none_some None Yes refl e)
  yes_ground p (done a) f e = f.0 (some_inj e)

  pub grounded : Grounded n (pages c s)
  grounded = record {
    bounds = λ p k r x w h. let b = I.bounds p k r x w h in (b.0, b.1, b.2, b.3, b.4, b.5);
    kept_said = I.kept_said;
    opens = opens_ground;
    next_selector = selector_ground;
    next_round = round_ground;
    second = second_ground;
    yes_ground = λ p e. yes_ground p (s.stage p) (I.fit p) e;
  }

  -- who has an answer waits nowhere
  waits_nowhere : (u : Stage) (a : Answer) (k r x : ℕ) → answer_in u ≡ Some a → ¬ At u k r x
  waits_nowhere idle a k r x e b = b
  waits_nowhere (asking k' r' x' S) a k r x e b = none_some None a refl e
  waits_nowhere (done a') a k r x e b = b

  pub carried : Carried n (pages c s)
  carried = record {
    to_second = λ p k r w a e h. elim (I.after_first p k r w h) [ inl b ↦ absurd (waits_nowhere (s.stage p) a k r 1 e b) | inr b ↦ b ];
    to_end = λ p k r w a e h. elim (I.after_second p k r w h) [ inl b ↦ absurd (waits_nowhere (s.stage p) a k r 2 e b) | inr b ↦ b ];
  }

  pub idle_silent : (p k r x : ℕ) (w : Word) → s.stage p ≡ idle → ¬ (s.said p k r x ≡ Some w)
  idle_silent p k r x w e = (let h : Fit c n s p idle = subst (Fit c n s p) e (I.fit p) in h) k r x w

  spoke_at : (p : ℕ) (u : Stage) → Fit c n s p u → ¬ (u ≡ idle) → (k r x : ℕ) × Spoke (s.said p k r x)
  spoke_at p idle f d = absurd (d refl)
  spoke_at p (asking k r x S) f d = (k, r, x, f.spoke)
  spoke_at p (done a) f d = (f.1.0, f.1.1, 2, f.1.2)

  -- whoever is not idle called
  pub caller_spoke : (p : ℕ) → ¬ (s.stage p ≡ idle) → (w : Word) × (s.said p 1 1 1 ≡ Some w)
  caller_spoke p d =
      let x = spoke_at p (s.stage p) (I.fit p) d in
      let b = I.bounds p x.0 x.1 x.2 _ x.3.1 in
      elim (ℕ_discrete x.2 1) [
        | yes e ↦ called n (pages c s) grounded p x.0 x.1 _ (ap (λ z. s.said p x.0 x.1 z) (sym e) ∙ x.3.1)
        | no e ↦
            let z : x.2 ≡ 2 = omega arith in
            let y = (second_ground p x.0 x.1 _ (ap (λ z. s.said p x.0 x.1 z) (sym z) ∙ x.3.1)).1 in
            called n (pages c s) grounded p x.0 x.1 _ y.1
      ]
