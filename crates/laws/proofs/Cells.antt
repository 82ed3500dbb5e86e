-- One cell of a page written: what still stands, and what is new.
use Rattle.std.proofs.Common.{◌≡◌, ℕ, ◌⊎◌, Some, sym, ◌∙◌, inl, inr}
use native.Mathlib.Decide.{ℕ_discrete}
use Rattle.terms.specs.declared.word.Word.{Word}
use Rattle.laws.specs.Outlines.{Page, Same, Wrote, Keeps}
use Rattle.laws.proofs.Finding.{some_inj}
use Rattle.laws.proofs.Readings.{none_some}

both : {A B : Type 0} → Dec A → Dec B → Dec (A × B)
both (yes a) (yes b) = yes (a, b)
both (yes a) (no n) = no (λ t. n t.1)
both (no n) d = no (λ t. n t.0)

dec_same : (p k r x p' k' r' x' : ℕ) → Dec (Same p k r x p' k' r' x')
dec_same p k r x p' k' r' x' = elim (both (both (ℕ_discrete p p') (ℕ_discrete k k')) (both (ℕ_discrete r r') (ℕ_discrete x x'))) [
  | yes e ↦ yes (e.0.0, e.0.1, e.1.0, e.1.1)
  | no n ↦ no (λ e. n ((e.0, e.1), (e.2, e.3)))
]

cell : (f : Page) (p k r x p' k' r' x' : ℕ) → Same p k r x p' k' r' x' → f p k r x ≡ f p' k' r' x'
cell f p k r x p' k' r' x' e = cc

module _ {f f' : Page} {p k r x : ℕ} {w : Word} where
  pub wrote_grows : Wrote f f' p k r x w → ((v : Word) → ¬ (f p k r x ≡ Some v)) → (p' k' r' x' : ℕ) (v : Word) → f p' k' r' x' ≡ Some v → f' p' k' r' x' ≡ Some v
  wrote_grows a empty p' k' r' x' v h = elim (dec_same p' k' r' x' p k r x) [
    | yes e ↦ absurd (empty v (sym (cell f p' k' r' x' p k r x e) ∙ h))
    | no n ↦ a.rest p' k' r' x' n ∙ h
  ]

  pub wrote_new : Wrote f f' p k r x w → (p' k' r' x' : ℕ) (v : Word) → f' p' k' r' x' ≡ Some v → (f p' k' r' x' ≡ Some v) ⊎ (Same p' k' r' x' p k r x × (v ≡ w))
  wrote_new a p' k' r' x' v h = elim (dec_same p' k' r' x' p k r x) [
    | yes e ↦ inr (e, some_inj (sym h ∙ cell f' p' k' r' x' p k r x e ∙ a.here))
    | no n ↦ inl (sym (a.rest p' k' r' x' n) ∙ h)
  ]

  pub keeps_grows : {u : Word} → Keeps f f' p k r x w u → (p' k' r' x' : ℕ) (v : Word) → f p' k' r' x' ≡ Some v → f' p' k' r' x' ≡ Some v
  keeps_grows {u} a p' k' r' x' v h = elim (dec_same p' k' r' x' p k r x) [
    | yes e ↦ (let z = cell f p' k' r' x' p k r x e in let z' = cell f' p' k' r' x' p k r x e in let y = a.here in elim a.was [
      | inl b ↦ (cc)
      | inr b ↦ absurd (none_some _ v b.0 (sym z ∙ h))
    ])
    | no n ↦ a.rest p' k' r' x' n ∙ h
  ]

  pub keeps_new : {u : Word} → Keeps f f' p k r x w u → (p' k' r' x' : ℕ) (v : Word) → f' p' k' r' x' ≡ Some v → (f p' k' r' x' ≡ Some v) ⊎ (Same p' k' r' x' p k r x × (v ≡ w))
  keeps_new {u} a p' k' r' x' v h = elim (dec_same p' k' r' x' p k r x) [
    | yes e ↦ (let z = cell f p' k' r' x' p k r x e in let z' = cell f' p' k' r' x' p k r x e in let y = a.here in elim a.was [
      | inl b ↦ inl (cc)
      | inr b ↦ let q = b.1 in inr (e, (cc))
    ])
    | no n ↦ inl (sym (a.rest p' k' r' x' n) ∙ h)
  ]
