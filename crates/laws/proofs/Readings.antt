-- What a reading tells.
use Rattle.std.proofs.Common.{◌≡◌, ℕ, Some, None, Option, sym, ◌∙◌, arith}
use Rattle.laws.specs.Rules.{Reading, common, blank_heard, apart}

pub none_some : {A : Type 0} (x : Option A) (a : A) → x ≡ None → x ≡ Some a → ⊥
none_some x a e f = let z : ◌≡◌ {A = ℕ} 0 1 = cc in omega arith

module _ {A : Type 0} {H : ℕ → Type 0} {f : ℕ → Option A} where
  pub reading_some : {v : Option A} → Reading H f v → (a : A) → v ≡ Some a → (q : ℕ) → H q → f q ≡ Some a
  reading_some (common b all) a e q i = all q i ∙ e
  reading_some (blank_heard q' j n) a e q i = absurd (none_some None a (λ i. None) e)
  reading_some (apart q' q'' j j' n) a e q i = absurd (none_some None a (λ i. None) e)

  -- where all entries are the same a, and there is one, the reading is a
  pub reading_all : {v : Option A} → Reading H f v → (a : A) (q : ℕ) → H q → ((q : ℕ) → H q → f q ≡ Some a) → v ≡ Some a
  reading_all (common b all) a q i h = sym (all q i) ∙ h q i
  reading_all (blank_heard q' j n) a q i h = absurd (none_some (f q') a n (h q' j))
  reading_all (apart q' q'' j j' n) a q i h = absurd (n (h q' j ∙ sym (h q'' j')))
