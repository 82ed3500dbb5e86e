-- What holds of every entry of a list, step by step.
use Rattle.std.proofs.Common.{◌≡◌, ℕ, zero, suc, Bool, true, false, cond, List, [], ◌∷◌, get_or, set, refl}
use Rattle.terms.specs.Readings.{every}

module _ {A : Type 0} (test : A → Bool) where
  both : (x : A) (xs : List A) → every test (x ∷ xs) ≡ true → (test x ≡ true) × (every test xs ≡ true)
  both x xs e = by (test x) e
    where
      by : (b : Bool) → cond b (every test xs) false ≡ true → (b ≡ true) × (every test xs ≡ true)
      by true h = (refl, h)
      by false h = absurd (cc)

  pub every_set : (xs : List A) (i : ℕ) (a : A) → every test xs ≡ true → test a ≡ true → every test (set xs i a) ≡ true
  every_set [] i a e t = e
  every_set (x ∷ xs) zero a e t = rw t (both x xs e).1
  every_set (x ∷ xs) (suc i) a e t = rw (both x xs e).0 (every_set xs i a (both x xs e).1 t)

  pub every_get_or : (xs : List A) (i : ℕ) (d : A) → every test xs ≡ true → test d ≡ true → test (get_or xs i d) ≡ true
  every_get_or [] i d e t = t
  every_get_or (x ∷ xs) zero d e t = (both x xs e).0
  every_get_or (x ∷ xs) (suc i) d e t = every_get_or xs i d (both x xs e).1 t
