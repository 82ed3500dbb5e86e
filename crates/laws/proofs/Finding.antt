-- Finding a number that has a property, and deciding what a cell holds.
use Rattle.std.proofs.Common.{◌≡◌, ℕ, zero, suc, ◌<◌, ◌≤◌, ◌⊎◌, Some, None, Option, sym, refl, ap, ◌∙◌, inl, inr, arith}
use native.Mathlib.Decide.{dec_le, map_dec}
use Rattle.terms.specs.declared.word.Side.{Side}
use Rattle.terms.specs.declared.word.Side.TheVariants.{Zero, One}
use Rattle.terms.specs.declared.word.Word.{Word}
use Rattle.laws.specs.Rules.{other}
use Rattle.laws.proofs.Readings.{none_some}

-- one number up to n that has P, or none
pub find : (P : ℕ → Type 0) → ((p : ℕ) → Dec (P p)) → (n : ℕ) → ((p : ℕ) × P p) ⊎ ((p : ℕ) → p ≤ n → ¬ P p)
find P dec zero = elim (dec 0) [
  | yes h ↦ inl (0, h)
  | no h ↦ inr (λ p l e. let z : p ≡ 0 = omega arith in h (rw z at e))
]
find P dec (suc n) = elim (dec (suc n)) [
  | yes h ↦ inl (suc n, h)
  | no h ↦ elim (find P dec n) [
    | inl x ↦ inl x
    | inr f ↦ inr (λ p l e. elim (dec_le p n) [ yes s ↦ f p s e | no s ↦ let z : p ≡ suc n = omega arith in h (rw z at e) ])
  ]
]

zero_one : Zero ≡ One → ⊥
zero_one e = let z : ◌≡◌ {A = ℕ} 0 1 = cc in omega arith

pub dec_side : (a b : Side) → Dec (a ≡ b)
dec_side Zero Zero = yes refl
dec_side Zero One = no zero_one
dec_side One Zero = no (λ e. zero_one (sym e))
dec_side One One = yes refl

-- a side that is not the other one is this one
pub not_other : (a c : Side) → ¬ (a ≡ other c) → a ≡ c
not_other Zero Zero h = refl
not_other Zero One h = absurd (h refl)
not_other One Zero h = absurd (h refl)
not_other One One h = refl

-- of two sides that differ one is c
pub one_of_two : (a b c : Side) → ¬ (a ≡ b) → (a ≡ c) ⊎ (b ≡ c)
one_of_two Zero Zero c h = absurd (h refl)
one_of_two Zero One Zero h = inl refl
one_of_two Zero One One h = inr refl
one_of_two One Zero Zero h = inr refl
one_of_two One Zero One h = inl refl
one_of_two One One c h = absurd (h refl)

pub some_inj : {A : Type 0} {a b : A} → Some a ≡ Some b → a ≡ b
some_inj e = cc

pub dec_group : (x : Option Side) (g : Side) → Dec (x ≡ Some g)
dec_group None g = no (λ e. none_some None g refl e)
dec_group (Some a) g = map_dec (ap Some) some_inj (dec_side a g)

-- a cell that holds a word of group g
abbrev pub Holds : Side → Option Word → Type 0
Holds g x = (v : Word) × (x ≡ Some v) × (v.group ≡ Some g)

pub dec_holds : (g : Side) (x : Option Word) → Dec (Holds g x)
dec_holds g None = no (λ t. none_some None t.0 refl t.1)
dec_holds g (Some v) = map_dec (λ e. (v, refl, e)) (λ t. ap (λ (w : Word). w.group) (some_inj t.1) ∙ t.2) (dec_group v.group g)

abbrev pub Spoke : Option Word → Type 0
Spoke x = (v : Word) × (x ≡ Some v)

pub dec_spoke : (x : Option Word) → Dec (Spoke x)
dec_spoke None = no (λ t. none_some None t.0 refl t.1)
dec_spoke (Some v) = yes (v, refl)

-- the highest number up to N that has Q
pub highest : (Q : ℕ → Type 0) → ((k : ℕ) → Dec (Q k)) → (N k₀ : ℕ) → Q k₀ → k₀ ≤ N → (k : ℕ) × Q k × ((k' : ℕ) → k' ≤ N → k < k' → ¬ Q k')
highest Q dec zero k₀ h l = (k₀, h, λ k' a b. absurd (omega arith))
highest Q dec (suc N) k₀ h l = elim (dec (suc N)) [
  | yes t ↦ (suc N, t, λ k' a b. absurd (omega arith))
  | no t ↦ elim (dec_le k₀ N) [
    | yes l' ↦
        let x = highest Q dec N k₀ h l' in
        (x.0, x.1, λ k' a b q. elim (dec_le k' N) [ yes s ↦ x.2 k' s b q | no s ↦ let z : k' ≡ suc N = omega arith in t (rw z at q) ])
    | no l' ↦ let z : k₀ ≡ suc N = omega arith in absurd (t (rw z at h))
  ]
]
