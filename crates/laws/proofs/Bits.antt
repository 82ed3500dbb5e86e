-- A heard set as a number: one more controller in it.
use Rattle.std.proofs.Common.{◌≡◌, ℕ, zero, suc, ◌-◌, ◌/◌, ◌%◌, ◌^◌, ◌<◌, ◌≤◌, ◌⊎◌, sym, refl, ap, ◌∙◌, inl, inr, arith}
use native.Mathlib.Nat.{zero-div}
use lib.Bits.{bit_or, or_shr, or_mod, or_lt}
use Rattle.std.proofs.lemmas.Nat.{pow_below}
use Rattle.laws.specs.Rules.{In}
use Rattle.laws.proofs.Majorities.{bit_up}

-- the number with the one bit i
pub single : (i j : ℕ) → 2 ^ i / 2 ^ j % 2 ≡ 1 → i ≡ j
single zero zero e = refl
single (suc i) zero e = absurd (omega arith)
single zero (suc j) e = absurd (let z = bit_up 1 j in let y = zero-div (2 ^ j) in omega arith)
single (suc i) (suc j) e =
    let half : 2 ^ suc i / 2 ≡ 2 ^ i = omega arith in
    ap suc (single i j (ap (λ x. x / 2 ^ j % 2) (sym half) ∙ sym (bit_up (2 ^ suc i) j) ∙ e))

pub single_here : (i : ℕ) → 2 ^ i / 2 ^ i % 2 ≡ 1
single_here zero = refl
single_here (suc i) =
    let half : 2 ^ suc i / 2 ≡ 2 ^ i = omega arith in
    bit_up (2 ^ suc i) i ∙ ap (λ x. x / 2 ^ i % 2) half ∙ single_here i

-- bit j of an `or`
or_bit : (a b j : ℕ) → bit_or a b / 2 ^ j % 2 ≡ bit_or (a / 2 ^ j % 2) (b / 2 ^ j % 2)
or_bit a b j = ap (λ x. x % 2) (or_shr a b j) ∙ or_mod (a / 2 ^ j) (b / 2 ^ j) 1

or_one : (a b : ℕ) → a < 2 → b < 2 → bit_or a b ≡ 1 → (a ≡ 1) ⊎ (b ≡ 1)
or_one zero zero ha hb e = inl e
or_one (suc zero) b ha hb e = inl refl
or_one zero (suc zero) ha hb e = inr refl
or_one zero (suc (suc b)) ha hb e = absurd (omega arith)
or_one (suc (suc a)) b ha hb e = absurd (omega arith)

pub alone : (p q : ℕ) → 1 ≤ p → In q (2 ^ (p - 1)) → q ≡ p
alone p q l i = let e = single (p - 1) (q - 1) i.1 in omega arith

pub added : (S p q : ℕ) → 1 ≤ p → In q (bit_or S (2 ^ (p - 1))) → (q ≡ p) ⊎ In q S
added S p q l i = elim (or_one (S / 2 ^ (q - 1) % 2) (2 ^ (p - 1) / 2 ^ (q - 1) % 2) (omega arith) (omega arith) (sym (or_bit S (2 ^ (p - 1)) (q - 1)) ∙ i.1)) [
  | inl a ↦ inr (i.0, a)
  | inr a ↦ inl (alone p q l (i.0, a))
]

or_left : (a b : ℕ) → a ≡ 1 → b < 2 → bit_or a b ≡ 1
or_left a zero e h = ap (λ x. bit_or x 0) e
or_left a (suc zero) e h = ap (λ x. bit_or x 1) e
or_left a (suc (suc b)) e h = absurd (omega arith)

or_right : (a b : ℕ) → b ≡ 1 → a < 2 → bit_or a b ≡ 1
or_right zero b e h = ap (λ x. bit_or 0 x) e
or_right (suc zero) b e h = ap (λ x. bit_or 1 x) e
or_right (suc (suc a)) b e h = absurd (omega arith)

pub still_in : (S p q : ℕ) → In q S → In q (bit_or S (2 ^ (p - 1)))
still_in S p q i = (i.0, or_bit S (2 ^ (p - 1)) (q - 1) ∙ or_left _ _ i.1 (omega arith))

pub now_in : (S p : ℕ) → 1 ≤ p → In p (bit_or S (2 ^ (p - 1)))
now_in S p l = (l, or_bit S (2 ^ (p - 1)) (p - 1) ∙ or_right _ _ (single_here (p - 1)) (omega arith))

pub in_alone : (p : ℕ) → 1 ≤ p → In p (2 ^ (p - 1))
in_alone p l = (l, single_here (p - 1))

pub alone_small : (n p : ℕ) → 1 ≤ p → p ≤ n → 2 ^ (p - 1) < 2 ^ n
alone_small n p l u = pow_below (p - 1) n (omega arith)

pub added_small : (n S p : ℕ) → 1 ≤ p → p ≤ n → S < 2 ^ n → bit_or S (2 ^ (p - 1)) < 2 ^ n
added_small n S p l u h = or_lt n S (2 ^ (p - 1)) h (alone_small n p l u)
