-- Heard sets as numbers: how their bits count, and the set of one controller.
use Rattle.std.proofs.Common.{◌≡◌, ℕ, zero, suc, ◌+◌, ◌-◌, ◌/◌, ◌%◌, ◌^◌, ◌<◌, ◌≤◌, true, sym, ◌∙◌, subst, ⊎_elim, arith}
use lib.Bits.{bit_or}
use lib.Count.{ones, ones_step, ones-le}
use Rattle.std.proofs.lemmas.Bool.{eq-eqb, eqb-true, cases_eq, cond-true, lt-ltb}
use Rattle.terms.specs.Heard.{majority_of, alone, heard_from, with_heard}
use Rattle.laws.proofs.Bits.{in_alone, now_in, still_in}
use Rattle.laws.proofs.Majorities.{bit_up}

-- a set whose members are all in another has no more of them
pub ones_more : (n S T : ℕ) → S < 2 ^ n → ((j : ℕ) → j < n → S / 2 ^ j % 2 ≡ 1 → T / 2 ^ j % 2 ≡ 1) → ones S ≤ ones T
ones_more zero S T s h = let l = ones-le 0 S s in omega arith
ones_more (suc n) S T s h =
    let rest : ones (S / 2) ≤ ones (T / 2) =
    ones_more n (S / 2) (T / 2) (omega arith) (λ j l e. sym (bit_up T j) ∙ h (suc j) (omega arith) (bit_up S j ∙ e)) in
    let a = ones_step S in
    let b = ones_step T in
    ⊎_elim (λ (e : S % 2 ≡ 1). let f : T / 2 ^ 0 % 2 ≡ 1 = h 0 (omega arith) (omega arith) in omega arith) (λ (e : S % 2 ≡ 1 → ⊥). let z : S % 2 ≡ 0 = omega arith in omega arith)
    (cases_eq (S % 2) 1)

-- more than half is a majority
pub half_of : (n k : ℕ) → n < k + k → majority_of n ≤ k
half_of n k h = omega arith

pub alone_is : (p : ℕ) → 1 ≤ p → p ≤ 15 → alone p ≡ 2 ^ (p - 1)
alone_is p a b = cond-true _ _ _ (lt-ltb (p - 1) 16 (omega arith))

module _ (p : ℕ) (low : 1 ≤ p) (high : p ≤ 15) where
  pub heard_itself : heard_from (alone p) p ≡ true
  heard_itself = subst (λ S. heard_from S p ≡ true) (sym (alone_is p low high)) (eq-eqb _ 1 (in_alone p low).1)

  pub still_heard : (S q : ℕ) → 1 ≤ q → heard_from S q ≡ true → heard_from (with_heard S p) q ≡ true
  still_heard S q l h = subst (λ b. heard_from (bit_or S b) q ≡ true) (sym (alone_is p low high)) (eq-eqb _ 1 (still_in S p q (l, eqb-true _ 1 h)).1)

  pub now_heard : (S : ℕ) → heard_from (with_heard S p) p ≡ true
  now_heard S = subst (λ b. heard_from (bit_or S b) p ≡ true) (sym (alone_is p low high)) (eq-eqb _ 1 (now_in S p low).1)
