-- Two majorities share a controller.
use Rattle.std.proofs.Common.{◌≡◌, ℕ, zero, suc, ◌+◌, ◌-◌, ◌/◌, ◌%◌, ◌^◌, ◌<◌, sym, ap, ◌∙◌, arith}
use native.Mathlib.Decide.{dec_le}
use native.Mathlib.Nat.{div-div-eq-div-mul, pow-succ'}
use lib.Count.{ones, ones_step, ones-le}
use Rattle.laws.specs.Rules.{In, Majority}

-- the bit j + 1 of S is the bit j of S / 2
pub bit_up : (S j : ℕ) → S / 2 ^ suc j % 2 ≡ S / 2 / 2 ^ j % 2
bit_up S j = ap (λ x. x % 2) (ap (λ y. S / y) (pow-succ' 2 j) ∙ sym (div-div-eq-div-mul S 2 (2 ^ j)))

shared : (n S T : ℕ) → S < 2 ^ n → T < 2 ^ n → n < ones S + ones T → (j : ℕ) × (j < n) × (S / 2 ^ j % 2 ≡ 1) × (T / 2 ^ j % 2 ≡ 1)
shared zero S T s t h = absurd (omega (arith, ones-le 0 S s, ones-le 0 T t))
shared (suc n) S T s t h = elim (dec_le 2 (S % 2 + T % 2)) [
  | yes both ↦ (0, omega arith, omega arith, omega arith)
  | no h' ↦
      let x = shared n (S / 2) (T / 2) (omega arith) (omega arith) (omega (arith, ones_step S, ones_step T)) in
      (suc x.0, omega arith, bit_up S x.0 ∙ x.2, bit_up T x.0 ∙ x.3)
]

in_suc : (S j : ℕ) → S / 2 ^ j % 2 ≡ 1 → In (suc j) S
in_suc S j h = let e : suc j - 1 ≡ j = omega arith in (omega arith, rw e h)

pub meet : (n S T : ℕ) → Majority n S → Majority n T → (q : ℕ) × In q S × In q T
meet n S T s t = let x = shared n S T s.0 t.0 (omega arith) in (suc x.0, in_suc S x.0 x.2, in_suc T x.0 x.3)

pub member : (n S : ℕ) → Majority n S → (q : ℕ) × In q S
member n S s = let x = meet n S S s s in (x.0, x.1)
