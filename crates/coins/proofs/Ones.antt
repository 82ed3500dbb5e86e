-- Counting the ones of a number that is written out.
use Rattle.std.proofs.Common.{◌≡◌, ℕ, zero, suc, ◌+◌, ◌/◌, ◌%◌, ◌^◌, ◌<◌, ap, ◌∙◌, arith, lit<}
use lib.Count.{ones, ones_in, ones_step}
use Rattle.terms.specs.declared.word.Side.TheVariants.{Zero}
use Rattle.coins.specs.Draws.{seeded_draw, one_if_odd}

-- k digits are enough to look at in a number below 2 ^ k
pub ones_of_digits : (k n : ℕ) → n < 2 ^ k → ones n ≡ ones_in k n
unfolding ones ones_in
ones_of_digits zero n h = let e : n ≡ 0 = omega arith in ap ones e
ones_of_digits (suc k) n h = ones_step n ∙ ap (λ m. n % 2 + m) (ones_of_digits k (n / 2) (omega arith))

pub first_draw_of_seed_0 : seeded_draw 0 0 ≡ Zero
unfolding ones_in
first_draw_of_seed_0 = ap one_if_odd (ones_of_digits 64 0x9E37_79B9_7F4A_7C15 (lit< tt))
