-- The numbers of the draws, and what each draw of the bit list and of the seeded coins is.
use Rattle.std.specs.Prelude.{ℕ, ◌+◌, ◌-◌, ◌*◌, ◌/◌, ◌%◌, ◌^◌, cond, List, ◌==◌, count_ones, slice_index}
use Rattle.terms.specs.declared.word.Side.{Side}
use Rattle.terms.specs.declared.word.Side.TheVariants.{Zero, One}

-- the number of the draw of controller p's group in selector k
abbrev pub group_draw_number : ℕ → ℕ → ℕ
group_draw_number p k = (k - 1) * 16 + (p - 1)

-- the number of the draw of the common coin of selector k in round r
abbrev pub coin_draw_number : ℕ → ℕ → ℕ
coin_draw_number k r = 256 + (k - 1) * 16 + (r - 1)

-- One exactly if n is odd
abbrev pub one_if_odd : ℕ → Side
one_if_odd n = cond (n % 2 == 1) One Zero

-- draw d of a bit list: bit d mod 8, lowest first, of byte d div 8; Zero past the last byte
abbrev pub listed_draw : List ℕ → ℕ → Side
listed_draw bytes d = one_if_odd (slice_index bytes (d / 8) / 2 ^ (d % 8))

-- draw d of the seeded coins: One exactly if z has an odd number of ones
abbrev pub seeded_draw : ℕ → ℕ → Side
seeded_draw seed d =
    let z : ℕ = (seed + (d + 1) * 0x9E37_79B9_7F4A_7C15) % 2 ^ 64 in one_if_odd (count_ones z)
