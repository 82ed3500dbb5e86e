-- How rounds come about.
use Rattle.std.proofs.Common.{◌≡◌, ℕ, zero, suc, ◌<◌, ◌≤◌, Bool, true, ltb, List, [], ◌∷◌, replicate, Some, None, Option, refl, ap, ◌∙◌, arith}
use Rattle.std.proofs.lemmas.Bool.{cond-false, cond-true, lt-ltb, ne_eqb}
use Rattle.terms.specs.declared.rules.Next.TheVariants.{Round}
use Rattle.terms.specs.declared.rules.Verdict.{Verdict}
use Rattle.terms.specs.declared.rules.Verdict.TheVariants.{GoOn}
use Rattle.terms.specs.declared.word.Side.{Side}
use Rattle.terms.specs.declared.word.Side.TheVariants.{Zero, One}
use Rattle.terms.specs.Heard.{blank}
use Rattle.terms.specs.Readings.{alike, below_side, every, reading_of, same_side, smallest_of}
use Rattle.terms.specs.Rules.{by_group, by_smallest_group, by_smallest_name, next_of, second_word, verdict_of}
use Rattle.promise.specs.Promise.{opposite}
use Rattle.witness.specs.Witnesses.{RoundsCanGoOn}

module _ {A : Type 0} where
  abbrev blanks : ℕ → List (Option A)
  blanks n = replicate n None

  all_blank : (same : A → A → Bool) (n : ℕ) → every (alike same None) (blanks n) ≡ true
  all_blank same zero = refl
  all_blank same (suc n) = all_blank same n

  reads_blank : (same : A → A → Bool) (n : ℕ) → reading_of same (blanks n) ≡ None
  reads_blank same zero = refl
  reads_blank same (suc n) = cond-true _ _ _ (all_blank same n)

  smallest_blank : (below : A → A → Bool) (n : ℕ) → smallest_of below None (blanks n) ≡ None
  smallest_blank below zero = refl
  smallest_blank below (suc n) = smallest_blank below n

two_read_blank : (g : Side) → second_word (Some g ∷ Some (opposite g) ∷ []) (None ∷ None ∷ []) ≡ blank
two_read_blank Zero = refl
two_read_blank One = refl

goes_on : (selector round : ℕ) (g : Side) (v : Verdict) → v ≡ GoOn g → round < 16 → next_of selector round v ≡ Round g
goes_on selector round g v e h = ap (next_of selector round) e ∙ cond-true _ _ _ (lt-ltb round 16 h)

coin_verdict : (me round heard : ℕ) (own coin : Side) → 2 ≤ round → verdict_of me own round coin (blanks heard) (blanks heard) ≡ GoOn coin
coin_verdict me round heard own coin late =
    ap (by_smallest_name me own round coin (blanks heard) (blanks heard)) (smallest_blank ltb heard)
    ∙ ap (by_group own round coin (blanks heard)) (reads_blank same_side heard)
    ∙ ap (by_smallest_group own round coin) (smallest_blank below_side heard)
    ∙ cond-false _ _ _ (ne_eqb round 1 (λ e. omega arith))

pub rounds_can_go_on_lem : RoundsCanGoOn
rounds_can_go_on_lem = record {
  two_groups_read_blank = two_read_blank;
  blanks_take_the_coin = λ me selector round heard own coin late h. goes_on selector round coin _ (coin_verdict me round heard own coin late) h;
  one_group_is_taken = λ me selector round own coin g h. goes_on selector round g _ refl h;
}
