-- What a controller does after each phase, from the groups and names that it heard.
use Rattle.std.specs.Prelude.{ℕ, Bool, true, false, cond, ltb, List, Some, None, Option, ◌==◌, nat_eq, nat_lt}
use Rattle.terms.specs.declared.answer.Answer.TheVariants.{Yes, No, Undecided}
use Rattle.terms.specs.declared.rules.Next.{Next}
use Rattle.terms.specs.declared.rules.Next.TheVariants as next
use Rattle.terms.specs.declared.rules.Verdict.{Verdict}
use Rattle.terms.specs.declared.rules.Verdict.TheVariants.{Pair, GoOn}
use Rattle.terms.specs.declared.word.Side.{Side}
use Rattle.terms.specs.declared.word.Word.{Word}
use Rattle.terms.specs.Readings.{alike, every, reading_of, smallest_of, same_side, below_side}

-- after phase 1: the readings of the groups and of the names
abbrev pub second_word : List (Option Side) → List (Option ℕ) → Word
second_word groups names = record { group = reading_of same_side groups; name = reading_of nat_eq names }

-- 1. A name was heard, and this is the smallest: another's is (no, no); all its own and none blank is (yes, yes); else on with the own group.
abbrev pub by_name : ℕ → Side → List (Option ℕ) → ℕ → Verdict
by_name me own names name =
    cond (name == me) (cond (every (alike nat_eq (Some me)) names) (Pair (true, true)) (GoOn own)) (Pair (false, false))

-- 3. A group was heard: on with the smallest.  4. All are blank: on with the own group in round 1, later with the coin.
abbrev pub by_smallest_group : Side → ℕ → Side → Option Side → Verdict
by_smallest_group own round coin (Some group) = GoOn group
by_smallest_group own round coin None = cond (round == 1) (GoOn own) (GoOn coin)

-- 2. All heard groups are the same: (yes, no) if it is the own group, else (no, no).
abbrev pub by_group : Side → ℕ → Side → List (Option Side) → Option Side → Verdict
by_group own round coin groups (Some group) = cond (same_side group own) (Pair (true, false)) (Pair (false, false))
by_group own round coin groups None = by_smallest_group own round coin (smallest_of below_side None groups)

abbrev pub by_smallest_name : ℕ → Side → ℕ → Side → List (Option Side) → List (Option ℕ) → Option ℕ → Verdict
by_smallest_name me own round coin groups names (Some name) = by_name me own names name
by_smallest_name me own round coin groups names None = by_group own round coin groups (reading_of same_side groups)

-- after phase 2: the first rule that fits
abbrev pub verdict_of : ℕ → Side → ℕ → Side → List (Option Side) → List (Option ℕ) → Verdict
verdict_of me own round coin groups names = by_smallest_name me own round coin groups names (smallest_of ltb None names)

-- Test&Set: (yes, yes) is yes, (no, no) is no, (yes, no) opens the next selector; at the limits of 16 the answer is undecided
abbrev pub by_pair : ℕ → Bool → Bool → Next
by_pair selector true true = next.Answer Yes
by_pair selector true false = cond (nat_lt selector 16) next.Selector (next.Answer Undecided)
by_pair selector false second = next.Answer No

abbrev pub next_of : ℕ → ℕ → Verdict → Next
next_of selector round (Pair result) = by_pair selector result.0 result.1
next_of selector round (GoOn group) = cond (nat_lt round 16) (next.Round group) (next.Answer Undecided)
