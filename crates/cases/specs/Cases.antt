-- The marked cases of the rules: ten rows, each called by what it says.
use Rattle.std.specs.Prelude.{◌≡◌, ℕ, true, false, List, [], ◌∷◌, Some, None, Option}
use Rattle.std.specs.List.{AllByRecursion}
use Rattle.coins.specs.Draws.{seeded_draw}
use Rattle.terms.specs.declared.rules.Next.{Next}
use Rattle.terms.specs.declared.rules.Next.TheVariants as next
use Rattle.terms.specs.declared.rules.Verdict.{Verdict}
use Rattle.terms.specs.declared.rules.Verdict.TheVariants.{Pair, GoOn}
use Rattle.terms.specs.declared.word.Side.{Side}
use Rattle.terms.specs.declared.word.Side.TheVariants.{Zero, One}
use Rattle.terms.specs.Heard.{majority_of}
use Rattle.terms.specs.Places.{index_of}
use Rattle.terms.specs.Readings.{reading_of, same_side}
use Rattle.terms.specs.Rules.{verdict_of, next_of}

pub data Case : Type 0 where
  -- so many of so many controllers are a majority
  majority_is : (n majority : ℕ) → Case
  -- the index of selector, round and phase
  index_is : (selector round phase index : ℕ) → Case
  reading_is : (groups : List (Option Side)) (reading : Option Side) → Case
  -- this caller hears these names: with its own group the verdict is this, whatever the groups, the round and the coin
  names_give : (caller : ℕ) (names : List (Option ℕ)) (verdict : Side → Verdict) → Case
  -- a caller with this own group hears these groups and no name in this round, with this coin
  groups_give : (own : Side) (round : ℕ) (coin : Side) (groups : List (Option Side)) (verdict : Verdict) → Case
  -- and this follows in that selector and round
  leads_to : (selector round : ℕ) (verdict : Verdict) (follows : Next) → Case
  draw_is : (seed draw : ℕ) (side : Side) → Case

-- as many blanks
abbrev pub no_names : List (Option Side) → List (Option ℕ)
no_names [] = []
no_names (group ∷ groups) = None ∷ no_names groups

abbrev pub HoldsAlone : Case → Type 0
HoldsAlone (majority_is n majority) = majority_of n ≡ majority
HoldsAlone (index_is selector round phase index) = index_of selector round phase ≡ index
HoldsAlone (reading_is groups reading) = reading_of same_side groups ≡ reading
HoldsAlone (names_give caller names verdict) =
    (own coin : Side) (round : ℕ) (groups : List (Option Side)) → verdict_of caller own round coin groups names ≡ verdict own
HoldsAlone (groups_give own round coin groups verdict) = (caller : ℕ) → verdict_of caller own round coin groups (no_names groups) ≡ verdict
HoldsAlone (leads_to selector round verdict follows) = next_of selector round verdict ≡ follows
HoldsAlone (draw_is seed draw side) = seeded_draw seed draw ≡ side

-- a row holds if all of its cases do
abbrev pub Holds : List Case → Type 0
Holds row = AllByRecursion HoldsAlone row

abbrev pub majorities_of_1_2_14_and_15 : List Case
majorities_of_1_2_14_and_15 = majority_is 1 1 ∷ majority_is 2 2 ∷ majority_is 14 8 ∷ majority_is 15 8 ∷ []

abbrev pub last_index_of_a_page : List Case
last_index_of_a_page = index_is 16 16 2 511 ∷ []

abbrev pub equal_groups_are_read_and_a_blank_is_no_group : List Case
equal_groups_are_read_and_a_blank_is_no_group = reading_is (Some Zero ∷ Some Zero ∷ []) (Some Zero) ∷ reading_is (Some Zero ∷ None ∷ []) None ∷ []

abbrev pub another's_name_turns_away : List Case
another's_name_turns_away = names_give 2 (Some 1 ∷ None ∷ []) (λ own. Pair (false, false)) ∷ []

abbrev pub own_name_from_all_wins : List Case
own_name_from_all_wins = names_give 1 (Some 1 ∷ Some 1 ∷ []) (λ own. Pair (true, true)) ∷ []

abbrev pub own_name_and_a_blank_go_on_with_the_own_group : List Case
own_name_and_a_blank_go_on_with_the_own_group = names_give 1 (Some 1 ∷ None ∷ []) (λ own. GoOn own) ∷ leads_to 1 1 (GoOn Zero) (next.Round Zero) ∷ leads_to 1 1 (GoOn One) (next.Round One) ∷ []

abbrev pub one_group_from_all_is_the_result : List Case
one_group_from_all_is_the_result =
    groups_give Zero 1 One (Some Zero ∷ Some Zero ∷ []) (Pair (true, false)) ∷ groups_give One 1 One (Some Zero ∷ Some Zero ∷ []) (Pair (false, false)) ∷ []

abbrev pub a_group_and_a_blank_go_on_with_the_group : List Case
a_group_and_a_blank_go_on_with_the_group = groups_give Zero 1 Zero (Some One ∷ None ∷ []) (GoOn One) ∷ leads_to 1 1 (GoOn One) (next.Round One) ∷ []

abbrev pub all_blank_keeps_the_own_group_in_round_1_and_takes_the_coin_later : List Case
all_blank_keeps_the_own_group_in_round_1_and_takes_the_coin_later =
    groups_give Zero 1 One (None ∷ None ∷ []) (GoOn Zero) ∷ groups_give Zero 2 One (None ∷ None ∷ []) (GoOn One) ∷ []

abbrev pub first_draw_of_seed_0 : List Case
first_draw_of_seed_0 = draw_is 0 0 Zero ∷ []

abbrev pub table : List (List Case)
table =
    majorities_of_1_2_14_and_15
    ∷ last_index_of_a_page
    ∷ equal_groups_are_read_and_a_blank_is_no_group
    ∷ another's_name_turns_away
    ∷ own_name_from_all_wins
    ∷ own_name_and_a_blank_go_on_with_the_own_group
    ∷ one_group_from_all_is_the_result
    ∷ a_group_and_a_blank_go_on_with_the_group
    ∷ all_blank_keeps_the_own_group_in_round_1_and_takes_the_coin_later
    ∷ first_draw_of_seed_0
    ∷ []
