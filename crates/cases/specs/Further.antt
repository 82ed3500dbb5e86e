-- Further worked examples: what the marked cases leave open of the same definitions, of the draws, of well-formed messages and of the numbers of refusals.
use Rattle.std.specs.Prelude.{◌≡◌, ℕ, Bool, true, false, List, [], ◌∷◌, Some, None, Option}
use Rattle.std.specs.List.{AllByRecursion}
use Rattle.coins.specs.Draws.{group_draw_number, coin_draw_number, listed_draw}
use Rattle.terms.specs.declared.answer.Answer.TheVariants.{Yes, No, Undecided}
use Rattle.terms.specs.declared.message.Kind.TheVariants.{Phase}
use Rattle.terms.specs.declared.refusal.Refusal.{Refusal}
use Rattle.terms.specs.declared.refusal.Refusal.TheVariants as refusals
use Rattle.terms.specs.declared.rules.Next.TheVariants as next
use Rattle.terms.specs.declared.rules.Verdict.TheVariants.{Pair, GoOn}
use Rattle.terms.specs.declared.word.Side.{Side}
use Rattle.terms.specs.declared.word.Side.TheVariants.{Zero, One}
use Rattle.terms.specs.Numbers.{number_of}
use Rattle.terms.specs.Places.{well_formed}
use Rattle.cases.specs.Cases as cases

pub data Example : Type 0 where
  of_case : cases.Case → Example
  -- the number of the draw of a controller's group in a selector
  group_draw_is : (controller selector draw : ℕ) → Example
  -- the number of the draw of a selector's coin in a round
  coin_draw_is : (selector round draw : ℕ) → Example
  -- a draw of the list of these bytes
  listed_is : (bytes : List ℕ) (draw : ℕ) (side : Side) → Example
  -- a PHASE from sender to receiver at a place, with a name: whether a park of n controllers can take it
  well_formed_is : (n sender receiver selector round phase : ℕ) (name : Option ℕ) (well : Bool) → Example
  -- a refusal's number
  number_is : (refusal : Refusal) (number : ℕ) → Example

abbrev pub Holds : Example → Type 0
Holds (of_case c) = cases.HoldsAlone c
Holds (group_draw_is controller selector draw) = group_draw_number controller selector ≡ draw
Holds (coin_draw_is selector round draw) = coin_draw_number selector round ≡ draw
Holds (listed_is bytes draw side) = listed_draw bytes draw ≡ side
Holds (well_formed_is n sender receiver selector round phase name well) =
    well_formed n (record { kind = Phase; sender = sender; receiver = receiver; place = record { selector = selector; round = round; phase = phase }; word = record { group = None; name = name } }) ≡ well
Holds (number_is refusal number) = number_of refusal ≡ number

-- the phase counts by ones, the round by twos, the selector by 32s
abbrev pub indices : List Example
indices = of_case (cases.index_is 1 1 2 1) ∷ of_case (cases.index_is 1 2 1 2) ∷ of_case (cases.index_is 2 1 1 32) ∷ []

-- controllers and rounds count by ones, selectors by 16s, and coins begin at 256
abbrev pub draws : List Example
draws =
    group_draw_is 2 1 1 ∷ group_draw_is 1 2 16 ∷ group_draw_is 15 16 254 ∷ coin_draw_is 1 1 256 ∷ coin_draw_is 1 2 257 ∷ coin_draw_is 2 1 272 ∷ coin_draw_is 16 16 511 ∷ []

-- bits count from the lowest, bytes from the first, and past the last byte is Zero
abbrev pub listed : List Example
listed =
    listed_is (2 ∷ 128 ∷ []) 0 Zero ∷ listed_is (2 ∷ 128 ∷ []) 1 One ∷ listed_is (2 ∷ 128 ∷ []) 14 Zero ∷ listed_is (2 ∷ 128 ∷ []) 15 One ∷ listed_is (2 ∷ 128 ∷ []) 16 Zero ∷ []

abbrev pub readings : List Example
readings = of_case (cases.reading_is [] None) ∷ of_case (cases.reading_is (None ∷ Some Zero ∷ []) None) ∷ of_case (cases.reading_is (Some One ∷ Some Zero ∷ []) None) ∷ []

-- the smallest name and the smallest group, whichever is heard first
abbrev pub smallest : List Example
smallest =
    of_case (cases.names_give 2 (Some 3 ∷ Some 2 ∷ []) (λ own. GoOn own))
    ∷ of_case (cases.names_give 2 (Some 2 ∷ Some 1 ∷ []) (λ own. Pair (false, false)))
    ∷ of_case (cases.groups_give One 2 One (Some One ∷ Some Zero ∷ []) (GoOn Zero))
    ∷ of_case (cases.groups_give One 2 One (Some Zero ∷ Some One ∷ []) (GoOn Zero))
    ∷ []

abbrev pub limits : List Example
limits =
    of_case (cases.leads_to 16 16 (Pair (true, true)) (next.Answer Yes))
    ∷ of_case (cases.leads_to 16 16 (Pair (false, false)) (next.Answer No))
    ∷ of_case (cases.leads_to 15 16 (Pair (true, false)) next.Selector)
    ∷ of_case (cases.leads_to 16 1 (Pair (true, false)) (next.Answer Undecided))
    ∷ of_case (cases.leads_to 16 15 (GoOn One) (next.Round One))
    ∷ of_case (cases.leads_to 1 16 (GoOn One) (next.Answer Undecided))
    ∷ []

abbrev pub messages : List Example
messages =
    well_formed_is 3 1 3 16 16 2 (Some 3) true
    ∷ well_formed_is 3 3 1 1 1 1 None true
    ∷ well_formed_is 3 0 3 1 1 1 None false
    ∷ well_formed_is 3 4 3 1 1 1 None false
    ∷ well_formed_is 3 1 0 1 1 1 None false
    ∷ well_formed_is 3 1 4 1 1 1 None false
    ∷ well_formed_is 3 2 2 1 1 1 None false
    ∷ well_formed_is 3 1 2 0 1 1 None false
    ∷ well_formed_is 3 1 2 17 1 1 None false
    ∷ well_formed_is 3 1 2 1 0 1 None false
    ∷ well_formed_is 3 1 2 1 17 1 None false
    ∷ well_formed_is 3 1 2 1 1 0 None false
    ∷ well_formed_is 3 1 2 1 1 3 None false
    ∷ well_formed_is 3 1 2 1 1 1 (Some 4) false
    ∷ []

abbrev pub numbers : List Example
numbers =
    number_is refusals.Count 1 ∷ number_is refusals.Memory 2 ∷ number_is refusals.Places 3 ∷ number_is refusals.Name 4 ∷ number_is refusals.Down 5
    ∷ number_is refusals.Called 6 ∷ number_is refusals.NotReady 7 ∷ number_is refusals.NoPlace 8 ∷ number_is refusals.Nothing 9 ∷ number_is refusals.Leftover 10
    ∷ number_is refusals.Message 11 ∷ number_is refusals.NoAnswer 12 ∷ number_is refusals.Taken 13 ∷ number_is refusals.Permit 14 ∷ number_is refusals.Line 15 ∷ []

abbrev pub table : List (List Example)
table = indices ∷ draws ∷ listed ∷ readings ∷ smallest ∷ limits ∷ messages ∷ numbers ∷ []

abbrev pub RowHolds : List Example → Type 0
RowHolds row = AllByRecursion Holds row
