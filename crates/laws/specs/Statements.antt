-- The three laws over lawful pages.
use Rattle.std.specs.Prelude.{◌≡◌, ℕ, ◌+◌, ◌≤◌, ◌⊎◌, Some}
use Rattle.terms.specs.declared.answer.Answer.TheVariants.{Yes, No}
use Rattle.terms.specs.declared.word.Word.{Word}
use Rattle.laws.specs.Pages.{Pages, Grounded, Carried}
use Rattle.laws.specs.Rules.{other}

abbrev pub AtMostOneYes : Type 0
AtMostOneYes = (n : ℕ) (P : Pages) → Grounded n P → (p q : ℕ) → P.answer p ≡ Some Yes → P.answer q ≡ Some Yes → p ≡ q

-- where a round r + 2 is opened, r at least 2, a word of phase 2 of round r has the group that the coin of round r is not
abbrev pub CoinOpposed : Type 0
CoinOpposed = (n : ℕ) (P : Pages) → Grounded n P → (p k r : ℕ) (w : Word) → 2 ≤ r → P.said p k (r + 2) 1 ≡ Some w
    → (q : ℕ) × (v : Word) × (P.said q k r 2 ≡ Some v) × (v.group ≡ Some (other (P.coin k r)))

-- where there is a caller, and every caller has yes or no, one has yes
abbrev pub SomebodyWins : Type 0
SomebodyWins = (n : ℕ) (P : Pages) → Grounded n P → Carried n P → (p : ℕ) (w : Word) → P.said p 1 1 1 ≡ Some w
    → ((q : ℕ) (v : Word) → P.said q 1 1 1 ≡ Some v → (P.answer q ≡ Some Yes) ⊎ (P.answer q ≡ Some No)) → (q : ℕ) × (P.answer q ≡ Some Yes)
