-- What the pages of a park hold, and what makes them lawful.
use Rattle.std.specs.Prelude.{◌≡◌, ℕ, ◌+◌, ◌≤◌, ◌⊎◌, Some, None, Option}
use Rattle.terms.specs.declared.answer.Answer.{Answer}
use Rattle.terms.specs.declared.answer.Answer.TheVariants.{Yes, No, Undecided}
use Rattle.terms.specs.declared.word.Side.{Side}
use Rattle.terms.specs.declared.word.Word.{Word}
use Rattle.laws.specs.Outlines.{Page, Stage, idle, asking, done, Outline, Tables}
use Rattle.laws.specs.Rules.{Outcome, yes_yes, no_no, yes_no, on, Reading, After, In, Majority, first, later}

-- the two pages of all controllers, their answers, and the two tables of coins
pub record Pages : Type 0 where
  pub kept : Page
  pub said : Page
  pub answer : ℕ → Option Answer
  pub draw : ℕ → ℕ → Side
  pub coin : ℕ → ℕ → Side

abbrev pub answer_in : Stage → Option Answer
answer_in idle = None
answer_in (asking k r x S) = None
answer_in (done a) = Some a

abbrev pub pages : Tables → Outline → Pages
pages c s = record { kept = s.kept; said = s.said; answer = λ p. answer_in (s.stage p); draw = c.draw; coin = c.coin }

module _ (n : ℕ) (P : Pages) where
  -- the words W were heard from the set S in that phase: S is a majority, and each word is its controller's kept word
  pub record Heard (k r x S : ℕ) (W : ℕ → Word) : Type 0 where
    pub enough : Majority n S
    pub from : (q : ℕ) → In q S → P.kept q k r x ≡ Some (W q)

  -- w is what a majority heard in phase 1 reads
  pub record Read (k r : ℕ) (w : Word) : Type 0 where
    pub set : ℕ
    pub words : ℕ → Word
    pub heard : Heard k r 1 set words
    pub group : Reading (λ q. In q set) (λ q. (words q).group) w.group
    pub name : Reading (λ q. In q set) (λ q. (words q).name) w.name

  -- p finished phase 2 with this outcome
  pub record Ended (p k r : ℕ) (o : Outcome) : Type 0 where
    pub word : Word
    pub spoke : P.said p k r 2 ≡ Some word
    pub set : ℕ
    pub words : ℕ → Word
    pub heard : Heard k r 2 set words
    pub after : After p (P.draw p k) r (P.coin k r) (λ q. In q set) words o

  -- every word, and every yes, has its ground
  pub record Grounded : Type 0 where
    pub bounds : (p k r x : ℕ) (w : Word) → P.said p k r x ≡ Some w → (1 ≤ p) × (p ≤ n) × (1 ≤ k) × (k ≤ 16) × (1 ≤ r) × (r ≤ 16)
    pub kept_said : (q k r x : ℕ) (w : Word) → P.kept q k r x ≡ Some w → (p : ℕ) × (P.said p k r x ≡ Some w)
    pub opens : (p k r : ℕ) (w : Word) → r ≡ 1 → P.said p k r 1 ≡ Some w → w ≡ first (P.draw p k) p
    pub next_selector : (p k k' : ℕ) (w : Word) → 1 ≤ k → k' ≡ k + 1 → P.said p k' 1 1 ≡ Some w → (r : ℕ) × Ended p k r yes_no
    pub next_round : (p k r r' : ℕ) (w : Word) → 1 ≤ r → r' ≡ r + 1 → P.said p k r' 1 ≡ Some w → (g : Side) × (w ≡ later g) × Ended p k r (on g)
    pub second : (p k r : ℕ) (w : Word) → P.said p k r 2 ≡ Some w → Read k r w × ((v : Word) × (P.said p k r 1 ≡ Some v))
    pub yes_ground : (p : ℕ) → P.answer p ≡ Some Yes → (k r : ℕ) × Ended p k r yes_yes

  -- what follows each outcome
  abbrev pub Follows : ℕ → ℕ → ℕ → Outcome → Type 0
  Follows p k r yes_yes = P.answer p ≡ Some Yes
  Follows p k r no_no = P.answer p ≡ Some No
  Follows p k r yes_no = (P.said p (k + 1) 1 1 ≡ Some (first (P.draw p (k + 1)) p)) ⊎ (P.answer p ≡ Some Undecided)
  Follows p k r (on g) = (P.said p k (r + 1) 1 ≡ Some (later g)) ⊎ (P.answer p ≡ Some Undecided)

  -- a caller with an answer stopped nowhere on the way
  pub record Carried : Type 0 where
    pub to_second : (p k r : ℕ) (w : Word) (a : Answer) → P.answer p ≡ Some a → P.said p k r 1 ≡ Some w → (v : Word) × (P.said p k r 2 ≡ Some v)
    pub to_end : (p k r : ℕ) (w : Word) (a : Answer) → P.answer p ≡ Some a → P.said p k r 2 ≡ Some w → (o : Outcome) × Ended p k r o × Follows p k r o
