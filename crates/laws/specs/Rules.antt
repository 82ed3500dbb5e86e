-- The rules of a controller, as relations between what it heard and what it does next.
use Rattle.std.specs.Prelude.{◌≡◌, ℕ, ◌+◌, ◌-◌, ◌/◌, ◌%◌, ◌^◌, ◌<◌, ◌≤◌, Some, None, Option, count_ones}
use Rattle.terms.specs.declared.word.Side.{Side}
use Rattle.terms.specs.declared.word.Side.TheVariants.{Zero, One}
use Rattle.terms.specs.declared.word.Word.{Word}

abbrev pub other : Side → Side
other Zero = One
other One = Zero

-- the word of round 1: the own draw with the own name
abbrev pub first : Side → ℕ → Word
first g p = record { group = Some g; name = Some p }

-- the word of later rounds
abbrev pub later : Side → Word
later g = record { group = Some g; name = None }

-- a set of controllers as a number: bit p - 1 for controller p
abbrev pub In : ℕ → ℕ → Type 0
In p S = (1 ≤ p) × (S / 2 ^ (p - 1) % 2 ≡ 1)

abbrev pub Majority : ℕ → ℕ → Type 0
Majority n S = (S < 2 ^ n) × (n / 2 + 1 ≤ count_ones S)

-- what a step after phase 2 comes to
pub data Outcome : Type 0 where
  yes_yes : Outcome
  no_no : Outcome
  yes_no : Outcome
  on : Side → Outcome

-- the reading of the entries f q of all q in H
pub data Reading {A : Type 0} (H : ℕ → Type 0) (f : ℕ → Option A) : Option A → Type 0 where
  common : (a : A) → ((q : ℕ) → H q → f q ≡ Some a) → Reading H f (Some a)
  blank_heard : (q : ℕ) → H q → f q ≡ None → Reading H f None
  apart : (q q' : ℕ) → H q → H q' → ¬ (f q ≡ f q') → Reading H f None

-- the step after phase 2 of round r, for controller p with its own group, the round's coin, and the words W q of all q in H
pub data After (p : ℕ) (own : Side) (r : ℕ) (coin : Side) (H : ℕ → Type 0) (W : ℕ → Word) : Outcome → Type 0 where
  turned_away : (m q : ℕ) → H q → (W q).name ≡ Some m → ¬ (m ≡ p) → After p own r coin H W no_no
  won : ((q : ℕ) → H q → (W q).name ≡ Some p) → After p own r coin H W yes_yes
  named_self : (q : ℕ) → H q → (W q).name ≡ Some p → After p own r coin H W (on own)
  agreed : ((q : ℕ) → H q → (W q).name ≡ None) → ((q : ℕ) → H q → (W q).group ≡ Some own) → After p own r coin H W yes_no
  differed : (g : Side) → ((q : ℕ) → H q → (W q).name ≡ None) → ((q : ℕ) → H q → (W q).group ≡ Some g) → ¬ (g ≡ own) → After p own r coin H W no_no
  leaned : (h : Side) (q q' : ℕ) → ((q : ℕ) → H q → (W q).name ≡ None) → H q → (W q).group ≡ Some h → H q' → ¬ ((W q').group ≡ Some h)
      → After p own r coin H W (on h)
  kept_own : ((q : ℕ) → H q → (W q).name ≡ None) → ((q : ℕ) → H q → (W q).group ≡ None) → r ≡ 1 → After p own r coin H W (on own)
  tossed : ((q : ℕ) → H q → (W q).name ≡ None) → ((q : ℕ) → H q → (W q).group ≡ None) → ¬ (r ≡ 1) → After p own r coin H W (on coin)
