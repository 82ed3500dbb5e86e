-- The promise over every run, in the words of the subject.
use Rattle.std.specs.Prelude.{◌≡◌, ℕ, ◌+◌, ◌-◌, ◌/◌, ◌%◌, ◌^◌, ◌<◌, ◌≤◌, true, ◌⊎◌, [], ◌∷◌, is_ok, Some, Ok, Err, Result, count_ones}
use Rattle.channel.specs.declared.channel.Channel as channel
use Rattle.coins.specs.declared.Coins as coins
use Rattle.terms.specs.declared.answer.Answer.{Answer}
use Rattle.terms.specs.declared.answer.Answer.TheVariants.{Yes, No}
use Rattle.terms.specs.declared.answer.Progress.{Progress}
use Rattle.terms.specs.declared.answer.Progress.TheVariants.{Opened, Answered}
use Rattle.terms.specs.declared.refusal.Refusal.{Refusal}
use Rattle.terms.specs.declared.word.Place.{Place}
use Rattle.terms.specs.declared.word.Side.{Side}
use Rattle.terms.specs.declared.word.Side.TheVariants.{Zero, One}
use Rattle.terms.specs.declared.word.Word.{Word}
use Rattle.park.specs.Asks.{Steps}
use Rattle.park.specs.Messages.{Delivers}
use Rattle.park.specs.States.{State}
use Rattle.park.specs.declared.collected.Collected.TheVariants as collects
use Rattle.terms.specs.declared.act.Act.TheVariants.{Call, Step, Crash}
use Rattle.promise.specs.declared.act.Outcome.{Outcome}
use Rattle.promise.specs.declared.act.Outcome.TheVariants.{Advanced}
use Rattle.promise.specs.Runs.{Event, performed, collected, loaded, dispatched, handed_back, History, Run, Fresh}

-- such an event is in the history
abbrev pub Ever : (Event → Type 0) → History → Type 0
Ever P [] = ⊥
Ever P (e ∷ h) = P e ⊎ Ever P h

-- a call of p was accepted
abbrev pub Called : History → ℕ → Type 0
Called h p = Ever (λ e. (x : Outcome) × (e ≡ performed (Call p) (Ok x))) h

-- a crash of p was accepted; until then p is up
abbrev pub Crashed : History → ℕ → Type 0
Crashed h p = Ever (λ e. (x : Outcome) × (e ≡ performed (Crash p) (Ok x))) h

-- a step of p gave this answer
abbrev pub Holds : History → ℕ → Answer → Type 0
Holds h p answer = Ever (λ e. e ≡ performed (Step p) (Ok (Advanced (Answered answer)))) h

-- a call or a step of p opened this phase with this word
abbrev pub OpenedPhase : History → ℕ → Place → Word → Type 0
OpenedPhase h p at w = Ever (λ e. (e ≡ performed (Call p) (Ok (Advanced (Opened at w)))) ⊎ (e ≡ performed (Step p) (Ok (Advanced (Opened at w))))) h

-- p opened round r of selector k: phase 1 of it
abbrev pub OpenedRound : History → ℕ → ℕ → ℕ → Type 0
OpenedRound h p k r = (w : Word) × OpenedPhase h p (record { selector = k; round = r; phase = 1 }) w

-- p said a word of this group in phase x of round r of selector k
abbrev pub SaidGroup : History → ℕ → ℕ → ℕ → ℕ → Side → Type 0
SaidGroup h p k r x group = (w : Word) × OpenedPhase h p (record { selector = k; round = r; phase = x }) w × (w.group ≡ Some group)

-- how many permits were given
abbrev pub gives : Event → ℕ
gives (collected p (Ok (collects.Yes permit))) = 1
gives (collected p (Ok collects.No)) = 0
gives (collected p (Ok collects.Undecided)) = 0
gives (collected p (Err refusal)) = 0
gives (performed act r) = 0
gives (loaded permit r) = 0
gives (dispatched permit r) = 0
gives (handed_back permit r) = 0

abbrev pub permits_given : History → ℕ
permits_given [] = 0
permits_given (e ∷ h) = gives e + permits_given h

abbrev pub opposite : Side → Side
opposite Zero = One
opposite One = Zero

-- more than half of the controllers 1 to n are up: some set of names, bit p - 1 for controller p, has more than half of them, and none of it crashed
abbrev pub MoreThanHalfUp : History → ℕ → Type 0
MoreThanHalfUp h n =
    (set : ℕ) × (set < 2 ^ n) × (n < count_ones set + count_ones set) × ((p : ℕ) → 1 ≤ p → set / 2 ^ (p - 1) % 2 ≡ 1 → Crashed h p → ⊥)

-- No two different controllers hold yes.
abbrev pub AtMostOneYes : History → Type 0
AtMostOneYes h = (p q : ℕ) → Holds h p Yes → Holds h q Yes → p ≡ q

abbrev pub AtMostOnePermit : History → Type 0
AtMostOnePermit h = permits_given h ≤ 1

-- If somebody called, nobody crashed and every caller holds yes or no, exactly one caller holds yes.
abbrev pub OneYesWhenAllAnswered : History → Type 0
OneYesWhenAllAnswered h =
    (p : ℕ) → Called h p → ((q : ℕ) → Crashed h q → ⊥) → ((q : ℕ) → Called h q → Holds h q Yes ⊎ Holds h q No)
    → (q : ℕ) × Called h q × Holds h q Yes × ((r : ℕ) → Holds h r Yes → r ≡ q)

module _ {C K : Type 0} (ch : channel.Ghosts C) (co : coins.Ghosts K) where
  -- whatever its pick, and whatever the channel then gives, a delivery is accepted
  abbrev pub EveryDeliveryIsAccepted : State C K → Type 0
  EveryDeliveryIsAccepted s = (pick : ℕ) (r : Result ℕ Refusal) (t : State C K) → Delivers ch s pick r t → is_ok r ≡ true

  abbrev pub StepIsAccepted : State C K → ℕ → Type 0
  StepIsAccepted s p = (r : Result Progress Refusal) (t : State C K) → Steps ch co s p r t → is_ok r ≡ true

  -- While more than half are up and an up caller holds no answer, every delivery is accepted, or a step of some controller is.
  abbrev pub NeverStuck : History → State C K → Type 0
  NeverStuck h s =
      MoreThanHalfUp h s.n → (p : ℕ) → Called h p → (Crashed h p → ⊥) → ((answer : Answer) → Holds h p answer → ⊥)
      → EveryDeliveryIsAccepted s ⊎ ((q : ℕ) × StepIsAccepted s q)

  -- If somebody opened round r + 2 of a selector, r at least 2, some controller said in phase 2 of round r the group opposite to that round's coin.
  abbrev pub LongSelectorMetItsCoin : History → State C K → Type 0
  LongSelectorMetItsCoin h s =
      (p k r : ℕ) → 2 ≤ r → OpenedRound h p k (r + 2) → (q : ℕ) × SaidGroup h q k r 2 (opposite (co.common s.coins k r))

  -- what is promised of a park with this history
  pub record Promise (h : History) (s : State C K) : Type 0 where
    pub at_most_one_yes : AtMostOneYes h
    pub at_most_one_permit : AtMostOnePermit h
    pub one_yes_when_all_answered : OneYesWhenAllAnswered h
    pub never_stuck : NeverStuck h s
    pub long_selector_met_its_coin : LongSelectorMetItsCoin h s

  -- Whatever run led to the park before, once this event has made it the park after, the promise holds of the run with this event.
  abbrev pub KeepsThePromise : State C K → Event → State C K → Type 0
  KeepsThePromise before e after = (s : State C K) (h : History) → Fresh ch co s → Run ch co s h before → Promise (e ∷ h) after

  -- Of every run from a fresh park, at each of its moments.
  abbrev pub EveryRunKeepsThePromise : Type 0
  EveryRunKeepsThePromise = (s t : State C K) (h : History) → Fresh ch co s → Run ch co s h t → Promise h t
