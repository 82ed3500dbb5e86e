-- That there are runs which meet what the promise supposes.
use Rattle.std.specs.Prelude.{◌≡◌, ℕ, ◌-◌, ◌<◌, ◌≤◌, ◌⊎◌, [], ◌∷◌, replicate, Some, None}
use Rattle.channel.specs.declared.channel.Channel as channel
use Rattle.coins.specs.declared.Coins as coins
use Rattle.permit.specs.declared.desk.PermitStage.TheVariants.{Dispatched}
use Rattle.terms.specs.declared.answer.Answer.{Answer}
use Rattle.terms.specs.declared.answer.Answer.TheVariants.{Yes, No}
use Rattle.terms.specs.declared.rules.Next.TheVariants.{Round}
use Rattle.terms.specs.declared.word.Side.{Side}
use Rattle.terms.specs.Heard.{blank}
use Rattle.terms.specs.Rules.{next_of, second_word, verdict_of}
use Rattle.park.specs.States.{State}
use Rattle.promise.specs.Promise.{Called, Crashed, Holds, MoreThanHalfUp, opposite, permits_given}
use Rattle.promise.specs.Runs.{Fresh, History, Run}

-- what OneYesWhenAllAnswered supposes: somebody called, nobody crashed, every caller holds yes or no
abbrev pub AllAnswered : History → Type 0
AllAnswered h = ((p : ℕ) × Called h p) × ((q : ℕ) → Crashed h q → ⊥) × ((q : ℕ) → Called h q → Holds h q Yes ⊎ Holds h q No)

-- what NeverStuck supposes of a park of n: more than half are up, and an up caller holds no answer
abbrev pub AnswerIsDue : History → ℕ → Type 0
AnswerIsDue h n = MoreThanHalfUp h n × ((p : ℕ) × Called h p × (Crashed h p → ⊥) × ((answer : Answer) → Holds h p answer → ⊥))

module _ {C K : Type 0} (ch : channel.Ghosts C) (co : coins.Ghosts K) where
  -- a park of n controllers, just opened over this channel and these coins
  pub record OpenedOver (c : C) (k : K) (n : ℕ) (s : State C K) : Type 0 where
    pub fresh : Fresh ch co s
    pub count : s.n ≡ n
    pub channel : s.channel ≡ c
    pub coins : s.coins ≡ k

  -- over every channel in which nothing waits and which has a place for each other controller, with any coins, for any vehicle
  abbrev pub AFreshParkExists : Type 0
  AFreshParkExists =
      (c : C) (k : K) (n vehicle : ℕ) → ch.bag c ≡ [] → 1 ≤ n → n ≤ 15 → n - 1 ≤ ch.places c
      → (s : State C K) × OpenedOver c k n s × (s.desk.vehicle ≡ vehicle)

  -- over every channel in which nothing waits, with any coins, a park of one has a run of whose history and last state this holds
  abbrev pub SomeRun : (History → State C K → Type 0) → Type 0
  SomeRun Of =
      (c : C) (k : K) → ch.bag c ≡ []
      → (s : State C K) × (h : History) × (t : State C K) × OpenedOver c k 1 s × Run ch co s h t × Of h t

  -- controller 1 holds yes, one permit was given, and it was dispatched
  abbrev pub ARunWithAYesAndAPermitExists : Type 0
  ARunWithAYesAndAPermitExists = SomeRun (λ h t. Holds h 1 Yes × (permits_given h ≡ 1) × (t.desk.stage ≡ Dispatched))

  abbrev pub AllAnsweredCanBeMet : Type 0
  AllAnsweredCanBeMet = SomeRun (λ h t. AllAnswered h)

  abbrev pub NeverStuckCanBeMet : Type 0
  NeverStuckCanBeMet = SomeRun (λ h t. AnswerIsDue h t.n)

-- How a selector comes to further rounds, by the rules for what a controller heard. Before round 16:
pub record RoundsCanGoOn : Type 0 where
  -- after phase 1, two groups make the word blank
  pub two_groups_read_blank : (g : Side) → second_word (Some g ∷ Some (opposite g) ∷ []) (None ∷ None ∷ []) ≡ blank
  -- after phase 2, from round 2 on, blanks alone open the next round with the coin
  pub blanks_take_the_coin : (me selector round heard : ℕ) (own coin : Side) → 2 ≤ round → round < 16
      → next_of selector round (verdict_of me own round coin (replicate heard None) (replicate heard None)) ≡ Round coin
  -- after phase 2, a group beside a blank opens the next round with that group, which may be the coin's opposite
  pub one_group_is_taken : (me selector round : ℕ) (own coin g : Side) → round < 16
      → next_of selector round (verdict_of me own round coin (Some g ∷ None ∷ []) (None ∷ None ∷ [])) ≡ Round g
