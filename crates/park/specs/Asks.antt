-- What a call and a step do: they open a phase or give the answer.
use Rattle.std.specs.Prelude.{◌≡◌, ℕ, zero, suc, ◌+◌, cond, List, [], ◌∷◌, ◌++◌, Some, None, Ok, Option, Result, ◌==◌}
use Rattle.channel.specs.declared.channel.Channel as channel
use Rattle.channel.specs.Sends.{SentAll}
use Rattle.coins.specs.declared.Coins as coins
use Rattle.terms.specs.declared.answer.Progress.{Progress}
use Rattle.terms.specs.declared.answer.Progress.TheVariants.{Opened, Answered}
use Rattle.terms.specs.declared.message.Kind.TheVariants.{Phase}
use Rattle.terms.specs.declared.message.Message.{Message}
use Rattle.terms.specs.declared.refusal.Refusal.{Refusal}
use Rattle.terms.specs.declared.refusal.Refusal.TheVariants.{Called, NotReady, NoPlace}
use Rattle.terms.specs.declared.rules.Next.{Next}
use Rattle.terms.specs.declared.rules.Next.TheVariants as next
use Rattle.terms.specs.declared.word.Place.{Place}
use Rattle.terms.specs.declared.word.Side.{Side}
use Rattle.terms.specs.declared.word.Word.{Word}
use Rattle.terms.specs.Heard.{heard_groups, heard_names}
use Rattle.terms.specs.Rules.{second_word, verdict_of, next_of}
use Rattle.park.specs.Cells.{kept_word, saying}
use Rattle.park.specs.Controllers.{answered, asking, has_called, ready_at, with_record}
use Rattle.park.specs.Refusals.{Refused, Unless, first, when, name_refusal, too_few_places}
use Rattle.park.specs.States.{State, of, with_controller}

-- PHASE from p to q
abbrev pub phase_to : ℕ → ℕ → Place → Word → Message
phase_to p q at w = record { kind = Phase; sender = p; receiver = q; place = at; word = w }

-- PHASE from p to each of the names 1 to n but p, in rising order
abbrev pub phases : ℕ → ℕ → Place → Word → List Message
phases zero p at w = []
phases (suc q) p at w = cond (suc q == p) (phases q p at w) (phases q p at w ++ phase_to p (suc q) at w ∷ [])

-- round 1, phase 1 of selector k
abbrev pub first_place : ℕ → Place
first_place k = record { selector = k; round = 1; phase = 1 }

abbrev pub second_phase : Place → Place
second_phase at = record { selector = at.selector; round = at.round; phase = 2 }

abbrev pub next_round : Place → Place
next_round at = record { selector = at.selector; round = at.round + 1; phase = 1 }

-- a group with the own name, in round 1
abbrev pub own_word : Side → ℕ → Word
own_word group p = record { group = Some group; name = Some p }

-- a group with a blank name, in later rounds
abbrev pub nameless : Side → Word
nameless group = record { group = Some group; name = None }

module _ {C K : Type 0} (ch : channel.Ghosts C) (co : coins.Ghosts K) where
  -- p opens the phase at this place with this word, and this is the channel then
  abbrev pub opened : State C K → ℕ → Place → Word → C → State C K
  opened s p at w channel = record {
    n = s.n;
    majority = s.majority;
    desk = s.desk;
    controllers = with_record s.controllers p (asking (of s p) p at (kept_word s.cells p at w));
    cells = saying s.cells p at w;
    block = s.block;
    channel = channel;
    coins = s.coins;
  }

  pub record Opens (s : State C K) (p : ℕ) (at : Place) (w : Word) (t : State C K) : Type 0 where
    pub state : t ≡ opened s p at w t.channel
    pub sent : SentAll ch.sends s.channel (phases s.n p at w) t.channel

  -- p opens a phase, for which places have to be free, or has its answer
  abbrev pub Advances : State C K → ℕ → Progress → Result Progress Refusal → State C K → Type 0
  Advances s p (Opened at w) r t =
      Unless (when (too_few_places ch s) NoPlace) s (λ r t. (r ≡ Ok (Opened at w)) × Opens s p at w t) r t
  Advances s p (Answered answer) r t = (r ≡ Ok (Answered answer)) × (t ≡ with_controller s p (answered (of s p) answer))

  -- selector k is opened with the own draw and the own name
  abbrev pub opens_selector : State C K → ℕ → ℕ → Progress
  opens_selector s p k = Opened (first_place k) (own_word (co.group s.coins p k) p)

  -- p calls
  abbrev pub Calls : State C K → ℕ → Result Progress Refusal → State C K → Type 0
  Calls s p r t = Unless (first (name_refusal s p) (when (has_called (of s p).stage) Called)) s (Advances s p (opens_selector s p 1)) r t

  abbrev pub goes_to : State C K → ℕ → Place → Next → Progress
  goes_to s p at (next.Answer answer) = Answered answer
  goes_to s p at (next.Round group) = Opened (next_round at) (nameless group)
  goes_to s p at next.Selector = opens_selector s p (at.selector + 1)

  -- what a step from this place comes to, by what p heard there
  abbrev pub after_first : State C K → List (Option Side) → List (Option ℕ) → Place → Progress
  after_first s groups names at = Opened (second_phase at) (second_word groups names)

  abbrev pub after_second : State C K → ℕ → List (Option Side) → List (Option ℕ) → Place → Progress
  after_second s p groups names at =
      goes_to s p at (next_of at.selector at.round
      (verdict_of p (co.group s.coins p at.selector) at.round (co.common s.coins at.selector at.round) groups names))

  abbrev pub progress_after : State C K → ℕ → List (Option Side) → List (Option ℕ) → Place → Progress
  progress_after s p groups names at = cond (at.phase == 1) (after_first s groups names at) (after_second s p groups names at)

  abbrev pub progress_from : State C K → ℕ → Place → Progress
  progress_from s p at =
      progress_after s p (heard_groups s.n (of s p).heard (of s p).words) (heard_names s.n (of s p).heard (of s p).words) at

  -- a step of p, which is ready there or nowhere
  abbrev pub StepsFrom : Option Place → State C K → ℕ → Result Progress Refusal → State C K → Type 0
  StepsFrom None s p r t = Refused NotReady s r t
  StepsFrom (Some at) s p r t = Advances s p (progress_from s p at) r t

  abbrev pub Steps : State C K → ℕ → Result Progress Refusal → State C K → Type 0
  Steps s p r t = Unless (name_refusal s p) s (StepsFrom (ready_at s.majority (of s p)) s p) r t
