-- What a message does to its receiver: a delivery, a receive, and a crash.
use Rattle.std.specs.Prelude.{◌≡◌, ℕ, Bool, true, false, not, ◌&&◌, length, Some, None, Ok, Option, Result, ◌==◌, nat_le}
use Rattle.channel.specs.declared.channel.Channel as channel
use Rattle.terms.specs.declared.message.Kind.{Kind}
use Rattle.terms.specs.declared.message.Kind.TheVariants.{Phase, Echo}
use Rattle.terms.specs.declared.message.Mark.{Mark}
use Rattle.terms.specs.declared.message.Message.{Message}
use Rattle.terms.specs.declared.refusal.Refusal.{Refusal}
use Rattle.terms.specs.declared.refusal.Refusal.TheVariants as refusals
use Rattle.terms.specs.Places.{is_phase, well_formed}
use Rattle.park.specs.Cells.{keeping, kept_word}
use Rattle.park.specs.Controllers.{after_echo, taken_down}
use Rattle.park.specs.Refusals.{Refused, Unless, first, when, name_refusal}
use Rattle.park.specs.States.{State, of, with_channel, with_controller, with_controllers}

abbrev pub If : Bool → Type 0 → Type 0 → Type 0
If true A B = A
If false A B = B

module _ {C K : Type 0} (ch : channel.Ghosts C) where
  -- the reply to a PHASE: the word that its receiver keeps
  abbrev pub echo_of : State C K → Message → Message
  echo_of s m = record { kind = Echo; sender = m.receiver; receiver = m.sender; place = m.place; word = kept_word s.cells m.receiver m.place m.word }

  -- the word of a PHASE comes to its receiver's kept cell, and this is the channel then
  abbrev pub kept : State C K → Message → C → State C K
  kept s m channel = record {
    n = s.n;
    majority = s.majority;
    desk = s.desk;
    controllers = s.controllers;
    cells = keeping s.cells m.receiver m.place m.word;
    block = s.block;
    channel = channel;
    coins = s.coins;
  }

  abbrev pub Takes : Kind → State C K → Message → State C K → Type 0
  Takes Phase s m t = (t ≡ kept s m t.channel) × ch.sends s.channel (echo_of s m) t.channel
  Takes Echo s m t = t ≡ with_controllers s (after_echo s.majority s.controllers m (of s m.receiver).stage)

  -- an up receiver takes the message, and one that is down drops it
  abbrev pub Accepts : State C K → Message → State C K → Type 0
  Accepts s m t = If (of s m.receiver).up (Takes m.kind s m t) (t ≡ s)

  -- what was fetched leaves this channel, and does this
  abbrev pub DeliversFetched : State C K → Option (Message × Mark) → C → Result ℕ Refusal → State C K → Type 0
  DeliversFetched s None rest r t = Refused refusals.Nothing s r t
  DeliversFetched s (Some (m, mark)) rest r t =
      If (well_formed s.n m) ((r ≡ Ok m.receiver) × Accepts (with_channel s rest) m t) (Refused refusals.Message (with_channel s rest) r t)

  -- A delivery: one fetch with this pick, whatever the channel gives, and what that does.
  pub record Delivers (s : State C K) (pick : ℕ) (r : Result ℕ Refusal) (t : State C K) : Type 0 where
    pub got : Option (Message × Mark)
    pub rest : C
    pub fetched : ch.fetches s.channel pick got rest
    pub does : DeliversFetched s got rest r t

  -- a PHASE and no free place
  abbrev pub no_place_for : State C K → Message → Bool
  no_place_for s m = is_phase m.kind && nat_le (ch.places s.channel) (length (ch.bag s.channel))

  abbrev pub not_for : State C K → ℕ → Message → Bool
  not_for s p m = not (well_formed s.n m && m.receiver == p)

  -- A message is handed to p.
  abbrev pub Receives : State C K → ℕ → Message → Result (Unit {0}) Refusal → State C K → Type 0
  Receives s p m r t =
      Unless (first (name_refusal s p) (first (when (no_place_for s m) refusals.NoPlace) (when (not_for s p m) refusals.Message))) s
      (λ r t. (r ≡ Ok tt) × Accepts s m t) r t

module _ {C K : Type 0} where
  abbrev pub Crashes : State C K → ℕ → Result (Unit {0}) Refusal → State C K → Type 0
  Crashes s p r t = Unless (name_refusal s p) s (λ r t. (r ≡ Ok tt) × (t ≡ with_controller s p (taken_down (of s p)))) r t
