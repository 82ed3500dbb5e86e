-- What a host can ask of a park, and what it sends and fetches itself.
use Rattle.std.specs.Prelude.{◌≡◌, ℕ, cond, length, None, Option, Result, IsOk, IsErr, nat_lt}
use Rattle.channel.specs.declared.channel.Channel as channel
use Rattle.channel.specs.declared.channel.Full.{Full}
use Rattle.terms.specs.declared.answer.Answer.{Answer}
use Rattle.terms.specs.declared.message.Mark.{Mark}
use Rattle.terms.specs.declared.message.Message.{Message}
use Rattle.park.specs.Controllers.{answer_in}
use Rattle.park.specs.Messages.{If}
use Rattle.park.specs.Refusals.{no_such_name}
use Rattle.park.specs.States.{State, of, with_channel}

module _ {C K : Type 0} where
  abbrev pub answer_of : State C K → ℕ → Option Answer
  answer_of s p = cond (no_such_name s p) None (answer_in (of s p).stage)

  -- the message is sent, unless all places are taken
  abbrev pub Posts : channel.Ghosts C → State C K → Message → Result (Unit {0}) Full → State C K → Type 0
  Posts ch s m r t =
      If (nat_lt (length (ch.bag s.channel)) (ch.places s.channel))
      (IsOk r × ch.sends s.channel m t.channel × (t ≡ with_channel s t.channel))
      (IsErr r × (t ≡ s))

  -- one fetch with this pick
  abbrev pub Fetches : channel.Ghosts C → State C K → ℕ → Option (Message × Mark) → State C K → Type 0
  Fetches ch s pick r t = ch.fetches s.channel pick r t.channel × (t ≡ with_channel s t.channel)
