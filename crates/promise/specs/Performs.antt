-- What performing an act does: what the act does by its own rule, with its result as an outcome.
use Rattle.std.specs.Prelude.{◌≡◌, ℕ, Ok, Err, Result}
use Rattle.channel.specs.declared.channel.Channel as channel
use Rattle.coins.specs.declared.Coins as coins
use Rattle.terms.specs.declared.answer.Progress.{Progress}
use Rattle.terms.specs.declared.refusal.Refusal.{Refusal}
use Rattle.park.specs.Asks.{Calls, Steps}
use Rattle.park.specs.Messages.{Crashes, Delivers}
use Rattle.park.specs.States.{State}
use Rattle.terms.specs.declared.act.Act.{Act}
use Rattle.terms.specs.declared.act.Act.TheVariants.{Call, Step, Crash, Deliver}
use Rattle.promise.specs.declared.act.Outcome.{Outcome}
use Rattle.promise.specs.declared.act.Outcome.TheVariants.{Advanced, Crashed, Delivered}

abbrev pub advanced : Result Progress Refusal → Result Outcome Refusal
advanced (Ok progress) = Ok (Advanced progress)
advanced (Err refusal) = Err refusal

abbrev pub crashed : Result (Unit {0}) Refusal → Result Outcome Refusal
crashed (Ok done) = Ok Crashed
crashed (Err refusal) = Err refusal

abbrev pub delivered : Result ℕ Refusal → Result Outcome Refusal
delivered (Ok receiver) = Ok (Delivered receiver)
delivered (Err refusal) = Err refusal

module _ {C K : Type 0} (ch : channel.Ghosts C) (co : coins.Ghosts K) where
  abbrev pub Performs : State C K → Act → Result Outcome Refusal → State C K → Type 0
  Performs s (Call p) r t = (x : Result Progress Refusal) × Calls ch co s p x t × (r ≡ advanced x)
  Performs s (Step p) r t = (x : Result Progress Refusal) × Steps ch co s p x t × (r ≡ advanced x)
  Performs s (Crash p) r t = (x : Result (Unit {0}) Refusal) × Crashes s p x t × (r ≡ crashed x)
  Performs s (Deliver pick) r t = (x : Result ℕ Refusal) × Delivers ch s pick x t × (r ≡ delivered x)
