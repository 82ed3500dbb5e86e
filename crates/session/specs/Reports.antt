-- The report of an act: its refusal, or the controller acted on with its answer after the act.
use Rattle.std.specs.Prelude.{◌≡◌, ℕ, Ok, Err, Option, Result}
use Rattle.channel.specs.declared.channel.Channel as channel
use Rattle.coins.specs.declared.Coins as coins
use Rattle.park.specs.Host.{answer_of}
use Rattle.park.specs.States.{State}
use Rattle.promise.specs.Performs.{Performs}
use Rattle.terms.specs.declared.act.Act.{Act}
use Rattle.terms.specs.declared.act.Act.TheVariants.{Call, Step, Crash, Deliver}
use Rattle.promise.specs.declared.act.Outcome.{Outcome}
use Rattle.promise.specs.declared.act.Outcome.TheVariants.{Advanced, Crashed, Delivered}
use Rattle.script.specs.Lines.{kind_of_act}
use Rattle.script.specs.declared.report.Report.{Report}
use Rattle.script.specs.declared.report.Report.TheVariants.{Refused, Acted}
use Rattle.terms.specs.declared.answer.Answer.{Answer}
use Rattle.terms.specs.declared.refusal.Refusal.{Refusal}

-- the controller that an act names, and the receiver of a delivery
abbrev pub acted_on : Act → Outcome → ℕ
acted_on (Call p) outcome = p
acted_on (Step p) outcome = p
acted_on (Crash p) outcome = p
acted_on (Deliver pick) (Delivered receiver) = receiver
acted_on (Deliver pick) (Advanced progress) = 0
acted_on (Deliver pick) Crashed = 0

abbrev pub reported : Act → Result Outcome Refusal → (ℕ → Option Answer) → Report
reported act (Err refusal) answer = Refused (kind_of_act act) refusal
reported act (Ok outcome) answer = Acted (kind_of_act act) (acted_on act outcome) (answer (acted_on act outcome))

module _ {C K : Type 0} (ch : channel.Ghosts C) (co : coins.Ghosts K) where
  -- the act is performed, and this is its report
  abbrev pub Reports : State C K → Act → Report → State C K → Type 0
  Reports s act r t = (x : Result Outcome Refusal) × Performs ch co s act x t × (r ≡ reported act x (answer_of t))
