-- An opening of a session, by the opening of its park.
use Rattle.std.proofs.Common.{◌≡◌, ℕ, Some, None, Ok, Err, Option, Result, sym, ap, ◌∙◌, subst}
use Rattle.std.specs.Global.{Vec}
use Rattle.channel.specs.declared.line.Line.{Line}
use Rattle.coins.specs.declared.seeded.Seeded.{Seeded}
use Rattle.park.specs.Opening.{OpensUnless}
use Rattle.park.specs.declared.park.NotOpened.{NotOpened}
use Rattle.park.specs.declared.park.Park.{Park}
use Rattle.park.specs.declared.park.Supplies.{Supplies}
use Rattle.script.specs.declared.report.Report.{Report}
use Rattle.terms.specs.declared.refusal.Refusal.{Refusal}
use Rattle.terms.specs.declared.word.Cell.{Cell}
use Rattle.session.specs.declared.session.Session.{Session}
use Rattle.session.specs.declared.session.State.{State}
use Rattle.session.specs.declared.session.State.TheVariants.{Before}
use Rattle.session.specs.Sessions.{EmptyLine, OpeningFor0, OpensOnce, TakesUp, TellsOpening}

module _ {C K : Type 0} where
  abbrev back_of : Supplies C K → Result (Park C K) (NotOpened C K) → Supplies C K
  back_of given (Ok park) = given
  back_of given (Err back) = back.supplies

  -- a refused opening gives back what was handed over
  pub given_back : (refusal : Option Refusal) (n vehicle : ℕ) (given : Supplies C K) (back : NotOpened C K)
      → OpensUnless refusal n vehicle given (Err back) → back.supplies ≡ given
  given_back (Some e) n vehicle given back h = ap (back_of given) h
  given_back None n vehicle given back h = absurd h

-- what was taken up is what is told, where the session had these cells
taken_up : (cells : Vec Cell) (n seed : ℕ) (line : Line) (result : Result (Park Line Seeded) (NotOpened Line Seeded)) (report : Report) (after : State)
    → OpeningFor0 n seed cells line result → TakesUp result report after → TellsOpening (record { state = Before cells }) result report (record { state = after })
taken_up cells n seed line (Ok park) report after o t = (t.0, ap (λ (x : State). record { state = x }) t.1)
taken_up cells n seed line (Err back) report after o t =
    (t.0, ap (λ (x : State). record { state = x }) (t.1 ∙ ap (λ (s : Supplies Line Seeded). Before s.cells) (given_back _ _ _ _ back o)))

pub opens : (before : Session) (cells : Vec Cell) (n places seed : ℕ) (line : Line) (result : Result (Park Line Seeded) (NotOpened Line Seeded)) (report : Report) (after : State)
    → before.state ≡ Before cells → EmptyLine places line → OpeningFor0 n seed cells line result → TakesUp result report after → OpensOnce before.state before n places seed report (record { state = after })
opens before cells n places seed line result report after e w o t =
    subst (λ (x : State). OpensOnce x (record { state = x }) n places seed report (record { state = after })) (sym e)
    (record { line = line; empty = w; result = result; opening = o; told = taken_up cells n seed line result report after o t })
