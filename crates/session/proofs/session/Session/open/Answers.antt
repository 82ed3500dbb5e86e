use Rattle.std.specs.Global.{Vec}
use Rattle.std.proofs.Common.{subst}
use Rattle.terms.specs.declared.word.Cell.{Cell}
use Rattle.session.specs.Sessions.{OpeningFor0}
use Rattle.session.proofs.Openings.{opens}
use Rattle.session.proofs.session.Session.open.Goals as goal

pub returns-in_ok-line-in-Before : goal.returns-in_ok-line-in-Before
returns-in_ok-line-in-Before c =
    let line = c.in_ok-line-in-Before.line in
    let opening = subst (λ (cells : Vec Cell). OpeningFor0 c.args.n c.args.seed cells line c.open_park.result) c.replace-cells.ensures.value c.open_park.ensures in
    opens c.args.self.now c.in-Before.cells _ _ _ line _ _ _ c.in-Before.is c.in_ok-line-in-Before.ensures opening c.take_up.ensures
