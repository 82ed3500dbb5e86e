use Rattle.std.proofs.Common.{Option, subst}
use Rattle.std.proofs.lemmas.Result.{on_ok_weaker}
use Rattle.script.specs.declared.report.Report.{Report}
use Rattle.session.specs.Scripts.{TellsLast}
use Rattle.session.proofs.Telling.{rest_none, rest_one}
use Rattle.session.proofs.run.tell_last.Goals as goal

pub returns-in-Some : goal.returns-in-Some
returns-in-Some c past holds =
    let t = subst (λ (o : Option Report). TellsLast past c.args.session.now o c.take_end.new.session) c.in-Some.is (c.in_ok-report.ensures.told past holds) in
    on_ok_weaker c.add_line.result (rest_one past _ _ _ _ c.in-Some.report t) c.add_line.ensures

pub returns-in-None : goal.returns-in-None
returns-in-None c past holds =
    let t = subst (λ (o : Option Report). TellsLast past c.args.session.now o c.take_end.new.session) c.in-None.is (c.in_ok-report.ensures.told past holds) in
    rest_none past _ _ _ t
