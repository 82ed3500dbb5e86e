use Rattle.std.proofs.Common.{Option, subst}
use Rattle.std.proofs.lemmas.Result.{on_ok_weaker}
use Rattle.script.specs.declared.report.Report.{Report}
use Rattle.session.specs.Scripts.{Tells}
use Rattle.session.proofs.Telling.{told_none, told_one}
use Rattle.session.proofs.run.tell_byte.Goals as goal

pub returns-in-Some : goal.returns-in-Some
returns-in-Some c = record {
  fed = c.take_byte.ensures.fed;
  told = λ past holds.
      let t = subst (λ (o : Option Report). Tells past c.args.byte c.args.session.now o c.take_byte.new.session) c.in-Some.is (c.in_ok-report.ensures.told past holds) in
      on_ok_weaker c.add_line.result (told_one past c.args.byte _ _ _ _ c.in-Some.report t) c.add_line.ensures;
}

pub returns-in-None : goal.returns-in-None
returns-in-None c = record {
  fed = c.take_byte.ensures.fed;
  told = λ past holds.
      let t = subst (λ (o : Option Report). Tells past c.args.byte c.args.session.now o c.take_byte.new.session) c.in-None.is (c.in_ok-report.ensures.told past holds) in
      told_none past c.args.byte _ _ _ t;
}
