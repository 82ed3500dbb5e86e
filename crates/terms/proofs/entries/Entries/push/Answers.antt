use Rattle.std.proofs.Common.{length, ap, ◌∙◌, arith, length-set}
use Rattle.std.proofs.lemmas.List.{length-take-le}
use Rattle.terms.proofs.Hearing.{blanks_behind}
use Rattle.terms.proofs.entries.Entries.push.Goals as goal

pub invariant_of-self : goal.invariant_of-self
invariant_of-self g c =
    let a = c.self.inside in
    let h = c.self.invariant in
    (length-set a.list a.count _ ∙ h.0, omega (arith, length-take-le a.count a.list (omega arith), ap length c.self.view_is, c.requires), blanks_behind a.list a.count _ h.2)
