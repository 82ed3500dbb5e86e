use Rattle.std.proofs.Common.{◌∙◌, rules, tests}
use Rattle.std.proofs.lemmas.Iterator.{YieldsList-from_slice}
use Rattle.std.proofs.lemmas.Iterator.Search.{all_from_yields_List}
use Rattle.std.specs.Option.{option_eq}
use Rattle.terms.proofs.Read.{all_alike_is}
use Rattle.terms.proofs.reading.all_alike.Goals as goal

pub returns : goal.returns
returns g c =
    let same = g.T.PartialEq.eq in
    all_from_yields_List (option_eq same c.args.first) _ _ _ c.all.ensures.ran (YieldsList-from_slice c.args.entries.now cc) (λ x b q k. search (rules, tests))
    ∙ all_alike_is same c.args.first c.args.entries.now
