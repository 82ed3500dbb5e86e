use Rattle.std.proofs.Common.{◌∙◌, rules, tests}
use Rattle.std.proofs.lemmas.Iterator.{YieldsList-from_slice}
use Rattle.std.proofs.lemmas.Iterator.Consumers.{YieldsList-from_filter_map, reduce_from_yields_List}
use Rattle.std.specs.Ordering.{min_by_ordering}
use Rattle.terms.proofs.Read.{smallest_is}
use Rattle.terms.proofs.reading.smallest.Goals as goal

pub returns : goal.returns
returns g c =
    let order = g.T.Ord.cmp in
    reduce_from_yields_List (λ x y. min_by_ordering (order x y) x y) _ _ c.min.ensures.ran
    (YieldsList-from_filter_map _ (λ o. o) (YieldsList-from_slice c.args.entries.now cc) c.filter_map.ensures.closure (λ x r q k. search (rules, tests)))
    ∙ smallest_is order g.met.T.Ord.total c.args.entries.now
