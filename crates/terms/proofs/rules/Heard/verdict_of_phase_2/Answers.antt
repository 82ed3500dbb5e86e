use Rattle.std.proofs.Common.{◌∙◌, rules}
use Rattle.terms.proofs.Read.{read_sides, smallest_side, smallest_number}
use Rattle.terms.proofs.rules.Heard.verdict_of_phase_2.Goals as goal

pub returns : goal.returns
returns c =
    let heard = c.args.self in
    let name = c.smallest.ensures ∙ smallest_number heard.names.now in
    let group = c.reading.ensures ∙ read_sides heard.groups.now in
    let least = c.smallest-2.ensures ∙ smallest_side heard.groups.now in
    search rules
