use Rattle.std.proofs.Common.{◌*◌, refl, ap, ◌∙◌}
use Rattle.park.proofs.Pages.{word_in_pages, say_in_pages}
use Rattle.park.proofs.cells.say.Goals as goal

pub returns : goal.returns
returns c =
    let v = c.args.cells.now in
    let lent = c.deref_mut.result.now in
    let from = c.index-from.result * 1024 in
    let p = c.args.p.number in
    let same = c.deref_mut.ensures.value in
    let begin = ap (λ i. i * 1024) c.index-from.ensures.value in
    let i = c.index.ensures in
    record {
      items = say_in_pages v lent from p c.index.result c.args.at.place c.args.word same v.ok.0 begin i.value i.small c.args.p.named.0 c.requires.name c.write_both.new.pages c.write_both.ensures.cells;
      place = (refl, refl);
      kept = c.write_both.ensures.kept ∙ word_in_pages v lent from p c.index.result c.args.at.place c.args.word same v.ok.0 begin i.value i.small c.args.p.named.0 c.requires.name;
    }
