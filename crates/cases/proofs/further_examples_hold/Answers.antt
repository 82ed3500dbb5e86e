use Rattle.std.proofs.Common.{refl}
use Rattle.cases.specs.Further as further
use Rattle.cases.proofs.further_examples_hold.Goals as goal

pub returns : goal.returns
returns c =
    let indices : further.RowHolds further.indices = (refl, (refl, (refl, tt))) in
    let draws : further.RowHolds further.draws = (refl, (refl, (refl, (refl, (refl, (refl, (refl, tt))))))) in
    let listed : further.RowHolds further.listed = (refl, (refl, (refl, (refl, (refl, tt))))) in
    let readings : further.RowHolds further.readings = (refl, (refl, (refl, tt))) in
    let smallest : further.RowHolds further.smallest = (λ own coin round groups. refl, (λ own coin round groups. refl, (λ caller. refl, (λ caller. refl, tt)))) in
    let limits : further.RowHolds further.limits = (refl, (refl, (refl, (refl, (refl, (refl, tt)))))) in
    let messages : further.RowHolds further.messages = (refl, (refl, (refl, (refl, (refl, (refl, (refl, (refl, (refl, (refl, (refl, (refl, (refl, (refl, tt)))))))))))))) in
    let numbers : further.RowHolds further.numbers = (refl, (refl, (refl, (refl, (refl, (refl, (refl, (refl, (refl, (refl, (refl, (refl, (refl, (refl, (refl, tt))))))))))))))) in
    record { rows = refl; hold = (indices, (draws, (listed, (readings, (smallest, (limits, (messages, (numbers, tt)))))))) }
