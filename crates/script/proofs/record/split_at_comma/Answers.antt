use Rattle.std.proofs.Common.{◌==◌, rules, tests, arith}
use Rattle.std.proofs.lemmas.Bool.Decides.{nat_tests}
use Rattle.std.proofs.lemmas.Iterator.{YieldsList-from_slice}
use Rattle.std.proofs.lemmas.Iterator.Search.{position_from_yields_List}
use Rattle.std.proofs.lemmas.List.{take_rest}
use Rattle.script.proofs.Fields.{one_field, first_field}
use Rattle.script.proofs.record.split_at_comma.Goals as goal

pub returns-in_err-comma : goal.returns-in_err-comma
returns-in_err-comma c =
    let at = position_from_yields_List (λ b. b == 44) _ _ _ c.position.ensures.ran (YieldsList-from_slice c.args.bytes.now cc) (λ x b q k. search (rules, tests)) in
    let one = one_field c.args.bytes.now in grind (arith, nat_tests)

pub returns : goal.returns
returns c =
    let at = position_from_yields_List (λ b. b == 44) _ _ _ c.position.ensures.ran (YieldsList-from_slice c.args.bytes.now cc) (λ x b q k. search (rules, tests)) in
    let first = first_field c.args.bytes.now in rw take_rest (grind (arith, nat_tests))
