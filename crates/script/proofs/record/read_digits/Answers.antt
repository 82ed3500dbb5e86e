use Rattle.std.proofs.Common.{◌≤◌, ◌∙◌, sym, length, get_or, take, arith, length-take}
use Rattle.std.proofs.lemmas.Grind.{common_steps}
use Rattle.std.proofs.lemmas.Int.Digits.{digits_value_more}
use Rattle.script.proofs.Fields.{digits_below, digits_more, no_digit_at, digit_read}
use Rattle.script.proofs.record.read_digits.Goals as goal

pub overflow_mul-value : goal.overflow_mul-value
overflow_mul-value c = let few : length (take c.loop-byte.byte-index c.args.digits.now) ≤ 18 = simp length-take (omega arith) in omega (arith, digits_below _ 18 c.loop-byte.invariant.0 few)

pub returns-in_err-value : goal.returns-in_err-value
returns-in_err-value c =
    let none = no_digit_at c.args.digits.now c.loop-byte.byte-index c.loop-byte-test.true in grind (arith, common_steps)

pub overflow_add-value : goal.overflow_add-value
overflow_add-value c =
    let few : length (take c.loop-byte.byte-index c.args.digits.now) ≤ 18 = simp length-take (omega arith) in
    let digit = digit_read (get_or c.args.digits.now c.loop-byte.byte-index 0) c.in_ok-value.field-0 (sym c.in_ok-value.was ∙ c.read_digit.ensures) in
    omega (arith, digits_below _ 18 c.loop-byte.invariant.0 few, digit.2)

pub loop-byte-preserved : goal.loop-byte-preserved
loop-byte-preserved c =
    let more = digits_more c.args.digits.now c.loop-byte.byte-index c.loop-byte-test.true in
    let value = digits_value_more 10 c.args.digits.now c.loop-byte.byte-index c.loop-byte-test.true in
    let digit = digit_read (get_or c.args.digits.now c.loop-byte.byte-index 0) c.in_ok-value.field-0 (sym c.in_ok-value.was ∙ c.read_digit.ensures) in
    grind (arith, common_steps)
