use Rattle.std.proofs.Common.{◌≡◌, ◌-◌, ◌/◌, ◌%◌, ◌^◌, ◌≤◌, eqb, sym, ap, ◌∙◌, arith, pow_mono, le-ltb}
use native.Mathlib.Nat.{div-eq_of_lt}
use Rattle.terms.proofs.heard.has_heard.Goals as goal

pub returns-else-bit-lt16 : goal.returns-else-bit-lt16
returns-else-bit-lt16 c =
    let bit = c.args.p - 1 in
    let e : c.saturating_sub-bit.result ≡ bit = c.saturating_sub-bit.ensures in
    let far : 2 ^ 16 ≤ 2 ^ bit = pow_mono {i = 16} {j = bit} (omega arith) in
    let none : c.args.set / 2 ^ bit ≡ 0 = div-eq_of_lt (omega arith) in
    le-ltb _ _ c.if-bit-lt16.false ∙ sym (ap (λ n. eqb (n % 2) 1) none)
