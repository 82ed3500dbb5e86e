-- What a bag says of a pick, from what its code finds out.
use Rattle.std.specs.Prelude.{◌≡◌, ℕ, ◌%◌, ◌^◌, ◌<◌, ◌≤◌, Bool, cond, [], length, Some, None, Option}
use Rattle.std.proofs.Common.{sym, ap, ◌∙◌, ⊎_elim, arith}
use Rattle.std.proofs.lemmas.Bool.{cases_lt, le-leb, lt-ltb}
use Rattle.std.proofs.lemmas.List.{nil_from_length}
use Rattle.std.proofs.lemmas.Nat.{mod_below}
use Rattle.std.specs.Cmp.Derive.{both_true}
use Rattle.std.specs.Option.{SomeIff, MatchOption}
use Rattle.terms.specs.declared.message.Mark.TheVariants.{Gone, Copied}
use Rattle.channel.specs.BagOrder.{waiting, places_of, position, mark_of}
use Rattle.channel.specs.declared.bag.Bag.{Bag}

pub copied_where : (c : Bag) (pick : ℕ) → 2 ^ 31 ≤ pick → length (waiting c) < places_of c → Copied ≡ mark_of c pick
copied_where c pick large free = sym (ap (λ (b : Bool). cond b Copied Gone) (both_true (le-leb (2 ^ 31) pick large) (lt-ltb _ _ free)))

pub position_where : (c : Bag) (pick n : ℕ) (r : Option ℕ) → n ≡ length (waiting c) → SomeIff r (0 < n) (pick % n) → MatchOption r (waiting c ≡ []) (λ i. (i ≡ position c pick) × (i < length (waiting c)))
position_where c pick n None l none = nil_from_length (waiting c) (sym l ∙ ⊎_elim (λ (h : 0 < n). absurd (none h)) (λ (h : n ≤ 0). omega (arith, h)) (cases_lt 0 n))
position_where c pick n (Some i) l given =
    let e : i ≡ position c pick = given.1 ∙ ap (λ (k : ℕ). pick % k) l in
    (e, rw (sym l) (rw given.1 (mod_below pick n given.0)))
