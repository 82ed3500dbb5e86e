-- A list of 15 places with blanks behind its first entries is those entries, filled up with blanks.
use Rattle.std.specs.Prelude.{◌≡◌, ℕ, ◌-◌, ◌≤◌, List, ◌++◌, length, take, drop, replicate, None, Option}
use Rattle.std.proofs.Common.{sym, ap, ◌∙◌, arith}
use Rattle.std.proofs.lemmas.List.{take-append-drop, length-take-le}

pub filled_again : {A R : Type 0} (make : List (Option A) → ℕ → R) (list : List (Option A)) (count : ℕ) → length list ≡ 15 → count ≤ 15 → drop count list ≡ replicate (15 - count) None
    → make (take count list ++ replicate (15 - length (take count list)) None) (length (take count list)) ≡ make list count
filled_again make list count l h e =
    let n : length (take count list) ≡ count = length-take-le count list (omega arith) in
    ap (λ k. make (take count list ++ replicate (15 - k) None) k) n
    ∙ ap (λ rest. make (take count list ++ rest) count) (sym e)
    ∙ ap (λ whole. make whole count) (take-append-drop count list)
