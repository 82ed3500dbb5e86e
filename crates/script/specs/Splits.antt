-- How the bytes of a script fall into records: each CR LF ends one, and so does the end of the script.
use Rattle.std.specs.Prelude.{ℕ, Bool, true, false, cond, ◌&&◌, List, [], ◌∷◌, ◌++◌, ◌==◌}

-- an empty record that ended in front of the others
abbrev pub ended_before : List (List ℕ) × List ℕ → List (List ℕ) × List ℕ
ended_before x = ([] ∷ x.0, x.1)

-- one byte more in front belongs to the first record, or to the bytes behind where there is no record
abbrev pub added : ℕ → List (List ℕ) → List ℕ → List (List ℕ) × List ℕ
added b [] t = ([], b ∷ t)
added b (r ∷ rs) t = ((b ∷ r) ∷ rs, t)

abbrev pub byte_before : ℕ → List (List ℕ) × List ℕ → List (List ℕ) × List ℕ
byte_before b x = added b x.0 x.1

-- the records that CR (13) LF (10) ends, and the bytes behind the last of them
abbrev pub cut : List ℕ → List (List ℕ) × List ℕ
cut [] = ([], [])
cut (b ∷ []) = ([], b ∷ [])
cut (b ∷ c ∷ bs) = cond (b == 13 && c == 10) (ended_before (cut bs)) (byte_before b (cut (c ∷ bs)))

abbrev pub ended : List ℕ → List (List ℕ)
ended bs = (cut bs).0

abbrev pub unended : List ℕ → List ℕ
unended bs = (cut bs).1

-- whether there is a byte
abbrev pub some : List ℕ → Bool
some [] = false
some (b ∷ bs) = true

-- the records of a whole script: the ended ones, and the bytes behind them if there are any
abbrev pub records : List ℕ → List (List ℕ)
records bs = ended bs ++ cond (some (unended bs)) (unended bs ∷ []) []
