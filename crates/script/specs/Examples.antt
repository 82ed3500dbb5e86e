-- Examples of records, and of the records of whole scripts.
use Rattle.std.specs.Prelude.{◌≡◌, ℕ, Bool, true, false, List, [], ◌∷◌, map, Some, None, codes, Option}
use Rattle.script.specs.Records.{record_of}
use Rattle.script.specs.Splits.{records}
use Rattle.script.specs.declared.record.Record.{Record}
use Rattle.script.specs.declared.record.Record.TheVariants.{Open, Act}
use Rattle.terms.specs.declared.act.Act.TheVariants.{Call, Step, Crash, Deliver}

-- whether an opening was accepted before, some bytes, and which record they are
abbrev pub rows : List (Bool × List ℕ × Option Record)
rows =
    (false, codes "O,1,0,0", Some (Open 1 0 0))
    ∷ (true, codes "C,1", Some (Act (Call 1)))
    ∷ (true, codes "S,15", Some (Act (Step 15)))
    ∷ (true, codes "X,0", Some (Act (Crash 0)))
    ∷ (true, codes "D,4294967295", Some (Act (Deliver 4294967295)))
    ∷ (true, codes "D,4294967296", None)
    ∷ (true, codes "C,00000000000000000007", Some (Act (Call 7)))
    ∷ (true, codes "C,000000000000000000007", None)
    ∷ (false, codes "O,15,1024,18446744073709551615", Some (Open 15 1024 18446744073709551615))
    ∷ (false, codes "O,15,1024,18446744073709551616", None)
    ∷ (false, codes "O,15,1025,0", None)
    ∷ (false, codes "O,4294967296,0,0", None)
    ∷ (false, codes "O,00000000000000000001,00000000000000000000,00000000000000000009", Some (Open 1 0 9))
    ∷ (false, codes "O,1,0", None)
    ∷ (false, codes "O,1,0,0,0", None)
    ∷ (true, codes "C", None)
    ∷ (true, codes "C,", None)
    ∷ (true, codes "C,1,", None)
    ∷ (true, codes "\"C\",1", None)
    ∷ (true, codes "C,\"1\"", None)
    ∷ (true, codes "C, 1", None)
    ∷ (true, codes "c,1", None)
    ∷ (true, codes "CC,1", None)
    ∷ (false, [], None)
    ∷ (true, codes "O,1,0,0", None)
    ∷ (false, codes "C,1", None)
    ∷ []

abbrev pub RecordsHold : Type 0
RecordsHold = map (λ row. record_of row.0 row.1) rows ≡ map (λ row. row.2) rows

-- the bytes of a script, and of its records
abbrev pub scripts : List (List ℕ × List (List ℕ))
scripts =
    ([], [])
    ∷ (13 ∷ 10 ∷ [], [] ∷ [])
    ∷ (13 ∷ 10 ∷ 13 ∷ 10 ∷ [], [] ∷ [] ∷ [])
    ∷ (67 ∷ [], (67 ∷ []) ∷ [])
    ∷ (67 ∷ 13 ∷ 10 ∷ [], (67 ∷ []) ∷ [])
    ∷ (67 ∷ 13 ∷ 10 ∷ 68 ∷ [], (67 ∷ []) ∷ (68 ∷ []) ∷ [])
    ∷ (67 ∷ 10 ∷ 68 ∷ 13 ∷ [], (67 ∷ 10 ∷ 68 ∷ 13 ∷ []) ∷ [])
    ∷ (13 ∷ 13 ∷ 10 ∷ 10 ∷ [], (13 ∷ []) ∷ (10 ∷ []) ∷ [])
    ∷ []

abbrev pub ScriptsHold : Type 0
ScriptsHold = map (λ row. records row.0) scripts ≡ map (λ row. row.1) scripts
