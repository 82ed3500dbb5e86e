-- What a splitter holds of the bytes that it has been fed, and what it tells of them.
use Rattle.std.specs.Prelude.{◌≡◌, ℕ, min, Bool, true, false, cond, List, [], ◌∷◌, ◌++◌, length, take, MatchBool, ◌==◌}
use Rattle.script.specs.Splits.{ended, unended, some, records}
use Rattle.script.specs.declared.split.Last.{Last}
use Rattle.script.specs.declared.split.Last.TheVariants.{RecordEnd, Cr, Other}
use Rattle.script.specs.declared.split.Splitter.{Splitter}

-- whether the last byte is a CR
abbrev pub ends_in_cr : List ℕ → Bool
ends_in_cr [] = false
ends_in_cr (b ∷ []) = b == 13
ends_in_cr (b ∷ c ∷ bs) = ends_in_cr (c ∷ bs)

-- a byte that comes last
abbrev pub last_byte : ℕ → Last
last_byte byte = cond (byte == 13) Cr Other

-- what comes last in a text, and the end of a record before it where it is empty
abbrev pub last_of : List ℕ → Last
last_of text = cond (some text) (cond (ends_in_cr text) Cr Other) RecordEnd

abbrev pub is_cr : Last → Bool
is_cr RecordEnd = false
is_cr Cr = true
is_cr Other = false

-- the splitter shows this text to its reader: how long it is, where 81 stands for more than 80, and its first 80 bytes
pub record Shows (s : Splitter) (text : List ℕ) : Type 0 where
  pub count : min 81 s.len ≡ min 81 (length text)
  pub bytes : take (min 80 s.len) s.bytes ≡ take 80 text

-- the splitter keeps this text, to which more may come: as above with 82 for more than 81
pub record Keeps (s : Splitter) (text : List ℕ) : Type 0 where
  pub count : s.len ≡ min 82 (length text)
  pub bytes : take (min 80 s.len) s.bytes ≡ take 80 text

-- all that the splitter has been fed is `past`
pub record Holds (s : Splitter) (past : List ℕ) : Type 0 where
  pub last : s.last ≡ last_of (unended past)
  pub text : some (unended past) ≡ true → Keeps s (unended past)

-- fed one byte more: where the answer is true one more record has ended, which the splitter shows, and else none has
pub record Fed (past : List ℕ) (byte : ℕ) (answer : Bool) (s : Splitter) : Type 0 where
  pub holds : Holds s (past ++ byte ∷ [])
  pub given : MatchBool answer ((text : List ℕ) × (ended (past ++ byte ∷ []) ≡ ended past ++ text ∷ []) × Shows s text) (ended (past ++ byte ∷ []) ≡ ended past)

-- whatever it has been fed before, it is fed one byte more
abbrev pub Feeds : Splitter → ℕ → Bool → Splitter → Type 0
Feeds before byte answer after = (past : List ℕ) → Holds before past → Fed past byte answer after

-- fed to the end: where the answer is true one more record has ended, which the splitter shows, and then these are all the records
pub record Finished (past : List ℕ) (answer : Bool) (s : Splitter) : Type 0 where
  pub given : records past ≡ ended past ++ cond answer (unended past ∷ []) []
  pub shows : answer ≡ true → Shows s (unended past)

-- whatever it has been fed, that is all
abbrev pub Finishes : Splitter → Bool → Type 0
Finishes s answer = (past : List ℕ) → Holds s past → Finished past answer s
