-- What is told of a script while its bytes come: the report of each record, once that has ended.
use Rattle.std.specs.Prelude.{◌≡◌, ℕ, List, [], ◌∷◌, ◌++◌, Some, None, Option}
use Rattle.script.specs.Lines.{line_of}
use Rattle.script.specs.Records.{record_of}
use Rattle.script.specs.Splits.{ended, unended, records}
use Rattle.script.specs.declared.report.Report.{Report}
use Rattle.script.specs.Splitters.{Holds}
use Rattle.session.specs.declared.run.Teller.{Teller}
use Rattle.session.specs.declared.session.Session.{Session}
use Rattle.session.specs.Sessions.{Answers, is_open}

-- the record of these bytes is answered
abbrev pub AnswersText : Session → List ℕ → Report → Session → Type 0
AnswersText before text report after = Answers before (record_of (is_open before) text) report after

-- one byte more has come: the record that ends with it is answered, and otherwise nothing happens
abbrev pub Tells : List ℕ → ℕ → Session → Option Report → Session → Type 0
Tells past byte before None after = (ended (past ++ byte ∷ []) ≡ ended past) × (after ≡ before)
Tells past byte before (Some report) after =
    (text : List ℕ) × (ended (past ++ byte ∷ []) ≡ ended past ++ text ∷ []) × AnswersText before text report after

-- all bytes have come: a last record that no CR LF ended is answered, and otherwise nothing happens
abbrev pub TellsLast : List ℕ → Session → Option Report → Session → Type 0
TellsLast past before None after = (records past ≡ ended past) × (after ≡ before)
TellsLast past before (Some report) after = (records past ≡ ended past ++ unended past ∷ []) × AnswersText before (unended past) report after

-- these records are answered one after another, with these reports
abbrev pub AnswersAll : Session → List (List ℕ) → List Report → Session → Type 0
AnswersAll before [] reports after = (reports ≡ []) × (after ≡ before)
AnswersAll before (text ∷ texts) reports after =
    (report : Report) × (rest : List Report) × (between : Session) × (reports ≡ report ∷ rest) × AnswersText before text report between × AnswersAll between texts rest after

-- the lines that tell these reports
abbrev pub lines_of : List Report → List ℕ
lines_of [] = []
lines_of (report ∷ reports) = line_of report ++ lines_of reports

-- these records, and no others, are answered, and these are the lines of their reports
pub record Writes (texts : List (List ℕ)) (before : Session) (lines : List ℕ) (after : Session) : Type 0 where
  pub reports : List Report
  pub answers : AnswersAll before texts reports after
  pub lines_are : lines ≡ lines_of reports

-- these bytes have come after the past ones: the records that end with them are told by these lines
abbrev pub TellsAll : List ℕ → List ℕ → Session → List ℕ → Session → Type 0
TellsAll past bytes before lines after = (texts : List (List ℕ)) × (ended (past ++ bytes) ≡ ended past ++ texts) × Writes texts before lines after

-- all bytes have come: a last record that no CR LF ended is told
abbrev pub TellsRest : List ℕ → Session → List ℕ → Session → Type 0
TellsRest past before lines after = (texts : List (List ℕ)) × (records past ≡ ended past ++ texts) × Writes texts before lines after

-- a whole script: its records, in their order, are told by these lines
abbrev pub TellsScript : List ℕ → Session → List ℕ → Session → Type 0
TellsScript script before lines after = Writes (records script) before lines after

-- However a script is cut into pieces, what is told of the pieces and at the end is what is told of the script.
pub record PiecesMakeTheWhole : Type 0 where
  pub pieces : (past xs ys : List ℕ) (a b c : Session) (u v : List ℕ) → TellsAll past xs a u b → TellsAll (past ++ xs) ys b v c → TellsAll past (xs ++ ys) a (u ++ v) c
  pub whole : (script : List ℕ) (a b c : Session) (u v : List ℕ) → TellsAll [] script a u b → TellsRest script b v c → TellsScript script a (u ++ v) c

-- lines of which this holds are added to a text
abbrev pub Adds : List ℕ → List ℕ → (List ℕ → Type 0) → Type 0
Adds before after Told = (lines : List ℕ) × (after ≡ before ++ lines) × Told lines

-- Below, the teller `before` has taken some bytes in, whatever they are.

-- it has taken these bytes in as well
abbrev pub TakesIn : Teller → List ℕ → Teller → Type 0
TakesIn before bytes after = (past : List ℕ) → Holds before.splitter past → Holds after.splitter (past ++ bytes)

-- it answers what ends with one byte more
abbrev pub AnswersByte : Teller → ℕ → Option Report → Teller → Type 0
AnswersByte before byte told after = (past : List ℕ) → Holds before.splitter past → Tells past byte before.session told after.session

-- it answers what the end of the script ends
abbrev pub AnswersLast : Teller → Option Report → Teller → Type 0
AnswersLast before told after = (past : List ℕ) → Holds before.splitter past → TellsLast past before.session told after.session

-- it adds to a text the lines of the records that end with one of these bytes
abbrev pub AddsLines : Teller → List ℕ → List ℕ → List ℕ → Teller → Type 0
AddsLines before bytes text longer after = (past : List ℕ) → Holds before.splitter past → Adds text longer (λ lines. TellsAll past bytes before.session lines after.session)

-- it adds to a text the line of a record that the end of the script ends
abbrev pub AddsLast : Teller → List ℕ → List ℕ → Teller → Type 0
AddsLast before text longer after = (past : List ℕ) → Holds before.splitter past → Adds text longer (λ lines. TellsRest past before.session lines after.session)
