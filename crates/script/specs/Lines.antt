-- The line that answers a record: a letter, the refusal's number, the controller acted on and its answer.
use Rattle.std.specs.Prelude.{ℕ, cond, List, [], ◌∷◌, ◌++◌, Some, None, decimal, Option, ◌==◌}
use Rattle.std.proofs.Math.Utf8.{encode}
use Rattle.terms.specs.Numbers.{number_of, letter_of_answer}
use Rattle.terms.specs.declared.answer.Answer.{Answer}
use Rattle.terms.specs.declared.act.Act.{Act}
use Rattle.terms.specs.declared.act.Act.TheVariants as act
use Rattle.script.specs.declared.report.Kind.{Kind}
use Rattle.script.specs.declared.report.Kind.TheVariants.{Open, Call, Step, Crash, Deliver}
use Rattle.script.specs.declared.report.Report.{Report}
use Rattle.script.specs.declared.report.Report.TheVariants.{NoRecord, Refused, Opened, Acted}

abbrev pub kind_of_act : Act → Kind
kind_of_act (act.Call p) = Call
kind_of_act (act.Step p) = Step
kind_of_act (act.Crash p) = Crash
kind_of_act (act.Deliver pick) = Deliver

-- O, C, S, X and D, by their codes
abbrev pub act_letter : Kind → ℕ
act_letter Open = 79
act_letter Call = 67
act_letter Step = 83
act_letter Crash = 88
act_letter Deliver = 68

-- the letter of the act, and a question mark (63) beside the number 15
abbrev pub first_column : Report → ℕ
first_column NoRecord = 63
first_column (Refused kind why) = cond (number_of why == 15) 63 (act_letter kind)
first_column Opened = 79
first_column (Acted kind name answer) = act_letter kind

-- the number of the refusal, and 0 without one
abbrev pub second_column : Report → ℕ
second_column NoRecord = 15
second_column (Refused kind why) = number_of why
second_column Opened = 0
second_column (Acted kind name answer) = 0

-- the controller acted on, and 0 without one
abbrev pub third_column : Report → ℕ
third_column NoRecord = 0
third_column (Refused kind why) = 0
third_column Opened = 0
third_column (Acted kind name answer) = name

-- the letter of an answer, and a hyphen (45) for none
abbrev pub answer_letter : Option Answer → ℕ
answer_letter None = 45
answer_letter (Some answer) = letter_of_answer answer

-- the controller's answer, and a hyphen beside a 0
abbrev pub fourth_column : Report → ℕ
fourth_column NoRecord = 45
fourth_column (Refused kind why) = 45
fourth_column Opened = 45
fourth_column (Acted kind name answer) = cond (name == 0) 45 (answer_letter answer)

-- the columns with commas (44) between them, and CR LF at the end; a letter is written as its one byte
abbrev pub line : ℕ → ℕ → ℕ → ℕ → List ℕ
line letter number name answer = encode letter ++ (44 ∷ (decimal number ++ (44 ∷ (decimal name ++ (44 ∷ (encode answer ++ (13 ∷ 10 ∷ [])))))))

abbrev pub line_of : Report → List ℕ
line_of x = line (first_column x) (second_column x) (third_column x) (fourth_column x)
