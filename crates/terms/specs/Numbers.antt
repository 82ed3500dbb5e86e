-- The number of each refusal and the letter of each answer.
use Rattle.std.specs.Prelude.{ℕ}
use Rattle.terms.specs.declared.answer.Answer.{Answer}
use Rattle.terms.specs.declared.answer.Answer.TheVariants.{Yes, No, Undecided}
use Rattle.terms.specs.declared.refusal.Refusal.{Refusal}
use Rattle.terms.specs.declared.refusal.Refusal.TheVariants.{Count, Memory, Places, Name, Down, Called, NotReady, NoPlace, Nothing, Leftover, Message, NoAnswer, Taken, Permit, Line}

abbrev pub number_of : Refusal → ℕ
number_of Count = 1
number_of Memory = 2
number_of Places = 3
number_of Name = 4
number_of Down = 5
number_of Called = 6
number_of NotReady = 7
number_of NoPlace = 8
number_of Nothing = 9
number_of Leftover = 10
number_of Message = 11
number_of NoAnswer = 12
number_of Taken = 13
number_of Permit = 14
number_of Line = 15

-- y, n and u, by their codes
abbrev pub letter_of_answer : Answer → ℕ
letter_of_answer Yes = 121
letter_of_answer No = 110
letter_of_answer Undecided = 117
