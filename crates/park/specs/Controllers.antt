-- What happens to one controller's record.
use Rattle.std.specs.Prelude.{ℕ, ◌-◌, Bool, true, false, cond, not, ◌&&◌, List, [], replicate, Some, None, Option, count_ones, nat_le, slice_index_or, slice_set}
use Rattle.terms.specs.declared.answer.Answer.{Answer}
use Rattle.terms.specs.declared.message.Message.{Message}
use Rattle.terms.specs.declared.word.Place.{Place}
use Rattle.terms.specs.declared.word.Word.{Word}
use Rattle.terms.specs.Heard.{alone, blank, heard_from, with_heard}
use Rattle.terms.specs.Places.{same_place}
use Rattle.park.specs.declared.controller.Controller.{Controller}
use Rattle.park.specs.declared.controller.Stage.{Stage}
use Rattle.park.specs.declared.controller.Stage.TheVariants.{Uncalled, Asking, Answered}

-- as the park opens: up, with no call made and nothing heard
abbrev pub uncalled : Controller
uncalled = record { up = true; stage = Uncalled; heard = 0; words = replicate 15 blank }

-- what stands where there is no controller
abbrev pub nobody : Controller
nobody = record { up = false; stage = Uncalled; heard = 0; words = [] }

-- controller p's record, of all records
abbrev pub record_of : List Controller → ℕ → Controller
record_of list p = slice_index_or list (p - 1) nobody

abbrev pub with_record : List Controller → ℕ → Controller → List Controller
with_record list p c = slice_set list (p - 1) c

abbrev pub taken_down : Controller → Controller
taken_down c = record { up = false; stage = c.stage; heard = c.heard; words = c.words }

abbrev pub answered : Controller → Answer → Controller
answered c answer = record { up = c.up; stage = Answered answer; heard = c.heard; words = c.words }

-- p asks at a new place: it has heard itself alone, its own kept word
abbrev pub asking : Controller → ℕ → Place → Word → Controller
asking c p at kept = record { up = c.up; stage = Asking at; heard = alone p; words = slice_set c.words (p - 1) kept }

-- one ECHO more is heard
abbrev pub hearing : Controller → Message → Controller
hearing c m = record { up = c.up; stage = c.stage; heard = with_heard c.heard m.sender; words = slice_set c.words (m.sender - 1) m.word }

-- an ECHO counts only for a caller that waits in that selector, round and phase and has not heard its sender
abbrev pub counts : ℕ → Controller → Place → Message → Bool
counts majority c at m = same_place at m.place && (not (nat_le majority (count_ones c.heard)) && not (heard_from c.heard m.sender))

-- the records once an ECHO comes to its receiver, which has this stage: it is heard, or dropped
abbrev pub after_echo : ℕ → List Controller → Message → Stage → List Controller
after_echo majority list m Uncalled = list
after_echo majority list m (Answered answer) = list
after_echo majority list m (Asking at) =
    cond (counts majority (record_of list m.receiver) at m) (with_record list m.receiver (hearing (record_of list m.receiver) m)) list

-- where a caller is ready: it asks there and has heard a majority
abbrev pub ready_by : ℕ → ℕ → Stage → Option Place
ready_by majority heard Uncalled = None
ready_by majority heard (Answered answer) = None
ready_by majority heard (Asking at) = cond (nat_le majority (count_ones heard)) (Some at) None

abbrev pub ready_at : ℕ → Controller → Option Place
ready_at majority c = ready_by majority c.heard c.stage

abbrev pub has_called : Stage → Bool
has_called Uncalled = false
has_called (Asking at) = true
has_called (Answered answer) = true

abbrev pub answer_in : Stage → Option Answer
answer_in Uncalled = None
answer_in (Asking at) = None
answer_in (Answered answer) = Some answer
