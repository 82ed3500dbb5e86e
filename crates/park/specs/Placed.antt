-- Records in which whoever asks does so at a place within the limits.
use Rattle.std.specs.Prelude.{Bool, true, List}
use Rattle.terms.specs.Places.{within}
use Rattle.terms.specs.Readings.{every}
use Rattle.park.specs.declared.controller.Controller.{Controller}
use Rattle.park.specs.declared.controller.Stage.{Stage}
use Rattle.park.specs.declared.controller.Stage.TheVariants.{Uncalled, Asking, Answered}

abbrev pub placed : Stage → Bool
placed Uncalled = true
placed (Asking at) = within at
placed (Answered answer) = true

abbrev pub all_placed : List Controller → Bool
all_placed list = every (λ c. placed c.stage) list
