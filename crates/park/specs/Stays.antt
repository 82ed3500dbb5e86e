-- A phase is opened within the limits.
use Rattle.std.specs.Prelude.{◌<◌, Bool, true}
use Rattle.terms.specs.declared.answer.Progress.{Progress}
use Rattle.terms.specs.declared.answer.Progress.TheVariants.{Opened, Answered}
use Rattle.terms.specs.declared.rules.Next.{Next}
use Rattle.terms.specs.declared.rules.Next.TheVariants as next
use Rattle.terms.specs.declared.word.Place.{Place}
use Rattle.terms.specs.Places.{within}

abbrev pub opened_within : Progress → Bool
opened_within (Opened at w) = within at
opened_within (Answered answer) = true

-- a next round or selector is one of the sixteen
abbrev pub NextFits : Place → Next → Type 0
NextFits at (next.Answer answer) = Unit {0}
NextFits at (next.Round group) = at.round < 16
NextFits at next.Selector = at.selector < 16
