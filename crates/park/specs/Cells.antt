-- Where the cells of a controller lie, and what is written to them.
use Rattle.std.specs.Prelude.{ℕ, ◌+◌, ◌-◌, ◌*◌, List, slice_index_or, slice_set}
use Rattle.terms.specs.declared.word.Cell.{Cell}
use Rattle.terms.specs.declared.word.Cell.TheVariants.{Empty, Holds}
use Rattle.terms.specs.declared.word.Place.{Place}
use Rattle.terms.specs.declared.word.Word.{Word}
use Rattle.terms.specs.Places.{index_of}

abbrev pub cell_of : Place → ℕ
cell_of at = index_of at.selector at.round at.phase

-- controller p's pages begin at (p - 1) × 1,024, the kept page first
abbrev pub kept_at : ℕ → Place → ℕ
kept_at p at = (p - 1) * 1024 + cell_of at

abbrev pub said_at : ℕ → Place → ℕ
said_at p at = (p - 1) * 1024 + (512 + cell_of at)

-- the word that a cell keeps once a word comes: the first
abbrev pub first_word : Cell → Word → Word
first_word Empty w = w
first_word (Holds v) w = v

-- the word that p keeps at a place once w comes
abbrev pub kept_word : List Cell → ℕ → Place → Word → Word
kept_word cells p at w = first_word (slice_index_or cells (kept_at p at) Empty) w

-- w comes to p's kept cell
abbrev pub keeping : List Cell → ℕ → Place → Word → List Cell
keeping cells p at w = slice_set cells (kept_at p at) (Holds (kept_word cells p at w))

-- p says w: it comes to its kept cell, and stands in its said cell
abbrev pub saying : List Cell → ℕ → Place → Word → List Cell
saying cells p at w = slice_set (keeping cells p at w) (said_at p at) (Holds w)
