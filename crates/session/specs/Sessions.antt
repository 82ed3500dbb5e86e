-- What a session answers to each record, and what becomes of the session.
use Rattle.std.specs.Prelude.{◌≡◌, ℕ, min, Bool, true, false, [], replicate, Some, None, Ok, Err, vec_items, vec_len, Option, Result}
use Rattle.std.specs.Global.{Vec}
use Rattle.channel.specs.LineOrder.{waiting, places_of}
use Rattle.channel.specs.contracts.line.LineChannel.TheImpl as line-channel
use Rattle.channel.specs.declared.line.Line.{Line}
use Rattle.coins.specs.SeededCoins as seeded-coins
use Rattle.coins.specs.declared.seeded.Seeded.{Seeded}
use Rattle.park.specs.Opening.{Opening}
use Rattle.park.specs.Sound.{Sound}
use Rattle.park.specs.declared.park.NotOpened.{NotOpened}
use Rattle.park.specs.declared.park.Park.{Park}
use Rattle.terms.specs.declared.act.Act.{Act}
use Rattle.script.specs.declared.record.Record.{Record}
use Rattle.script.specs.declared.record.Record.TheVariants as asked
use Rattle.script.specs.declared.report.Kind.TheVariants as kind
use Rattle.script.specs.declared.report.Report.{Report}
use Rattle.script.specs.declared.report.Report.TheVariants.{NoRecord, Refused, Opened}
use Rattle.terms.specs.declared.word.Cell.{Cell}
use Rattle.terms.specs.declared.word.Cell.TheVariants.{Empty}
use Rattle.session.specs.declared.session.Session.{Session}
use Rattle.session.specs.declared.session.State.{State}
use Rattle.session.specs.declared.session.State.TheVariants.{Before, Open}
use Rattle.session.specs.Reports.{Reports}

abbrev pub holds_park : State → Bool
holds_park (Before cells) = false
holds_park (Open park) = true

abbrev pub is_open : Session → Bool
is_open session = holds_park session.state

-- an open park has what every open park has; before an opening there is nothing to say
abbrev pub SoundIn : State → Type 0
SoundIn (Before cells) = Unit {0}
SoundIn (Open park) = Sound park

-- not open, with cells for the largest park
pub record New (session : Session) : Type 0 where
  pub cells : Vec Cell
  pub has : session ≡ record { state = Before cells }
  pub empty : vec_items cells ≡ replicate 15360 Empty
  pub enough : vec_len cells ≡ 15360

-- it is told that this is no record, and nothing changes
abbrev pub Unread : Session → Report → Session → Type 0
Unread before report after = (report ≡ NoRecord) × (after ≡ before)

-- a line of so many places, 65,535 at most, in which nothing waits
abbrev pub EmptyLine : ℕ → Line → Type 0
EmptyLine places line = (waiting line ≡ []) × (places_of line ≡ min 65535 places)

-- a park of n is opened for vehicle 0 over these cells, this line and the coins of this seed
abbrev pub OpeningFor0 : ℕ → ℕ → Vec Cell → Line → Result (Park Line Seeded) (NotOpened Line Seeded) → Type 0
OpeningFor0 n seed cells line result = Opening line-channel.ghosts n 0 (record { cells = cells; channel = line; coins = record { seed = seed } }) result

-- an accepted opening is told, and its park is kept; a refused one is told with its refusal, and its cells are taken back
abbrev pub TakesUp : Result (Park Line Seeded) (NotOpened Line Seeded) → Report → State → Type 0
TakesUp (Ok park) report after = (report ≡ Opened) × (after ≡ Open park)
TakesUp (Err back) report after = (report ≡ Refused kind.Open back.refusal) × (after ≡ Before back.supplies.cells)

-- an accepted opening makes the session open; a refused one leaves it as it was
abbrev pub TellsOpening : Session → Result (Park Line Seeded) (NotOpened Line Seeded) → Report → Session → Type 0
TellsOpening before (Ok park) report after = (report ≡ Opened) × (after ≡ record { state = Open park })
TellsOpening before (Err back) report after = (report ≡ Refused kind.Open back.refusal) × (after ≡ before)

-- a park is opened over these cells and an empty line, and the opening is told
pub record Opens (before : Session) (cells : Vec Cell) (n places seed : ℕ) (report : Report) (after : Session) : Type 0 where
  pub line : Line
  pub empty : EmptyLine places line
  pub result : Result (Park Line Seeded) (NotOpened Line Seeded)
  pub opening : OpeningFor0 n seed cells line result
  pub told : TellsOpening before result report after

-- a session opens once, over its cells
abbrev pub OpensOnce : State → Session → ℕ → ℕ → ℕ → Report → Session → Type 0
OpensOnce (Before cells) before n places seed report after = Opens before cells n places seed report after
OpensOnce (Open park) before n places seed report after = Unread before report after

-- an act on the open park is performed and reported; before an opening there is none to act on
abbrev pub Acts : State → Session → Act → Report → Session → Type 0
Acts (Before cells) before act report after = Unread before report after
Acts (Open park) before act report after =
    (later : Park Line Seeded) × (after ≡ record { state = Open later }) × Reports line-channel.ghosts seeded-coins.ghosts park act report later

abbrev pub Answers : Session → Option Record → Report → Session → Type 0
Answers before None report after = Unread before report after
Answers before (Some (asked.Open n places seed)) report after = OpensOnce before.state before n places seed report after
Answers before (Some (asked.Act act)) report after = Acts before.state before act report after
