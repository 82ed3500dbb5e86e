-- A park in outline: its pages, stages, words heard and mail.
use Rattle.std.proofs.Common.{◌≡◌, ℕ, ◌-◌, ◌*◌, ◌≤◌, Bool, true, false, cond, ◌&&◌, leb, List, length, get_or, Some, None, Option, arith}
use Rattle.channel.specs.declared.channel.Channel as channel
use Rattle.coins.specs.declared.Coins as coins
use Rattle.terms.specs.declared.word.Cell.{Cell}
use Rattle.terms.specs.declared.word.Cell.TheVariants.{Empty, Holds}
use Rattle.terms.specs.declared.word.Place.{Place}
use Rattle.terms.specs.declared.word.Word.{Word}
use Rattle.terms.specs.Heard.{blank, majority_of}
use Rattle.terms.specs.Places.{between, within}
use Rattle.park.specs.declared.controller.Controller.{Controller}
use Rattle.park.specs.declared.controller.Stage as real
use Rattle.park.specs.declared.controller.Stage.TheVariants.{Uncalled, Asking, Answered}
use Rattle.park.specs.Cells.{kept_at, said_at}
use Rattle.park.specs.Controllers.{record_of}
use Rattle.park.specs.Placed.{placed}
use Rattle.park.specs.States.{State, of}
use Rattle.laws.specs.Outlines.{Page, Stage, idle, asking, done, Outline, Tables}

abbrev pub place : ℕ → ℕ → ℕ → Place
place k r x = record { selector = k; round = r; phase = x }

-- where p's cell of a place lies: on the kept page, or on the said page
abbrev pub spot : Bool → ℕ → Place → ℕ
spot false p at = kept_at p at
spot true p at = said_at p at

-- the name is one of the park's, and the place is within its limits
abbrev pub inside : ℕ → ℕ → Place → Bool
inside n p at = between 1 n p && within at

abbrev pub word_in : Cell → Option Word
word_in Empty = None
word_in (Holds w) = Some w

-- one of the two pages of a table of cells for n controllers: nothing stands outside the limits
unfoldable pub page : Bool → ℕ → List Cell → Page
page said n cells p k r x = cond (inside n p (place k r x)) (word_in (get_or cells (spot said p (place k r x)) Empty)) None

abbrev pub stage_of : real.Stage → ℕ → Stage
stage_of Uncalled heard = idle
stage_of (Asking at) heard = asking at.selector at.round at.phase heard
stage_of (Answered answer) heard = done answer

-- the stage of each of n controllers; any other is idle
unfoldable pub stage_in : ℕ → List Controller → ℕ → Stage
stage_in n list p = cond (between 1 n p) (stage_of (record_of list p).stage (record_of list p).heard) idle

-- the word that p of n controllers heard from q
unfoldable pub word_from : ℕ → List Controller → ℕ → ℕ → Word
word_from n list p q = cond (between 1 n p && leb 1 q) (get_or (record_of list p).words (q - 1) blank) blank

-- a record whose caller asks within the limits, with a word for each of fifteen
pub record Fit (c : Controller) : Type 0 where
  pub in_limits : placed c.stage ≡ true
  pub words : length c.words ≡ 15

abbrev pub tables_of : {K : Type 0} → coins.Ghosts K → K → Tables
tables_of co k = record { draw = co.group k; coin = co.common k }

module _ {C K : Type 0} where
  abbrev pub kept_page : State C K → Page
  kept_page s = page false s.n s.cells

  abbrev pub said_page : State C K → Page
  said_page s = page true s.n s.cells

  abbrev pub outline : channel.Ghosts C → State C K → Outline
  outline ch s = record {
    stage = stage_in s.n s.controllers;
    words = word_from s.n s.controllers;
    kept = kept_page s;
    said = said_page s;
    mail = ch.bag s.channel;
  }

  abbrev pub tables : coins.Ghosts K → State C K → Tables
  tables co s = tables_of co s.coins

  pub record Sized (s : State C K) : Type 0 where
    pub at_least : 1 ≤ s.n
    pub at_most : s.n ≤ 15
    pub majority : s.majority ≡ majority_of s.n
    pub count : length s.controllers ≡ 15
    pub fit : (p : ℕ) → 1 ≤ p → p ≤ 15 → Fit (of s p)
    pub room : 1024 * s.n ≤ length s.cells

  pub small : (s : State C K) → Sized s → (p : ℕ) → p ≤ s.n → p ≤ 15
  small s z p u = let m = z.at_most in omega arith

  pub listed : (s : State C K) → Sized s → (p : ℕ) → p ≤ s.n → p ≤ length s.controllers
  listed s z p u = let m = z.at_most in let l = z.count in omega arith
