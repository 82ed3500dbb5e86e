-- What a park is to its contracts: its numbers, its records, its cells and the memory that they lie in, its channel and its coins.
use Rattle.std.specs.Prelude.{◌≡◌, ℕ, List, vec_capacity, vec_len}
use Rattle.std.specs.Vec.{vec_ptr}
use Rattle.std.specs.Global.{Vec}
use Rattle.std.specs.Ptr.{Ptr}
use Rattle.permit.specs.declared.desk.Desk.{Desk}
use Rattle.terms.specs.declared.word.Cell.{Cell}
use Rattle.park.specs.declared.controller.Controller.{Controller}
use Rattle.park.specs.Controllers.{record_of, with_record}

-- The memory that a host handed over for the cells: where it lies, and how many cells it has room for. No act moves it or changes its size.
pub record Block : Type 0 where
  pub at : Ptr
  pub capacity : ℕ

abbrev pub block_of : Vec Cell → Block
block_of cells = record { at = vec_ptr cells; capacity = vec_capacity cells }

-- as many cells as before, in the same memory
abbrev pub StaysInPlace : Vec Cell → Vec Cell → Type 0
StaysInPlace before after = (vec_len after ≡ vec_len before) × (block_of after ≡ block_of before)

pub record State (C K : Type 0) : Type 0 where
  pub n : ℕ
  pub majority : ℕ
  pub desk : Desk
  pub controllers : List Controller
  pub cells : List Cell
  pub block : Block
  pub channel : C
  pub coins : K

module _ {C K : Type 0} where
  -- controller p's record
  abbrev pub of : State C K → ℕ → Controller
  of s p = record_of s.controllers p

  abbrev pub with_controllers : State C K → List Controller → State C K
  with_controllers s list = record { n = s.n; majority = s.majority; desk = s.desk; controllers = list; cells = s.cells; block = s.block; channel = s.channel; coins = s.coins }

  -- the park with another record of p
  abbrev pub with_controller : State C K → ℕ → Controller → State C K
  with_controller s p c = with_controllers s (with_record s.controllers p c)

  abbrev pub with_channel : State C K → C → State C K
  with_channel s channel = record { n = s.n; majority = s.majority; desk = s.desk; controllers = s.controllers; cells = s.cells; block = s.block; channel = channel; coins = s.coins }

  abbrev pub with_desk : State C K → Desk → State C K
  with_desk s desk = record { n = s.n; majority = s.majority; desk = desk; controllers = s.controllers; cells = s.cells; block = s.block; channel = s.channel; coins = s.coins }
