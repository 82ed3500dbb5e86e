-- Opening and closing a park.
use Rattle.std.specs.Prelude.{◌≡◌, ℕ, ◌-◌, ◌*◌, not, List, ◌++◌, length, drop, replicate, Some, None, Ok, Err, vec_items, vec_len, Option, Result, nat_lt}
use Rattle.channel.specs.declared.channel.Channel as channel
use Rattle.permit.specs.Acts.{new_desk}
use Rattle.terms.specs.declared.refusal.Refusal.{Refusal}
use Rattle.terms.specs.declared.refusal.Refusal.TheVariants.{Count, Memory, Places, Leftover}
use Rattle.terms.specs.declared.word.Cell.{Cell}
use Rattle.terms.specs.declared.word.Cell.TheVariants.{Empty}
use Rattle.terms.specs.Heard.{majority_of}
use Rattle.terms.specs.Places.{between}
use Rattle.park.specs.declared.controller.Controller.{Controller}
use Rattle.park.specs.declared.park.NotOpened.{NotOpened}
use Rattle.park.specs.declared.park.Park.{Park}
use Rattle.park.specs.declared.park.Supplies.{Supplies}
use Rattle.park.specs.Controllers.{uncalled}
use Rattle.park.specs.Refusals.{first, when}
use Rattle.park.specs.States.{Block, State, block_of}

abbrev pub all_uncalled : List Controller
all_uncalled = replicate 15 uncalled

module _ {C : Type 0} (ch : channel.Ghosts C) where
  abbrev pub open_refusal : ℕ → ℕ → C → Option Refusal
  open_refusal n cells c =
      first (when (not (between 1 15 n)) Count) (
      first (when (nat_lt cells (1024 * n)) Memory) (
      first (when (nat_lt (ch.places c) (n - 1)) Places)
      (when (nat_lt 0 (length (ch.bag c))) Leftover)))

module _ {C K : Type 0} where
  -- just opened: the first 1,024 × n cells are empty and the others as they were, and nobody has called
  abbrev pub fresh : ℕ → ℕ → List Cell → Block → C → K → State C K
  fresh n vehicle cells block c k = record {
    n = n;
    majority = majority_of n;
    desk = new_desk vehicle;
    controllers = all_uncalled;
    cells = replicate (1024 * n) Empty ++ drop (1024 * n) cells;
    block = block;
    channel = c;
    coins = k;
  }

  -- closing gives back what the park holds
  abbrev pub GivesBack : State C K → Supplies C K → Type 0
  GivesBack s given = (vec_items given.cells ≡ s.cells) × (block_of given.cells ≡ s.block) × (given.channel ≡ s.channel) × (given.coins ≡ s.coins)

  -- a refused opening gives everything back as it was
  abbrev pub OpensUnless : Option Refusal → ℕ → ℕ → Supplies C K → Result (Park C K) (NotOpened C K) → Type 0
  OpensUnless (Some e) n vehicle given r = r ≡ Err (record { refusal = e; supplies = given })
  OpensUnless None n vehicle given (Ok park) = park ≡ fresh n vehicle (vec_items given.cells) (block_of given.cells) given.channel given.coins
  OpensUnless None n vehicle given (Err back) = ⊥

  abbrev pub Opening : channel.Ghosts C → ℕ → ℕ → Supplies C K → Result (Park C K) (NotOpened C K) → Type 0
  Opening ch n vehicle given r = OpensUnless (open_refusal ch n (vec_len given.cells) given.channel) n vehicle given r
