-- A small channel and coins for worked runs: a pile of messages, of which a fetch takes the one at its pick, and tables by hand.
use Rattle.std.specs.Prelude.{◌≡◌, ℕ, zero, suc, ◌+◌, ◌*◌, ◌≤◌, cond, List, [], ◌∷◌, length, replicate, Some, None, Option, ◌==◌}
use Rattle.std.specs.Ptr.{block_ptr}
use Rattle.channel.specs.declared.channel.Channel as channel
use Rattle.channel.specs.Meaning.{SameBag, Gives}
use Rattle.coins.specs.declared.Coins as coins
use Rattle.terms.specs.declared.message.Mark.{Mark}
use Rattle.terms.specs.declared.message.Mark.TheVariants.{Gone}
use Rattle.terms.specs.declared.message.Message.{Message}
use Rattle.terms.specs.declared.word.Cell.TheVariants.{Empty}
use Rattle.terms.specs.declared.word.Side.TheVariants.{Zero, One}
use Rattle.park.specs.Opening.{fresh}
use Rattle.park.specs.States.{State}
use Rattle.promise.specs.Promise.{OpenedRound}
use Rattle.promise.specs.Runs.{Fresh, History, Run}

-- what waits, the newest first, and how many places are free
pub record Pile : Type 0 where
  pub waiting : List Message
  pub free : ℕ

abbrev pub put_back : Message → Option (Message × List Message) → Option (Message × List Message)
put_back m None = None
put_back m (Some (x, rest)) = Some (x, m ∷ rest)

-- the message at this position, and the others
abbrev pub taken : ℕ → List Message → Option (Message × List Message)
taken i [] = None
taken zero (m ∷ ms) = Some (m, ms)
taken (suc i) (m ∷ ms) = put_back m (taken i ms)

abbrev pub pile : channel.Ghosts Pile
pile = record {
  bag = λ c. c.waiting;
  places = λ c. c.free + length c.waiting;
  sends = λ c m d. (c.free ≡ suc d.free) × (d.waiting ≡ m ∷ c.waiting);
  fetches = λ c pick got d. (m : Message) × (taken pick c.waiting ≡ Some (m, d.waiting)) × (got ≡ Some (m, Gone)) × (d.free ≡ suc c.free);
}

-- controller 1 draws group 0, the others 1, and the common coin is always 0
abbrev pub table : coins.Ghosts (Unit {0})
table = record { group = λ k p selector. cond (p == 1) Zero One; common = λ k selector round. Zero }

-- three controllers, just opened, with a hundred places free
abbrev pub three : State Pile (Unit {0})
three = fresh 3 0 (replicate (1024 * 3) Empty) (record { at = block_ptr 0 0; capacity = 1024 * 3 }) (record { waiting = []; free = 100 }) tt

-- what is asked of every channel
pub record IsAChannel {C : Type 0} (ch : channel.Ghosts C) : Type 0 where
  pub bounded : (c : C) → length (ch.bag c) ≤ ch.places c
  pub gains : (c : C) (m : Message) (d : C) → ch.sends c m d → SameBag (m ∷ ch.bag c) (ch.bag d) × (ch.places d ≡ ch.places c)
  pub gives : (c : C) (pick : ℕ) (got : Option (Message × Mark)) (d : C) → ch.fetches c pick got d → Gives ch.bag ch.places c got d

-- What LongSelectorMetItsCoin supposes: in this run a caller opens round 4 of a selector.
pub record ALongSelectorExists : Type 0 where
  pub channel : IsAChannel pile
  pub fresh : Fresh pile table three
  pub history : History
  pub park : State Pile (Unit {0})
  pub run : Run pile table three history park
  pub opened : OpenedRound history 1 1 4
