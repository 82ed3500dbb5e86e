-- A park just opened.
use Rattle.std.proofs.Common.{◌≡◌, ℕ, ◌-◌, ◌*◌, ◌≤◌, Bool, false, List, [], length, replicate, None, Option, refl, ap, ◌∙◌, arith}
use lib.ListN.{length-replicate}
use Rattle.std.proofs.lemmas.Bool.{and_from, le-leb, le-ltb, not_from_true}
use Rattle.std.specs.Ptr.{block_ptr}
use Rattle.channel.specs.declared.channel.Channel as channel
use Rattle.coins.specs.declared.Coins as coins
use Rattle.terms.specs.declared.refusal.Refusal.{Refusal}
use Rattle.terms.specs.declared.refusal.Refusal.TheVariants.{Count, Memory, Places, Leftover}
use Rattle.terms.specs.declared.word.Cell.{Cell}
use Rattle.terms.specs.declared.word.Cell.TheVariants.{Empty}
use Rattle.park.specs.Opening.{fresh, open_refusal}
use Rattle.park.specs.Refusals.{first, when}
use Rattle.park.specs.States.{Block, State}
use Rattle.witness.specs.Witnesses.{OpenedOver, AFreshParkExists}

-- neither refusal applies
pub none_first : (a b : Option Refusal) → a ≡ None → b ≡ None → first a b ≡ None
none_first a b e f = ap (λ o. first o b) e ∙ f

pub not_when : (b : Bool) (e : Refusal) → b ≡ false → when b e ≡ None
not_when b e f = ap (λ x. when x e) f

abbrev empty_cells : ℕ → List Cell
empty_cells n = replicate (1024 * n) Empty

-- some memory with room for the cells of n controllers
abbrev pub a_block : ℕ → Block
a_block n = record { at = block_ptr 0 0; capacity = 1024 * n }

abbrev pub park_of : {C K : Type 0} → C → K → ℕ → ℕ → State C K
park_of c k n vehicle = fresh n vehicle (empty_cells n) (a_block n) c k

module _ {C K : Type 0} (ch : channel.Ghosts C) (co : coins.Ghosts K) where
  accepts : (n cells : ℕ) (c : C) → ch.bag c ≡ [] → 1 ≤ n → n ≤ 15 → n - 1 ≤ ch.places c → cells ≡ 1024 * n → open_refusal ch n cells c ≡ None
  accepts n cells c e low high room size =
      none_first _ _ (not_when _ Count (not_from_true _ (and_from _ _ (le-leb 1 n low) (le-leb n 15 high))))
      (none_first _ _ (not_when _ Memory (le-ltb cells (1024 * n) (omega arith)))
      (none_first _ _ (not_when _ Places (le-ltb _ _ room))
      (not_when _ Leftover (le-ltb 0 (length (ch.bag c)) (let l : length (ch.bag c) ≡ 0 = ap length e in omega arith)))))

  pub opened_over : (c : C) (k : K) (n vehicle : ℕ) → ch.bag c ≡ [] → 1 ≤ n → n ≤ 15 → n - 1 ≤ ch.places c → OpenedOver ch co c k n (park_of c k n vehicle)
  opened_over c k n vehicle e low high room = record {
    fresh = record {
      n = n;
      vehicle = vehicle;
      cells = empty_cells n;
      block = a_block n;
      channel = c;
      coins = k;
      accepted = accepts n _ c e low high room (length-replicate (1024 * n) Empty);
      is = refl;
    };
    count = refl;
    channel = refl;
    coins = refl;
  }

  pub a_fresh_park_exists_lem : AFreshParkExists ch co
  a_fresh_park_exists_lem c k n vehicle e low high room = (park_of c k n vehicle, opened_over c k n vehicle e low high room, refl)
