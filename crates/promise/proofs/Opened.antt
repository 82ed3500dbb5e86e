-- An accepted opening makes a fresh park.
use Rattle.std.proofs.Common.{◌≡◌, ℕ, length, IfOk, Some, None, Ok, Err, vec_items, vec_len, Option, Result, sym, refl, ap, ◌∙◌, subst}
use Rattle.channel.specs.declared.channel.Channel as channel
use Rattle.coins.specs.declared.Coins as coins
use Rattle.terms.specs.declared.refusal.Refusal.{Refusal}
use Rattle.park.specs.declared.park.NotOpened.{NotOpened}
use Rattle.park.specs.declared.park.Park.{Park}
use Rattle.park.specs.declared.park.Supplies.{Supplies}
use Rattle.park.specs.Opening.{Opening, OpensUnless, open_refusal}
use Rattle.park.specs.States.{block_of}
use Rattle.promise.specs.Runs.{Fresh}

module _ {C K : Type 0} (ch : channel.Ghosts C) (co : coins.Ghosts K) (n vehicle : ℕ) (given : Supplies C K) (len : vec_len given.cells ≡ length (vec_items given.cells)) where
  abbrev IsFresh : Result (Park C K) (NotOpened C K) → Type 0
  IsFresh r = IfOk r (λ park. Fresh ch co park)

  pub opened_fresh : (r : Result (Park C K) (NotOpened C K)) → Opening ch n vehicle given r → IsFresh r
  opened_fresh r h = go (open_refusal ch n (vec_len given.cells) given.channel) refl r h
    where
      go : (o : Option Refusal) → open_refusal ch n (vec_len given.cells) given.channel ≡ o → (r : Result (Park C K) (NotOpened C K)) → OpensUnless o n vehicle given r → IsFresh r
      go (Some e) q r h = subst IsFresh (sym h) tt
      go None q (Ok park) h = record {
        n = n;
        vehicle = vehicle;
        cells = vec_items given.cells;
        block = block_of given.cells;
        channel = given.channel;
        coins = given.coins;
        accepted = ap (λ l. open_refusal ch n l given.channel) (sym len) ∙ q;
        is = h;
      }
      go None q (Err back) h = absurd h
