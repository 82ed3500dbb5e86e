-- After a fetch a place is free.
use Rattle.std.proofs.Common.{◌≡◌, ℕ, ◌<◌, ◌≤◌, List, length, Some, None, Option, Result, sym, subst, arith, MatchOption}
use Rattle.std.proofs.lemmas.List.Sorted.{length_permutation}
use Rattle.terms.specs.declared.message.Mark.{Mark}
use Rattle.terms.specs.declared.message.Mark.TheVariants.{Gone, Copied}
use Rattle.terms.specs.declared.message.Message.{Message}
use Rattle.channel.specs.declared.channel.Channel as channel
use Rattle.channel.specs.Meaning.{Gives, Leaves}
use Rattle.terms.specs.declared.refusal.Refusal.{Refusal}
use Rattle.park.specs.Messages.{Delivers, DeliversFetched}
use Rattle.park.specs.States.{State}

pub room_left : (k : Mark) (before after : List Message) (p : ℕ) (m : Message) → length before ≤ p → Leaves before p m k after → length after < p
room_left Gone before after p m l h = let e = length_permutation _ _ h in omega arith
room_left Copied before after p m l h = let e = length_permutation _ _ h.0 in omega (arith, h.2)

-- a fetch that gives none leaves the channel as it was, and one that gives a message leaves a place free
pub left_by : {C : Type 0} (bag : C → List Message) (places : C → ℕ) (c d : C) (got : Option (Message × Mark)) → length (bag c) ≤ places c
    → Gives bag places c got d → MatchOption got (d ≡ c) (λ _. length (bag d) < places d)
left_by bag places c d None l h = h.1
left_by bag places c d (Some (m, k)) l h = subst (λ p. length (bag d) < p) (sym h.2) (room_left k (bag c) (bag d) (places c) m l h.1)

-- a delivery, by what was fetched and what that does
pub delivered : {C K : Type 0} {s seen : State C K} {pick : ℕ} {r : Result ℕ Refusal} {t : State C K} {got : Option (Message × Mark)} {rest : C} (ch : channel.Ghosts C)
    → seen ≡ s → ch.fetches seen.channel pick got rest → DeliversFetched ch seen got rest r t → Delivers ch s pick r t
delivered ch e f d = rw (← e) (record { got = _; rest = _; fetched = f; does = d })
