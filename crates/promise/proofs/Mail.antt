-- What waits after messages were sent, or one was fetched.
use Rattle.std.proofs.Common.{ℕ, zero, suc, true, false, cond, eqb, List, [], ◌∷◌, ◌++◌, refl}
use Rattle.std.specs.List.{ContainsAt as Has, AllByRecursion as All}
use Rattle.std.proofs.ByRecursion.{all_shuffled, all_has_itself, All-push}
use Rattle.terms.specs.declared.message.Kind.TheVariants.{Phase}
use Rattle.terms.specs.declared.message.Mark.{Mark}
use Rattle.terms.specs.declared.message.Mark.TheVariants.{Gone, Copied}
use Rattle.terms.specs.declared.message.Message.{Message}
use Rattle.terms.specs.declared.word.Place.{Place}
use Rattle.terms.specs.declared.word.Word.{Word}
use Rattle.channel.specs.Meaning.{Leaves}
use Rattle.park.specs.Asks.{phases, phase_to}
use Rattle.laws.specs.Outlines.{Letter}

-- what is left after a fetch waited before, and so did what was fetched
pub left : (mark : Mark) (before after : List Message) (places : ℕ) (m : Message) → Leaves before places m mark after
    → All (Has before) after × Has before m
left Gone before after places m h = let a = all_shuffled (Has before) before (m ∷ after) h (all_has_itself before) in (a.1, a.0)
left Copied before after places m h = (all_shuffled (Has before) before after h.0 (all_has_itself before), h.1)

pub all_from : {X : Type 0} (P Q : X → Type 0) (xs : List X) → ((x : X) → P x → Q x) → All P xs → All Q xs
all_from P Q [] f a = tt
all_from P Q (x ∷ xs) f a = (f x a.0, all_from P Q xs f a.1)

pub all_phases : (p : ℕ) (at : Place) (w : Word) (n : ℕ) → All (Letter Phase p at.selector at.round at.phase w) (phases n p at w)
all_phases p at w zero = tt
all_phases p at w (suc q) =
    let P = Letter Phase p at.selector at.round at.phase w in
    let h = all_phases p at w q in
    let one : P (phase_to p (suc q) at w) = record { is_kind = refl; is_from = refl; is_selector = refl; is_round = refl; is_phase = refl; is_word = refl } in
    elim (eqb (suc q) p) as (λ b. All P (cond b (phases q p at w) (phases q p at w ++ phase_to p (suc q) at w ∷ []))) [
      | true ↦ h
      | false ↦ All-push P (phases q p at w) (phase_to p (suc q) at w) h one
    ]
