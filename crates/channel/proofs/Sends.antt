-- What follows from messages that a channel accepted one after another.
use Rattle.std.proofs.Common.{◌≡◌, ℕ, ◌+◌, List, [], ◌∷◌, ◌++◌, length, sym, refl, ap, ◌∙◌, subst, arith}
use Rattle.std.specs.List.{AllByRecursion as All}
use Rattle.std.proofs.lemmas.List.Sorted.{length_permutation}
use Rattle.std.proofs.ByRecursion.{all_shuffled}
use Rattle.terms.specs.declared.message.Message.{Message}
use Rattle.channel.specs.Meaning.{SameBag}
use Rattle.channel.specs.Sends.{SentAll}

module _ {C : Type 0} (sends : C → Message → C → Type 0) where
  -- one more at the end
  pub sent_more : (ms : List Message) (c d e : C) (m : Message) → SentAll sends c ms d → sends d m e → SentAll sends c (ms ++ m ∷ []) e
  sent_more [] c d e m q s = (e, subst (λ (x : C). sends x m e) q s, refl)
  sent_more (n ∷ ms) c d e m q s = (q.0, q.1, sent_more ms q.0 d e m q.2 s)

  module _ (bag : C → List Message) (places : C → ℕ) (gains : (c : C) (m : Message) (d : C) → sends c m d → SameBag (m ∷ bag c) (bag d) × (places d ≡ places c)) where
    -- as many more wait, in as many places
    pub sent_count : (ms : List Message) (c d : C) → SentAll sends c ms d → (length (bag d) ≡ length ms + length (bag c)) × (places d ≡ places c)
    sent_count [] c d q = (ap (λ (x : C). length (bag x)) q ∙ omega arith, ap places q)
    sent_count (m ∷ ms) c d q =
        let g = gains c m q.0 q.1 in
        let l : length (bag q.0) ≡ length (m ∷ bag c) = length_permutation _ _ g.0 in
        let r = sent_count ms q.0 d q.2 in
        (omega arith, r.1 ∙ g.1)

    -- what holds of the messages sent and of those that waited holds of all that wait
    pub sent_keeps : (P : Message → Type 0) (ms : List Message) (c d : C) → All P ms → All P (bag c) → SentAll sends c ms d → All P (bag d)
    sent_keeps P [] c d a b q = subst (λ (x : C). All P (bag x)) (sym q) b
    sent_keeps P (m ∷ ms) c d a b q =
        sent_keeps P ms q.0 d a.1 (all_shuffled P (m ∷ bag c) (bag q.0) (gains c m q.0 q.1).0 (a.0, b)) q.2
