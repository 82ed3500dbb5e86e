-- The list of PHASEs, one name further, and places for them.
use Rattle.std.proofs.Common.{◌≡◌, ℕ, zero, suc, ◌+◌, ◌-◌, ◌<◌, ◌≤◌, true, false, cond, eqb, List, [], ◌∷◌, ◌++◌, length, refl, sym, subst, ⊎_elim, add-one, arith, length-append, eq-eqb, ne_eqb}
use Rattle.std.proofs.lemmas.Bool.{cases_eq, cases_lt}
use Rattle.channel.proofs.Sends.{sent_more, sent_count}
use Rattle.channel.specs.Meaning.{SameBag}
use Rattle.channel.specs.Sends.{SentAll}
use Rattle.terms.specs.declared.message.Message.{Message}
use Rattle.terms.specs.declared.word.Place.{Place}
use Rattle.terms.specs.declared.word.Word.{Word}
use Rattle.park.specs.Asks.{phases, phase_to}

module _ (p : ℕ) (at : Place) (w : Word) where
  pub phases_self : (i : ℕ) → i + 1 ≡ p → phases (i + 1) p at w ≡ phases i p at w
  phases_self i e =
      let t : eqb (suc i) p ≡ true = eq-eqb (suc i) p (omega arith) in
      rw add-one (rw t refl)

  pub phases_other : (i : ℕ) → (i + 1 ≡ p → ⊥) → phases (i + 1) p at w ≡ phases i p at w ++ phase_to p (i + 1) at w ∷ []
  phases_other i ne =
      let t : eqb (suc i) p ≡ false = ne_eqb (suc i) p (λ e. ne (omega arith)) in
      rw add-one (rw t refl)

  pub phases_length : (i : ℕ) → length (phases i p at w) ≤ i
  phases_length zero = omega arith
  phases_length (suc i) =
      let h = phases_length i in
      let l = length-append (phases i p at w) (phase_to p (suc i) at w ∷ []) in
      elim (eqb (suc i) p) as (λ b. length (cond b (phases i p at w) (phases i p at w ++ phase_to p (suc i) at w ∷ [])) ≤ suc i) [ true ↦ omega arith | false ↦ omega arith ]

  pub phases_under : (i : ℕ) → 1 ≤ p → p ≤ i → length (phases i p at w) + 1 ≤ i
  phases_under zero a b = absurd (omega arith)
  phases_under (suc i) a b =
      let l = length-append (phases i p at w) (phase_to p (suc i) at w ∷ []) in
      ⊎_elim (λ (e : suc i ≡ p). let t : eqb (suc i) p ≡ true = eq-eqb (suc i) p e in let h = phases_length i in rw t (omega arith))
      (λ (ne : suc i ≡ p → ⊥). let t : eqb (suc i) p ≡ false = ne_eqb (suc i) p ne in let h : length (phases i p at w) + 1 ≤ i = phases_under i a (omega arith) in rw t (omega arith))
      (cases_eq (suc i) p)

  -- where PHASE goes to name i + 1, a place is free for it
  pub phase_fits : (n i k waits waited : ℕ) → 1 ≤ p → p ≤ n → i < n → (i + 1 ≡ p → ⊥) → n + waited ≤ k + 1
      → waits ≡ length (phases i p at w) + waited → waits < k
  phase_fits n i k waits waited a b c ne room e =
      let x = phases_length i in
      ⊎_elim (λ (h : i < p). omega arith) (λ (h : p ≤ i). let y = phases_under i a h in omega arith) (cases_lt i p)

  -- PHASE has gone to the names below q, and now to q too, if that is another's
  module _ {C : Type 0} (sends : C → Message → C → Type 0) (bag : C → List Message) (places : C → ℕ)
      (gains : (c : C) (m : Message) (d : C) → sends c m d → SameBag (m ∷ bag c) (bag d) × (places d ≡ places c)) where
    pub sent_self : (q : ℕ) (first now then : C) → 1 ≤ q → q ≡ p → SentAll sends first (phases (q - 1) p at w) now → then ≡ now → SentAll sends first (phases q p at w) then
    sent_self q first now then a e before is =
        let i : q - 1 + 1 ≡ q = omega arith in
        let same : phases (q - 1 + 1) p at w ≡ phases (q - 1) p at w = phases_self (q - 1) (omega arith) in
        let here : SentAll sends first (phases (q - 1 + 1) p at w) then = subst (λ (d : C). SentAll sends first (phases (q - 1 + 1) p at w) d) (sym is) (subst (λ (l : List Message). SentAll sends first l now) (sym same) before) in
        subst (λ (j : ℕ). SentAll sends first (phases j p at w) then) i here

    module _ (n q : ℕ) (first now : C) (named : 1 ≤ p) (few : p ≤ n) (from : 1 ≤ q) (upto : q ≤ n) (other : q ≡ p → ⊥) (room : n + length (bag first) ≤ places first + 1)
        (before : SentAll sends first (phases (q - 1) p at w) now) where
      -- where PHASE goes to the name q, a place is free for it
      pub place_free : length (bag now) < places now
      place_free =
          let i : q - 1 + 1 ≡ q = omega arith in
          let count = sent_count sends bag places gains (phases (q - 1) p at w) first now before in
          subst (λ (k : ℕ). length (bag now) < k) (sym count.1) (phase_fits n (q - 1) (places first) _ _ named few (omega arith) (λ e. other (omega arith)) room count.0)

      pub sent_other : (sent then : C) → (length (bag now) < places now → sends now (phase_to p q at w) sent) → then ≡ sent → SentAll sends first (phases q p at w) then
      sent_other sent then send is =
          let i : q - 1 + 1 ≡ q = omega arith in
          let more = phases_other (q - 1) (λ e. other (omega arith)) in
          let goes : sends now (phase_to p (q - 1 + 1) at w) then =
          subst (λ (j : ℕ). sends now (phase_to p j at w) then) (sym i) (subst (λ (d : C). sends now (phase_to p q at w) d) (sym is) (send place_free)) in
          subst (λ (j : ℕ). SentAll sends first (phases j p at w) then) i (subst (λ (l : List Message). SentAll sends first l then) (sym more)
          (sent_more sends (phases (q - 1) p at w) first now then (phase_to p (q - 1 + 1) at w) before goes))
