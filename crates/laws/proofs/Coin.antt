-- Where round r + 2 is opened, r at least 2, a word of round r has the group that the coin is not.
use Rattle.std.proofs.Common.{◌≡◌, ℕ, ◌+◌, ◌≤◌, Some, sym, refl, ap, ◌∙◌, inl, inr, arith}
use Rattle.terms.specs.declared.word.Side.{Side}
use Rattle.terms.specs.declared.word.Word.{Word}
use Rattle.laws.specs.Rules.{on, After, named_self, leaned, kept_own, tossed, In, other}
use Rattle.laws.specs.Pages.{Pages, Heard, Grounded}
use Rattle.laws.proofs.Majorities.{member}
use Rattle.laws.proofs.Readings.{none_some, reading_all}
use Rattle.laws.proofs.Finding.{find, not_other, Holds, dec_holds}
use Rattle.laws.proofs.Safety.{heard_said, named_second}

-- going on after phase 2 of a round where no name and no group but c was said
module _ {p : ℕ} {own : Side} {r : ℕ} {coin : Side} {H : ℕ → Type 0} {W : ℕ → Word} where
  on_coin : {g : Side} → After p own r coin H W (on g) → ¬ (r ≡ 1) → ((q m : ℕ) → H q → ¬ ((W q).name ≡ Some m))
      → ((q : ℕ) → H q → ¬ ((W q).group ≡ Some (other coin))) → g ≡ coin
  on_coin (named_self q i e) late nameless c = absurd (nameless q p i e)
  on_coin (leaned h q q' names i e i' d) late nameless c = not_other h coin (λ z. c q i (e ∙ ap Some z))
  on_coin (kept_own names groups e) late nameless c = absurd (late e)
  on_coin (tossed names groups e) late nameless c = refl

  -- where all say c and no name, nobody goes on
  on_none : {g : Side} → After p own r coin H W (on g) → (q : ℕ) → H q → ((q m : ℕ) → H q → ¬ ((W q).name ≡ Some m))
      → (c : Side) → ((q : ℕ) → H q → (W q).group ≡ Some c) → ⊥
  on_none (named_self q i e) t j nameless c all = nameless q p i e
  on_none (leaned h q q' names i e i' d) t j nameless c all = d (all q' i' ∙ sym (all q i) ∙ e)
  on_none (kept_own names groups e) t j nameless c all = none_some (W t).group c (groups t j) (all t j)
  on_none (tossed names groups e) t j nameless c all = none_some (W t).group c (groups t j) (all t j)

module _ (n : ℕ) (P : Pages) (L : Grounded n P) where
  pub nameless : (k r S : ℕ) (W : ℕ → Word) → 2 ≤ r → Heard n P k r 2 S W → (q m : ℕ) → In q S → ¬ ((W q).name ≡ Some m)
  nameless k r S W late h q m i e =
      let a = heard_said n P L k r 2 q S W h i in
      let z = named_second n P L a.0 k r m _ a.1 e in
      omega arith

  module _ (k r : ℕ) (late : 2 ≤ r) (none : (p : ℕ) (v : Word) → P.said p k r 2 ≡ Some v → ¬ (v.group ≡ Some (other (P.coin k r)))) where
    next_first : (q r' : ℕ) (w : Word) → r' ≡ r + 1 → P.said q k r' 1 ≡ Some w → w.group ≡ Some (P.coin k r)
    next_first q r' w e s =
        let x = L.next_round q k r r' w (omega arith) e s in
        let E = x.2 in
        let c = on_coin E.after (omega arith) (nameless k r _ _ late E.heard)
        (λ q i. let a = heard_said n P L k r 2 q E.set E.words E.heard i in none a.0 _ a.1) in
        ap (λ (w : Word). w.group) x.1 ∙ ap Some c

    next_second : (q r' : ℕ) (w : Word) → r' ≡ r + 1 → P.said q k r' 2 ≡ Some w → w.group ≡ Some (P.coin k r)
    next_second q r' w e s =
        let A = (L.second q k r' w s).0 in
        let c = member n A.set A.heard.enough in
        reading_all A.group (P.coin k r) c.0 c.1
        (λ q i. let a = heard_said n P L k r' 1 q A.set A.words A.heard i in next_first a.0 r' _ e a.1)

    nobody_on : (s r'' : ℕ) (w : Word) → r'' ≡ r + 2 → P.said s k r'' 1 ≡ Some w → ⊥
    nobody_on s r'' w e t =
        let x = L.next_round s k (r + 1) r'' w (omega arith) (omega arith) t in
        let E = x.2 in
        let c = member n E.set E.heard.enough in
        on_none E.after c.0 c.1 (nameless k (r + 1) _ _ (omega arith) E.heard) (P.coin k r)
        (λ q i. let a = heard_said n P L k (r + 1) 2 q E.set E.words E.heard i in next_second a.0 (r + 1) _ refl a.1)

  pub coin_opposed : (s k r : ℕ) (w : Word) → 2 ≤ r → P.said s k (r + 2) 1 ≡ Some w
      → (p : ℕ) × (v : Word) × (P.said p k r 2 ≡ Some v) × (v.group ≡ Some (other (P.coin k r)))
  coin_opposed s k r w late t =
      elim (find (λ p. Holds (other (P.coin k r)) (P.said p k r 2)) (λ p. dec_holds (other (P.coin k r)) (P.said p k r 2)) n) [
        | inl x ↦ (x.0, x.1.0, x.1.1, x.1.2)
        | inr f ↦ absurd (nobody_on k r late (λ p v u e. f p (L.bounds p k r 2 v u).1 (v, u, e)) s (r + 2) w refl t)
      ]
