-- At most one controller has the answer yes.
use Rattle.std.proofs.Common.{◌≡◌, ℕ, zero, suc, ◌+◌, ◌≤◌, ◌⊎◌, Some, None, sym, refl, ap, ◌∙◌, inl, inr, arith}
use Rattle.terms.specs.declared.word.Side.{Side}
use Rattle.terms.specs.declared.word.Word.{Word}
use Rattle.terms.specs.declared.answer.Answer.TheVariants.{Yes}
use Rattle.laws.specs.Rules.{yes_yes, yes_no, on, After, won, named_self, agreed, leaned, kept_own, tossed, In}
use Rattle.laws.specs.Pages.{Pages, Heard, Ended, Grounded}
use Rattle.laws.proofs.Majorities.{meet, member}
use Rattle.laws.proofs.Readings.{none_some, reading_some}

not_zero : 1 ≤ 0 → ⊥
not_zero h = omega arith

pub two_up : (r : ℕ) → 1 ≤ r → (r ≡ 1) ⊎ ((d : ℕ) × (r ≡ 2 + d))
two_up zero h = absurd (not_zero h)
two_up (suc zero) h = inl refl
two_up (suc (suc d)) h = inr (d, omega arith)

-- three ways for two numbers
pub order : (a b : ℕ) → (a ≡ b) ⊎ (((d : ℕ) × (b ≡ a + 1 + d)) ⊎ ((d : ℕ) × (a ≡ b + 1 + d)))
order zero zero = inl refl
order zero (suc b) = inr (inl (b, omega arith))
order (suc a) zero = inr (inr (a, omega arith))
order (suc a) (suc b) = elim (order a b) [
  | inl e ↦ inl (ap suc e)
  | inr (inl (d, e)) ↦ inr (inl (d, omega arith))
  | inr (inr (d, e)) ↦ inr (inr (d, omega arith))
]

-- what an outcome tells of the names
module _ {p : ℕ} {own : Side} {r : ℕ} {coin : Side} {H : ℕ → Type 0} {W : ℕ → Word} where
  pub won_names : After p own r coin H W yes_yes → (q : ℕ) → H q → (W q).name ≡ Some p
  won_names (won all) q i = all q i

  pub agreed_none : After p own r coin H W yes_no → (q : ℕ) → H q → (W q).name ≡ None
  agreed_none (agreed names groups) q i = names q i

  -- who goes on though a name was heard has heard its own
  pub on_named : {g : Side} → After p own r coin H W (on g) → (m t : ℕ) → H t → (W t).name ≡ Some m → (t : ℕ) × H t × ((W t).name ≡ Some p)
  on_named (named_self q i e) m t j f = (q, i, e)
  on_named (leaned h q q' names i e i' d) m t j f = absurd (none_some (W t).name m (names t j) f)
  on_named (kept_own names groups e) m t j f = absurd (none_some (W t).name m (names t j) f)
  on_named (tossed names groups e) m t j f = absurd (none_some (W t).name m (names t j) f)

module _ (n : ℕ) (P : Pages) (L : Grounded n P) where
  -- what two sets heard in one place from one controller is one word
  pub same_word : (k r x q S T : ℕ) (V W : ℕ → Word) → Heard n P k r x S V → Heard n P k r x T W → In q S → In q T → V q ≡ W q
  same_word k r x q S T V W h g i j = let a = h.from q i in let b = g.from q j in cc

  -- names said in one phase 2 agree
  pub names_said : (k r a b m m' : ℕ) (v w : Word) → P.said a k r 2 ≡ Some v → P.said b k r 2 ≡ Some w → v.name ≡ Some m → w.name ≡ Some m' → m ≡ m'
  names_said k r a b m m' v w s t e f =
      let A = (L.second a k r v s).0 in
      let B = (L.second b k r w t).0 in
      let c = meet n A.set B.set A.heard.enough B.heard.enough in
      let x = reading_some A.name m e c.0 c.1 in
      let y = reading_some B.name m' f c.0 c.2 in
      let z = same_word k r 1 c.0 A.set B.set A.words B.words A.heard B.heard c.1 c.2 in
      cc

  -- what was heard was said
  pub heard_said : (k r x q S : ℕ) (W : ℕ → Word) → Heard n P k r x S W → In q S → (a : ℕ) × (P.said a k r x ≡ Some (W q))
  heard_said k r x q S W h i = L.kept_said q k r x (W q) (h.from q i)

  pub names_heard : (k r q t m m' S T : ℕ) (V W : ℕ → Word) → Heard n P k r 2 S V → Heard n P k r 2 T W → In q S → In t T
      → (V q).name ≡ Some m → (W t).name ≡ Some m' → m ≡ m'
  names_heard k r q t m m' S T V W h g i j e f =
      let a = heard_said k r 2 q S V h i in
      let b = heard_said k r 2 t T W g j in
      names_said k r a.0 b.0 m m' _ _ a.1 b.1 e f

  -- a name stands in round 1 alone
  pub named_opens : (a k r m : ℕ) (v : Word) → P.said a k r 1 ≡ Some v → v.name ≡ Some m → r ≡ 1
  named_opens a k zero m v s e = absurd (not_zero (L.bounds a k 0 1 v s).4)
  named_opens a k (suc zero) m v s e = refl
  named_opens a k (suc (suc r)) m v s e =
      let x = L.next_round a k (suc r) (suc (suc r)) v (omega arith) (omega arith) s in
      absurd (none_some v.name m (ap (λ (w : Word). w.name) x.1) e)

  pub named_second : (a k r m : ℕ) (v : Word) → P.said a k r 2 ≡ Some v → v.name ≡ Some m → r ≡ 1
  named_second a k r m v s e =
      let A = (L.second a k r v s).0 in
      let c = member n A.set A.heard.enough in
      let b = heard_said k r 1 c.0 A.set A.words A.heard c.1 in
      named_opens b.0 k r m _ b.1 (reading_some A.name m e c.0 c.1)

  -- who opened a later round ended round 1 by going on
  back_rounds : (d q k r : ℕ) (w : Word) → r ≡ 2 + d → P.said q k r 1 ≡ Some w → (g : Side) × Ended n P q k 1 (on g)
  back_rounds zero q k r w e s = let x = L.next_round q k 1 r w (omega arith) (omega arith) s in (x.0, x.2)
  back_rounds (suc d) q k r w e s =
      let x = L.next_round q k (2 + d) r w (omega arith) (omega arith) s in
      let y = (L.second q k (2 + d) _ x.2.spoke).1 in
      back_rounds d q k (2 + d) y.0 refl y.1

  pub opened_first : (q k r : ℕ) (w : Word) → P.said q k r 1 ≡ Some w → (v : Word) × (P.said q k 1 1 ≡ Some v)
  opened_first q k r w s = elim (two_up r (L.bounds q k r 1 w s).4) [
    | inl e ↦ (w, (rw e at s))
    | inr x ↦ (L.second q k 1 _ (back_rounds x.0 q k r w x.1 s).1.spoke).1
  ]

  -- q went on after round 1 of selector k
  abbrev pub Moved : ℕ → ℕ → Type 0
  Moved q k = Ended n P q k 1 yes_no ⊎ ((g : Side) × Ended n P q k 1 (on g))

  pub back_selectors : (d q k k' : ℕ) (w : Word) → 1 ≤ k → k' ≡ k + 1 + d → P.said q k' 1 1 ≡ Some w → Moved q k
  back_selectors zero q k k' w h e s =
      let x = L.next_selector q k k' w h (omega arith) s in
      let y = (L.second q k x.0 _ x.1.spoke).1 in
      elim (two_up x.0 (L.bounds q k x.0 1 _ y.1).4) [
        | inl e ↦ inl (rw e at x.1)
        | inr z ↦ inr (back_rounds z.0 q k x.0 _ z.1 y.1)
      ]
  back_selectors (suc d) q k k' w h e s =
      let x = L.next_selector q (k + 1 + d) k' w (omega arith) (omega arith) s in
      let y = (L.second q (k + 1 + d) x.0 x.1.word x.1.spoke).1 in
      let z = opened_first q (k + 1 + d) x.0 y.0 y.1 in
      back_selectors d q k (k + 1 + d) z.0 h refl z.1

  -- where one wins in round 1, nobody else goes on
  only_winner_moves : (p q k : ℕ) → Ended n P p k 1 yes_yes → Moved q k → p ≡ q
  only_winner_moves p q k w (inl m) =
      let c = meet n w.set m.set w.heard.enough m.heard.enough in
      let z = same_word k 1 2 c.0 w.set m.set w.words m.words w.heard m.heard c.1 c.2 in
      absurd (none_some (m.words c.0).name p (agreed_none m.after c.0 c.2) (sym (ap (λ (w : Word). w.name) z) ∙ won_names w.after c.0 c.1))
  only_winner_moves p q k w (inr (g, m)) =
      let c = meet n w.set m.set w.heard.enough m.heard.enough in
      let z = same_word k 1 2 c.0 w.set m.set w.words m.words w.heard m.heard c.1 c.2 in
      let e : (m.words c.0).name ≡ Some p = sym (ap (λ (w : Word). w.name) z) ∙ won_names w.after c.0 c.1 in
      let s = on_named m.after p c.0 c.2 e in
      names_heard k 1 c.0 s.0 p q w.set m.set w.words m.words w.heard m.heard c.1 s.1 (won_names w.after c.0 c.1) s.2

  -- a yes comes from round 1
  yes_from : (p : ℕ) → P.answer p ≡ Some Yes → (k : ℕ) × Ended n P p k 1 yes_yes
  yes_from p y =
      let x = L.yes_ground p y in
      let E = x.2 in
      let c = member n E.set E.heard.enough in
      let a = heard_said x.0 x.1 2 c.0 E.set E.words E.heard c.1 in
      let e = named_second a.0 x.0 x.1 p _ a.1 (won_names E.after c.0 c.1) in
      (x.0, (rw e at E))

  yes_opened : (p k : ℕ) → Ended n P p k 1 yes_yes → (w : Word) × (P.said p k 1 1 ≡ Some w)
  yes_opened p k E = (L.second p k 1 _ E.spoke).1

  yes_level : (p q k : ℕ) → Ended n P p k 1 yes_yes → Ended n P q k 1 yes_yes → p ≡ q
  yes_level p q k A B =
      let c = meet n A.set B.set A.heard.enough B.heard.enough in
      names_heard k 1 c.0 c.0 p q A.set B.set A.words B.words A.heard B.heard c.1 c.2 (won_names A.after c.0 c.1) (won_names B.after c.0 c.2)

  pub one_yes : (p q : ℕ) → P.answer p ≡ Some Yes → P.answer q ≡ Some Yes → p ≡ q
  one_yes p q y z =
      let A = yes_from p y in
      let B = yes_from q z in
      let a = yes_opened p A.0 A.1 in
      let b = yes_opened q B.0 B.1 in
      let la = (L.bounds p A.0 1 1 _ a.1).2 in
      let lb = (L.bounds q B.0 1 1 _ b.1).2 in
      elim (order A.0 B.0) [
        | inl e ↦ yes_level p q A.0 A.1 (rw (sym e) at B.1)
        | inr (inl (d, e)) ↦ only_winner_moves p q A.0 A.1 (back_selectors d q A.0 B.0 _ la e b.1)
        | inr (inr (d, e)) ↦ sym (only_winner_moves q p B.0 B.1 (back_selectors d p B.0 A.0 _ lb e a.1))
      ]

  -- whoever opened a phase called
  pub called : (q k r : ℕ) (w : Word) → P.said q k r 1 ≡ Some w → (v : Word) × (P.said q 1 1 1 ≡ Some v)
  called q k r w s =
      let a = opened_first q k r w s in
      elim (order k 1) [
        | inl e ↦ (a.0, ap (λ x. P.said q x 1 1) (sym e) ∙ a.1)
        | inr (inl (d, e)) ↦ let b = (L.bounds q k 1 1 a.0 a.1).2 in absurd (omega arith)
        | inr (inr (d, e)) ↦ elim (back_selectors d q 1 k a.0 (omega arith) e a.1) [
          | inl m ↦ (L.second q 1 1 _ m.spoke).1
          | inr (g, m) ↦ (L.second q 1 1 _ m.spoke).1
        ]
      ]
