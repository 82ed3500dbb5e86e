-- Where there is a caller, and every caller has yes or no, one has yes.
use Rattle.std.proofs.Common.{◌≡◌, ℕ, zero, suc, ◌+◌, ◌-◌, ◌≤◌, ◌⊎◌, Some, None, Option, sym, refl, ap, ◌∙◌, inl, inr, arith}
use Rattle.terms.specs.declared.word.Side.{Side}
use Rattle.terms.specs.declared.word.Word.{Word}
use Rattle.terms.specs.declared.answer.Answer.{Answer}
use Rattle.terms.specs.declared.answer.Answer.TheVariants.{Yes, No, Undecided}
use Rattle.laws.specs.Rules.{Outcome, yes_yes, no_no, yes_no, on, Reading, common, blank_heard, apart, After, turned_away, named_self, differed, leaned, kept_own, tossed, In}
use Rattle.laws.specs.Pages.{Pages, Heard, Read, Ended, Grounded, Carried, Follows}
use Rattle.laws.proofs.Majorities.{meet, member}
use Rattle.laws.proofs.Readings.{none_some, reading_some}
use Rattle.laws.proofs.Finding.{find, highest, one_of_two, some_inj, Spoke, dec_spoke}
use Rattle.laws.proofs.Safety.{heard_said, named_second, names_said, same_word, called, two_up}
use Rattle.laws.proofs.Coin.{nameless}

dec_yes : (x : Option Answer) → Dec (x ≡ Some Yes)
dec_yes None = no (λ e. none_some None Yes refl e)
dec_yes (Some Yes) = yes refl
dec_yes (Some No) = no (λ e. let z : ◌≡◌ {A = ℕ} 0 1 = cc in omega arith)
dec_yes (Some Undecided) = no (λ e. let z : ◌≡◌ {A = ℕ} 0 1 = cc in omega arith)

module _ (n : ℕ) (P : Pages) (L : Grounded n P) where
  -- groups said in one phase 2 agree
  groups_said : (k r a b : ℕ) (m m' : Side) (v w : Word) → P.said a k r 2 ≡ Some v → P.said b k r 2 ≡ Some w → v.group ≡ Some m → w.group ≡ Some m' → m ≡ m'
  groups_said k r a b m m' v w s t e f =
      let A = (L.second a k r v s).0 in
      let B = (L.second b k r w t).0 in
      let c = meet n A.set B.set A.heard.enough B.heard.enough in
      let x = reading_some A.group m e c.0 c.1 in
      let y = reading_some B.group m' f c.0 c.2 in
      let z = same_word n P L k r 1 c.0 A.set B.set A.words B.words A.heard B.heard c.1 c.2 in
      cc

  -- a name and a group said in phase 2: the one who is named opened the round, in round 1, and with that group
  named_with : (k r a b m : ℕ) (h : Side) (v w : Word) → P.said a k r 2 ≡ Some v → P.said b k r 2 ≡ Some w → v.name ≡ Some m → w.group ≡ Some h
      → Spoke (P.said m k r 1) × (P.draw m k ≡ h)
  named_with k r a b m h v w s t e f =
      let A = (L.second a k r v s).0 in
      let B = (L.second b k r w t).0 in
      let c = meet n A.set B.set A.heard.enough B.heard.enough in
      let x = reading_some A.name m e c.0 c.1 in
      let y = reading_some B.group h f c.0 c.2 in
      let z = same_word n P L k r 1 c.0 A.set B.set A.words B.words A.heard B.heard c.1 c.2 in
      let d = heard_said n P L k r 1 c.0 A.set A.words A.heard c.1 in
      let one = named_second n P L a k r m v s e in
      let o = L.opens d.0 k r _ one d.1 in
      let i : d.0 ≡ m = cc in
      let j : P.draw d.0 k ≡ h = cc in
      ((_, ap (λ x. P.said x k r 1) (sym i) ∙ d.1), ap (λ x. P.draw x k) (sym i) ∙ j)

  module _ (C : Carried n P) (k : ℕ) (no : (p r : ℕ) (w : Word) → P.said p k r 1 ≡ Some w → P.answer p ≡ Some No)
      (top : (p k' : ℕ) (w : Word) → k' ≡ k + 1 → ¬ (P.said p k' 1 1 ≡ Some w)) where
    -- whoever opened a round of this last selector came to (no, no) in it, or opened the next
    NoOrOn : ℕ → ℕ → Type 0
    NoOrOn s r = Ended n P s k r no_no ⊎ Spoke (P.said s k (r + 1) 1)

    no_or_on_by : (s r : ℕ) (o : Outcome) → P.answer s ≡ Some No → Ended n P s k r o → Follows n P s k r o → NoOrOn s r
    unfolding NoOrOn
    no_or_on_by s r yes_yes a E f = let z : ◌≡◌ {A = ℕ} 0 1 = cc in absurd (omega arith)
    no_or_on_by s r no_no a E f = inl E
    no_or_on_by s r yes_no a E (inl f) = absurd (top s (k + 1) _ refl f)
    no_or_on_by s r yes_no a E (inr f) = let z : ◌≡◌ {A = ℕ} 0 1 = cc in absurd (omega arith)
    no_or_on_by s r (on g) a E (inl f) = inr (_, f)
    no_or_on_by s r (on g) a E (inr f) = let z : ◌≡◌ {A = ℕ} 0 1 = cc in absurd (omega arith)

    no_or_on : (s r : ℕ) (w : Word) → P.said s k r 1 ≡ Some w → NoOrOn s r
    no_or_on s r w t =
        let a = no s r w t in
        let x = C.to_second s k r w No a t in
        let y = C.to_end s k r x.0 No a x.1 in
        no_or_on_by s r y.0 a y.1 y.2

    -- the claim of round r: each group said in its phase 1 is the own group of one who opened it
    Claim : ℕ → Type 0
    Claim r = (q : ℕ) (w : Word) → P.said q k r 1 ≡ Some w → (s : ℕ) × Spoke (P.said s k r 1) × (w.group ≡ Some (P.draw s k))

    Next : ℕ → Side → Type 0
    Next r h = (s : ℕ) × Spoke (P.said s k (r + 1) 1) × (P.draw s k ≡ h)

    -- no-no, where group h was said in phase 2 of the round and is the own group of s: another, who is named, has it too
    refused : (s r a : ℕ) (h : Side) (v : Word) → P.said a k r 2 ≡ Some v → v.group ≡ Some h → P.draw s k ≡ h → Ended n P s k r no_no
        → (m b : ℕ) × (w : Word) × (P.said b k r 2 ≡ Some w) × (w.name ≡ Some m) × ¬ (m ≡ s)
    refused s r a h v t e d E = go E.after
      where
        go : After s (P.draw s k) r (P.coin k r) (λ q. In q E.set) E.words no_no
            → (m b : ℕ) × (w : Word) × (P.said b k r 2 ≡ Some w) × (w.name ≡ Some m) × ¬ (m ≡ s)
        go (turned_away m q i f z) = let b = heard_said n P L k r 2 q E.set E.words E.heard i in (m, b.0, _, b.1, f, z)
        go (differed g names groups z) =
            let c = member n E.set E.heard.enough in
            let b = heard_said n P L k r 2 c.0 E.set E.words E.heard c.1 in
            absurd (z (groups_said k r b.0 a g h _ v b.1 t (groups c.0 c.1) e ∙ sym d))

    -- a group said in phase 2 is the own group of one who opens the next round
    owner_goes_on : (r a : ℕ) (h : Side) (v : Word) → Claim r → P.said a k r 2 ≡ Some v → v.group ≡ Some h → Next r h
    unfolding Claim NoOrOn Next
    owner_goes_on r a h v cl t e =
        let A = (L.second a k r v t).0 in
        let c = member n A.set A.heard.enough in
        let b = heard_said n P L k r 1 c.0 A.set A.words A.heard c.1 in
        let s = cl b.0 (A.words c.0) b.1 in
        let f = reading_some A.group h e c.0 c.1 in
        let d : P.draw s.0 k ≡ h = cc in
        elim (no_or_on s.0 r s.1.0 s.1.1) [
          | inr u ↦ (s.0, u, d)
          | inl E ↦
              let x = refused s.0 r a h v t e d E in
              let y = named_with k r x.1 a x.0 h x.2 v x.3 t x.4 e in
              elim (no_or_on x.0 r y.0.0 y.0.1) [
                | inr u ↦ (x.0, u, y.1)
                | inl E' ↦
                    let x' = refused x.0 r a h v t e y.1 E' in
                    absurd (x'.5 (names_said n P L k r x'.1 x.1 x'.0 x.0 x'.2 x.2 x'.3 x.3 x'.4 x.4))
              ]
        ]

    first_claim : (r : ℕ) → r ≡ 1 → Claim r
    unfolding Claim
    first_claim r e q w t = (q, (w, t), ap (λ (v : Word). v.group) (L.opens q k r w e t))

    -- no group of phase 1 is blank
    sided : (r a : ℕ) (w : Word) → P.said a k r 1 ≡ Some w → (g : Side) × (w.group ≡ Some g)
    sided r a w t = elim (two_up r (L.bounds a k r 1 w t).4) [
      | inl e ↦ (P.draw a k, ap (λ (v : Word). v.group) (L.opens a k r w e t))
      | inr x ↦ let y = L.next_round a k (1 + x.0) r w (omega arith) (omega arith) t in (y.0, ap (λ (v : Word). v.group) y.1)
    ]

    -- where phase 2 said a blank group, phase 1 had both sides
    both_sides : (r a : ℕ) (v : Word) (c : Side) → P.said a k r 2 ≡ Some v → v.group ≡ None → (b : ℕ) × (w : Word) × (P.said b k r 1 ≡ Some w) × (w.group ≡ Some c)
    both_sides r a v c t e = go A.group e
      where
        A : Read n P k r v
        A = (L.second a k r v t).0

        was : (q : ℕ) → In q A.set → (b : ℕ) × (P.said b k r 1 ≡ Some (A.words q))
        was q i = heard_said n P L k r 1 q A.set A.words A.heard i

        go : {x : Option Side} → Reading (λ q. In q A.set) (λ q. (A.words q).group) x → x ≡ None
            → (b : ℕ) × (w : Word) × (P.said b k r 1 ≡ Some w) × (w.group ≡ Some c)
        go (common g all) e = absurd (none_some (Some g) g e refl)
        go (blank_heard q i f) e = let b = was q i in let g = sided r b.0 _ b.1 in absurd (none_some _ g.0 f g.1)
        go (apart q q' i i' d) e =
            let b = was q i in
            let b' = was q' i' in
            let g = sided r b.0 _ b.1 in
            let g' = sided r b'.0 _ b'.1 in
            elim (one_of_two g.0 g'.0 c (λ z. d (g.1 ∙ ap Some z ∙ sym g'.1))) [
              | inl z ↦ (b.0, _, b.1, g.1 ∙ ap Some z)
              | inr z ↦ (b'.0, _, b'.1, g'.1 ∙ ap Some z)
            ]

    -- where all was blank to somebody, nobody of a later round was turned away
    not_turned : (r s S : ℕ) (W : ℕ → Word) → 2 ≤ r → Heard n P k r 2 S W → ((q : ℕ) → In q S → (W q).group ≡ None)
        → Ended n P s k r no_no → ⊥
    not_turned r s S W late h blank E = go E.after
      where
        go : After s (P.draw s k) r (P.coin k r) (λ q. In q E.set) E.words no_no → ⊥
        go (turned_away m q i f z) = nameless n P L k r _ _ late E.heard q m i f
        go (differed g names groups z) =
            let c = meet n S E.set h.enough E.heard.enough in
            let e = same_word n P L k r 2 c.0 _ _ _ _ h E.heard c.1 c.2 in
            none_some (W c.0).group g (blank c.0 c.1) (ap (λ (v : Word). v.group) e ∙ groups c.0 c.2)

    next_claim : (r r' : ℕ) → 1 ≤ r → r' ≡ r + 1 → Claim r → Claim r'
    unfolding Claim Next NoOrOn
    next_claim r r' l e cl q w t =
        let x = L.next_round q k r r' w l e t in
        let y = go x.2 x.2.after in
        (y.0, (y.1.0, ap (λ z. P.said y.0 k z 1) e ∙ y.1.1), ap (λ (v : Word). v.group) x.1 ∙ ap Some (sym y.2))
      where
        itself : Spoke (P.said q k (r + 1) 1)
        itself = (w, ap (λ z. P.said q k z 1) (sym e) ∙ t)

        go : {g g' : Side} (E : Ended n P q k r (on g)) → After q (P.draw q k) r (P.coin k r) (λ q. In q E.set) E.words (on g') → Next r g'
        go E (named_self u i f) = (q, itself, refl)
        go E (kept_own names groups f) = (q, itself, refl)
        go E (leaned h u u' names i f i' d) =
            let b = heard_said n P L k r 2 u E.set E.words E.heard i in owner_goes_on r b.0 h _ cl b.1 f
        go E (tossed names groups late) =
            let c = member n E.set E.heard.enough in
            let b = heard_said n P L k r 2 c.0 E.set E.words E.heard c.1 in
            let d = both_sides r b.0 _ (P.coin k r) b.1 (groups c.0 c.1) in
            let s = cl d.0 d.1 d.2 in
            elim (no_or_on s.0 r s.1.0 s.1.1) [
              | inl E' ↦ absurd (not_turned r s.0 _ _ (omega arith) E.heard groups E')
              | inr u ↦ (s.0, u, some_inj (sym s.2 ∙ d.3))
            ]

    claim : (d r : ℕ) → r ≡ 1 + d → Claim r
    claim zero r e = first_claim r (omega arith)
    claim (suc d) r e = next_claim (1 + d) r (omega arith) (omega arith) (claim d (1 + d) refl)

    -- who was turned away heard a name, or a group from all
    HeardOf : ℕ → ℕ → Type 0
    HeardOf s r = ((g : Side) × (b : ℕ) × (w : Word) × (P.said b k r 2 ≡ Some w) × (w.group ≡ Some g))
        ⊎ ((m b : ℕ) × (w : Word) × (P.said b k r 2 ≡ Some w) × (w.name ≡ Some m) × ¬ (m ≡ s))

    turned : (s r : ℕ) → Ended n P s k r no_no → HeardOf s r
    unfolding HeardOf
    turned s r E = go E.after
      where
        go : After s (P.draw s k) r (P.coin k r) (λ q. In q E.set) E.words no_no → HeardOf s r
        go (turned_away m q i f z) = let b = heard_said n P L k r 2 q E.set E.words E.heard i in inr (m, b.0, _, b.1, f, z)
        go (differed g names groups z) =
            let c = member n E.set E.heard.enough in
            let b = heard_said n P L k r 2 c.0 E.set E.words E.heard c.1 in
            inl (g, b.0, _, b.1, groups c.0 c.1)

    named_opened : (r a m : ℕ) (v : Word) → P.said a k r 2 ≡ Some v → v.name ≡ Some m → Spoke (P.said m k r 1)
    named_opened r a m v s e =
        let A = (L.second a k r v s).0 in
        let c = member n A.set A.heard.enough in
        let x = reading_some A.name m e c.0 c.1 in
        let d = heard_said n P L k r 1 c.0 A.set A.words A.heard c.1 in
        let o = L.opens d.0 k r _ (named_second n P L a k r m v s e) d.1 in
        let i : d.0 ≡ m = cc in
        (_, ap (λ x. P.said x k r 1) (sym i) ∙ d.1)

    -- so there is no last round
    no_last : (r d s : ℕ) (w : Word) → r ≡ 1 + d → P.said s k r 1 ≡ Some w → ((p : ℕ) → ¬ Spoke (P.said p k (r + 1) 1)) → ⊥
    unfolding NoOrOn HeardOf Next
    no_last r d s w e t last = elim (no_or_on s r w t) [
      | inr u ↦ last s u
      | inl E ↦ elim (turned s r E) [
        | inl x ↦ let y = owner_goes_on r x.1 x.0 x.2 (claim d r e) x.3 x.4 in last y.0 y.1
        | inr x ↦
            let m = named_opened r x.1 x.0 x.2 x.3 x.4 in
            elim (no_or_on x.0 r m.0 m.1) [
              | inr u ↦ last x.0 u
              | inl E' ↦ elim (turned x.0 r E') [
                | inl y ↦ let z = owner_goes_on r y.1 y.0 y.2 (claim d r e) y.3 y.4 in last z.0 z.1
                | inr y ↦ y.5 (names_said n P L k r y.1 x.1 y.0 x.0 y.2 x.2 y.3 x.3 y.4 x.4)
              ]
            ]
      ]
    ]

  dec_opened : (k r : ℕ) → Dec ((p : ℕ) × Spoke (P.said p k r 1))
  dec_opened k r = elim (find (λ p. Spoke (P.said p k r 1)) (λ p. dec_spoke (P.said p k r 1)) n) [
    | inl x ↦ yes x
    | inr f ↦ no (λ t. f t.0 (L.bounds t.0 k r 1 _ t.1.1).1 t.1)
  ]

  pub somebody_wins : Carried n P → (c : ℕ) (w : Word) → P.said c 1 1 1 ≡ Some w
      → ((p : ℕ) (v : Word) → P.said p 1 1 1 ≡ Some v → (P.answer p ≡ Some Yes) ⊎ (P.answer p ≡ Some No)) → (p : ℕ) × (P.answer p ≡ Some Yes)
  somebody_wins C c w t all = elim (find (λ p. P.answer p ≡ Some Yes) (λ p. dec_yes (P.answer p)) n) [
    | inl x ↦ x
    | inr f ↦ absurd (go f)
  ]
    where
      go : ((p : ℕ) → p ≤ n → ¬ (P.answer p ≡ Some Yes)) → ⊥
      go f =
          let top = highest (λ k. (p : ℕ) × Spoke (P.said p k 1 1)) (λ k. dec_opened k 1) 16 1 (c, (w, t)) (omega arith) in
          let k = top.0 in
          let last = highest (λ r. (p : ℕ) × Spoke (P.said p k r 1)) (λ r. dec_opened k r) 16 1 top.1 (omega arith) in
          let r = last.0 in
          let s = last.1 in
          let l : 1 ≤ r = (L.bounds s.0 k r 1 _ s.1.1).4 in
          no_last C k
          (λ p r w u. elim (all p _ (called n P L p k r w u).1) [
            | inl y ↦ absurd (f p (L.bounds p k r 1 w u).1 y)
            | inr y ↦ y
          ])
          (λ p k' w e u. top.2 k' (L.bounds p k' 1 1 w u).3 (omega arith) (p, (w, u)))
          r (r - 1) s.0 _ (omega arith) s.1.1
          (λ p u. last.2 (r + 1) (L.bounds p k (r + 1) 1 _ u.1).5 (omega arith) (p, u))
