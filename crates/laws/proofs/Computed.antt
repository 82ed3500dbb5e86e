-- The computed rules keep to the relations: what a controller reads after phase 1, and what it comes to after phase 2.
use Rattle.std.proofs.Common.{◌≡◌, ℕ, zero, suc, ◌-◌, ◌/◌, ◌%◌, ◌^◌, ◌<◌, ◌≤◌, Bool, true, false, cond, eqb, ltb, ◌⊎◌, List, [], ◌∷◌, ◌++◌, get_or, Some, None, Decides, Option, sym, refl, ap, ◌∙◌, subst, inl, inr, arith}
use native.Mathlib.Decide.{dec_le, ℕ_discrete}
use native.Mathlib.Nat.{div-eq_of_lt}
use Rattle.std.proofs.lemmas.Nat.{pow_below}
use Rattle.std.proofs.lemmas.Bool.Decides.{Decides-eqb}
use Rattle.terms.specs.declared.rules.Verdict.{Verdict}
use Rattle.terms.specs.declared.rules.Verdict.TheVariants.{Pair, GoOn}
use Rattle.terms.specs.declared.word.Side.{Side}
use Rattle.terms.specs.declared.word.Side.TheVariants.{Zero, One}
use Rattle.terms.specs.declared.word.Word.{Word}
use Rattle.terms.specs.Heard.{has_bit, blank, heard_entries, heard_groups, heard_names}
use Rattle.terms.specs.Readings.{same_side, below_side, every, alike, reading_of, smaller, smallest_of}
use Rattle.terms.specs.Rules.{second_word, by_smallest_group, by_group, by_smallest_name, verdict_of}
use Rattle.laws.specs.Rules.{
  Outcome,
  yes_yes,
  no_no,
  yes_no,
  on,
  Reading,
  common,
  blank_heard,
  apart,
  After,
  turned_away,
  won,
  named_self,
  agreed,
  differed,
  leaned,
  kept_own,
  tossed,
  In,
}
use Rattle.laws.proofs.Finding.{some_inj, dec_group}
use Rattle.laws.proofs.Readings.{none_some, reading_some}

-- a selector's result as an outcome
abbrev pub outcome_of_pair : Bool → Bool → Outcome
outcome_of_pair true true = yes_yes
outcome_of_pair true false = yes_no
outcome_of_pair false second = no_no

abbrev pub outcome_of : Verdict → Outcome
outcome_of (Pair result) = outcome_of_pair result.0 result.1
outcome_of (GoOn group) = on group

false_true : (b : Bool) → b ≡ false → b ≡ true → ⊥
false_true b e f = let z : ◌≡◌ {A = ℕ} 0 1 = cc in omega arith

side_decides : (a b : Side) → Decides (same_side a b) (a ≡ b)
side_decides Zero Zero = (λ e. refl, λ e. refl)
side_decides Zero One = (λ e. absurd (false_true false refl e), λ e. let z : ◌≡◌ {A = ℕ} 0 1 = cc in absurd (omega arith))
side_decides One Zero = (λ e. absurd (false_true false refl e), λ e. let z : ◌≡◌ {A = ℕ} 0 1 = cc in absurd (omega arith))
side_decides One One = (λ e. refl, λ e. refl)

-- ---- lists that hold what the controllers of H sent, and all of it

abbrev Mem : {X : Type 0} → X → List X → Type 0
Mem x [] = ⊥
Mem x (y ∷ ys) = (x ≡ y) ⊎ Mem x ys

record Covers {X : Type 0} (xs : List X) (H : ℕ → Type 0) (f : ℕ → X) : Type 0 where
  sent : (x : X) → Mem x xs → (q : ℕ) × H q × (f q ≡ x)
  all : (q : ℕ) → H q → Mem (f q) xs
  some : (q : ℕ) × H q

module _ {X : Type 0} where
  mem_left : (x y : X) (xs : List X) → Mem x xs → Mem x (xs ++ (y ∷ []))
  mem_left x y [] m = absurd m
  mem_left x y (z ∷ zs) (inl e) = inl e
  mem_left x y (z ∷ zs) (inr m) = inr (mem_left x y zs m)

  mem_last : (y : X) (xs : List X) → Mem y (xs ++ (y ∷ []))
  mem_last y [] = inl refl
  mem_last y (z ∷ zs) = inr (mem_last y zs)

  mem_push : (x y : X) (xs : List X) → Mem x (xs ++ (y ∷ [])) → (x ≡ y) ⊎ Mem x xs
  mem_push x y [] (inl e) = inl e
  mem_push x y [] (inr m) = absurd m
  mem_push x y (z ∷ zs) (inl e) = inr (inl e)
  mem_push x y (z ∷ zs) (inr m) = elim (mem_push x y zs m) [ inl e ↦ inl e | inr i ↦ inr (inr i) ]

-- who is in a set below 2 ^ n is one of the first n
in_below : (n S q : ℕ) → S < 2 ^ n → In q S → q ≤ n
in_below n S q h i = elim (dec_le q n) [
  | yes l ↦ l
  | no l ↦
      let e : S / 2 ^ (q - 1) ≡ 0 = div-eq_of_lt (below (omega arith) (ℕ_discrete n (q - 1))) in
      let j = i.1 in
      absurd (omega arith)
]
  where
    below : n < q → Dec (n ≡ q - 1) → S < 2 ^ (q - 1)
    below l (yes e) = subst (λ z. S < 2 ^ z) e h
    below l (no d) = let z = pow_below n (q - 1) (omega arith) in omega arith

module _ {A : Type 0} (entry : Word → A) (S : ℕ) (ws : List Word) where
  abbrev sent_by : ℕ → A
  sent_by q = entry (get_or ws (q - 1) blank)

  entries_sent : (i : ℕ) (x : A) → Mem x (heard_entries entry i S ws) → (q : ℕ) × In q S × (sent_by q ≡ x)
  entries_sent zero x m = absurd m
  entries_sent (suc i) x m = go (entries_sent i x) (has_bit S i) refl m
    where
      go : (Mem x (heard_entries entry i S ws) → (q : ℕ) × In q S × (sent_by q ≡ x)) → (b : Bool) → has_bit S i ≡ b
          → Mem x (cond b (heard_entries entry i S ws ++ entry (get_or ws i blank) ∷ []) (heard_entries entry i S ws))
          → (q : ℕ) × In q S × (sent_by q ≡ x)
      go rest true e m = elim (mem_push x (entry (get_or ws i blank)) (heard_entries entry i S ws) m) [
        | inl f ↦
            let z : i ≡ suc i - 1 = omega arith in
            (suc i, (omega arith, subst (λ j. S / 2 ^ j % 2 ≡ 1) z ((Decides-eqb (S / 2 ^ i % 2) 1).0 e)), ap (λ j. entry (get_or ws j blank)) (sym z) ∙ sym f)
        | inr m' ↦ rest m'
      ]
      go rest false e m = rest m

  entries_all : (i q : ℕ) → q ≤ i → In q S → Mem (sent_by q) (heard_entries entry i S ws)
  entries_all zero q l h = absurd (let z = h.0 in omega arith)
  entries_all (suc i) q l h = go (λ l. entries_all i q l h) (has_bit S i) refl
    where
      go : (q ≤ i → Mem (sent_by q) (heard_entries entry i S ws)) → (b : Bool) → has_bit S i ≡ b
          → Mem (sent_by q) (cond b (heard_entries entry i S ws ++ entry (get_or ws i blank) ∷ []) (heard_entries entry i S ws))
      go rest true e = elim (ℕ_discrete q (suc i)) [
        | yes f ↦
            let z : i ≡ q - 1 = omega arith in
            subst (λ j. Mem (entry (get_or ws j blank)) (heard_entries entry i S ws ++ entry (get_or ws i blank) ∷ [])) z
            (mem_last (entry (get_or ws i blank)) (heard_entries entry i S ws))
        | no d ↦ mem_left (sent_by q) (entry (get_or ws i blank)) (heard_entries entry i S ws) (rest (omega arith))
      ]
      go rest false e = elim (ℕ_discrete q (suc i)) [
        | yes f ↦
            let z : q - 1 ≡ i = omega arith in
            absurd (false_true (has_bit S i) e ((Decides-eqb (S / 2 ^ i % 2) 1).1 (subst (λ j. S / 2 ^ j % 2 ≡ 1) z h.1)))
        | no d ↦ rest (omega arith)
      ]

  entries_cover : (n : ℕ) → S < 2 ^ n → (q : ℕ) × In q S → Covers (heard_entries entry n S ws) (λ q. In q S) sent_by
  entries_cover n small some = record {
    sent = entries_sent n;
    all = λ q i. entries_all n q (in_below n S q small i) i;
    some = some;
  }

-- ---- readings

module _ {A : Type 0} (same : A → A → Bool) (dec : (a b : A) → Decides (same a b) (a ≡ b)) where
  alike_true : (x y : Option A) → alike same x y ≡ true → y ≡ x
  alike_true None None e = refl
  alike_true None (Some b) e = absurd (false_true false refl e)
  alike_true (Some a) None e = absurd (false_true false refl e)
  alike_true (Some a) (Some b) e = ap Some (sym ((dec a b).0 e))

  alike_refl : (x y : Option A) → y ≡ x → alike same x y ≡ true
  alike_refl None None e = refl
  alike_refl None (Some b) e = absurd (none_some None b refl (sym e))
  alike_refl (Some a) None e = absurd (none_some None a refl e)
  alike_refl (Some a) (Some b) e = (dec a b).1 (some_inj (sym e))

  -- all are x, or one is not
  abbrev Told : Option A → List (Option A) → Type 0
  Told x xs = ((every (alike same x) xs ≡ true) × ((y : Option A) → Mem y xs → y ≡ x))
      ⊎ ((every (alike same x) xs ≡ false) × ((y : Option A) × Mem y xs × ¬ (y ≡ x)))

  every_tells : (x : Option A) (xs : List (Option A)) → Told x xs
  every_tells x [] = inl (refl, λ y m. absurd m)
  every_tells x (y ∷ ys) = go (alike same x y) refl (every_tells x ys)
    where
      by : {b : Bool} → alike same x y ≡ b → every (alike same x) (y ∷ ys) ≡ cond b (every (alike same x) ys) false
      by e = ap (λ b. cond b (every (alike same x) ys) false) e

      go : (b : Bool) → alike same x y ≡ b → Told x ys → Told x (y ∷ ys)
      go true e (inl t) = inl (by e ∙ t.0, λ z m. elim m [ inl f ↦ f ∙ alike_true x y e | inr f ↦ t.1 z f ])
      go true e (inr t) = inr (by e ∙ t.0, (t.1.0, inr t.1.1, t.1.2))
      go false e t = inr (by e, (y, inl refl, λ f. false_true _ e (alike_refl x y f)))

  one_entry : {H : ℕ → Type 0} {f : ℕ → Option A} (x : Option A) → ((q : ℕ) → H q → f q ≡ x) → (q : ℕ) × H q → Reading H f x
  one_entry None h s = blank_heard s.0 s.1 (h s.0 s.1)
  one_entry (Some a) h s = common a h

  reading_is : {H : ℕ → Type 0} {f : ℕ → Option A} (xs : List (Option A)) → Covers xs H f → Reading H f (reading_of same xs)
  reading_is [] C = absurd (C.all C.some.0 C.some.1)
  reading_is {H} {f} (x ∷ xs) C = go (every_tells x xs)
    where
      go : Told x xs → Reading H f (cond (every (alike same x) xs) x None)
      go (inl t) = subst (λ b. Reading H f (cond b x None)) (sym t.0) (one_entry x (λ q i. elim (C.all q i) [ inl e ↦ e | inr m ↦ t.1 (f q) m ]) C.some)
      go (inr t) =
          let a = C.sent x (inl refl) in
          let b = C.sent t.1.0 (inr t.1.1) in
          subst (λ b. Reading H f (cond b x None)) (sym t.0) (apart a.0 b.0 a.1 b.1 (λ e. t.1.2 (sym b.2 ∙ sym e ∙ a.2)))

-- ---- the smallest is an entry, or none where all are blank

module _ {A : Type 0} (below : A → A → Bool) where
  smaller_none : (x y : Option A) → smaller below x y ≡ None → (x ≡ None) × (y ≡ None)
  smaller_none None y e = (refl, e)
  smaller_none (Some a) None e = absurd (none_some (Some a) a e refl)
  smaller_none (Some a) (Some b) e = go (below b a) e
    where
      go : (t : Bool) → cond t (Some b) (Some a) ≡ None → (Some a ≡ None) × (Some b ≡ None)
      go true e = absurd (none_some (Some b) b e refl)
      go false e = absurd (none_some (Some a) a e refl)

  smaller_some : (x y : Option A) (a : A) → smaller below x y ≡ Some a → (x ≡ Some a) ⊎ (y ≡ Some a)
  smaller_some None y a e = inr e
  smaller_some (Some b) None a e = inl e
  smaller_some (Some b) (Some d) a e = go (below d b) e
    where
      go : (t : Bool) → cond t (Some d) (Some b) ≡ Some a → (Some b ≡ Some a) ⊎ (Some d ≡ Some a)
      go true e = inr e
      go false e = inl e

  smallest_none : (best : Option A) (xs : List (Option A)) → smallest_of below best xs ≡ None → (best ≡ None) × ((y : Option A) → Mem y xs → y ≡ None)
  smallest_none best [] e = (e, λ y m. absurd m)
  smallest_none best (x ∷ xs) e =
      let a = smallest_none (smaller below best x) xs e in
      let b = smaller_none best x a.0 in
      (b.0, λ y m. elim m [ inl f ↦ f ∙ b.1 | inr f ↦ a.1 y f ])

  smallest_some : (best : Option A) (xs : List (Option A)) (a : A) → smallest_of below best xs ≡ Some a → (best ≡ Some a) ⊎ Mem (Some a) xs
  smallest_some best [] a e = inl e
  smallest_some best (x ∷ xs) a e = elim (smallest_some (smaller below best x) xs a e) [
    | inr m ↦ inr (inr m)
    | inl f ↦ elim (smaller_some best x a f) [ inl g ↦ inl g | inr g ↦ inr (inl (sym g)) ]
  ]

  -- from no entry on
  smallest_in : (xs : List (Option A)) (a : A) → smallest_of below None xs ≡ Some a → Mem (Some a) xs
  smallest_in xs a e = elim (smallest_some None xs a e) [ inl f ↦ absurd (none_some None a refl f) | inr m ↦ m ]

-- a blank reading: one entry at least is not h
not_all : {H : ℕ → Type 0} {f : ℕ → Option Side} {v : Option Side} → Reading H f v → v ≡ None → (h : Side) → (q : ℕ) × H q × ¬ (f q ≡ Some h)
not_all (common a all) e h = absurd (none_some (Some a) a e refl)
not_all {f = f} (blank_heard q i b) e h = (q, i, λ z. none_some (f q) h b z)
not_all {f = f} (apart q q' i i' d) e h = elim (dec_group (f q) h) [
  | yes z ↦ (q', i', λ y. d (z ∙ sym y))
  | no z ↦ (q, i, z)
]

-- ---- the step after phase 2

module _ (p : ℕ) (own : Side) (r : ℕ) (coin : Side) {H : ℕ → Type 0} {W : ℕ → Word} (gs : List (Option Side)) (ns : List (Option ℕ))
    (CG : Covers gs H (λ q. (W q).group)) (CN : Covers ns H (λ q. (W q).name)) where
  abbrev Is : Verdict → Type 0
  Is v = After p own r coin H W (outcome_of v)

  RG : Reading H (λ q. (W q).group) (reading_of same_side gs)
  RG = reading_is same_side side_decides gs CG

  module _ (names : (q : ℕ) → H q → (W q).name ≡ None) where
    all_blank : ((q : ℕ) → H q → (W q).group ≡ None) → (b : Bool) → eqb r 1 ≡ b → Is (cond b (GoOn own) (GoOn coin))
    all_blank g true e = kept_own names g ((Decides-eqb r 1).0 e)
    all_blank g false e = tossed names g (λ z. false_true _ e ((Decides-eqb r 1).1 z))

    by_least : reading_of same_side gs ≡ None → (v : Option Side) → smallest_of below_side None gs ≡ v → Is (by_smallest_group own r coin v)
    by_least u (Some h) e =
        let a = CG.sent (Some h) (smallest_in below_side gs h e) in
        let b = not_all RG u h in
        leaned h a.0 b.0 names a.1 a.2 b.1 b.2
    by_least u None e = all_blank (λ q i. (smallest_none below_side None gs e).1 _ (CG.all q i)) (eqb r 1) refl

    all_same : (g : Side) → reading_of same_side gs ≡ Some g → (b : Bool) → same_side g own ≡ b → Is (cond b (Pair (true, false)) (Pair (false, false)))
    all_same g u true e = agreed names (λ q i. reading_some RG g u q i ∙ ap Some ((side_decides g own).0 e))
    all_same g u false e = differed g names (reading_some RG g u) (λ z. false_true _ e ((side_decides g own).1 z))

    by_reading : (v : Option Side) → reading_of same_side gs ≡ v → Is (by_group own r coin gs v)
    by_reading (Some g) u = all_same g u (same_side g own) refl
    by_reading None u = by_least u (smallest_of below_side None gs) refl

  named : (q : ℕ) → H q → (W q).name ≡ Some p → Told eqb Decides-eqb (Some p) ns → Is (cond (every (alike eqb (Some p)) ns) (Pair (true, true)) (GoOn own))
  named q i f (inl t) = subst (λ b. Is (cond b (Pair (true, true)) (GoOn own))) (sym t.0) (won (λ q i. t.1 _ (CN.all q i)))
  named q i f (inr t) = subst (λ b. Is (cond b (Pair (true, true)) (GoOn own))) (sym t.0) (named_self q i f)

  by_least_name : (v : Option ℕ) → smallest_of ltb None ns ≡ v → Is (by_smallest_name p own r coin gs ns v)
  by_least_name None e = by_reading (λ q i. (smallest_none ltb None ns e).1 _ (CN.all q i)) (reading_of same_side gs) refl
  by_least_name (Some m) e = go (eqb m p) refl
    where
      a : (q : ℕ) × H q × ((W q).name ≡ Some m)
      a = CN.sent (Some m) (smallest_in ltb ns m e)

      go : (b : Bool) → eqb m p ≡ b → Is (cond b (cond (every (alike eqb (Some p)) ns) (Pair (true, true)) (GoOn own)) (Pair (false, false)))
      go true f = named a.0 a.1 (a.2 ∙ ap Some ((Decides-eqb m p).0 f)) (every_tells eqb Decides-eqb (Some p) ns)
      go false f = turned_away m a.0 a.1 a.2 (λ z. false_true _ f ((Decides-eqb m p).1 z))

-- ---- over the words heard

pub words_read : (n S : ℕ) (ws : List Word) → S < 2 ^ n → n ≤ 15 → (q : ℕ) × In q S
    → Reading (λ q. In q S) (λ q. (get_or ws (q - 1) blank).group) (second_word (heard_groups n S ws) (heard_names n S ws)).group
    × Reading (λ q. In q S) (λ q. (get_or ws (q - 1) blank).name) (second_word (heard_groups n S ws) (heard_names n S ws)).name
words_read n S ws small few some = (
  reading_is same_side side_decides (heard_groups n S ws) (entries_cover (λ (w : Word). w.group) S ws n small some),
  reading_is eqb Decides-eqb (heard_names n S ws) (entries_cover (λ (w : Word). w.name) S ws n small some),
)

pub verdict_after : (p : ℕ) (own : Side) (r : ℕ) (coin : Side) (n S : ℕ) (ws : List Word) → S < 2 ^ n → (q : ℕ) × In q S
    → After p own r coin (λ q. In q S) (λ q. get_or ws (q - 1) blank) (outcome_of (verdict_of p own r coin (heard_groups n S ws) (heard_names n S ws)))
verdict_after p own r coin n S ws small some =
    by_least_name p own r coin (heard_groups n S ws) (heard_names n S ws) (entries_cover (λ (w : Word). w.group) S ws n small some)
    (entries_cover (λ (w : Word). w.name) S ws n small some) (smallest_of ltb None (heard_names n S ws)) refl
