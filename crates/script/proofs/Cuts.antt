-- How one more byte at the end changes the records of some bytes.
use Rattle.std.proofs.Common.{◌≡◌, ℕ, Bool, true, false, cond, ◌&&◌, eqb, List, [], ◌∷◌, ◌++◌, refl, ap, ◌∙◌}
use Rattle.std.proofs.lemmas.Bool.{false≢true, cond-true, cond-false, cond_both}
use Rattle.script.specs.Splits.{cut, ended, unended, ended_before, added, byte_before, some}
use Rattle.script.specs.Splitters.{ends_in_cr}

-- all but the last byte
abbrev pub init : List ℕ → List ℕ
init [] = []
init (b ∷ []) = []
init (b ∷ c ∷ bs) = b ∷ init (c ∷ bs)

-- a CR LF ends the bytes behind the last record, and any other byte is one more of them
abbrev fed : List (List ℕ) → List ℕ → ℕ → List (List ℕ) × List ℕ
fed rs t b = cond (ends_in_cr t && eqb b 10) (rs ++ init t ∷ [], []) (rs, t ++ b ∷ [])

of_cond : {X Y : Type 0} (f : X → Y) (t : Bool) (x y : X) → f (cond t x y) ≡ cond t (f x) (f y)
of_cond f true x y = refl
of_cond f false x y = refl

-- there is a record or a byte
abbrev Filled : List (List ℕ) → List ℕ → Type 0
Filled [] [] = ⊥
Filled [] (b ∷ t) = Unit {0}
Filled (r ∷ rs) t = Unit {0}

filled_added : (b : ℕ) (rs : List (List ℕ)) (t : List ℕ) → Filled (added b rs t).0 (added b rs t).1
filled_added b [] t = tt
filled_added b (r ∷ rs) t = tt

filled : (b : ℕ) (bs : List ℕ) → Filled (cut (b ∷ bs)).0 (cut (b ∷ bs)).1
filled b [] = tt
filled b (c ∷ bs) = cond_both (eqb b 13 && eqb c 10) (ended_before (cut bs)) (byte_before b (cut (c ∷ bs))) (λ x. Filled x.0 x.1) (λ _. tt) (λ _. filled_added b (cut (c ∷ bs)).0 (cut (c ∷ bs)).1)

fed_ended : (rs : List (List ℕ)) (t : List ℕ) (b : ℕ) → ended_before (fed rs t b) ≡ fed ([] ∷ rs) t b
fed_ended rs t b = of_cond ended_before (ends_in_cr t && eqb b 10) _ _

fed_added : (a : ℕ) (rs : List (List ℕ)) (t : List ℕ) (b : ℕ) → Filled rs t → byte_before a (fed rs t b) ≡ fed (added a rs t).0 (added a rs t).1 b
fed_added a [] [] b h = absurd h
fed_added a [] (c ∷ t) b h = of_cond (byte_before a) (ends_in_cr (c ∷ t) && eqb b 10) _ _
fed_added a (r ∷ rs) t b h = of_cond (byte_before a) (ends_in_cr t && eqb b 10) _ _

by_cases : (b : ℕ) (t : Bool) (x y x' y' : List (List ℕ) × List ℕ) → x' ≡ fed x.0 x.1 b → y' ≡ fed y.0 y.1 b → cond t x' y' ≡ fed (cond t x y).0 (cond t x y).1 b
by_cases b true x y x' y' p q = p
by_cases b false x y x' y' p q = q

cut_more : (bs : List ℕ) (b : ℕ) → cut (bs ++ b ∷ []) ≡ fed (ended bs) (unended bs) b
cut_more [] b = refl
cut_more (a ∷ []) b = refl
cut_more (a ∷ c ∷ bs) b =
    by_cases b (eqb a 13 && eqb c 10) (ended_before (cut bs)) (byte_before a (cut (c ∷ bs))) (ended_before (cut (bs ++ b ∷ []))) (byte_before a (cut (c ∷ bs ++ b ∷ [])))
    (ap ended_before (cut_more bs b) ∙ fed_ended (ended bs) (unended bs) b)
    (ap (byte_before a) (cut_more (c ∷ bs) b) ∙ fed_added a (ended (c ∷ bs)) (unended (c ∷ bs)) b (filled c bs))

pub cut_end : (bs : List ℕ) (b : ℕ) → (ends_in_cr (unended bs) && eqb b 10) ≡ true → cut (bs ++ b ∷ []) ≡ (ended bs ++ init (unended bs) ∷ [], [])
cut_end bs b t = cut_more bs b ∙ cond-true _ _ _ t

pub cut_on : (bs : List ℕ) (b : ℕ) → (ends_in_cr (unended bs) && eqb b 10) ≡ false → cut (bs ++ b ∷ []) ≡ (ended bs, unended bs ++ b ∷ [])
cut_on bs b t = cut_more bs b ∙ cond-false _ _ _ t

init_some : (a : ℕ) (t : List ℕ) → (c : ℕ) × (a ∷ t ≡ init (a ∷ t) ++ c ∷ [])
init_some a [] = (a, refl)
init_some a (b ∷ t) = let x = init_some b t in (x.0, ap (λ l. a ∷ l) x.1)

pub init_is : (t : List ℕ) → ends_in_cr t ≡ true → (c : ℕ) × (t ≡ init t ++ c ∷ [])
init_is [] h = absurd (false≢true h)
init_is (a ∷ t) h = init_some a t

pub ends_more : (t : List ℕ) (b : ℕ) → ends_in_cr (t ++ b ∷ []) ≡ eqb b 13
ends_more [] b = refl
ends_more (a ∷ []) b = refl
ends_more (a ∷ c ∷ t) b = ends_more (c ∷ t) b

pub some_more : (t : List ℕ) (b : ℕ) → some (t ++ b ∷ []) ≡ true
some_more [] b = refl
some_more (a ∷ t) b = refl

pub ends_some : (t : List ℕ) → ends_in_cr t ≡ true → some t ≡ true
ends_some [] e = e
ends_some (a ∷ t) e = refl
