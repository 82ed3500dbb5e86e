-- A bag is how many of each message it holds.
use Rattle.std.proofs.Common.{◌≡◌, ℕ, suc, ◌+◌, ◌<◌, Bool, true, false, cond, List, [], ◌∷◌, length, get_or, Some, None, Decides, Option, sym, refl, ap, ⊎_elim, arith}
use Rattle.std.specs.Prelude.{nat_eq}
use Rattle.std.specs.List.{swap_remove}
use Rattle.std.specs.Option.{option_eq}
use Rattle.std.proofs.lemmas.List.Sorted.{IsPermutation-refl, IsPermutation-sym, IsPermutation-trans, IsPermutation-cons, sum_by-IsPermutation}
use Rattle.std.proofs.lemmas.List.Sums.{sum_by-cons}
use Rattle.std.proofs.lemmas.Bool.{cases_Bool}
use Rattle.std.proofs.lemmas.Bool.Decides.{Decides-and, Decides-eqb, Decides-like}
use denote.Enum.Bare.{same_true, true_same}
use Rattle.terms.specs.contracts.message.Kind.{the_type as kind-type}
use Rattle.terms.specs.contracts.message.KindPartialEq.TheImpl as kind-eq
use Rattle.terms.specs.contracts.word.PlacePartialEq.TheImpl as place-eq
use Rattle.terms.specs.contracts.word.Side.{the_type as side-type}
use Rattle.terms.specs.contracts.word.SidePartialEq.TheImpl as side-eq
use Rattle.terms.specs.contracts.word.WordPartialEq.TheImpl as word-eq
use Rattle.terms.specs.declared.message.Kind.{Kind}
use Rattle.terms.specs.declared.message.Message.{Message}
use Rattle.terms.specs.declared.word.Place.{Place}
use Rattle.terms.specs.declared.word.Side.{Side}
use Rattle.terms.specs.declared.word.Word.{Word}
use Rattle.channel.specs.Counts.{same_message, how_many, BagsAreCounts}
use Rattle.channel.specs.Meaning.{SameBag}
use Rattle.channel.specs.MeaningLemmas.{stands_at, one_less}

decides_kind : (x y : Kind) → Decides (kind-eq.ghosts.eq x y) (x ≡ y)
decides_kind x y = (same_true kind-type tt x y, true_same kind-type x y)

decides_side : (x y : Side) → Decides (side-eq.ghosts.eq x y) (x ≡ y)
decides_side x y = (same_true side-type tt x y, true_same side-type x y)

decides_option : {X : Type 0} (same : X → X → Bool) → ((x y : X) → Decides (same x y) (x ≡ y)) → (a b : Option X) → Decides (option_eq same a b) (a ≡ b)
decides_option same dec None None = (λ _. refl, λ _. refl)
decides_option same dec None (Some y) = (λ e. cc, λ e. cc)
decides_option same dec (Some x) None = (λ e. cc, λ e. cc)
decides_option same dec (Some x) (Some y) = (λ e. ap Some ((dec x y).0 e), λ e. (dec x y).1 (cc))

decides_word : (v w : Word) → Decides (word-eq.ghosts.eq v w) (v ≡ w)
decides_word v w =
    Decides-like _ (λ h. λ i. record { group = h.0 i; name = h.1 i }) (λ e. (cc, cc))
    (Decides-and _ _ (decides_option side-eq.ghosts.eq decides_side v.group w.group) (decides_option nat_eq Decides-eqb v.name w.name))

decides_place : (p q : Place) → Decides (place-eq.ghosts.eq p q) (p ≡ q)
decides_place p q =
    Decides-like _ (λ h. λ i. record { selector = h.0 i; round = h.1.0 i; phase = h.1.1 i })
    (λ e. (cc, (cc, cc)))
    (Decides-and _ _ (Decides-eqb _ _) (Decides-and _ _ (Decides-eqb _ _) (Decides-eqb _ _)))

decides_message : (m n : Message) → Decides (same_message m n) (m ≡ n)
decides_message m n =
    Decides-like _ (λ h. λ i. record { kind = h.0 i; sender = h.1.0 i; receiver = h.1.1.0 i; place = h.1.1.1.0 i; word = h.1.1.1.1 i })
    (λ e. (cc, (cc, (cc, (cc, cc)))))
    (Decides-and _ _ (decides_kind _ _) (Decides-and _ _ (Decides-eqb _ _) (Decides-and _ _ (Decides-eqb _ _) (Decides-and _ _ (decides_place _ _) (decides_word _ _)))))

-- what n adds to the number of m
abbrev adds : Message → Message → ℕ
adds m n = cond (same_message m n) 1 0

as_often : (xs ys : List Message) → SameBag xs ys → (m : Message) → how_many m xs ≡ how_many m ys
as_often xs ys s m = sym (sum_by-IsPermutation (adds m) xs ys s)

many_cons : (m x : Message) (xs : List Message) → how_many m (x ∷ xs) ≡ adds m x + how_many m xs
many_cons m x xs = sum_by-cons (adds m) x xs

own_counts : (x : Message) (xs : List Message) → 0 < how_many x (x ∷ xs)
own_counts x xs =
    let one : adds x x ≡ 1 = ap (λ (b : Bool). cond b 1 0) ((decides_message x x).1 refl) in
    omega (arith, many_cons x x xs)

-- a message that a list holds at least once stands at some position
found : (x : Message) (ys : List Message) → 0 < how_many x ys → (i : ℕ) × (i < length ys) × (get_or ys i x ≡ x)
found x [] h = absurd (omega arith)
found x (y ∷ ys) h =
    let c = many_cons x y ys in
    ⊎_elim
    (λ (e : same_message x y ≡ true). (0, omega arith, sym ((decides_message x y).0 e)))
    (λ (e : same_message x y ≡ false).
    let z : adds x y ≡ 0 = ap (λ (b : Bool). cond b 1 0) e in
    let r = found x ys (omega arith) in
    (suc r.0, omega (arith, r.1), r.2))
    (cases_Bool (same_message x y))

same_counts : (xs ys : List Message) → ((m : Message) → how_many m xs ≡ how_many m ys) → SameBag xs ys
same_counts [] [] h = IsPermutation-refl []
same_counts [] (y ∷ ys) h = absurd (omega (arith, h y, own_counts y ys))
same_counts (x ∷ xs) ys h =
    let f = found x ys (omega (arith, h x, own_counts x xs)) in
    let i = f.0 in
    let rest : List Message = swap_remove ys i x in
    let out : SameBag ys (x ∷ rest) = one_less ys i x f.1 (stands_at ys i x f.1 f.2) in
    let left : (m : Message) → how_many m xs ≡ how_many m rest = λ m. omega (arith, h m, as_often ys (x ∷ rest) out m, many_cons m x xs, many_cons m x rest) in
    IsPermutation-trans _ _ _ (IsPermutation-cons x xs rest (same_counts xs rest left)) (IsPermutation-sym _ _ out)

pub bags_are_counts_lem : BagsAreCounts
bags_are_counts_lem xs ys = (as_often xs ys, same_counts xs ys)
