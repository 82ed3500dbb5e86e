-- The reading and the smallest entry, in the words of the library.
use Rattle.std.proofs.Common.{◌≡◌, ℕ, ◌-◌, ◌≤◌, Bool, true, false, cond, ◌&&◌, List, [], ◌∷◌, length, get_or, take, drop, Some, None, Option, refl, sym, ap, ◌∙◌, is_lt, ltb, arith, rules}
use Rattle.std.proofs.lemmas.List.{take_all}
use Rattle.std.proofs.Math.Path.{fun_ext}
use Rattle.std.specs.Cmp.{IsTotalOrder}
use Rattle.std.specs.List.{list_all, filter_map, fold, reduce}
use Rattle.std.specs.Option.{option_eq}
use Rattle.std.specs.declared.cmp.Ordering.{Ordering}
use Rattle.std.specs.declared.cmp.Ordering.TheVariants.{Less, Equal, Greater}
use Rattle.std.specs.Ordering.{min_by_ordering, nat_cmp, ordering_reverse}
use Rattle.terms.specs.contracts.word.SideOrd.TheImpl as side_order
use Rattle.terms.specs.contracts.word.SidePartialEq.TheImpl as side_eq
use Rattle.terms.specs.declared.word.Side.{Side}
use Rattle.terms.specs.declared.word.Side.TheVariants.{Zero, One}
use Rattle.terms.specs.Readings.{Answers, alike, every, reading_of, smaller, smallest_of, same_side, below_side}

and_is : (a b : Bool) → (a && b) ≡ cond a b false
and_is true b = refl
and_is false b = refl

module _ {A : Type 0} (same : A → A → Bool) where
  alike_is : (x y : Option A) → option_eq same x y ≡ alike same x y
  alike_is None None = refl
  alike_is None (Some b) = refl
  alike_is (Some a) None = refl
  alike_is (Some a) (Some b) = refl

  pub all_alike_is : (x : Option A) (xs : List (Option A)) → list_all (option_eq same x) xs ≡ every (alike same x) xs
  all_alike_is x [] = refl
  all_alike_is x (y ∷ ys) =
      and_is (option_eq same x y) (list_all (option_eq same x) ys) ∙ ap (λ t. cond t (list_all (option_eq same x) ys) false) (alike_is x y)
      ∙ ap (λ t. cond (alike same x y) t false) (all_alike_is x ys)

  -- the first entry, if that is what the test of the others came to, else a blank
  pub reading_is : (xs : List (Option A)) (first : Option A) (r b : Bool) → 1 ≤ length xs → first ≡ get_or xs 0 first
      → r ≡ every (alike same first) (take (length xs - 1) (drop 1 xs)) → r ≡ b → cond b first None ≡ reading_of same xs
  reading_is [] first r b h e t c = absurd (omega arith)
  reading_is (x ∷ xs) first r b h e t c =
      let a : take (length (x ∷ xs) - 1) xs ≡ xs = take_all _ xs (omega arith) in
      let q : every (alike same x) xs ≡ b = ap (λ y. every (alike same y) xs) (sym e) ∙ ap (every (alike same first)) (sym a) ∙ sym t ∙ c in
      sym (ap (λ b. cond b x None) q ∙ ap (λ y. cond b y None) (sym e))

module _ {A : Type 0} (order : A → A → Ordering) (total : IsTotalOrder order) where
  by_order : (o : Ordering) (a b : A) → min_by_ordering o a b ≡ cond (is_lt (ordering_reverse o)) b a
  by_order Less a b = refl
  by_order Equal a b = refl
  by_order Greater a b = refl

  smaller_picks : (a b : A) → smaller (λ x y. is_lt (order x y)) (Some a) (Some b) ≡ Some (min_by_ordering (order a b) a b)
  smaller_picks a b =
      let e : is_lt (order b a) ≡ is_lt (ordering_reverse (order a b)) = ap is_lt (total.antisymm b a) in
      ap (λ t. cond t (Some b) (Some a)) e ∙ some_of (is_lt (ordering_reverse (order a b))) ∙ ap Some (sym (by_order (order a b) a b))
    where
      some_of : (t : Bool) → cond t (Some b) (Some a) ≡ Some (cond t b a)
      some_of true = refl
      some_of false = refl

  smallest_with : (a : A) (xs : List (Option A)) → smallest_of (λ x y. is_lt (order x y)) (Some a) xs ≡ Some (fold (λ x y. min_by_ordering (order x y) x y) a (filter_map (λ o. o) xs))
  smallest_with a [] = refl
  smallest_with a (None ∷ xs) = smallest_with a xs
  smallest_with a (Some b ∷ xs) =
      ap (λ o. smallest_of (λ x y. is_lt (order x y)) o xs) (smaller_picks a b) ∙ smallest_with (min_by_ordering (order a b) a b) xs

  pub smallest_is : (xs : List (Option A)) → reduce (λ x y. min_by_ordering (order x y) x y) (filter_map (λ o. o) xs) ≡ smallest_of (λ x y. is_lt (order x y)) None xs
  smallest_is [] = refl
  smallest_is (None ∷ xs) = smallest_is xs
  smallest_is (Some a ∷ xs) = sym (smallest_with a xs)

module _ {A : Type 0} (own test : A → A → Bool) (says : Answers (λ x y b. b ≡ own x y) test) where
  they_agree : own ≡ test
  they_agree = fun_ext (λ x. fun_ext (λ y. says x y (own x y) refl))

  -- a test that says what the type's own comparison answers gives the same reading and the same smallest entry
  pub reading_by : (xs : List (Option A)) → reading_of own xs ≡ reading_of test xs
  reading_by xs = ap (λ (f : A → A → Bool). reading_of f xs) they_agree

  pub smallest_by : (xs : List (Option A)) → smallest_of own None xs ≡ smallest_of test None xs
  smallest_by xs = ap (λ (f : A → A → Bool). smallest_of f None xs) they_agree

side_same : (a b : Side) → side_eq.ghosts.eq a b ≡ same_side a b
side_same Zero Zero = refl
side_same Zero One = refl
side_same One Zero = refl
side_same One One = refl

side_below : (a b : Side) → is_lt (side_order.ghosts.cmp a b) ≡ below_side a b
side_below Zero Zero = refl
side_below Zero One = refl
side_below One Zero = refl
side_below One One = refl

number_below : (a b : ℕ) → is_lt (nat_cmp a b) ≡ ltb a b
number_below a b = search rules

-- a side's and a number's own comparisons are the tests of the rules
pub read_sides : (xs : List (Option Side)) → reading_of side_eq.ghosts.eq xs ≡ reading_of same_side xs
read_sides = reading_by side_eq.ghosts.eq same_side (λ a b r e. e ∙ side_same a b)

pub smallest_side : (xs : List (Option Side)) → smallest_of (λ x y. is_lt (side_order.ghosts.cmp x y)) None xs ≡ smallest_of below_side None xs
smallest_side = smallest_by (λ x y. is_lt (side_order.ghosts.cmp x y)) below_side (λ a b r e. e ∙ side_below a b)

pub smallest_number : (xs : List (Option ℕ)) → smallest_of (λ x y. is_lt (nat_cmp x y)) None xs ≡ smallest_of ltb None xs
smallest_number = smallest_by (λ x y. is_lt (nat_cmp x y)) ltb (λ a b r e. e ∙ number_below a b)
