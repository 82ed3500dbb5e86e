-- The fields of a record, cut at a comma, and the numbers that digits write.
use Rattle.std.proofs.Common.{◌≡◌, ◌≢◌, ℕ, suc, zero, ◌+◌, ◌-◌, ◌*◌, ◌^◌, ◌<◌, ◌≤◌, ◌==◌, Bool, true, false, cond, ◌&&◌, nat_le, eqb, ◌⊎◌, List, [], ◌∷◌, ◌++◌, length, get_or, take, drop, Option, Some, None, sym, refl, ap, ◌∙◌, inl, inr, arith}
use Rattle.std.proofs.lemmas.Bool.{cases_Bool, cases_lt, cond-true, cond-false, and_right, le-leb, lt-leb, eqb-true, eq-eqb, ne_eqb}
use Rattle.std.proofs.lemmas.Bool.Decides.{nat_tests}
use Rattle.std.proofs.lemmas.Int.Digits.{digits_value_push}
use Rattle.std.proofs.lemmas.List.{length_push, take_rest}
use Rattle.std.proofs.lemmas.List.Folds.{list_all-append, list_all_at, list_all_more}
use Rattle.std.proofs.lemmas.List.Sums.{passes_at_first}
use Rattle.std.proofs.lemmas.Str.Parse.{IsNumeralModel, numerals_by_value, tells_all_ascii_digits, digits_value_short}
use Rattle.std.specs.Char.{digit_value, is_ascii_digit}
use Rattle.std.specs.List.{list_all, position_or_len}
use Rattle.std.specs.Str.{all_ascii_digits}
use Rattle.std.specs.Str.Parse.{digits_value}
use Rattle.script.specs.Records.{fields, in_front, number, is_letter, acting, opening, of_fields}

-- ---- reading a number

numerals : IsNumeralModel (λ ds. all_ascii_digits ds ≡ true) (digits_value 10)
numerals = numerals_by_value _ tells_all_ascii_digits

pub all_digits : (ds : List ℕ) → list_all is_ascii_digit ds ≡ all_ascii_digits ds
all_digits [] = refl
all_digits (d ∷ ds) = ap (λ t. is_ascii_digit d && t) (all_digits ds)

-- at most k digits write a number below 10 ^ k
pub digits_below : (ds : List ℕ) (k : ℕ) → all_ascii_digits ds ≡ true → length ds ≤ k → digits_value 10 ds < 10 ^ k
digits_below ds k t few = digits_value_short numerals ds k t few

-- a digit that is read is one, and its value is below 10
pub digit_read : (d v : ℕ) → Some v ≡ cond (is_ascii_digit d) (Some (digit_value d)) None → (is_ascii_digit d ≡ true) × (v ≡ digit_value d) × (v < 10)
digit_read d v e = elim (cases_Bool (is_ascii_digit d)) [ inl t ↦ let same : v ≡ digit_value d = grind arith in (t, same, grind (arith, nat_tests)) | inr t ↦ absurd (grind arith) ]

-- the digits up to an index, and the one there
pub digits_more : (ds : List ℕ) (i : ℕ) → i < length ds → all_ascii_digits (take (i + 1) ds) ≡ (all_ascii_digits (take i ds) && is_ascii_digit (get_or ds i 0))
digits_more ds i h = sym (all_digits (take (i + 1) ds)) ∙ list_all_more is_ascii_digit ds i 0 h ∙ ap (λ t. t && is_ascii_digit (get_or ds i 0)) (all_digits (take i ds))

pub no_digit_at : (ds : List ℕ) (i : ℕ) → i < length ds → is_ascii_digit (get_or ds i 0) ≡ false → all_ascii_digits ds ≡ false
no_digit_at ds i h t = sym (all_digits ds) ∙ list_all_at is_ascii_digit ds i 0 h t

only_one : (ds : List ℕ) (b : Bool) → (list_all is_ascii_digit ds && (b && true)) ≡ (all_ascii_digits ds && b)
only_one ds true = ap (λ t. t && true) (all_digits ds)
only_one ds false = ap (λ t. t && false) (all_digits ds)

-- the number of fewer than 20 bytes and one more
pub number_push : (most : ℕ) (ds : List ℕ) (d : ℕ) → length ds < 20
    → number most (ds ++ d ∷ []) ≡ cond ((all_ascii_digits ds && is_ascii_digit d) && nat_le (digits_value 10 ds * 10 + digit_value d) most) (Some (digits_value 10 ds * 10 + digit_value d)) None
number_push most ds d few =
    let all : all_ascii_digits (ds ++ d ∷ []) ≡ (all_ascii_digits ds && is_ascii_digit d) = sym (all_digits (ds ++ d ∷ [])) ∙ list_all-append is_ascii_digit ds (d ∷ []) ∙ only_one ds (is_ascii_digit d) in
    rw (all, digits_value_push 10 ds d, length_push ds d, le-leb 1 (length ds + 1) (omega arith), le-leb (length ds + 1) 20 (omega arith)) refl

-- where they write more than the most, there is no number
pub number_over : (most : ℕ) (ds : List ℕ) (d : ℕ) → length ds < 20 → most < digits_value 10 ds * 10 + digit_value d → number most (ds ++ d ∷ []) ≡ None
number_over most ds d few over = number_push most ds d few ∙ cond-false _ _ _ (and_right (all_ascii_digits ds && is_ascii_digit d) _ (lt-leb (digits_value 10 ds * 10 + digit_value d) most over))

-- ---- cutting bytes at their first comma

-- there is a first field
pub some_field : (bs : List ℕ) → (f : List ℕ) × (fs : List (List ℕ)) × (fields bs ≡ f ∷ fs)
some_field [] = ([], [], refl)
some_field (b ∷ bs) = more (some_field bs)
  where
    more : (f : List ℕ) × (fs : List (List ℕ)) × (fields bs ≡ f ∷ fs) → (f : List ℕ) × (fs : List (List ℕ)) × (fields (b ∷ bs) ≡ f ∷ fs)
    more x = elim (cases_Bool (eqb b 44)) [ inl t ↦ ([], x.0 ∷ x.1, ap (in_front b) x.2 ∙ cond-true _ _ _ t) | inr t ↦ (b ∷ x.0, x.1, ap (in_front b) x.2 ∙ cond-false _ _ _ t) ]

-- a comma ends an empty field
comma : (b : ℕ) (bs : List ℕ) → eqb b 44 ≡ true → fields (b ∷ bs) ≡ [] ∷ fields bs
comma b bs t = let x = some_field bs in ap (in_front b) x.2 ∙ cond-true _ _ _ t ∙ ap (λ fs. [] ∷ fs) (sym x.2)

-- bytes without a comma are one field
pub one_field : (bs : List ℕ) → length bs ≤ position_or_len (λ b. b == 44) bs → fields bs ≡ bs ∷ []
one_field [] h = refl
one_field (b ∷ bs) h = elim (cases_Bool (b == 44)) [ inl t ↦ absurd (omega (arith, rw t at h)) | inr t ↦ ap (in_front b) (one_field bs (omega (arith, rw t at h))) ∙ cond-false _ _ _ t ]

-- the first comma ends the first field
cut_at : (bs : List ℕ) (i : ℕ) → position_or_len (λ b. b == 44) bs ≡ i → i < length bs → fields bs ≡ take i bs ∷ fields (drop (suc i) bs)
cut_at [] i e h = absurd (omega arith)
cut_at (b ∷ bs) zero e h = elim (cases_Bool (b == 44)) [ inl t ↦ comma b bs t | inr t ↦ absurd (omega (arith, rw t at e)) ]
cut_at (b ∷ bs) (suc i) e h = elim (cases_Bool (b == 44)) [ inl t ↦ absurd (omega (arith, rw t at e)) | inr t ↦ ap (in_front b) (cut_at bs i (omega (arith, rw t at e)) (omega arith)) ∙ cond-false _ _ _ t ]

pub first_field : (bs : List ℕ) → position_or_len (λ b. b == 44) bs < length bs → fields bs ≡ take (position_or_len (λ b. b == 44) bs) bs ∷ fields (drop (position_or_len (λ b. b == 44) bs + 1) bs)
first_field bs h =
    let at : ℕ = position_or_len (λ b. b == 44) bs in
    let e : suc at ≡ at + 1 = omega arith in cut_at bs at refl h ∙ ap (λ i. take at bs ∷ fields (drop i bs)) e

-- bytes are one field, or several, and then no number
one_or_more : (bs : List ℕ) → (fields bs ≡ bs ∷ []) ⊎ ((f g : List ℕ) × (fs : List (List ℕ)) × (fields bs ≡ f ∷ g ∷ fs) × ((most : ℕ) → number most bs ≡ None))
one_or_more bs = elim (cases_lt (position_or_len (λ b. b == 44) bs) (length bs)) [ inl h ↦ inr (more h) | inr h ↦ inl (one_field bs h) ]
  where
    more : position_or_len (λ b. b == 44) bs < length bs → (f g : List ℕ) × (fs : List (List ℕ)) × (fields bs ≡ f ∷ g ∷ fs) × ((most : ℕ) → number most bs ≡ None)
    more h =
        let at : ℕ = position_or_len (λ b. b == 44) bs in
        let x = some_field (drop (at + 1) bs) in
        let is_comma : get_or bs at 0 ≡ 44 = eqb-true _ _ (passes_at_first (λ b. b == 44) bs 0 h) in
        let none : all_ascii_digits bs ≡ false = no_digit_at bs at h (ap is_ascii_digit is_comma) in
        (take at bs, x.0, x.1, first_field bs h ∙ ap (λ fs. take at bs ∷ fs) x.2, λ most. rw none refl)

-- ---- records by their fields

-- more than one number makes no act
no_act : (letter f g : List ℕ) (fs : List (List ℕ)) → of_fields true (letter ∷ f ∷ g ∷ fs) ≡ None
no_act letter f g [] = refl
no_act letter f g (h ∷ []) = refl
no_act letter f g (h ∷ i ∷ fs) = refl

no_seed : (letter : List ℕ) (n places : Option ℕ) → opening letter n places None ≡ None
no_seed letter None places = refl
no_seed letter (Some n) None = refl
no_seed letter (Some n) (Some places) = refl

-- the one number of an act is all that stands behind its comma
pub act_is : (letter bs : List ℕ) → of_fields true (letter ∷ fields bs) ≡ acting letter (number (2 ^ 32 - 1) bs)
act_is letter bs = elim (one_or_more bs) [ inl e ↦ ap (λ fs. of_fields true (letter ∷ fs)) e | inr x ↦ ap (λ fs. of_fields true (letter ∷ fs)) x.3 ∙ no_act letter x.0 x.1 x.2 ∙ sym (ap (acting letter) (x.4 (2 ^ 32 - 1))) ]

-- the seed of an opening is all that stands behind its third comma
pub opening_is : (letter n places bs : List ℕ) → of_fields false (letter ∷ n ∷ places ∷ fields bs) ≡ opening letter (number (2 ^ 32 - 1) n) (number 1024 places) (number (2 ^ 64 - 1) bs)
opening_is letter n places bs = elim (one_or_more bs) [ inl e ↦ ap (λ fs. of_fields false (letter ∷ n ∷ places ∷ fs)) e | inr x ↦ ap (λ fs. of_fields false (letter ∷ n ∷ places ∷ fs)) x.3 ∙ sym (ap (opening letter (number (2 ^ 32 - 1) n) (number 1024 places)) (x.4 (2 ^ 64 - 1)) ∙ no_seed letter _ _) ]

-- a first field that is no letter
module _ (f : List ℕ) (none : (l : ℕ) → 64 < l → is_letter l f ≡ false) where
  no_acting : (k : Option ℕ) → acting f k ≡ None
  no_acting None = refl
  no_acting (Some k) = rw (none 67 (omega arith), none 83 (omega arith), none 88 (omega arith), none 68 (omega arith)) refl

  no_opening : (n places seed : Option ℕ) → opening f n places seed ≡ None
  no_opening None places seed = refl
  no_opening (Some n) None seed = refl
  no_opening (Some n) (Some places) None = refl
  no_opening (Some n) (Some places) (Some seed) = cond-false _ _ _ (none 79 (omega arith))

  no_letter : (opened : Bool) (fs : List (List ℕ)) → of_fields opened (f ∷ fs) ≡ None
  no_letter opened [] = refl
  no_letter true (k ∷ []) = no_acting _
  no_letter false (k ∷ []) = refl
  no_letter opened (n ∷ places ∷ []) = refl
  no_letter true (n ∷ places ∷ seed ∷ []) = refl
  no_letter false (n ∷ places ∷ seed ∷ []) = no_opening _ _ _
  no_letter opened (n ∷ places ∷ seed ∷ g ∷ fs) = refl

-- a byte and a comma in front
pub behind_comma : (opened : Bool) (bs : List ℕ) → 1 < length bs → get_or bs 1 0 ≡ 44 → of_fields opened (fields bs) ≡ of_fields opened ((get_or bs 0 0 ∷ []) ∷ fields (take (length bs - 2) (drop 2 bs)))
behind_comma opened [] some e = absurd (omega arith)
behind_comma opened (b ∷ []) some e = absurd (omega arith)
behind_comma opened (b ∷ c ∷ bs) some e =
    let rest : of_fields opened (in_front b ([] ∷ fields bs)) ≡ of_fields opened ((b ∷ []) ∷ fields bs) =
    elim (cases_Bool (b == 44)) [
      | inl t ↦ ap (of_fields opened) (cond-true _ _ _ t) ∙ no_letter [] (λ l h. refl) opened ([] ∷ fields bs) ∙ sym (no_letter (b ∷ []) (λ l h. ne_eqb b l (omega (arith, eqb-true b 44 t))) opened (fields bs))
      | inr t ↦ ap (of_fields opened) (cond-false _ _ _ t)
    ] in
    ap (λ fs. of_fields opened (in_front b fs)) (comma c bs (eq-eqb c 44 e)) ∙ rest ∙ ap (λ ds. of_fields opened ((b ∷ []) ∷ fields ds)) (sym (take_rest (b ∷ c ∷ bs) 2))

-- no record without a comma as its second byte
pub no_comma : (opened : Bool) (bs : List ℕ) → (1 < length bs → get_or bs 1 0 ≢ 44) → of_fields opened (fields bs) ≡ None
no_comma opened [] h = refl
no_comma opened (b ∷ []) h = elim (cases_Bool (b == 44)) [ inl t ↦ ap (of_fields opened) (cond-true _ _ _ t) ∙ no_letter [] (λ l k. refl) opened ([] ∷ []) | inr t ↦ ap (of_fields opened) (cond-false _ _ _ t) ]
no_comma opened (b ∷ c ∷ bs) h =
    let x = some_field bs in
    let e : fields (c ∷ bs) ≡ (c ∷ x.0) ∷ x.1 = ap (in_front c) x.2 ∙ cond-false _ _ _ (ne_eqb c 44 (h (omega arith))) in
    ap (λ fs. of_fields opened (in_front b fs)) e
    ∙ elim (cases_Bool (b == 44)) [
      | inl t ↦ ap (of_fields opened) (cond-true _ _ _ t) ∙ no_letter [] (λ l k. refl) opened ((c ∷ x.0) ∷ x.1)
      | inr t ↦ ap (of_fields opened) (cond-false _ _ _ t) ∙ no_letter (b ∷ c ∷ x.0) (λ l k. refl) opened x.1
    ]
