-- Which record of a script a string of bytes is, if it is one.
use Rattle.std.specs.Prelude.{ℕ, ◌-◌, ◌^◌, Bool, false, cond, ◌&&◌, List, [], ◌∷◌, length, Some, None, Option, ◌==◌, nat_le}
use Rattle.std.specs.Str.Parse.{digits_value}
use Rattle.std.specs.Str.{all_ascii_digits}
use Rattle.script.specs.declared.record.Record.{Record}
use Rattle.script.specs.declared.record.Record.TheVariants.{Open, Act}
use Rattle.terms.specs.declared.act.Act.TheVariants.{Call, Step, Crash, Deliver}

-- one byte more in front: a comma (44) ends an empty field there, and any other byte begins the first field
abbrev pub in_front : ℕ → List (List ℕ) → List (List ℕ)
in_front b [] = []
in_front b (f ∷ fs) = cond (b == 44) ([] ∷ f ∷ fs) ((b ∷ f) ∷ fs)

-- the fields of a record are its parts between commas
abbrev pub fields : List ℕ → List (List ℕ)
fields [] = [] ∷ []
fields (b ∷ bs) = in_front b (fields bs)

-- the number that 1 to 20 decimal digits write, if it is at most so much
abbrev pub number : ℕ → List ℕ → Option ℕ
number most ds = cond (all_ascii_digits ds && (nat_le 1 (length ds) && (nat_le (length ds) 20 && nat_le (digits_value 10 ds) most))) (Some (digits_value 10 ds)) None

-- whether a field is just this letter
abbrev pub is_letter : ℕ → List ℕ → Bool
is_letter letter [] = false
is_letter letter (b ∷ []) = b == letter
is_letter letter (b ∷ c ∷ bs) = false

-- O (79), with n, places and seed
abbrev pub opening : List ℕ → Option ℕ → Option ℕ → Option ℕ → Option Record
opening letter None places seed = None
opening letter (Some n) None seed = None
opening letter (Some n) (Some places) None = None
opening letter (Some n) (Some places) (Some seed) = cond (is_letter 79 letter) (Some (Open n places seed)) None

-- C (67), S (83) and X (88), with a name, and D (68), with a pick
abbrev pub acting : List ℕ → Option ℕ → Option Record
acting letter None = None
acting letter (Some k) =
    cond (is_letter 67 letter) (Some (Act (Call k)))
    (cond (is_letter 83 letter) (Some (Act (Step k))) (cond (is_letter 88 letter) (Some (Act (Crash k))) (cond (is_letter 68 letter) (Some (Act (Deliver k))) None)))

-- an opening has four fields, and comes while none has been accepted; every other record has two, and comes behind it
abbrev pub of_fields : Bool → List (List ℕ) → Option Record
of_fields opened [] = None
of_fields opened (letter ∷ []) = None
of_fields opened (letter ∷ k ∷ []) = cond opened (acting letter (number (2 ^ 32 - 1) k)) None
of_fields opened (letter ∷ n ∷ places ∷ []) = None
of_fields opened (letter ∷ n ∷ places ∷ seed ∷ []) = cond opened None (opening letter (number (2 ^ 32 - 1) n) (number 1024 places) (number (2 ^ 64 - 1) seed))
of_fields opened (letter ∷ n ∷ places ∷ seed ∷ f ∷ fs) = None

-- the record that bytes are, of which there are at most 80; `opened` says that an opening has been accepted before
abbrev pub record_of : Bool → List ℕ → Option Record
record_of opened bs = cond (nat_le (length bs) 80) (of_fields opened (fields bs)) None
