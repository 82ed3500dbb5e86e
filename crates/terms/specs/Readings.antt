-- The reading of a list of entries, and its smallest entry.
use Rattle.std.specs.Prelude.{◌≡◌, Bool, true, false, cond, List, [], ◌∷◌, Some, None, Option}
use Rattle.terms.specs.declared.word.Side.{Side}
use Rattle.terms.specs.declared.word.Side.TheVariants.{Zero, One}

abbrev pub same_side : Side → Side → Bool
same_side Zero Zero = true
same_side Zero One = false
same_side One Zero = false
same_side One One = true

abbrev pub below_side : Side → Side → Bool
below_side Zero Zero = false
below_side Zero One = true
below_side One Zero = false
below_side One One = false

-- what a type's comparison may answer is what this test says
abbrev pub Answers : {T : Type 0} → (T → T → Bool → Type 0) → (T → T → Bool) → Type 0
Answers {T} compares test = (x y : T) (b : Bool) → compares x y b → b ≡ test x y

abbrev pub every : {A : Type 0} → (A → Bool) → List A → Bool
every test [] = true
every test (x ∷ xs) = cond (test x) (every test xs) false

-- two entries are both blank, or neither is and they are the same
abbrev pub alike : {A : Type 0} → (A → A → Bool) → Option A → Option A → Bool
alike same None None = true
alike same None (Some b) = false
alike same (Some a) None = false
alike same (Some a) (Some b) = same a b

-- the common entry if all are equal; blank otherwise, and for an empty list
abbrev pub reading_of : {A : Type 0} → (A → A → Bool) → List (Option A) → Option A
reading_of same [] = None
reading_of same (x ∷ xs) = cond (every (alike same x) xs) x None

-- of two entries the smaller that is not blank, and the first where neither is smaller
abbrev pub smaller : {A : Type 0} → (A → A → Bool) → Option A → Option A → Option A
smaller below None y = y
smaller below (Some a) None = Some a
smaller below (Some a) (Some b) = cond (below b a) (Some b) (Some a)

-- the smallest of this entry and those of the list
abbrev pub smallest_of : {A : Type 0} → (A → A → Bool) → Option A → List (Option A) → Option A
smallest_of below best [] = best
smallest_of below best (x ∷ xs) = smallest_of below (smaller below best x) xs
