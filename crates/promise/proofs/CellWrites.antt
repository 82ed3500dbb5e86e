-- A write to the table of cells is a write to one page.
use Rattle.std.proofs.Common.{◌≡◌, ℕ, ◌+◌, ◌-◌, ◌*◌, ◌<◌, ◌≤◌, Bool, true, false, cond, ◌⊎◌, List, length, get_or, set, Some, None, sym, refl, ap, ◌∙◌, inl, inr, arith, length-set}
use Rattle.std.proofs.lemmas.List.{get_or-set_same, get_or-set_other}
use Rattle.std.proofs.lemmas.Bool.{and_parts, and_from, cond-true}
use Rattle.terms.specs.declared.word.Cell.{Cell}
use Rattle.terms.specs.declared.word.Cell.TheVariants.{Empty, Holds}
use Rattle.terms.specs.declared.word.Place.{Place}
use Rattle.terms.specs.declared.word.Word.{Word}
use Rattle.terms.specs.Places.{within}
use Rattle.park.specs.Cells.{cell_of, first_word, kept_word, kept_at, keeping, saying}
use Rattle.laws.specs.Outlines.{Same, Wrote, Keeps, Unchanged}
use Rattle.promise.proofs.Outline.{place, spot, inside, word_in, page}
use Rattle.promise.proofs.RefusalsAndLimits.{Limits, between_from, between_tells, limits}

pub record Inside (n p : ℕ) (at : Place) : Type 0 where
  pub p₁ : 1 ≤ p
  pub p₂ : p ≤ n
  pub in_limits : Limits at

pub inside_tells : (n p : ℕ) (at : Place) → inside n p at ≡ true → Inside n p at
inside_tells n p at e = let h = and_parts _ _ e in let b = between_tells 1 n p h.0 in record { p₁ = b.0; p₂ = b.1; in_limits = limits at h.1 }

pub inside_from : (n p : ℕ) (at : Place) → 1 ≤ p → p ≤ n → within at ≡ true → inside n p at ≡ true
inside_from n p at a b e = and_from _ _ (between_from 1 n p a b) e

-- counted from 0, without the subtractions
core : (p g k r x p' g' k' r' x' : ℕ) → g < 2 → k < 16 → r < 16 → x < 2 → g' < 2 → k' < 16 → r' < 16 → x' < 2
    → p * 1024 + g * 512 + ((k * 16 + r) * 2 + x) ≡ p' * 1024 + g' * 512 + ((k' * 16 + r') * 2 + x')
    → (p ≡ p') × (g ≡ g') × (k ≡ k') × (r ≡ r') × (x ≡ x')
core p g k r x p' g' k' r' x' hg hk hr hx hg' hk' hr' hx' e =
    let ep : p ≡ p' = omega arith in
    let eg : g ≡ g' = omega arith in
    let ek : k ≡ k' = omega arith in
    let er : r ≡ r' = omega arith in
    (ep, eg, ek, er, omega arith)

abbrev digit : Bool → ℕ
digit false = 0
digit true = 1

digit_small : (b : Bool) → digit b < 2
digit_small false = omega arith
digit_small true = omega arith

spot_is : (b : Bool) (p : ℕ) (at : Place) → spot b p at ≡ (p - 1) * 1024 + digit b * 512 + cell_of at
spot_is false p at = omega arith
spot_is true p at = omega arith

-- two cells in one spot are one cell of one page
spots_apart : (n : ℕ) (b b' : Bool) (p k r x p' k' r' x' : ℕ) → Inside n p (place k r x) → Inside n p' (place k' r' x')
    → spot b p (place k r x) ≡ spot b' p' (place k' r' x') → (digit b ≡ digit b') × Same p k r x p' k' r' x'
spots_apart n b b' p k r x p' k' r' x' h h' e =
    let c = core (p - 1) (digit b) (k - 1) (r - 1) (x - 1) (p' - 1) (digit b') (k' - 1) (r' - 1) (x' - 1)
    (digit_small b) (omega arith) (omega arith) (omega arith) (digit_small b') (omega arith) (omega arith) (omega arith)
    (sym (spot_is b p (place k r x)) ∙ e ∙ spot_is b' p' (place k' r' x')) in
    (c.1, (omega arith, omega arith, omega arith, omega arith))

pub spot_below : (n : ℕ) (b : Bool) (p : ℕ) (at : Place) → Inside n p at → spot b p at < 1024 * n
spot_below n false p at h = omega arith
spot_below n true p at h = omega arith

pub cond_same : {A : Type 0} (b : Bool) (x y z : A) → (b ≡ true → x ≡ y) → cond b x z ≡ cond b y z
cond_same true x y z h = h refl
cond_same false x y z h = refl

-- within its limits a page is the table
page_in : (b : Bool) (n : ℕ) (cells : List Cell) (p k r x : ℕ) → inside n p (place k r x) ≡ true
    → page b n cells p k r x ≡ word_in (get_or cells (spot b p (place k r x)) Empty)
unfolding page
page_in b n cells p k r x e = cond-true _ _ _ e

page_like : (b : Bool) (n : ℕ) (cells cells' : List Cell) (p k r x : ℕ)
    → (inside n p (place k r x) ≡ true → get_or cells (spot b p (place k r x)) Empty ≡ get_or cells' (spot b p (place k r x)) Empty)
    → page b n cells p k r x ≡ page b n cells' p k r x
unfolding page
page_like b n cells cells' p k r x h = cond_same _ _ _ _ (λ e. ap word_in (h e))

module _ (n : ℕ) (b : Bool) (cells : List Cell) (p k r x : ℕ) (fits : 1024 * n ≤ length cells) (h : inside n p (place k r x) ≡ true) where
  put_here : (w : Word) → page b n (set cells (spot b p (place k r x)) (Holds w)) p k r x ≡ Some w
  put_here w =
      let below = spot_below n b p (place k r x) (inside_tells n p (place k r x) h) in
      page_in b n _ p k r x h ∙ ap word_in (get_or-set_same cells (spot b p (place k r x)) (Holds w) Empty (omega arith))

  put_rest : (c : Cell) (b' : Bool) (p' k' r' x' : ℕ) → ¬ ((digit b' ≡ digit b) × Same p' k' r' x' p k r x)
      → page b' n (set cells (spot b p (place k r x)) c) p' k' r' x' ≡ page b' n cells p' k' r' x'
  put_rest c b' p' k' r' x' d = page_like b' n _ _ p' k' r' x' (λ e. get_or-set_other cells (spot b p (place k r x)) (spot b' p' (place k' r' x')) c Empty
      (λ same. d (spots_apart n b' b p' k' r' x' p k r x (inside_tells n p' _ e) (inside_tells n p _ h) same)))

-- a word comes to a kept cell
module _ (n : ℕ) (cells : List Cell) (p : ℕ) (at : Place) (w : Word) (fits : 1024 * n ≤ length cells) (h : inside n p at ≡ true) where
  keep_was : (c : Cell) → page false n cells p at.selector at.round at.phase ≡ word_in c
      → (page false n cells p at.selector at.round at.phase ≡ Some (first_word c w))
      ⊎ ((page false n cells p at.selector at.round at.phase ≡ None) × (first_word c w ≡ w))
  keep_was Empty e = inr (e, refl)
  keep_was (Holds v) e = inl e

  pub keep_keeps : Keeps (page false n cells) (page false n (keeping cells p at w)) p at.selector at.round at.phase w (kept_word cells p at w)
  keep_keeps = record {
    here = put_here n false cells p at.selector at.round at.phase fits h (kept_word cells p at w);
    was = keep_was (get_or cells (kept_at p at) Empty) (page_in false n cells p at.selector at.round at.phase h);
    rest = λ p' k' r' x' d. put_rest n false cells p at.selector at.round at.phase fits h _ false p' k' r' x' (λ same. d same.1);
  }

  pub keep_said : Unchanged (page true n cells) (page true n (keeping cells p at w))
  keep_said p' k' r' x' = put_rest n false cells p at.selector at.round at.phase fits h _ true p' k' r' x' (λ same. let e = same.0 in omega arith)

  fits_kept : 1024 * n ≤ length (keeping cells p at w)
  fits_kept = let l = length-set cells (kept_at p at) (Holds (kept_word cells p at w)) in omega arith

  pub say_says : Wrote (page true n cells) (page true n (saying cells p at w)) p at.selector at.round at.phase w
  say_says = record {
    here = put_here n true (keeping cells p at w) p at.selector at.round at.phase fits_kept h w;
    rest = λ p' k' r' x' d. put_rest n true (keeping cells p at w) p at.selector at.round at.phase fits_kept h _ true p' k' r' x' (λ same. d same.1)
        ∙ keep_said p' k' r' x';
  }

  say_kept : (p' k' r' x' : ℕ) → page false n (saying cells p at w) p' k' r' x' ≡ page false n (keeping cells p at w) p' k' r' x'
  say_kept p' k' r' x' = put_rest n true (keeping cells p at w) p at.selector at.round at.phase fits_kept h _ false p' k' r' x' (λ same. let e = same.0 in omega arith)

  pub say_keeps : Keeps (page false n cells) (page false n (saying cells p at w)) p at.selector at.round at.phase w (kept_word cells p at w)
  say_keeps = let k = keep_keeps in record {
    here = say_kept p at.selector at.round at.phase ∙ k.here;
    was = k.was;
    rest = λ p' k' r' x' d. say_kept p' k' r' x' ∙ k.rest p' k' r' x' d;
  }
