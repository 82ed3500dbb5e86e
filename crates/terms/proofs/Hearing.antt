-- One controller more, among the entries heard.
use Rattle.std.proofs.Common.{◌≡◌, ℕ, ◌+◌, ◌-◌, ◌/◌, ◌%◌, ◌^◌, ◌<◌, ◌≤◌, true, false, eqb, List, [], ◌∷◌, ◌++◌, length, get_or, take, drop, set, length-append, replicate, None, Option, sym, ap, ◌∙◌, add-one, arith, eq-eqb, ne_eqb}
use Rattle.std.proofs.lemmas.List.{get_or-take, length-take, drop-set-lt, drop-drop, drop-replicate}
use Rattle.terms.specs.declared.word.Word.{Word}
use Rattle.terms.specs.Heard.{blank, heard_entries}

-- the entries found among the words of the first i controllers: as many as that at most
pub record Found {A : Type 0} (entry : Word → A) (heard : ℕ) (words : List Word) (i : ℕ) (found : List A) : Type 0 where
  pub few : length found ≤ i
  pub are : found ≡ heard_entries entry i heard words

pub found_none : {A : Type 0} (entry : Word → A) (heard : ℕ) (words : List Word) (none : List A) → none ≡ [] → Found entry heard words 0 none
found_none entry heard words none e = record { few = omega (arith, ap length e); are = e }

module _ {A : Type 0} (entry : Word → A) (heard : ℕ) (words : List Word) (i : ℕ) (found : List A) (h : Found entry heard words i found) where
  pub found_more : (end : ℕ) (more : List A) → heard / 2 ^ i % 2 ≡ 1 → i < length (take end words) → more ≡ found ++ entry (get_or (take end words) i blank) ∷ []
      → Found entry heard words (i + 1) more
  found_more end more t l m =
      let b : eqb (heard / 2 ^ i % 2) 1 ≡ true = eq-eqb (heard / 2 ^ i % 2) 1 t in
      let w : get_or (take end words) i blank ≡ get_or words i blank = get_or-take end words i blank (omega (arith, length-take end words, l)) in
      record {
        few = omega (arith, ap length m, length-append found (entry (get_or (take end words) i blank) ∷ []), h.few);
        are = m ∙ rw w (rw (add-one i) (rw b (ap (λ (q : List A). q ++ (entry (get_or words i blank) ∷ [])) h.are)));
      }

  pub found_same : (same : List A) → (heard / 2 ^ i % 2 ≡ 1 → ⊥) → same ≡ found → Found entry heard words (i + 1) same
  found_same same t m =
      let b : eqb (heard / 2 ^ i % 2) 1 ≡ false = ne_eqb (heard / 2 ^ i % 2) 1 t in
      record { few = omega (arith, ap length m, h.few); are = m ∙ rw add-one (rw b h.are) }

-- two lists of one length are so with one entry more in each
pub pushed_alike : {A B : Type 0} (xs : List A) (ys : List B) (more : List A) (many : List B) (x : A) (y : B) → length ys ≡ length xs → more ≡ xs ++ x ∷ [] → many ≡ ys ++ y ∷ [] → length many ≡ length more
pushed_alike xs ys more many x y h e k = omega (arith, h, ap length e, ap length k, length-append xs (x ∷ []), length-append ys (y ∷ []))

-- one entry more, and behind it only blanks still
pub blanks_behind : {A : Type 0} (found : List (Option A)) (n : ℕ) (x : Option A) → drop n found ≡ replicate (15 - n) None → drop (n + 1) (set found n x) ≡ replicate (15 - (n + 1)) None
blanks_behind found n x e =
    let fewer : 15 - n - 1 ≡ 15 - (n + 1) = omega arith in
    drop-set-lt (n + 1) found n x (omega arith) ∙ sym (drop-drop 1 n found) ∙ ap (drop 1) e ∙ drop-replicate 1 (15 - n) None ∙ ap (λ k. replicate k None) fewer
