-- A write to one controller's record moves that controller alone.
use Rattle.std.proofs.Common.{◌≡◌, ℕ, zero, suc, ◌-◌, ◌≤◌, Bool, true, false, cond, List, [], ◌∷◌, length, get_or, set, refl, ap, ◌∙◌, arith}
use Rattle.std.proofs.lemmas.List.{get_or-set_same, get_or-set_other}
use Rattle.std.proofs.lemmas.Bool.{and_parts, and_from, leb-true, le-leb, cond-true}
use Rattle.terms.specs.declared.answer.Answer.{Answer}
use Rattle.terms.specs.Heard.{blank}
use Rattle.terms.specs.Places.{between}
use Rattle.park.specs.declared.controller.Controller.{Controller}
use Rattle.park.specs.declared.controller.Stage as real
use Rattle.park.specs.declared.controller.Stage.TheVariants.{Uncalled, Asking, Answered}
use Rattle.park.specs.Controllers.{nobody, record_of, with_record}
use Rattle.laws.specs.Outlines.{idle, done}
use Rattle.promise.proofs.CellWrites.{cond_same}
use Rattle.promise.proofs.Outline.{stage_of, stage_in, word_from}
use Rattle.promise.proofs.RefusalsAndLimits.{between_from, between_tells}

-- what two tables of records have in common is the same outline
pub stage_like : (n : ℕ) (list list' : List Controller) (p : ℕ) → (1 ≤ p → p ≤ n → (record_of list p).stage ≡ (record_of list' p).stage)
    → (1 ≤ p → p ≤ n → (record_of list p).heard ≡ (record_of list' p).heard) → stage_in n list p ≡ stage_in n list' p
unfolding stage_in
stage_like n list list' p a b = cond_same _ _ _ _ (λ e. let i = between_tells 1 n p e in
    ap (λ u. stage_of u (record_of list p).heard) (a i.0 i.1) ∙ ap (λ h. stage_of (record_of list' p).stage h) (b i.0 i.1))

pub word_like : (n : ℕ) (list list' : List Controller) (p q : ℕ) → (1 ≤ p → p ≤ n → 1 ≤ q → get_or (record_of list p).words (q - 1) blank ≡ get_or (record_of list' p).words (q - 1) blank)
    → word_from n list p q ≡ word_from n list' p q
unfolding word_from
word_like n list list' p q a = cond_same _ _ _ _ (λ e. let j = and_parts _ _ e in let i = between_tells 1 n p j.0 in a i.0 i.1 (leb-true 1 q j.1))

-- of one of the park's names
pub stage_is : (n : ℕ) (list : List Controller) (p : ℕ) → 1 ≤ p → p ≤ n → stage_in n list p ≡ stage_of (record_of list p).stage (record_of list p).heard
unfolding stage_in
stage_is n list p a b = cond-true _ _ _ (between_from 1 n p a b)

pub word_is : (n : ℕ) (list : List Controller) (p q : ℕ) → 1 ≤ p → p ≤ n → 1 ≤ q → word_from n list p q ≡ get_or (record_of list p).words (q - 1) blank
unfolding word_from
word_is n list p q a b c = cond-true _ _ _ (and_from _ _ (between_from 1 n p a b) (le-leb 1 q c))

-- and back: who has its answer in outline
pub done_is : (n : ℕ) (list : List Controller) (p : ℕ) (answer : Answer) → stage_in n list p ≡ done answer → (1 ≤ p) × (p ≤ n) × ((record_of list p).stage ≡ Answered answer)
unfolding stage_in
done_is n list p answer e = go (between 1 n p) refl (record_of list p).stage refl e
  where
    go : (b : Bool) → between 1 n p ≡ b → (u : real.Stage) → (record_of list p).stage ≡ u → cond b (stage_of u (record_of list p).heard) idle ≡ done answer
        → (1 ≤ p) × (p ≤ n) × ((record_of list p).stage ≡ Answered answer)
    go true i Uncalled h e = absurd (grind arith)
    go true i (Asking at) h e = absurd (grind arith)
    go true i (Answered other) h e = let j = between_tells 1 n p i in let same : other ≡ answer = grind arith in (j.0, j.1, h ∙ ap Answered same)
    go false i u h e = absurd (grind arith)

-- what holds of an entry and of what is written holds of the entry then
pub entry_set : {X : Type 0} (P : X → Type 0) (l : List X) (i j : ℕ) (a d : X) → P (get_or l j d) → P a → P (get_or (set l i a) j d)
entry_set P [] i j a d x y = x
entry_set P (b ∷ l) zero zero a d x y = y
entry_set P (b ∷ l) zero (suc j) a d x y = x
entry_set P (b ∷ l) (suc i) zero a d x y = x
entry_set P (b ∷ l) (suc i) (suc j) a d x y = entry_set P l i j a d x y

-- what an entry has in common with what is written there, it has in common with the entry then
entry_common : {X A : Type 0} (f : X → A) (l : List X) (i j : ℕ) (a d : X) → f a ≡ f (get_or l i d) → f (get_or (set l i a) j d) ≡ f (get_or l j d)
entry_common f [] i j a d e = refl
entry_common f (b ∷ l) zero zero a d e = e
entry_common f (b ∷ l) zero (suc j) a d e = refl
entry_common f (b ∷ l) (suc i) zero a d e = refl
entry_common f (b ∷ l) (suc i) (suc j) a d e = entry_common f l i j a d e

pub record_common : (list : List Controller) (p : ℕ) (c : Controller) {A : Type 0} (f : Controller → A) → f c ≡ f (record_of list p) → (q : ℕ) → f (record_of (with_record list p c) q) ≡ f (record_of list q)
record_common list p c f e q = entry_common f list (p - 1) (q - 1) c nobody e

module _ (list : List Controller) (p : ℕ) (c : Controller) (a : 1 ≤ p) where
  pub record_here : p ≤ length list → record_of (with_record list p c) p ≡ c
  record_here b = get_or-set_same list (p - 1) c nobody (omega arith)

  pub record_other : (q : ℕ) → 1 ≤ q → ¬ (q ≡ p) → record_of (with_record list p c) q ≡ record_of list q
  record_other q i d = get_or-set_other list (p - 1) (q - 1) c nobody (λ e. d (omega arith))

  module _ (n : ℕ) (b : p ≤ n) (l : n ≤ length list) where
    pub moved_here : stage_in n (with_record list p c) p ≡ stage_of c.stage c.heard
    moved_here = stage_is n (with_record list p c) p a b ∙ ap (λ (r : Controller). stage_of r.stage r.heard) (record_here (omega arith))

    pub moved_stages : (q : ℕ) → ¬ (q ≡ p) → stage_in n (with_record list p c) q ≡ stage_in n list q
    moved_stages q d = stage_like n (with_record list p c) list q (λ i _. ap (λ (r : Controller). r.stage) (record_other q i d)) (λ i _. ap (λ (r : Controller). r.heard) (record_other q i d))

    pub moved_others : (q v : ℕ) → ¬ (q ≡ p) → word_from n (with_record list p c) q v ≡ word_from n list q v
    moved_others q v d = word_like n (with_record list p c) list q v (λ i _ _. ap (λ (r : Controller). get_or r.words (v - 1) blank) (record_other q i d))

    -- its words, from each controller
    pub moved_word : (q : ℕ) → 1 ≤ q → word_from n (with_record list p c) p q ≡ get_or c.words (q - 1) blank
    moved_word q i = word_is n (with_record list p c) p q a b i ∙ ap (λ (r : Controller). get_or r.words (q - 1) blank) (record_here (omega arith))

    pub moved_words : (q : ℕ) → (1 ≤ q → get_or c.words (q - 1) blank ≡ get_or (record_of list p).words (q - 1) blank) → word_from n (with_record list p c) p q ≡ word_from n list p q
    moved_words q e = word_like n (with_record list p c) list p q (λ _ _ i. ap (λ (r : Controller). get_or r.words (q - 1) blank) (record_here (omega arith)) ∙ e i)
