-- What a write to one record or one cell, and more waiting messages, leave of a park that is alive.
use Rattle.std.proofs.Common.{◌≡◌, ℕ, zero, suc, ◌-◌, ◌*◌, ◌<◌, ◌≤◌, true, false, leb, ◌⊎◌, List, ◌∷◌, length, get_or, sym, refl, ◌∙◌, subst, inl, inr, ⊎_elim, arith}
use lib.Count.{ones}
use Rattle.std.specs.List.{ContainsAt as Has, AllByRecursion as All}
use Rattle.std.proofs.lemmas.Bool.{cases_eq}
use Rattle.terms.specs.declared.message.Message.{Message}
use Rattle.terms.specs.declared.word.Cell.{Cell}
use Rattle.terms.specs.declared.word.Cell.TheVariants.{Empty, Holds}
use Rattle.terms.specs.declared.word.Place.{Place}
use Rattle.terms.specs.declared.word.Word.{Word}
use Rattle.terms.specs.Places.{within}
use Rattle.park.specs.declared.controller.Controller.{Controller}
use Rattle.park.specs.declared.controller.Stage.{Stage}
use Rattle.park.specs.declared.controller.Stage.TheVariants.{Uncalled, Asking, Answered}
use Rattle.park.specs.Cells.{first_word, keeping, kept_at, kept_word}
use Rattle.park.specs.Controllers.{nobody, record_of, with_record}
use Rattle.promise.proofs.Alive.{Fits, CellFits, Formed, Reaches, Asked, Asks, Live}
use Rattle.promise.proofs.RecordWrites.{entry_set, record_common, record_here, record_other}
use Rattle.promise.proofs.RefusalsAndLimits.{limits}

-- who was down is down
abbrev pub StillDown : List Controller → List Controller → Type 0
StillDown list list' = (q : ℕ) → (record_of list q).up ≡ false → (record_of list' q).up ≡ false

pub down_same : (list : List Controller) (p : ℕ) (c : Controller) → c.up ≡ (record_of list p).up → StillDown list (with_record list p c)
down_same list p c e q d = record_common list p c (λ (x : Controller). x.up) e q ∙ d

pub down_more : (list : List Controller) (p : ℕ) (c : Controller) → c.up ≡ false → StillDown list (with_record list p c)
down_more list p c e q d = entry_set (λ x. x.up ≡ false) list (p - 1) (q - 1) c nobody d e

-- all that waited waits
abbrev pub StillWaits : List Message → List Message → Type 0
StillWaits bag bag' = (m : Message) → Has bag m → Has bag' m

pub has_cons : (m x : Message) (bag : List Message) → Has (m ∷ bag) x → (m ≡ x) ⊎ Has bag x
has_cons m x bag (zero, l, e) = inl (e m)
has_cons m x bag (suc k, l, e) = inr (k, omega arith, e)

pub has_more : (m : Message) (bag : List Message) → StillWaits bag (m ∷ bag)
has_more m bag x h = (suc h.0, (let l = h.1 in omega arith), h.2)

pub reaches_more : (bag bag' : List Message) (list list' : List Controller) (p heard : ℕ) (at : Place) (q : ℕ) → StillWaits bag bag' → StillDown list list'
    → Reaches bag list p heard at q → Reaches bag' list' p heard at q
reaches_more bag bag' list list' p heard at q w d (inl x) = inl (d q x)
reaches_more bag bag' list list' p heard at q w d (inr (inl x)) = inr (inl x)
reaches_more bag bag' list list' p heard at q w d (inr (inr (inl x))) = inr (inr (inl (x.0, w x.0 x.1, x.2)))
reaches_more bag bag' list list' p heard at q w d (inr (inr (inr x))) = inr (inr (inr (x.0, w x.0 x.1, x.2)))

pub asked_map : (R R' : Place → ℕ → Type 0) (n majority p : ℕ) (c : Controller) (stage : Stage) → c.stage ≡ stage
    → ((at : Place) → c.stage ≡ Asking at → c.up ≡ true → leb majority (ones c.heard) ≡ false → (q : ℕ) → q ≤ n → R at q → R' at q)
    → Asked R n majority p c stage → Asked R' n majority p c stage
asked_map R R' n majority p c Uncalled e f x = tt
asked_map R R' n majority p c (Answered answer) e f x = tt
asked_map R R' n majority p c (Asking at) e f x = (x.0, λ up waits q l u o. f at e up waits q u (x.1 up waits q l u o))

pub asks_more : (n majority : ℕ) (bag bag' : List Message) (list list' : List Controller) (p : ℕ) (c : Controller) → StillWaits bag bag' → StillDown list list'
    → Asks n majority bag list p c → Asks n majority bag' list' p c
asks_more n majority bag bag' list list' p c w d x =
    asked_map (Reaches bag list p c.heard) (Reaches bag' list' p c.heard) n majority p c c.stage refl
    (λ at e up waits q u y. reaches_more bag bag' list list' p c.heard at q w d y) x

-- the record of p is another, and the bag and the cells may be
pub live_with : (n majority : ℕ) (list : List Controller) (cells cells' : List Cell) (bag bag' : List Message) (places places' : ℕ) (p : ℕ) (c : Controller)
    → Live n majority list cells bag places → places' ≡ places → 1 ≤ p → p ≤ length list → All (Formed n) bag' → ((i : ℕ) → i < 1024 * n → CellFits n (get_or cells' i Empty)) → All (Fits n) c.words
    → ((q : ℕ) → 1 ≤ q → q ≤ n → (q ≡ p → ⊥) → Asks n majority bag' (with_record list p c) q (record_of list q))
    → Asks n majority bag' (with_record list p c) p c
    → Live n majority (with_record list p c) cells' bag' places'
live_with n majority list cells cells' bag bag' places places' p c a same low high formed kept words others own =
    let room = a.room in
    record {
      room = omega arith;
      formed = formed;
      kept = kept;
      words = λ q. entry_set (λ x. All (Fits n) x.words) list (p - 1) (q - 1) c nobody (a.words q) words;
      asks = λ q l u.
          ⊎_elim (λ (e : q ≡ p).
          subst (λ x. Asks n majority bag' (with_record list p c) x (record_of (with_record list p c) x)) (sym e)
          (subst (Asks n majority bag' (with_record list p c) p) (sym (record_here list p c low high)) own))
          (λ (o : q ≡ p → ⊥). subst (Asks n majority bag' (with_record list p c) q) (sym (record_other list p c low q l o)) (others q l u o))
          (cases_eq q p);
    }

-- a place within the limits has its cells among those of the park
kept_low : (n p : ℕ) (at : Place) → 1 ≤ p → p ≤ n → within at ≡ true → kept_at p at < 1024 * n
kept_low n p at l u e = let i = limits at e in omega arith

first_fits : (n : ℕ) (cell : Cell) (w : Word) → CellFits n cell → Fits n w → Fits n (first_word cell w)
first_fits n Empty w a b = b
first_fits n (Holds v) w a b = a

module _ (n : ℕ) (cells : List Cell) (kept : (i : ℕ) → i < 1024 * n → CellFits n (get_or cells i Empty)) (p : ℕ) (at : Place) (w : Word)
    (low : 1 ≤ p) (high : p ≤ n) (inside : within at ≡ true) (fits : Fits n w) where
  pub kept_fits : Fits n (kept_word cells p at w)
  kept_fits = first_fits n (get_or cells (kept_at p at) Empty) w (kept (kept_at p at) (kept_low n p at low high inside)) fits

  pub keeping_fits : (i : ℕ) → i < 1024 * n → CellFits n (get_or (keeping cells p at w) i Empty)
  keeping_fits i h = entry_set (CellFits n) cells (kept_at p at) i (Holds (kept_word cells p at w)) Empty (kept i h) kept_fits
