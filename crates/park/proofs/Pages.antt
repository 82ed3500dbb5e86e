-- What is written in the pages that a controller lends is written in the table.
use Rattle.std.proofs.Common.{◌≡◌, ℕ, ◌+◌, ◌-◌, ◌*◌, ◌<◌, ◌≤◌, List, length, get_or, take, drop, set, Vec, ap, ◌∙◌, arith, length-set}
use borrow.Rule.Slice.PartMut.{put_mid}
use Rattle.std.specs.Vec.{with_items}
use Rattle.terms.specs.declared.word.Cell.{Cell}
use Rattle.terms.specs.declared.word.Cell.TheVariants.{Empty, Holds}
use Rattle.terms.specs.declared.word.Place.{Place}
use Rattle.terms.specs.declared.word.Word.{Word}
use Rattle.park.specs.Cells.{cell_of, first_word, kept_word, keeping, saying}
use Rattle.park.proofs.Parts.{set-in_part, sets_in_part, get_or_in_part, came_back}

-- the pages of controller p, of which a begins them in the table's slice, and the cell i of a place on a page
module _ {Z : Type 0} (v : Vec Cell Z) (lent : List Cell) (a p i : ℕ) (at : Place) (w : Word)
    (same : lent ≡ v.items) (all : v.len ≡ length v.items) (begin : a ≡ (p - 1) * 1024) (here : i ≡ cell_of at) (small : i < 512) (named : 1 ≤ p) (enough : 1024 * p ≤ v.len) where
  abbrev pages : List Cell
  pages = take (a + 1024 - a) (drop a lent)

  abbrev kept : Word
  kept = first_word (get_or pages i Empty) w

  pub word_in_pages : kept ≡ kept_word v.items p at w
  word_in_pages =
      let first : get_or pages i Empty ≡ get_or v.items (a + i) Empty = get_or_in_part lent a (a + 1024 - a) i Empty (omega arith) ∙ ap (λ (l : List Cell). get_or l (a + i) Empty) same in
      cc

  pub keep_in_pages : (part : List Cell) → part ≡ set pages i (Holds kept) → (with_items v (put_mid a (a + 1024 - a) lent part)).items ≡ keeping v.items p at w
  keep_in_pages part e =
      let word = word_in_pages in
      let lot = ap length same in
      let one = set-in_part lent part a (a + 1024 - a) i (Holds kept) (omega arith) (omega arith) e in
      let whole : put_mid a (a + 1024 - a) lent part ≡ keeping v.items p at w = cc in
      let len : length (keeping v.items p at w) ≡ v.len = simp length-set (omega arith) in
      came_back v _ _ whole len

  pub say_in_pages : (part : List Cell) → part ≡ set (set pages i (Holds kept)) (512 + i) (Holds w) → (with_items v (put_mid a (a + 1024 - a) lent part)).items ≡ saying v.items p at w
  say_in_pages part e =
      let word = word_in_pages in
      let lot = ap length same in
      let two = sets_in_part lent part a (a + 1024 - a) i (512 + i) (Holds kept) (Holds w) (omega arith) (omega arith) (omega arith) e in
      let whole : put_mid a (a + 1024 - a) lent part ≡ saying v.items p at w = cc in
      let len : length (saying v.items p at w) ≡ v.len = simp length-set (omega arith) in
      came_back v _ _ whole len
