-- Writes in a lent part of a table are writes in the table.
use Rattle.std.proofs.Common.{◌≡◌, ℕ, ◌+◌, ◌-◌, ◌<◌, ◌≤◌, List, ◌++◌, length, get_or, take, drop, set, Vec, ap, ◌∙◌, arith, length-drop, length-set}
use borrow.Rule.Slice.PartMut.{put_mid}
use lib.Seq.{take-set-lt}
use Rattle.std.specs.Vec.{with_items}
use Rattle.std.proofs.lemmas.List.{length-take-le, take-append-drop, set-append_right, set-append_left, get_or-take, get_or-drop, drop-set-add, drop-set-lt, take-set-le, with_items_is}

module _ {X : Type 0} where
  -- one write
  pub set-in_part : (xs part : List X) (a k i : ℕ) (x : X) → a + k ≤ length xs → i < k
      → part ≡ set (take k (drop a xs)) i x → put_mid a k xs part ≡ set xs (a + i) x
  set-in_part xs part a k i x l h e =
      let mid : List X = take k (drop a xs) in
      let post : List X = drop k (drop a xs) in
      let la : length (take a xs) ≡ a = length-take-le a xs (omega arith) in
      let lm : length mid ≡ k = length-take-le k (drop a xs) (omega (arith, length-drop a xs)) in
      let w1 : take a xs ++ drop a xs ≡ xs = take-append-drop a xs in
      let w2 : mid ++ post ≡ drop a xs = take-append-drop k (drop a xs) in
      let s1 : set (take a xs ++ drop a xs) (a + i) x ≡ take a xs ++ set (drop a xs) (a + i - a) x = set-append_right (take a xs) (drop a xs) a (a + i) x la (omega arith) in
      let ix : a + i - a ≡ i = omega arith in
      let s2 : set (mid ++ post) i x ≡ set mid i x ++ post = set-append_left mid post i x (omega arith) in
      cc

  pub get_or_in_part : (xs : List X) (a k i : ℕ) (d : X) → i < k → get_or (take k (drop a xs)) i d ≡ get_or xs (a + i) d
  get_or_in_part xs a k i d h = get_or-take k (drop a xs) i d h ∙ get_or-drop a xs i d

  -- two writes
  pub sets_in_part : (xs part : List X) (a k i j : ℕ) (x y : X) → a + k ≤ length xs → i < k → j < k
      → part ≡ set (set (take k (drop a xs)) i x) j y → put_mid a k xs part ≡ set (set xs (a + i) x) (a + j) y
  sets_in_part xs part a k i j x y l h q e =
      let ys : List X = set xs (a + i) x in
      let ly = length-set xs (a + i) x in
      let d : drop a ys ≡ set (drop a xs) i x = drop-set-add a xs i x in
      let t : take k (set (drop a xs) i x) ≡ set (take k (drop a xs)) i x = take-set-lt k (drop a xs) i x h in
      let u : drop k (set (drop a xs) i x) ≡ drop k (drop a xs) = drop-set-lt k (drop a xs) i x h in
      let b : take a ys ≡ take a xs = take-set-le a xs (a + i) x (omega arith) in
      let w : put_mid a k ys part ≡ set ys (a + j) y = set-in_part ys part a k j y (omega arith) q (cc) in
      let same : put_mid a k xs part ≡ put_mid a k ys part = cc in
      same ∙ w

-- a Vec whose slice came back with as many elements
pub came_back : {X Z : Type 0} (v : Vec X Z) (ws us : List X) → ws ≡ us → length us ≡ v.len → (with_items v ws).items ≡ us
came_back v ws us e l = with_items_is v ws (ap length e ∙ l) ∙ e
