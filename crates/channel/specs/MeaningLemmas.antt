-- What a change of the list of waiting messages is to the bag.
use Rattle.std.specs.Prelude.{◌≡◌, ℕ, ◌+◌, ◌<◌, List, [], ◌∷◌, ◌++◌, length, get_or, take, drop, slice_index_or}
use Rattle.std.proofs.Common.{sym, ap, subst, ◌∙◌, arith}
use Rattle.std.specs.List.{ContainsAt as Has, swap_remove}
use Rattle.std.proofs.lemmas.List.{take-append-drop, drop_more, get_or_at, length-take-le}
use Rattle.std.proofs.ByRecursion.{has_get_or, has_append_right}
use Rattle.std.proofs.lemmas.List.Sorted.{IsPermutation-refl, IsPermutation-sym, IsPermutation-to_front, IsPermutation-swap_remove}
use Rattle.terms.specs.declared.message.Message.{Message}
use Rattle.channel.specs.Meaning.{SameBag}
use Rattle.channel.specs.Positions.{StandsAt}

pub same_bag : (xs ys : List Message) → ys ≡ xs → SameBag xs ys
same_bag xs ys e = subst (SameBag xs) (sym e) (IsPermutation-refl xs)

-- one more at the end
pub one_more : (xs ys : List Message) (m : Message) → ys ≡ xs ++ m ∷ [] → SameBag (m ∷ xs) ys
one_more xs ys m e = subst (SameBag (m ∷ xs)) (sym e) (IsPermutation-sym _ _ (IsPermutation-to_front xs m))

module _ (xs : List Message) (i : ℕ) (m : Message) where
  pub stands_at : i < length xs → slice_index_or xs i m ≡ m → StandsAt xs i m
  stands_at h e = let whole = take-append-drop i xs in let rest = drop_more xs i m h in cc

  pub has_standing : StandsAt xs i m → Has xs m
  has_standing s = rw s (has_append_right (take i xs) _ m (has_get_or (m ∷ drop (i + 1) xs) 0 m (omega arith)))

  pub get_or_standing : i < length xs → StandsAt xs i m → slice_index_or xs i m ≡ m
  get_or_standing h s = ap (λ (l : List Message). get_or l i m) s ∙ get_or_at (take i xs) m (drop (i + 1) xs) m i (length-take-le i xs (omega arith))

  -- the message at position i leaves: the last moves there, and the end is cut off
  pub one_less : i < length xs → StandsAt xs i m → SameBag xs (m ∷ swap_remove xs i m)
  one_less h s = IsPermutation-swap_remove xs i m h (sym (get_or_standing h s))
