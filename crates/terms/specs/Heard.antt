-- The majority, the heard set as a number, and the words heard from it.
use Rattle.std.specs.Prelude.{ℕ, zero, suc, ◌+◌, ◌-◌, ◌/◌, ◌%◌, ◌^◌, Bool, cond, List, [], ◌∷◌, ◌++◌, None, Option, ◌==◌, bit_or, nat_lt, slice_index_or}
use Rattle.terms.specs.declared.word.Side.{Side}
use Rattle.terms.specs.declared.word.Word.{Word}

abbrev pub majority_of : ℕ → ℕ
majority_of n = n / 2 + 1

abbrev pub has_bit : ℕ → ℕ → Bool
has_bit set i = (set / 2 ^ i % 2) == 1

-- controller p is in the set: bit p - 1 is one
abbrev pub heard_from : ℕ → ℕ → Bool
heard_from set p = has_bit set (p - 1)

-- the set of p alone; a name beyond 16 has no bit
abbrev pub alone : ℕ → ℕ
alone p = cond (nat_lt (p - 1) 16) (2 ^ (p - 1)) 0

abbrev pub with_heard : ℕ → ℕ → ℕ
with_heard set p = bit_or set (alone p)

abbrev pub blank : Word
blank = record { group = None; name = None }

-- the entries that these controllers' words have, of the first n controllers that are in the set, by rising name
abbrev pub heard_entries : {A : Type 0} → (Word → A) → ℕ → ℕ → List Word → List A
heard_entries entry zero set words = []
heard_entries entry (suc i) set words = cond (has_bit set i) (heard_entries entry i set words ++ entry (slice_index_or words i blank) ∷ []) (heard_entries entry i set words)

abbrev pub heard_groups : ℕ → ℕ → List Word → List (Option Side)
heard_groups n set words = heard_entries (λ w. w.group) n set words

abbrev pub heard_names : ℕ → ℕ → List Word → List (Option ℕ)
heard_names n set words = heard_entries (λ w. w.name) n set words
