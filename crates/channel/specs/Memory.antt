-- How a channel uses the memory of its host: one message a place, at most the first 65,535.
use Rattle.std.specs.Prelude.{◌≡◌, ℕ, min, drop, vec_items, vec_len}
use Rattle.std.specs.Global.{Vec}
use Rattle.terms.specs.declared.message.Message.{Message}

abbrev pub places_in : Vec Message → ℕ
places_in memory = min 65535 (vec_len memory)

-- The memory is as long as it was, and what lies past its first 65,535 messages is as it was.
abbrev pub Kept : Vec Message → Vec Message → Type 0
Kept before after = (vec_len after ≡ vec_len before) × (drop 65535 (vec_items after) ≡ drop 65535 (vec_items before))
