-- How many of a message a list holds, and that a bag is these numbers and nothing else.
use Rattle.std.specs.Prelude.{◌≡◌, ℕ, Bool, List, count_by}
use Rattle.terms.specs.contracts.message.MessagePartialEq.TheImpl as message-eq
use Rattle.terms.specs.declared.message.Message.{Message}
use Rattle.channel.specs.Meaning.{SameBag}

-- What `==` says of two messages: that their fields are equal.
abbrev pub same_message : Message → Message → Bool
same_message m n = message-eq.ghosts.eq m n

abbrev pub how_many : Message → List Message → ℕ
how_many m ms = count_by (same_message m) ms

-- Two lists are arrangements of one bag exactly when they hold each message equally often.
abbrev pub BagsAreCounts : Type 0
BagsAreCounts = (xs ys : List Message)
    → (SameBag xs ys → (m : Message) → how_many m xs ≡ how_many m ys)
    × (((m : Message) → how_many m xs ≡ how_many m ys) → SameBag xs ys)
