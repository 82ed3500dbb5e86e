-- What keeps a park from being stuck: places enough, well-formed messages, and no question lost.
use Rattle.std.proofs.Common.{◌≡◌, ℕ, zero, suc, ◌+◌, ◌-◌, ◌*◌, ◌<◌, ◌≤◌, true, false, leb, ◌⊎◌, List, ◌++◌, get_or, drop, replicate, sym, refl, ◌∙◌, subst, arith}
use lib.Count.{ones}
use Rattle.std.specs.List.{ContainsAt as Has, AllByRecursion as All}
use Rattle.std.proofs.ByRecursion.{All-from_get_or}
use Rattle.std.proofs.lemmas.List.{length-replicate, get_or-replicate, get_or_append_left}
use Rattle.channel.specs.declared.channel.Channel as channel
use Rattle.coins.specs.declared.Coins as coins
use Rattle.terms.specs.declared.message.Kind.{Kind}
use Rattle.terms.specs.declared.message.Kind.TheVariants.{Phase, Echo}
use Rattle.terms.specs.declared.message.Message.{Message}
use Rattle.terms.specs.declared.word.Cell.{Cell}
use Rattle.terms.specs.declared.word.Cell.TheVariants.{Empty, Holds}
use Rattle.terms.specs.declared.word.Place.{Place}
use Rattle.terms.specs.declared.word.Word.{Word}
use Rattle.terms.specs.Heard.{blank, heard_from, majority_of}
use Rattle.terms.specs.Places.{name_fits, well_formed}
use Rattle.park.specs.declared.controller.Controller.{Controller}
use Rattle.park.specs.declared.controller.Stage.{Stage}
use Rattle.park.specs.declared.controller.Stage.TheVariants.{Uncalled, Asking, Answered}
use Rattle.park.specs.Controllers.{nobody, record_of, uncalled}
use Rattle.park.specs.Opening.{all_uncalled}
use Rattle.park.specs.States.{State}
use Rattle.promise.specs.Runs.{Fresh}
use Rattle.promise.proofs.Sizes.{accepted}

-- the name of a word is blank or one of 1 to n
abbrev pub Fits : ℕ → Word → Type 0
Fits n w = name_fits n w.name ≡ true

abbrev pub CellFits : ℕ → Cell → Type 0
CellFits n Empty = Unit {0}
CellFits n (Holds w) = Fits n w

abbrev pub Formed : ℕ → Message → Type 0
Formed n m = well_formed n m ≡ true

-- the message is of this kind, from one controller to another, at this place
abbrev pub Mail : Message → Kind → ℕ → ℕ → Place → Type 0
Mail m kind from to at = (m.kind ≡ kind) × (m.sender ≡ from) × (m.receiver ≡ to) × (m.place ≡ at)

-- such a message waits
abbrev pub Waiting : List Message → Kind → ℕ → ℕ → Place → Type 0
Waiting bag kind from to at = (m : Message) × Has bag m × Mail m kind from to at

-- q is down, or it was heard, or p's question to it waits, or its answer does
abbrev pub Reaches : List Message → List Controller → ℕ → ℕ → Place → ℕ → Type 0
Reaches bag list p heard at q =
    ((record_of list q).up ≡ false) ⊎ ((heard_from heard q ≡ true) ⊎ (Waiting bag Phase p q at ⊎ Waiting bag Echo q p at))

-- whoever asks has heard itself; while it is up and waits, this holds of every other controller
abbrev pub Asked : (Place → ℕ → Type 0) → ℕ → ℕ → ℕ → Controller → Stage → Type 0
Asked R n majority p c Uncalled = Unit {0}
Asked R n majority p c (Answered answer) = Unit {0}
Asked R n majority p c (Asking at) =
    (heard_from c.heard p ≡ true)
    × (c.up ≡ true → leb majority (ones c.heard) ≡ false → (q : ℕ) → 1 ≤ q → q ≤ n → (q ≡ p → ⊥) → R at q)

-- of p, with this record: no question is lost
abbrev pub Asks : ℕ → ℕ → List Message → List Controller → ℕ → Controller → Type 0
Asks n majority bag list p c = Asked (Reaches bag list p c.heard) n majority p c c.stage

pub record Live (n majority : ℕ) (list : List Controller) (cells : List Cell) (bag : List Message) (places : ℕ) : Type 0 where
  pub room : n ≤ places + 1
  pub formed : All (Formed n) bag
  pub kept : (i : ℕ) → i < 1024 * n → CellFits n (get_or cells i Empty)
  pub words : (p : ℕ) → All (Fits n) (record_of list p).words
  pub asks : (p : ℕ) → 1 ≤ p → p ≤ n → Asks n majority bag list p (record_of list p)

abbrev pub Alive : {C K : Type 0} → channel.Ghosts C → coins.Ghosts K → State C K → Type 0
Alive ch co s = Live s.n s.majority s.controllers s.cells (ch.bag s.channel) (ch.places s.channel)

-- whatever holds of an element and of the default holds of every entry of its copies
copies : {X : Type 0} (P : X → Type 0) (k i : ℕ) (x d : X) → P x → P d → P (get_or (replicate k x) i d)
copies P zero i x d a b = b
copies P (suc k) zero x d a b = a
copies P (suc k) (suc i) x d a b = copies P k i x d a b

module _ {C K : Type 0} (ch : channel.Ghosts C) (co : coins.Ghosts K) where
  pub alive_fresh : (s : State C K) → Fresh ch co s → Alive ch co s
  alive_fresh s f =
      let n : ℕ = f.n in
      let a = accepted ch co n f.cells f.channel f.accepted in
      let room = a.places in
      let list : List Controller = all_uncalled in
      let empty : List Cell = replicate (1024 * n) Empty in
      let cells : List Cell = empty ++ drop (1024 * n) f.cells in
      let live : Live n (majority_of n) list cells (ch.bag f.channel) (ch.places f.channel) = record {
        room = omega arith;
        formed = subst (All (Formed n)) (sym a.nothing) tt;
        kept = λ i h.
            let e : get_or cells i Empty ≡ get_or empty i Empty = get_or_append_left empty (drop (1024 * n) f.cells) Empty i (omega (arith, length-replicate (1024 * n) Empty)) in
            subst (CellFits n) (sym (e ∙ get_or-replicate (1024 * n) i Empty Empty h)) tt;
        words = λ p. copies (λ c. All (Fits n) c.words) 15 (p - 1) uncalled nobody (All-from_get_or (Fits n) (replicate 15 blank) blank (λ i h. copies (Fits n) 15 i blank blank refl refl)) tt;
        asks = λ p l u. copies (λ c. Asks n (majority_of n) (ch.bag f.channel) list p c) 15 (p - 1) uncalled nobody tt tt;
      } in
      subst (Alive ch co) (sym f.is) live
