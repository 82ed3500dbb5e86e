-- A park in outline: its pages, its stages, the words heard and the mail, and what acts do to them.
use Rattle.std.specs.Prelude.{◌≡◌, ℕ, ◌+◌, ◌-◌, ◌/◌, ◌^◌, ◌<◌, ◌≤◌, ◌⊎◌, List, [], Some, None, Option, bit_or, count_ones}
use Rattle.std.specs.List.{ContainsAt as Has}
use Rattle.terms.specs.declared.answer.Answer.{Answer}
use Rattle.terms.specs.declared.answer.Answer.TheVariants.{Yes, No, Undecided}
use Rattle.terms.specs.declared.message.Kind.{Kind}
use Rattle.terms.specs.declared.message.Kind.TheVariants.{Phase, Echo}
use Rattle.terms.specs.declared.message.Message.{Message}
use Rattle.terms.specs.declared.word.Side.{Side}
use Rattle.terms.specs.declared.word.Word.{Word}
use Rattle.laws.specs.Rules.{Outcome, yes_yes, no_no, yes_no, on, Reading, After, In, first, later}

-- by controller, selector, round and phase
abbrev pub Page : Type 0
Page = ℕ → ℕ → ℕ → ℕ → Option Word

-- where a controller is: at a place with its heard set, or with its answer
pub data Stage : Type 0 where
  idle : Stage
  asking : (k r x heard : ℕ) → Stage
  done : Answer → Stage

pub record Outline : Type 0 where
  pub stage : ℕ → Stage
  pub words : ℕ → ℕ → Word
  pub kept : Page
  pub said : Page
  pub mail : List Message

-- the two tables of coins
pub record Tables : Type 0 where
  pub draw : ℕ → ℕ → Side
  pub coin : ℕ → ℕ → Side

abbrev pub Same : (p k r x p' k' r' x' : ℕ) → Type 0
Same p k r x p' k' r' x' = (p ≡ p') × (k ≡ k') × (r ≡ r') × (x ≡ x')

-- one cell is written, whatever it held
pub record Wrote (f f' : Page) (p k r x : ℕ) (w : Word) : Type 0 where
  pub here : f' p k r x ≡ Some w
  pub rest : (p' k' r' x' : ℕ) → ¬ Same p' k' r' x' p k r x → f' p' k' r' x' ≡ f p' k' r' x'

-- one cell holds v afterwards: what it held, or else w
pub record Keeps (f f' : Page) (p k r x : ℕ) (w v : Word) : Type 0 where
  pub here : f' p k r x ≡ Some v
  pub was : (f p k r x ≡ Some v) ⊎ ((f p k r x ≡ None) × (v ≡ w))
  pub rest : (p' k' r' x' : ℕ) → ¬ Same p' k' r' x' p k r x → f' p' k' r' x' ≡ f p' k' r' x'

abbrev pub Unchanged : Page → Page → Type 0
Unchanged f f' = (p k r x : ℕ) → f' p k r x ≡ f p k r x

-- one controller's stage changes; the others' stages and words heard stay
pub record Moves (s t : Outline) (p : ℕ) (u : Stage) : Type 0 where
  pub here : t.stage p ≡ u
  pub stages : (q : ℕ) → ¬ (q ≡ p) → t.stage q ≡ s.stage q
  pub others : (q v : ℕ) → ¬ (q ≡ p) → t.words q v ≡ s.words q v

-- no message waits afterwards but those that waited and those sent
abbrev pub Sends : Outline → Outline → (Message → Type 0) → Type 0
Sends s t Sent = (m : Message) → Has t.mail m → Has s.mail m ⊎ Sent m

-- a message of this kind from p about this place with this word
pub record Letter (kind : Kind) (p k r x : ℕ) (w : Word) (m : Message) : Type 0 where
  pub is_kind : m.kind ≡ kind
  pub is_from : m.sender ≡ p
  pub is_selector : m.place.selector ≡ k
  pub is_round : m.place.round ≡ r
  pub is_phase : m.place.phase ≡ x
  pub is_word : m.word ≡ w

-- p opens a phase with w, keeps own there, and has heard itself alone
pub record Opens (s t : Outline) (p k r x : ℕ) (w : Word) : Type 0 where
  pub own : Word
  pub says : Wrote s.said t.said p k r x w
  pub keeps : Keeps s.kept t.kept p k r x w own
  pub moves : Moves s t p (asking k r x (2 ^ (p - 1)))
  pub heard : t.words p p ≡ own
  pub sends : Sends s t (Letter Phase p k r x w)

pub record Answers (s t : Outline) (p : ℕ) (a : Answer) : Type 0 where
  pub same_kept : Unchanged s.kept t.kept
  pub same_said : Unchanged s.said t.said
  pub moves : Moves s t p (done a)
  pub sends : (m : Message) → Has t.mail m → Has s.mail m

-- what a step after phase 2 does
abbrev pub Goes : Tables → Outline → Outline → ℕ → ℕ → ℕ → Outcome → Type 0
Goes c s t p k r yes_yes = Answers s t p Yes
Goes c s t p k r no_no = Answers s t p No
Goes c s t p k r yes_no = ((k < 16) × Opens s t p (k + 1) 1 1 (first (c.draw p (k + 1)) p)) ⊎ ((k ≡ 16) × Answers s t p Undecided)
Goes c s t p k r (on g) = ((r < 16) × Opens s t p k (r + 1) 1 (later g)) ⊎ ((r ≡ 16) × Answers s t p Undecided)

-- p, which asks there with heard set S, hears w from q
pub record Hears (s t : Outline) (p q k r x S : ℕ) (w : Word) : Type 0 where
  pub same_kept : Unchanged s.kept t.kept
  pub same_said : Unchanged s.said t.said
  pub moves : Moves s t p (asking k r x (bit_or S (2 ^ (q - 1))))
  pub heard : t.words p q ≡ w
  pub before : (v : ℕ) → ¬ (v ≡ q) → t.words p v ≡ s.words p v
  pub sends : (m : Message) → Has t.mail m → Has s.mail m

pub data Act (c : Tables) (n : ℕ) (s t : Outline) : Type 0 where
  call : (p : ℕ) → 1 ≤ p → p ≤ n → s.stage p ≡ idle → Opens s t p 1 1 1 (first (c.draw p 1) p) → Act c n s t
  step_first : (p k r S : ℕ) (w : Word) → s.stage p ≡ asking k r 1 S → n / 2 + 1 ≤ count_ones S
      → Reading (λ q. In q S) (λ q. (s.words p q).group) w.group → Reading (λ q. In q S) (λ q. (s.words p q).name) w.name
      → Opens s t p k r 2 w → Act c n s t
  step_second : (p k r S : ℕ) (o : Outcome) → s.stage p ≡ asking k r 2 S → n / 2 + 1 ≤ count_ones S
      → After p (c.draw p k) r (c.coin k r) (λ q. In q S) (s.words p) o → Goes c s t p k r o → Act c n s t
  deliver_phase : (m : Message) (v : Word) → Has s.mail m → m.kind ≡ Phase
      → Keeps s.kept t.kept m.receiver m.place.selector m.place.round m.place.phase m.word v
      → Unchanged s.said t.said → ((q : ℕ) → t.stage q ≡ s.stage q) → ((q u : ℕ) → t.words q u ≡ s.words q u)
      → Sends s t (Letter Echo m.receiver m.place.selector m.place.round m.place.phase v) → Act c n s t
  deliver_echo : (m : Message) (S : ℕ) → Has s.mail m → m.kind ≡ Echo → 1 ≤ m.sender → m.sender ≤ n
      → s.stage m.receiver ≡ asking m.place.selector m.place.round m.place.phase S
      → Hears s t m.receiver m.sender m.place.selector m.place.round m.place.phase S m.word → Act c n s t
  -- a crash, a permit act, and a message that is fetched and dropped
  nothing : Unchanged s.kept t.kept → Unchanged s.said t.said → ((q : ℕ) → t.stage q ≡ s.stage q) → ((q u : ℕ) → t.words q u ≡ s.words q u)
      → ((m : Message) → Has t.mail m → Has s.mail m) → Act c n s t

-- nobody called, nothing is kept or said, and no message waits
pub record FreshOutline (s : Outline) : Type 0 where
  pub stages : (p : ℕ) → s.stage p ≡ idle
  pub no_kept : (p k r x : ℕ) → s.kept p k r x ≡ None
  pub no_said : (p k r x : ℕ) → s.said p k r x ≡ None
  pub no_mail : s.mail ≡ []
