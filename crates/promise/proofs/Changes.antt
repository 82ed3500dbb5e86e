-- What an event does to a park: one analysis of the acts, for all that is proved of them.
use Rattle.std.proofs.Common.{◌≡◌, ℕ, Bool, true, false, cond, not, leb, ◌⊎◌, length, Some, None, Ok, Err, Option, Result, sym, refl, ap, ◌∙◌, subst, inl, inr, length-set}
use lib.Count.{ones}
use Rattle.std.specs.List.{ContainsAt as Has, AllByRecursion as All}
use Rattle.std.proofs.ByRecursion.{all_has_itself}
use Rattle.std.proofs.lemmas.Bool.{true≢false}
use Rattle.channel.specs.declared.channel.Channel as channel
use Rattle.channel.specs.Meaning.{Gives, Leaves}
use Rattle.coins.specs.declared.Coins as coins
use Rattle.permit.specs.declared.desk.Desk.{Desk}
use Rattle.permit.specs.declared.desk.PermitStage.TheVariants.{NotGiven}
use Rattle.permit.specs.Acts.{same_stage}
use Rattle.terms.specs.declared.answer.Answer.{Answer}
use Rattle.terms.specs.declared.answer.Answer.TheVariants.{Yes, No, Undecided}
use Rattle.terms.specs.declared.answer.Progress.{Progress}
use Rattle.terms.specs.declared.answer.Progress.TheVariants as progress
use Rattle.terms.specs.declared.message.Kind.{Kind}
use Rattle.terms.specs.declared.message.Kind.TheVariants.{Phase, Echo}
use Rattle.terms.specs.declared.message.Mark.{Mark}
use Rattle.terms.specs.declared.message.Message.{Message}
use Rattle.terms.specs.declared.refusal.Refusal.{Refusal}
use Rattle.terms.specs.declared.refusal.Refusal.TheVariants as refusals
use Rattle.terms.specs.declared.word.Place.{Place}
use Rattle.terms.specs.Places.{well_formed}
use Rattle.park.specs.declared.collected.Collected.{Collected}
use Rattle.park.specs.declared.controller.Controller.{Controller}
use Rattle.park.specs.declared.controller.Stage.{Stage}
use Rattle.park.specs.declared.controller.Stage.TheVariants.{Uncalled, Asking, Answered}
use Rattle.park.specs.Asks.{Opens, Advances, Calls, Steps, StepsFrom, opens_selector, progress_from}
use Rattle.park.specs.Controllers.{after_echo, answer_in, answered, counts, has_called, hearing, ready_at, ready_by, taken_down, with_record}
use Rattle.park.specs.Messages.{kept, echo_of, Takes, Accepts, Delivers, DeliversFetched, Crashes}
use Rattle.park.specs.Permits.{Tells, Collects}
use Rattle.park.specs.Refusals.{first, when, name_refusal, too_few_places}
use Rattle.park.specs.States.{State, of, with_channel, with_controller, with_controllers, with_desk}
use Rattle.terms.specs.declared.act.Act.TheVariants.{Call, Step, Crash, Deliver}
use Rattle.promise.specs.declared.act.Outcome.{Outcome}
use Rattle.promise.specs.declared.act.Outcome.TheVariants.{Advanced, Crashed}
use Rattle.promise.specs.Performs.{advanced, crashed}
use Rattle.promise.specs.Runs.{Event, performed, collected, loaded, dispatched, handed_back, Does}
use Rattle.promise.proofs.Mail.{left}
use Rattle.promise.proofs.RecordWrites.{record_common}
use Rattle.promise.proofs.RefusalsAndLimits.{Named, clash, first_none, if_cases, named, unless_cases, when_none}

-- ---- what an event says of the controllers

abbrev refused : Result Outcome Refusal → Bool
refused (Ok outcome) = false
refused (Err refusal) = true

-- no call, step or crash was accepted
abbrev pub quiet : Event → Bool
quiet (performed (Call p) r) = refused r
quiet (performed (Step p) r) = refused r
quiet (performed (Crash p) r) = refused r
quiet (performed (Deliver pick) r) = true
quiet (collected p r) = true
quiet (loaded permit r) = true
quiet (dispatched permit r) = true
quiet (handed_back permit r) = true

-- the act needs no permit
abbrev pub performs : Event → Bool
performs (performed act r) = true
performs (collected p r) = false
performs (loaded permit r) = false
performs (dispatched permit r) = false
performs (handed_back permit r) = false

not_called : (u : Stage) → has_called u ≡ false → u ≡ Uncalled
not_called Uncalled e = refl
not_called (Asking at) e = absurd (true≢false e)
not_called (Answered answer) e = absurd (true≢false e)

ready_tells : (majority heard : ℕ) (u : Stage) (at : Place) → ready_by majority heard u ≡ Some at → (u ≡ Asking at) × (leb majority (ones heard) ≡ true)
ready_tells majority heard Uncalled at e = clash (cc)
ready_tells majority heard (Answered answer) at e = clash (cc)
ready_tells majority heard (Asking from) at e = go (leb majority (ones heard)) refl e
  where
    go : (b : Bool) → leb majority (ones heard) ≡ b → cond b (Some from) None ≡ Some at → (Asking from ≡ Asking at) × (leb majority (ones heard) ≡ true)
    go true h e = (cc, h)
    go false h e = clash (cc)

module _ {C K : Type 0} (ch : channel.Ghosts C) (co : coins.Ghosts K) where
  -- m was fetched, and this is the channel then
  pub record Fetched (s : State C K) (m : Message) (rest : C) : Type 0 where
    pub mark : Mark
    pub leaves : Leaves (ch.bag s.channel) (ch.places s.channel) m mark (ch.bag rest)
    pub places : ch.places rest ≡ ch.places s.channel

  -- it had waited, and so had all that is left
  pub waited : (s : State C K) (m : Message) (rest : C) → Fetched s m rest → All (Has (ch.bag s.channel)) (ch.bag rest) × Has (ch.bag s.channel) m
  waited s m rest f = left f.mark (ch.bag s.channel) (ch.bag rest) (ch.places s.channel) m f.leaves

  -- why m is dropped: it is not well formed, its receiver is down, or it is an ECHO that does not count
  pub data Dropped (s : State C K) (m : Message) : Type 0 where
    unformed : well_formed s.n m ≡ false → Dropped s m
    down : (of s m.receiver).up ≡ false → Dropped s m
    uncounted : m.kind ≡ Echo → ((at : Place) → (of s m.receiver).stage ≡ Asking at → counts s.majority (of s m.receiver) at m ≡ false) → Dropped s m

  -- nothing of the outline changes, but messages may have left
  pub data Stays (s : State C K) (e : Event) (t : State C K) : Type 0 where
    -- refused, or an act on permits
    same : quiet e ≡ true → (desk : Desk) → (performs e ≡ true → desk ≡ s.desk) → t ≡ with_desk s desk → Stays s e t
    drops : quiet e ≡ true → (m : Message) (rest : C) → Fetched s m rest → Dropped s m → t ≡ with_channel s rest → Stays s e t
    crashes : (p : ℕ) → e ≡ performed (Crash p) (Ok Crashed) → Named s p → t ≡ with_controller s p (taken_down (of s p)) → Stays s e t

  -- so each part of the outline is as it was
  pub record Still (s t : State C K) : Type 0 where
    pub n : t.n ≡ s.n
    pub cells : t.cells ≡ s.cells
    pub count : length t.controllers ≡ length s.controllers
    pub stages : (p : ℕ) → (of t p).stage ≡ (of s p).stage
    pub heard : (p : ℕ) → (of t p).heard ≡ (of s p).heard
    pub words : (p : ℕ) → (of t p).words ≡ (of s p).words
    pub mail : All (Has (ch.bag s.channel)) (ch.bag t.channel)

  pub stays_still : (s t : State C K) (e : Event) → Stays s e t → Still s t
  stays_still s t e (same q desk k h) = subst (Still s) (sym h) (record {
    n = refl;
    cells = refl;
    count = refl;
    stages = λ p. refl;
    heard = λ p. refl;
    words = λ p. refl;
    mail = all_has_itself _;
  })
  stays_still s t e (drops q m rest f why h) = subst (Still s) (sym h) (record {
    n = refl;
    cells = refl;
    count = refl;
    stages = λ p. refl;
    heard = λ p. refl;
    words = λ p. refl;
    mail = (waited s m rest f).0;
  })
  stays_still s t e (crashes p q n h) =
      let down = taken_down (of s p) in
      subst (Still s) (sym h) (record {
        n = refl;
        cells = refl;
        count = length-set _ _ _;
        stages = record_common s.controllers p down (λ (c : Controller). c.stage) refl;
        heard = record_common s.controllers p down (λ (c : Controller). c.heard) refl;
        words = record_common s.controllers p down (λ (c : Controller). c.words) refl;
        mail = all_has_itself _;
      })

  -- why p advances so: it calls, or it is ready
  abbrev pub Whence : State C K → Event → ℕ → Progress → Type 0
  Whence s e p g =
      ((e ≡ performed (Call p) (Ok (Advanced g))) × ((of s p).stage ≡ Uncalled) × (g ≡ opens_selector ch co s p 1))
      ⊎ ((from : Place) × (e ≡ performed (Step p) (Ok (Advanced g))) × ((of s p).stage ≡ Asking from) × (leb s.majority (ones (of s p).heard) ≡ true) × (g ≡ progress_from ch co s p from))

  abbrev pub Went : State C K → ℕ → Progress → State C K → Type 0
  Went s p (progress.Opened at w) t = Opens ch co s p at w t
  Went s p (progress.Answered answer) t = t ≡ with_controller s p (answered (of s p) answer)

  pub data Change (s : State C K) (e : Event) (t : State C K) : Type 0 where
    stays : Stays s e t → Change s e t
    advances : (p : ℕ) (g : Progress) → Named s p → Whence s e p g → Went s p g t → Change s e t
    keeps : quiet e ≡ true → (m : Message) (rest : C) → Fetched s m rest → well_formed s.n m ≡ true
        → m.kind ≡ Phase → t ≡ kept ch (with_channel s rest) m t.channel → ch.sends rest (echo_of ch (with_channel s rest) m) t.channel → Change s e t
    hears : quiet e ≡ true → (m : Message) (rest : C) (at : Place) → Fetched s m rest → well_formed s.n m ≡ true
        → m.kind ≡ Echo → (of s m.receiver).stage ≡ Asking at → counts s.majority (of s m.receiver) at m ≡ true
        → t ≡ with_controller (with_channel s rest) m.receiver (hearing (of s m.receiver) m) → Change s e t

  -- ---- each event

  refusal : (s t : State C K) (e : Event) → quiet e ≡ true → t ≡ s → Change s e t
  refusal s t e q h = stays (same q s.desk (λ _. refl) h)

  advance_change : (s t : State C K) (e : Event) (p : ℕ) (g : Progress) (x : Result Progress Refusal) → Named s p → (refused (advanced x) ≡ true → quiet e ≡ true)
      → (x ≡ Ok g → Whence s e p g) → Advances ch co s p g x t → Change s e t
  advance_change s t e p (progress.Opened at w) x n silent why h = elim (unless_cases (when (too_few_places ch s) refusals.NoPlace) s _ x t h) [
    | inl i ↦ refusal s t e (silent (ap (λ z. refused (advanced z)) i.1)) i.2
    | inr i ↦ advances p (progress.Opened at w) n (why i.1.0) i.1.1
  ]
  advance_change s t e p (progress.Answered answer) x n silent why h = advances p (progress.Answered answer) n (why h.0) h.1

  call_change : (s t : State C K) (p : ℕ) (x : Result Progress Refusal) (r : Result Outcome Refusal) → r ≡ advanced x → Calls ch co s p x t → Change s (performed (Call p) r) t
  call_change s t p x r q h = elim (unless_cases (first (name_refusal s p) (when (has_called (of s p).stage) refusals.Called)) s _ x t h) [
    | inl i ↦ refusal s t _ (ap refused (q ∙ ap advanced i.1)) i.2
    | inr i ↦
        let f = first_none _ (when (has_called (of s p).stage) refusals.Called) i.0 in
        advance_change s t (performed (Call p) r) p (opens_selector ch co s p 1) x (named s p f.0) (λ z. ap refused q ∙ z)
        (λ z. inl (ap (performed (Call p)) (q ∙ ap advanced z), not_called _ (when_none _ refusals.Called f.1), refl)) i.1
  ]

  step_change : (s t : State C K) (p : ℕ) (x : Result Progress Refusal) (r : Result Outcome Refusal) → r ≡ advanced x → Steps ch co s p x t → Change s (performed (Step p) r) t
  step_change s t p x r q h = elim (unless_cases (name_refusal s p) s _ x t h) [
    | inl i ↦ refusal s t _ (ap refused (q ∙ ap advanced i.1)) i.2
    | inr i ↦ go (named s p i.0) (ready_at s.majority (of s p)) refl i.1
  ]
    where
      go : Named s p → (o : Option Place) → ready_at s.majority (of s p) ≡ o → StepsFrom ch co o s p x t → Change s (performed (Step p) r) t
      go n None e h = refusal s t _ (ap refused (q ∙ ap advanced h.0)) h.1
      go n (Some from) e h =
          let i = ready_tells s.majority (of s p).heard (of s p).stage from e in
          advance_change s t (performed (Step p) r) p (progress_from ch co s p from) x n (λ z. ap refused q ∙ z)
          (λ z. inr (from, ap (performed (Step p)) (q ∙ ap advanced z), i.0, i.1, refl)) h

  crash_change : (s t : State C K) (p : ℕ) (x : Result (Unit {0}) Refusal) (r : Result Outcome Refusal) → r ≡ crashed x → Crashes s p x t → Change s (performed (Crash p) r) t
  crash_change s t p x r q h = elim (unless_cases (name_refusal s p) s _ x t h) [
    | inl i ↦ refusal s t _ (ap refused (q ∙ ap crashed i.1)) i.2
    | inr i ↦ stays (crashes p (ap (performed (Crash p)) (q ∙ ap crashed i.1.0)) (named s p i.0) i.1.1)
  ]

  -- an act on permits
  permit_change : (s t : State C K) (e : Event) → quiet e ≡ true → performs e ≡ false → (desk : Desk) → t ≡ with_desk s desk → Change s e t
  permit_change s t e q f desk h = stays (same q desk (λ g. absurd (true≢false (sym g ∙ f))) h)

  collect_change : (s t : State C K) (p : ℕ) (x : Result Collected Refusal) → Collects s p x t → Change s (collected p x) t
  collect_change s t p x h = elim (unless_cases (name_refusal s p) s _ x t h) [
    | inl i ↦ refusal s t _ refl i.2
    | inr i ↦ go (answer_in (of s p).stage) i.1
  ]
    where
      go : (a : Option Answer) → Tells a s x t → Change s (collected p x) t
      go None h = refusal s t _ refl h.1
      go (Some No) h = refusal s t _ refl h.1
      go (Some Undecided) h = refusal s t _ refl h.1
      go (Some Yes) h = elim (unless_cases (when (not (same_stage s.desk.stage NotGiven)) refusals.Taken) s _ x t h) [
        | inl i ↦ refusal s t _ refl i.2
        | inr i ↦ permit_change s t _ refl refl _ i.1.1
      ]

  -- the message of a delivery that is taken
  take_change : (s t : State C K) (e : Event) → quiet e ≡ true → (m : Message) (rest : C) → Fetched s m rest → well_formed s.n m ≡ true
      → Accepts ch (with_channel s rest) m t → Change s e t
  take_change s t e q m rest f ok h = elim (if_cases (of s m.receiver).up _ _ h) [
    | inl i ↦ go m.kind refl i.1
    | inr i ↦ stays (drops q m rest f (down i.0) i.1)
  ]
    where
      echo : (u : Stage) → (of s m.receiver).stage ≡ u → m.kind ≡ Echo
          → t ≡ with_controllers (with_channel s rest) (after_echo s.majority s.controllers m u) → Change s e t
      echo Uncalled i k h = stays (drops q m rest f (uncounted k (λ at j. clash (cc))) h)
      echo (Answered answer) i k h = stays (drops q m rest f (uncounted k (λ at j. clash (cc))) h)
      echo (Asking at) i k h = counted (counts s.majority (of s m.receiver) at m) refl h
        where
          counted : (b : Bool) → counts s.majority (of s m.receiver) at m ≡ b
              → t ≡ with_controllers (with_channel s rest) (cond b (with_record s.controllers m.receiver (hearing (of s m.receiver) m)) s.controllers) → Change s e t
          counted true c h = hears q m rest at f ok k i c h
          counted false c h = stays (drops q m rest f (uncounted k (λ bt j. let same : at ≡ bt = cc in ap (λ l. counts s.majority (of s m.receiver) l m) (sym same) ∙ c)) h)

      go : (k : Kind) → m.kind ≡ k → Takes ch k (with_channel s rest) m t → Change s e t
      go Phase i h = keeps q m rest f ok i h.0 h.1
      go Echo i h = echo (of s m.receiver).stage refl i h

  module _ (gives : (c : C) (pick : ℕ) (got : Option (Message × Mark)) (d : C) → ch.fetches c pick got d → Gives ch.bag ch.places c got d) where
    deliver_change : (s t : State C K) (pick : ℕ) (x : Result ℕ Refusal) (e : Event) → quiet e ≡ true → Delivers ch s pick x t → Change s e t
    deliver_change s t pick x e q h = go h.got (gives s.channel pick h.got h.rest h.fetched) h.does
      where
        go : (got : Option (Message × Mark)) → Gives ch.bag ch.places s.channel got h.rest → DeliversFetched ch s got h.rest x t → Change s e t
        go None g d = refusal s t e q d.1
        go (Some (m, mark)) g d =
            let f : Fetched s m h.rest = record { mark = mark; leaves = g.1; places = g.2 } in
            elim (if_cases (well_formed s.n m) _ _ d) [
              | inl i ↦ take_change s t e q m h.rest f i.0 i.1.1
              | inr i ↦ stays (drops q m h.rest f (unformed i.0) i.1.1)
            ]

    pub does_change : (s t : State C K) (e : Event) → Does ch co s e t → Change s e t
    does_change s t (performed (Call p) r) h = call_change s t p h.0 r h.2 h.1
    does_change s t (performed (Step p) r) h = step_change s t p h.0 r h.2 h.1
    does_change s t (performed (Crash p) r) h = crash_change s t p h.0 r h.2 h.1
    does_change s t (performed (Deliver pick) r) h = deliver_change s t pick h.0 _ refl h.1
    does_change s t (collected p r) h = collect_change s t p r h
    does_change s t (loaded permit r) h = permit_change s t _ refl refl _ h.1
    does_change s t (dispatched permit r) h = permit_change s t _ refl refl _ h.1
    does_change s t (handed_back permit r) h = permit_change s t _ refl refl _ h.1
