-- One controller: call, step and step give yes, collecting gives the permit, which is loaded and dispatched.
use Rattle.std.proofs.Common.{◌≡◌, ℕ, ◌<◌, true, false, cond, not, ◌&&◌, eqb, ltb, leb, List, [], ◌∷◌, ◌++◌, length, get_or, drop, replicate, Some, None, Ok, Option, Result, sym, refl, ap, ◌∙◌, subst, inl, inr, arith}
use lib.Count.{ones, ones_in}
use Rattle.std.proofs.lemmas.List.{get_or_append_left, get_or-replicate, get_or-set_same, get_or-set_other, length-replicate, length-set}
use Rattle.std.proofs.lemmas.Bool.{and_from, cond-true, eq-eqb, le-ltb}
use Rattle.channel.specs.declared.channel.Channel as channel
use Rattle.coins.specs.declared.Coins as coins
use Rattle.permit.specs.Acts.{Moves, at_stage, new_desk, same_stage}
use Rattle.permit.specs.declared.desk.Desk.{Desk}
use Rattle.permit.specs.declared.desk.PermitStage.TheVariants.{NotGiven, Held, Loaded, Dispatched}
use Rattle.permit.specs.Permits as permits
use Rattle.terms.specs.declared.answer.Answer.{Answer}
use Rattle.terms.specs.declared.answer.Answer.TheVariants.{Yes}
use Rattle.terms.specs.declared.answer.Progress.{Progress}
use Rattle.terms.specs.declared.answer.Progress.TheVariants.{Opened, Answered}
use Rattle.terms.specs.declared.refusal.Refusal.{Refusal}
use Rattle.terms.specs.declared.refusal.Refusal.TheVariants as refusals
use Rattle.terms.specs.declared.word.Cell.{Cell}
use Rattle.terms.specs.declared.word.Cell.TheVariants.{Empty, Holds}
use Rattle.terms.specs.declared.word.Place.{Place}
use Rattle.terms.specs.declared.word.Word.{Word}
use Rattle.terms.specs.Heard.{blank, heard_entries, heard_names}
use Rattle.park.specs.Asks.{Advances, Calls, Steps, StepsFrom, Opens, first_place, opened, own_word, progress_after, progress_from, second_phase}
use Rattle.park.specs.Cells.{first_word, kept_at, keeping, kept_word}
use Rattle.park.specs.Controllers.{answer_in, answered, asking, has_called, nobody, ready_at, ready_by, record_of, uncalled, with_record}
use Rattle.park.specs.declared.collected.Collected.TheVariants as collects
use Rattle.park.specs.declared.controller.Controller.{Controller}
use Rattle.park.specs.declared.controller.Stage.{Stage}
use Rattle.park.specs.declared.controller.Stage.TheVariants as stages
use Rattle.park.specs.Opening.{all_uncalled}
use Rattle.park.specs.Permits.{Collects, Tells}
use Rattle.park.specs.Refusals.{Unless, name_refusal, when}
use Rattle.park.specs.States.{State, of, with_controller, with_desk}
use Rattle.terms.specs.declared.act.Act.TheVariants.{Call, Step}
use Rattle.promise.specs.declared.act.Outcome.TheVariants.{Advanced}
use Rattle.promise.specs.Promise as promise
use Rattle.promise.specs.Runs.{performed, collected, loaded, dispatched, History, Does, Run, start, then}
use Rattle.witness.specs.Witnesses.{AllAnswered, AnswerIsDue, SomeRun, ARunWithAYesAndAPermitExists, AllAnsweredCanBeMet, NeverStuckCanBeMet}
use Rattle.witness.proofs.Opened.{a_block, none_first, not_when, opened_over, park_of}

-- ---- the record of controller 1

-- it is up and at this stage
record Is (list : List Controller) (u : Stage) : Type 0 where
  some : 0 < length list
  wide : 0 < length (record_of list 1).words
  up : (record_of list 1).up ≡ true
  stage : (record_of list 1).stage ≡ u

-- it asks there, and has heard itself alone, with this word
record Asks (list : List Controller) (at : Place) (w : Word) : Type 0 where
  is : Is list (stages.Asking at)
  heard : (record_of list 1).heard ≡ 1
  word : get_or (record_of list 1).words 0 blank ≡ w

asks : (list : List Controller) (u : Stage) (at : Place) (w kept : Word) → Is list u → kept ≡ w → Asks (with_record list 1 (asking (record_of list 1) 1 at kept)) at w
asks list u at w kept i same =
    let x : Controller = asking (record_of list 1) 1 at kept in
    let e : record_of (with_record list 1 x) 1 ≡ x = get_or-set_same list 0 x nobody i.some in
    record {
      is = record {
        some = subst (λ n. 0 < n) (sym (length-set list 0 x)) i.some;
        wide = subst (λ n. 0 < n) (sym (ap (λ (c : Controller). length c.words) e ∙ length-set (record_of list 1).words 0 kept)) i.wide;
        up = ap (λ (c : Controller). c.up) e ∙ i.up;
        stage = ap (λ (c : Controller). c.stage) e;
      };
      heard = ap (λ (c : Controller). c.heard) e;
      word = ap (λ (c : Controller). get_or c.words 0 blank) e ∙ get_or-set_same (record_of list 1).words 0 kept blank i.wide ∙ same;
    }

answers : (list : List Controller) (u : Stage) (answer : Answer) → Is list u → Is (with_record list 1 (answered (record_of list 1) answer)) (stages.Answered answer)
answers list u answer i =
    let x : Controller = answered (record_of list 1) answer in
    let e : record_of (with_record list 1 x) 1 ≡ x = get_or-set_same list 0 x nobody i.some in
    record {
      some = subst (λ n. 0 < n) (sym (length-set list 0 x)) i.some;
      wide = subst (λ n. 0 < n) (sym (ap (λ (c : Controller). length c.words) e)) i.wide;
      up = ap (λ (c : Controller). c.up) e ∙ i.up;
      stage = ap (λ (c : Controller). c.stage) e;
    }

-- ---- the acts

pub unless_none : {R S : Type 0} (o : Option Refusal) (s : S) (U : Result R Refusal → S → Type 0) (r : Result R Refusal) (t : S) → o ≡ None → U r t → Unless o s U r t
unless_none o s U r t e u = subst (λ o. Unless o s U r t) (sym e) u

none_needed : (x : ℕ) → ltb x 0 ≡ false
none_needed x = le-ltb x 0 (omega arith)

clash : ◌≡◌ {A = ℕ} 0 1 → ⊥
clash z = omega arith

one_has_one : ones 1 ≡ 1
unfolding ones ones_in
one_has_one = refl

one_is_majority : leb 1 (ones 1) ≡ true
unfolding ones ones_in
one_is_majority = refl

module _ (list : List Controller) (at : Place) (v : Word) (a : Asks list at v) where
  ready : ready_at 1 (record_of list 1) ≡ Some at
  ready =
      ap (ready_by 1 (record_of list 1).heard) a.is.stage
      ∙ ap (λ h. cond (leb 1 (ones h)) (Some at) None) a.heard
      ∙ cond-true _ _ _ one_is_majority

  entries : {A : Type 0} (entry : Word → A) → heard_entries entry 1 (record_of list 1).heard (record_of list 1).words ≡ entry v ∷ []
  entries entry = ap (λ h. heard_entries entry 1 h (record_of list 1).words) a.heard ∙ ap (λ x. entry x ∷ []) a.word

module _ {C K : Type 0} (ch : channel.Ghosts C) (co : coins.Ghosts K) (c : C) (k : K) where
  abbrev park : Desk → List Controller → List Cell → State C K
  park desk list cells = record { n = 1; majority = 1; desk = desk; controllers = list; cells = cells; block = a_block 1; channel = c; coins = k }

  abbrev w : Word
  w = own_word (co.group k 1 1) 1

  abbrev at₁ : Place
  at₁ = first_place 1

  abbrev at₂ : Place
  at₂ = second_phase at₁

  module _ (desk : Desk) (list : List Controller) (cells : List Cell) where
    abbrev s : State C K
    s = park desk list cells

    named : (record_of list 1).up ≡ true → name_refusal s 1 ≡ None
    named e = ap (λ b. when (not b) refusals.Down) e

    opens : (at : Place) (v : Word) → Advances ch co s 1 (Opened at v) (Ok (Opened at v)) (opened ch co s 1 at v c)
    opens at v = unless_none _ s (λ r t. (r ≡ Ok (Opened at v)) × Opens ch co s 1 at v t) _ _ (not_when _ refusals.NoPlace (none_needed _)) (refl, record { state = refl; sent = refl })

    calls : Is list stages.Uncalled → Calls ch co s 1 (Ok (Opened at₁ w)) (opened ch co s 1 at₁ w c)
    calls i = unless_none _ s _ _ _ (none_first _ _ (named i.up) (not_when _ refusals.Called (ap has_called i.stage))) (opens at₁ w)

    -- a step of a caller that asks there comes to what this says
    steps : (at : Place) (v : Word) → Asks list at v → (g : Progress)
        → progress_after ch co s 1 (v.group ∷ []) (v.name ∷ []) at ≡ g → (r : Result Progress Refusal) (t : State C K) → Advances ch co s 1 g r t → Steps ch co s 1 r t
    steps at v a g e r t h =
        let goes : progress_from ch co s 1 at ≡ g =
        ap (λ x. progress_after ch co s 1 x (heard_names 1 (record_of list 1).heard (record_of list 1).words) at) (entries list at v a (λ x. x.group))
        ∙ ap (λ x. progress_after ch co s 1 (v.group ∷ []) x at) (entries list at v a (λ x. x.name)) ∙ e in
        unless_none _ s _ _ _ (named a.is.up) (subst (λ o. StepsFrom ch co o s 1 r t) (sym (ready list at v a)) (subst (λ g. Advances ch co s 1 g r t) (sym goes) h))

    collects_yes : Is list (stages.Answered Yes) → desk.stage ≡ NotGiven → Collects s 1 (Ok (collects.Yes (permits.held desk.vehicle))) (with_desk s (at_stage desk Held))
    collects_yes i e =
        let permit : permits.HeldPermit = permits.held desk.vehicle in
        let after : State C K = with_desk s (at_stage desk Held) in
        unless_none _ s _ _ _ (named i.up) (subst (λ o. Tells o s (Ok (collects.Yes permit)) after) (sym (ap answer_in i.stage))
        (unless_none _ s (λ r t. (r ≡ Ok (collects.Yes permit)) × (t ≡ after)) _ _ (not_when _ refusals.Taken (ap (λ u. not (same_stage u NotGiven)) e)) (refl, refl)))

  -- some run from this park
  abbrev From : State C K → (History → State C K → Type 0) → Type 0
  From s Of = (h : History) × (t : State C K) × Run ch co s h t × Of h t

  -- ---- the run, over any records and cells of which this is known
  module _ (vehicle : ℕ) (list : List Controller) (cells : List Cell) (i : Is list stages.Uncalled) (empty : (i : ℕ) → i < 512 → get_or cells i Empty ≡ Empty) where
    abbrev s₀ : State C K
    s₀ = park (new_desk vehicle) list cells

    abbrev s₁ : State C K
    s₁ = opened ch co s₀ 1 at₁ w c

    abbrev s₂ : State C K
    s₂ = opened ch co s₁ 1 at₂ w c

    abbrev s₃ : State C K
    s₃ = with_controller s₂ 1 (answered (of s₂ 1) Yes)

    abbrev s₄ : State C K
    s₄ = with_desk s₃ (at_stage (new_desk vehicle) Held)

    abbrev s₅ : State C K
    s₅ = with_desk s₃ (at_stage (new_desk vehicle) Loaded)

    abbrev s₆ : State C K
    s₆ = with_desk s₃ (at_stage (new_desk vehicle) Dispatched)

    asks₁ : Asks s₁.controllers at₁ w
    asks₁ = asks list stages.Uncalled at₁ w _ i (ap (λ z. first_word z w) (empty 0 (omega arith)))

    -- the first opening wrote to two other cells
    still_empty : get_or s₁.cells (kept_at 1 at₂) Empty ≡ Empty
    still_empty =
        get_or-set_other (keeping cells 1 at₁ w) 512 1 (Holds w) Empty (λ e. omega arith)
        ∙ get_or-set_other cells 0 1 (Holds (kept_word cells 1 at₁ w)) Empty (λ e. omega arith)
        ∙ empty 1 (omega arith)

    asks₂ : Asks s₂.controllers at₂ w
    asks₂ = asks s₁.controllers _ at₂ w _ asks₁.is (ap (λ z. first_word z w) still_empty)

    does₁ : Does ch co s₀ (performed (Call 1) (Ok (Advanced (Opened at₁ w)))) s₁
    does₁ = (Ok (Opened at₁ w), calls (new_desk vehicle) list cells i, refl)

    does₂ : Does ch co s₁ (performed (Step 1) (Ok (Advanced (Opened at₂ w)))) s₂
    does₂ = (Ok (Opened at₂ w), steps (new_desk vehicle) s₁.controllers s₁.cells at₁ w asks₁ (Opened at₂ w) refl _ s₂ (opens (new_desk vehicle) s₁.controllers s₁.cells at₂ w), refl)

    does₃ : Does ch co s₂ (performed (Step 1) (Ok (Advanced (Answered Yes)))) s₃
    does₃ = (Ok (Answered Yes), steps (new_desk vehicle) s₂.controllers s₂.cells at₂ w asks₂ (Answered Yes) refl _ s₃ (refl, refl), refl)

    does₄ : Does ch co s₃ (collected 1 (Ok (collects.Yes (permits.held vehicle)))) s₄
    does₄ = collects_yes (new_desk vehicle) s₃.controllers s₃.cells (answers s₂.controllers _ Yes asks₂.is) refl

    fitting : (eqb vehicle vehicle && true) ≡ true
    fitting = and_from _ _ (eq-eqb vehicle vehicle refl) refl

    abbrev held : permits.HeldPermit
    held = permits.held vehicle

    abbrev ready_to_go : permits.LoadedPermit
    ready_to_go = permits.loaded vehicle

    does₅ : Does ch co s₄ (loaded held (Ok ready_to_go)) s₅
    does₅ = (subst (λ b. Moves b held ready_to_go Loaded s₄.desk (Ok ready_to_go) s₅.desk) (sym fitting) (refl, refl), refl)

    does₆ : Does ch co s₅ (dispatched ready_to_go (Ok tt)) s₆
    does₆ = (subst (λ b. Moves b ready_to_go tt Dispatched s₅.desk (Ok tt) s₆.desk) (sym fitting) (refl, refl), refl)

    abbrev after_call : History
    after_call = performed (Call 1) (Ok (Advanced (Opened at₁ w))) ∷ []

    abbrev in_all : History
    in_all =
        dispatched ready_to_go (Ok tt) ∷ loaded held (Ok ready_to_go) ∷ collected 1 (Ok (collects.Yes held))
        ∷ performed (Step 1) (Ok (Advanced (Answered Yes))) ∷ performed (Step 1) (Ok (Advanced (Opened at₂ w))) ∷ after_call

    called : Run ch co s₀ after_call s₁
    called = then start _ s₁ does₁

    went : Run ch co s₀ in_all s₆
    went = then (then (then (then (then called _ s₂ does₂) _ s₃ does₃) _ s₄ does₄) _ s₅ does₅) _ s₆ does₆

    nobody_crashed : (q : ℕ) → promise.Crashed in_all q → ⊥
    nobody_crashed q (inl (x, e)) = clash (cc)
    nobody_crashed q (inr (inl (x, e))) = clash (cc)
    nobody_crashed q (inr (inr (inl (x, e)))) = clash (cc)
    nobody_crashed q (inr (inr (inr (inl (x, e))))) = clash (cc)
    nobody_crashed q (inr (inr (inr (inr (inl (x, e)))))) = clash (cc)
    nobody_crashed q (inr (inr (inr (inr (inr (inl (x, e))))))) = clash (cc)
    nobody_crashed q (inr (inr (inr (inr (inr (inr o)))))) = o

    only_caller : (q : ℕ) → promise.Called in_all q → 1 ≡ q
    only_caller q (inl (x, e)) = absurd (clash (cc))
    only_caller q (inr (inl (x, e))) = absurd (clash (cc))
    only_caller q (inr (inr (inl (x, e)))) = absurd (clash (cc))
    only_caller q (inr (inr (inr (inl (x, e))))) = absurd (clash (cc))
    only_caller q (inr (inr (inr (inr (inl (x, e)))))) = absurd (clash (cc))
    only_caller q (inr (inr (inr (inr (inr (inl (x, e))))))) = cc
    only_caller q (inr (inr (inr (inr (inr (inr o)))))) = absurd o

    holds_yes : (q : ℕ) → 1 ≡ q → promise.Holds in_all q Yes
    holds_yes q e = inr (inr (inr (inl (ap (λ p. performed (Step p) (Ok (Advanced (Answered Yes)))) e))))

    no_answer_yet : (q : ℕ) (answer : Answer) → promise.Holds after_call q answer → ⊥
    no_answer_yet q answer (inl e) = clash (cc)
    no_answer_yet q answer (inr o) = o

    nobody_crashed_yet : (q : ℕ) → promise.Crashed after_call q → ⊥
    nobody_crashed_yet q o = nobody_crashed q (inr (inr (inr (inr (inr o)))))

    more_than_half : promise.MoreThanHalfUp after_call 1
    more_than_half = let o = one_has_one in (1, omega arith, omega arith, λ p _ _ o. nobody_crashed_yet p o)

    yes_and_permit : From s₀ (λ h t. promise.Holds h 1 Yes × (promise.permits_given h ≡ 1) × (t.desk.stage ≡ Dispatched))
    yes_and_permit = (in_all, s₆, went, (holds_yes 1 refl, refl, refl))

    all_answered : From s₀ (λ h t. AllAnswered h)
    all_answered = (in_all, s₆, went, ((1, inr (inr (inr (inr (inr (inl (_, refl))))))), nobody_crashed, λ q o. inl (holds_yes q (only_caller q o))))

    answer_is_due : From s₀ (λ h t. AnswerIsDue h t.n)
    answer_is_due = (after_call, s₁, called, (more_than_half, (1, inl (_, refl), nobody_crashed_yet 1, no_answer_yet 1)))

-- ---- the park just opened is such

uncalled_first : Is all_uncalled stages.Uncalled
uncalled_first =
    let e : record_of all_uncalled 1 ≡ uncalled = get_or-replicate 15 0 uncalled nobody (omega arith) in
    record {
      some = subst (λ n. 0 < n) (sym (length-replicate 15 uncalled)) (omega arith);
      wide = subst (λ n. 0 < n) (sym (ap (λ (c : Controller). length c.words) e ∙ length-replicate 15 blank)) (omega arith);
      up = ap (λ (c : Controller). c.up) e;
      stage = ap (λ (c : Controller). c.stage) e;
    }

empty_first : (n i : ℕ) (rest : List Cell) → i < n → get_or (replicate n Empty ++ rest) i Empty ≡ Empty
empty_first n i rest h =
    let l : length (replicate n Empty) ≡ n = length-replicate n Empty in
    get_or_append_left (replicate n Empty) rest Empty i (omega arith) ∙ get_or-replicate n i Empty Empty h

module _ {C K : Type 0} (ch : channel.Ghosts C) (co : coins.Ghosts K) where
  fresh_is_such : (Of : History → State C K → Type 0)
      → ((c : C) (k : K) (list : List Controller) (cells : List Cell) → Is list stages.Uncalled → ((i : ℕ) → i < 512 → get_or cells i Empty ≡ Empty)
      → From ch co c k (park ch co c k (new_desk 0) list cells) Of)
      → SomeRun ch co Of
  fresh_is_such Of run c k nothing =
      let first : State C K = park_of c k 1 0 in
      let r = run c k all_uncalled first.cells uncalled_first (λ i h. empty_first 1024 i (drop 1024 (replicate 1024 Empty)) (omega arith)) in
      (first, r.0, r.1, opened_over ch co c k 1 0 nothing (omega arith) (omega arith) (omega arith), r.2, r.3)

  pub a_run_with_a_yes_and_a_permit_exists_lem : ARunWithAYesAndAPermitExists ch co
  a_run_with_a_yes_and_a_permit_exists_lem = fresh_is_such _ (λ c k. yes_and_permit ch co c k 0)

  pub all_answered_can_be_met_lem : AllAnsweredCanBeMet ch co
  all_answered_can_be_met_lem = fresh_is_such _ (λ c k. all_answered ch co c k 0)

  pub never_stuck_can_be_met_lem : NeverStuckCanBeMet ch co
  never_stuck_can_be_met_lem = fresh_is_such _ (λ c k. answer_is_due ch co c k 0)
