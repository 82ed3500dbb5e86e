-- Every run from a fresh park keeps the promise.
use Rattle.std.proofs.Common.{◌≡◌, ℕ, ◌+◌, ◌≤◌, Bool, true, false, cond, ◌⊎◌, [], ◌∷◌, Some, Option, sym, refl, ap, ◌∙◌, subst, inl, inr}
use Rattle.channel.specs.declared.channel.Channel as channel
use Rattle.channel.specs.Meaning.{Gives, SameBag}
use Rattle.coins.specs.declared.Coins as coins
use Rattle.laws.proofs.Invariant.{Asks, Fit}
use Rattle.laws.proofs.Keeping.{Inv, act_keeps, answer_in, coin_opposed, fresh_keeps, one_yes, said_grows, somebody_wins}
use Rattle.laws.specs.Outlines as outlines
use Rattle.laws.specs.Outlines.{Stage, idle, asking, done}
use Rattle.laws.specs.Rules.{other}
use Rattle.terms.specs.declared.answer.Answer.{Answer}
use Rattle.terms.specs.declared.answer.Answer.TheVariants.{Yes, No}
use Rattle.terms.specs.declared.message.Mark.{Mark}
use Rattle.terms.specs.declared.message.Message.{Message}
use Rattle.terms.specs.declared.word.Place.{Place}
use Rattle.terms.specs.declared.word.Side.{Side}
use Rattle.terms.specs.declared.word.Side.TheVariants.{Zero, One}
use Rattle.terms.specs.Places.{between}
use Rattle.terms.specs.declared.word.Word.{Word}
use Rattle.park.specs.Controllers.{has_called, uncalled}
use Rattle.park.specs.declared.controller.Stage.{Stage as Real}
use Rattle.park.specs.declared.controller.Stage.TheVariants as stages
use Rattle.park.specs.States.{State, of}
use Rattle.promise.specs.Promise.{Called, Holds, OpenedPhase, OpenedRound, SaidGroup, Promise, EveryRunKeepsThePromise, KeepsThePromise, opposite}
use Rattle.promise.specs.Runs.{Event, History, Does, Run, start, then, Fresh}
use Rattle.promise.proofs.ActsInOutline.{HeardWell, change_act}
use Rattle.promise.proofs.Alive.{Alive, alive_fresh}
use Rattle.promise.proofs.AliveEvents.{change_alive}
use Rattle.promise.proofs.Changes.{Change, does_change}
use Rattle.promise.proofs.NeverStuck.{never_stuck}
use Rattle.promise.proofs.Outline.{Sized, small, outline, said_page, stage_in, stage_of, tables}
use Rattle.promise.proofs.PermitCount.{Counted, given_at, at_most_one, counted_keeps}
use Rattle.promise.proofs.RecordWrites.{done_is, stage_is}
use Rattle.promise.proofs.Recorded.{Recorded, recorded_keeps, recorded_none}
use Rattle.promise.proofs.RefusalsAndLimits.{Named, between_tells, clash}
use Rattle.promise.proofs.SaidPages.{said_opened, said_opened_by}
use Rattle.promise.proofs.Sizes.{Lasting, change_lasting, fresh_outline, fresh_record, same_tables, sized_fresh, sized_keeps}

opposite_is : (g : Side) → other g ≡ opposite g
opposite_is Zero = refl
opposite_is One = refl

-- ---- a stage in outline and in the record

answered : (u : Stage) (a : Answer) → answer_in u ≡ Some a → u ≡ done a
answered idle a e = absurd (clash (cc))
answered (asking k r x S) a e = absurd (clash (cc))
answered (done b) a e = cc

called_not_idle : (u : Real) (set : ℕ) → has_called u ≡ true → ¬ (stage_of u set ≡ idle)
called_not_idle stages.Uncalled set h e = clash (cc)
called_not_idle (stages.Asking at) set h e = clash (cc)
called_not_idle (stages.Answered a) set h e = clash (cc)

not_idle_called : (u : Real) (set : ℕ) → ¬ (stage_of u set ≡ idle) → has_called u ≡ true
not_idle_called stages.Uncalled set d = absurd (d refl)
not_idle_called (stages.Asking at) set d = refl
not_idle_called (stages.Answered a) set d = refl

not_idle_named : {C K : Type 0} (s : State C K) (p : ℕ) → ¬ (stage_in s.n s.controllers p ≡ idle) → Named s p
unfolding stage_in
not_idle_named s p d = go (between 1 s.n p) refl
  where
    go : (b : Bool) → between 1 s.n p ≡ b → Named s p
    go true e = between_tells 1 s.n p e
    go false e = absurd (d (ap (λ c. cond c (stage_of (of s p).stage (of s p).heard) idle) e))

module _ {C K : Type 0} (ch : channel.Ghosts C) (co : coins.Ghosts K)
    (gains : (c : C) (m : Message) (d : C) → ch.sends c m d → SameBag (m ∷ ch.bag c) (ch.bag d) × (ch.places d ≡ ch.places c))
    (gives : (c : C) (pick : ℕ) (got : Option (Message × Mark)) (d : C) → ch.fetches c pick got d → Gives ch.bag ch.places c got d) where
  abbrev Lawful : State C K → Type 0
  Lawful s = Inv (tables co s) s.n (outline ch s)

  -- what is known of a park with this history
  record Known (h : History) (s : State C K) : Type 0 where
    sized : Sized s
    alive : Alive ch co s
    lawful : Lawful s
    recorded : Recorded h s
    counted : Counted h s
    said : (p : ℕ) (at : Place) (w : Word) → OpenedPhase h p at w → said_page s p at.selector at.round at.phase ≡ Some w
    opened : (p k r x : ℕ) (w : Word) → said_page s p k r x ≡ Some w → OpenedPhase h p (record { selector = k; round = r; phase = x }) w

  heard_well : (s : State C K) → Lawful s → HeardWell ch s
  heard_well s I p k r x S e =
      let a : Asks (tables co s) s.n (outline ch s) p k r x S = subst (Fit (tables co s) s.n (outline ch s) p) e (I.fit p) in
      (a.small, a.itself)

  -- the outline's stage of a controller of the park
  stage_here : (s : State C K) (p : ℕ) → Named s p → (outline ch s).stage p ≡ stage_of (of s p).stage (of s p).heard
  stage_here s p n = stage_is s.n s.controllers p n.0 n.1

  answer_here : (s : State C K) (p : ℕ) (a : Answer) → Named s p → (of s p).stage ≡ stages.Answered a → answer_in ((outline ch s).stage p) ≡ Some a
  answer_here s p a n e = ap answer_in (stage_here s p n ∙ ap (λ u. stage_of u (of s p).heard) e)

  -- ---- the induction

  known_fresh : (s : State C K) → Fresh ch co s → Known [] s
  known_fresh s F = record {
    sized = sized_fresh ch co s F;
    alive = alive_fresh ch co s F;
    lawful = fresh_keeps (tables co s) s.n outlined;
    recorded = recorded_none s (λ p n. let e = new p n in (ap (λ c. c.up) e, ap (λ c. c.stage) e));
    counted = sym (ap (λ (z : State C K). given_at z.desk.stage) F.is);
    said = λ p at w o. absurd o;
    opened = λ p k r x w e. absurd (let z = sym (outlined.no_said p k r x) ∙ e in clash (cc));
  }
    where
      outlined : outlines.FreshOutline (outline ch s)
      outlined = fresh_outline ch co s F

      new : (p : ℕ) → Named s p → of s p ≡ uncalled
      new p n = ap (λ (z : State C K). of z p) F.is ∙ fresh_record ch co p n.0 (small s (sized_fresh ch co s F) p n.1)

  known_more : (s t : State C K) (e : Event) (h : History) → Known h s → Does ch co s e t → Known (e ∷ h) t
  known_more s t e h k d = record {
    sized = sized_keeps ch co s t e k.sized c;
    alive = change_alive ch co gains s t e k.sized k.alive c;
    lawful = subst (λ n. Inv (tables co t) n (outline ch t)) (sym lasts.n)
        (subst (λ c. Inv c s.n (outline ch t)) (sym (same_tables ch co s t e c)) (act_keeps (tables co s) s.n k.lawful act));
    recorded = recorded_keeps ch co s t e k.sized h k.recorded lasts.n c;
    counted = counted_keeps ch co s t e h k.counted lasts.desk d;
    said = λ p at w o. elim o [
      | inl a ↦ said_opened ch co s t e k.sized c p at w a
      | inr a ↦ said_grows (tables co s) s.n k.lawful act p at.selector at.round at.phase w (k.said p at w a)
    ];
    opened = λ p k' r x w f. elim (said_opened_by ch co s t e k.sized c p k' r x w f) [
      | inl a ↦ inr (k.opened p k' r x w a)
      | inr a ↦ inl a
    ];
  }
    where
      c : Change ch co s e t
      c = does_change ch co gives s t e d

      lasts : Lasting ch co s t e
      lasts = change_lasting ch co s t e c

      act : outlines.Act (tables co s) s.n (outline ch s) (outline ch t)
      act = change_act ch co gains s t e k.sized (heard_well s k.lawful) c

  known : {s t : State C K} {h : History} → Fresh ch co s → Run ch co s h t → Known h t
  known {s} F start = known_fresh s F
  known F (then {h} {t} run e u d) = known_more t u e h (known F run) d

  -- ---- the promise

  module _ (h : History) (s : State C K) (k : Known h s) where
    holds_answer : (p : ℕ) (a : Answer) → Holds h p a → answer_in ((outline ch s).stage p) ≡ Some a
    holds_answer p a o = let r = (k.recorded.holds p a).0 o in answer_here s p a r.0 r.1

    answer_holds : (p : ℕ) (a : Answer) → answer_in ((outline ch s).stage p) ≡ Some a → Named s p × ((of s p).stage ≡ stages.Answered a) × Holds h p a
    answer_holds p a e =
        let r = done_is s.n s.controllers p a (answered _ a e) in
        ((r.0, r.1), r.2, (k.recorded.holds p a).1 ((r.0, r.1), r.2))

    one : (p q : ℕ) → Holds h p Yes → Holds h q Yes → p ≡ q
    one p q a b = one_yes (tables co s) s.n (outline ch s) k.lawful p q (holds_answer p Yes a) (holds_answer q Yes b)

    all_answered : (p : ℕ) → Called h p → ((q : ℕ) → Called h q → Holds h q Yes ⊎ Holds h q No)
        → (q : ℕ) × Called h q × Holds h q Yes × ((r : ℕ) → Holds h r Yes → r ≡ q)
    all_answered p c all =
        let n = (k.recorded.called p).0 c in
        let w = somebody_wins (tables co s) s.n (outline ch s) k.lawful p
        (λ e. called_not_idle (of s p).stage (of s p).heard n.1 (sym (stage_here s p n.0) ∙ e))
        (λ q d. let m = not_idle_named s q d in
        let c' = not_idle_called (of s q).stage (of s q).heard (λ e. d (stage_here s q m ∙ e)) in
        elim (all q ((k.recorded.called q).1 (m, c'))) [ inl o ↦ inl (holds_answer q Yes o) | inr o ↦ inr (holds_answer q No o) ]) in
        let y = answer_holds w.0 Yes w.1 in
        (w.0, (k.recorded.called w.0).1 (y.0, ap has_called y.1), y.2, λ r o. one r w.0 o y.2)

    met_its_coin : (p k' r : ℕ) → 2 ≤ r → OpenedRound h p k' (r + 2) → (q : ℕ) × SaidGroup h q k' r 2 (opposite (co.common s.coins k' r))
    met_its_coin p k' r late o =
        let x = coin_opposed (tables co s) s.n (outline ch s) k.lawful p k' r o.0 late (k.said p _ o.0 o.1) in
        (x.0, (x.1, k.opened x.0 k' r 2 x.1 x.2, x.3 ∙ ap Some (opposite_is (co.common s.coins k' r))))

    kept : Promise ch co h s
    kept = record {
      at_most_one_yes = one;
      at_most_one_permit = at_most_one h s.desk.stage k.counted;
      one_yes_when_all_answered = λ p c uncrashed all. all_answered p c all;
      never_stuck = never_stuck ch co gives h s k.sized k.alive k.recorded;
      long_selector_met_its_coin = met_its_coin;
    }

  pub every_run_keeps_the_promise : EveryRunKeepsThePromise ch co
  every_run_keeps_the_promise s t h F run = kept h t (known F run)

  -- whatever led to the park before, an event keeps the promise
  pub event_keeps_the_promise : (t u : State C K) (e : Event) → Does ch co t e u → KeepsThePromise ch co t e u
  event_keeps_the_promise t u e does s h F run = every_run_keeps_the_promise s u (e ∷ h) F (then run e u does)
