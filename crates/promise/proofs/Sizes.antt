-- Every reachable park has its sizes, its number of controllers and its coins; a fresh one has an empty outline.
use Rattle.std.proofs.Common.{◌≡◌, ℕ, ◌+◌, ◌-◌, ◌*◌, ◌≤◌, Bool, true, false, eqb, ltb, List, [], ◌∷◌, ◌++◌, length, drop, replicate, None, Option, sym, refl, ap, ◌∙◌, subst, inl, inr, arith, length-append, length-set}
use lib.ListN.{length-replicate}
use Rattle.std.proofs.lemmas.List.{get_or_append_left, get_or-replicate}
use Rattle.std.proofs.lemmas.Bool.{cond_both, ltb-true, ltb-false, not-false}
use Rattle.channel.specs.declared.channel.Channel as channel
use Rattle.coins.specs.declared.Coins as coins
use Rattle.terms.specs.declared.answer.Progress.{Progress}
use Rattle.terms.specs.declared.answer.Progress.TheVariants as progress
use Rattle.terms.specs.declared.message.Message.{Message}
use Rattle.terms.specs.declared.refusal.Refusal.TheVariants.{Count, Memory, Places, Leftover}
use Rattle.terms.specs.declared.rules.Verdict.{Verdict}
use Rattle.terms.specs.declared.rules.Verdict.TheVariants.{Pair, GoOn}
use Rattle.terms.specs.declared.word.Cell.{Cell}
use Rattle.terms.specs.declared.word.Cell.TheVariants.{Empty, Holds}
use Rattle.terms.specs.declared.word.Place.{Place}
use Rattle.terms.specs.declared.word.Side.{Side}
use Rattle.terms.specs.declared.word.Word.{Word}
use Rattle.terms.specs.Heard.{blank, heard_groups, heard_names, majority_of}
use Rattle.terms.specs.Places.{between, within}
use Rattle.terms.specs.Rules.{next_of, verdict_of}
use Rattle.park.specs.declared.controller.Controller.{Controller}
use Rattle.park.specs.declared.controller.Stage.TheVariants.{Asking}
use Rattle.park.specs.Asks.{after_first, after_second, first_place, next_round, second_phase, goes_to, progress_after}
use Rattle.park.specs.Cells.{kept_at, said_at, kept_word, keeping}
use Rattle.park.specs.Controllers.{answered, hearing, nobody, record_of, uncalled, with_record}
use Rattle.park.specs.Opening.{all_uncalled, open_refusal}
use Rattle.park.specs.Placed.{placed}
use Rattle.park.specs.Refusals.{first, when}
use Rattle.park.specs.States.{State, of}
use Rattle.park.specs.Stays.{opened_within}
use Rattle.laws.specs.Outlines.{Stage, idle, FreshOutline}
use Rattle.promise.specs.Runs.{Event, Fresh}
use Rattle.promise.proofs.CellWrites.{inside_tells, spot_below}
use Rattle.promise.proofs.Changes.{Change, stays, advances, keeps, hears, same, drops, crashes, Whence, performs, stays_still}
use Rattle.promise.proofs.Outline.{place, spot, inside, page, word_in, stage_in, stage_of, outline, tables, tables_of, Fit, Sized, small}
use Rattle.promise.proofs.RecordWrites.{entry_set}
use Rattle.promise.proofs.RefusalsAndLimits.{Limits, Named, between_tells, first_none, limits, parts, when_none, within_from}

module _ {C K : Type 0} (ch : channel.Ghosts C) (co : coins.Ghosts K) where
  -- a phase is opened within the limits
  goes_within : (s : State C K) (p : ℕ) (at : Place) → Limits at → (v : Verdict) → opened_within (goes_to ch co s p at (next_of at.selector at.round v)) ≡ true
  goes_within s p at l (Pair (true, true)) = refl
  goes_within s p at l (Pair (true, false)) = cond_both (ltb at.selector 16) _ _ (λ x. opened_within (goes_to ch co s p at x) ≡ true)
      (λ e. let h = ltb-true at.selector 16 e in within_from (first_place (at.selector + 1)) (omega arith)) (λ e. refl)
  goes_within s p at l (Pair (false, second)) = refl
  goes_within s p at l (GoOn group) = cond_both (ltb at.round 16) _ _ (λ x. opened_within (goes_to ch co s p at x) ≡ true)
      (λ e. let h = ltb-true at.round 16 e in within_from (next_round at) (omega arith)) (λ e. refl)

  progress_within : (s : State C K) (p : ℕ) (groups : List (Option Side)) (names : List (Option ℕ)) (at : Place) → Limits at → opened_within (progress_after ch co s p groups names at) ≡ true
  progress_within s p groups names at l =
      cond_both (eqb at.phase 1) (after_first ch co s groups names at) (after_second ch co s p groups names at) (λ (g : Progress). opened_within g ≡ true)
      (λ e. within_from (second_phase at) (omega arith))
      (λ e. goes_within s p at l (verdict_of p (co.group s.coins p at.selector) at.round (co.common s.coins at.selector at.round) groups names))

  pub sized_within : (s : State C K) → Sized s → (p : ℕ) → 1 ≤ p → p ≤ s.n → (at : Place) → (of s p).stage ≡ Asking at → within at ≡ true
  sized_within s z p a b at e = sym (ap placed e) ∙ (z.fit p a (small s z p b)).in_limits

  pub whence_within : (s : State C K) → Sized s → (e : Event) (p : ℕ) → Named s p → (g : Progress) → Whence ch co s e p g → opened_within g ≡ true
  whence_within s z e p n g (inl h) = ap opened_within h.2 ∙ within_from (first_place 1) (omega arith)
  whence_within s z e p n g (inr h) =
      ap opened_within h.4 ∙ progress_within s p (heard_groups s.n (of s p).heard (of s p).words) (heard_names s.n (of s p).heard (of s p).words) h.0
      (limits h.0 (sized_within s z p n.0 n.1 h.0 h.2))

  -- what no event changes, but for the desk in acts on permits
  pub record Lasting (s t : State C K) (e : Event) : Type 0 where
    pub n : t.n ≡ s.n
    pub majority : t.majority ≡ s.majority
    pub coins : t.coins ≡ s.coins
    pub desk : performs e ≡ true → t.desk ≡ s.desk

  lasts_as : (s t u : State C K) (e : Event) → t ≡ u → Lasting s u e → Lasting s t e
  lasts_as s t u e h l = subst (λ v. Lasting s v e) (sym h) l

  pub change_lasting : (s t : State C K) (e : Event) → Change ch co s e t → Lasting s t e
  change_lasting s t e (stays (same q desk k h)) = lasts_as s t _ e h (record { n = refl; majority = refl; coins = refl; desk = k })
  change_lasting s t e (stays (drops q m rest f why h)) = lasts_as s t _ e h (record { n = refl; majority = refl; coins = refl; desk = λ _. refl })
  change_lasting s t e (stays (crashes p q n h)) = lasts_as s t _ e h (record { n = refl; majority = refl; coins = refl; desk = λ _. refl })
  change_lasting s t e (advances p (progress.Opened at w) n why h) = lasts_as s t _ e h.state (record { n = refl; majority = refl; coins = refl; desk = λ _. refl })
  change_lasting s t e (advances p (progress.Answered answer) n why h) = lasts_as s t _ e h (record { n = refl; majority = refl; coins = refl; desk = λ _. refl })
  change_lasting s t e (keeps q m rest f ok k h sent) = lasts_as s t _ e h (record { n = refl; majority = refl; coins = refl; desk = λ _. refl })
  change_lasting s t e (hears q m rest at f ok k st c h) = lasts_as s t _ e h (record { n = refl; majority = refl; coins = refl; desk = λ _. refl })

  -- the records and cells keep their sizes
  pub record Roomy (s t : State C K) : Type 0 where
    pub count : length t.controllers ≡ length s.controllers
    pub fit : (p : ℕ) → 1 ≤ p → p ≤ 15 → Fit (of t p)
    pub room : length t.cells ≡ length s.cells

  roomy_as : (s t u : State C K) → t ≡ u → Roomy s u → Roomy s t
  roomy_as s t u e h = subst (Roomy s) (sym e) h

  module _ (s : State C K) (z : Sized s) (p : ℕ) (n : Named s p) where
    own_words : length (of s p).words ≡ 15
    own_words = (z.fit p n.0 (small s z p n.1)).words

    written : (c : Controller) → Fit c → (q : ℕ) → 1 ≤ q → q ≤ 15 → Fit (record_of (with_record s.controllers p c) q)
    written c f q i j = entry_set Fit s.controllers (p - 1) (q - 1) c nobody (z.fit q i j) f

  change_roomy : (s t : State C K) (e : Event) → Sized s → Change ch co s e t → Roomy s t
  change_roomy s t e z (stays x) = let h = stays_still ch co s t e x in record {
    count = h.count;
    fit = λ p a b. let f = z.fit p a b in record { in_limits = ap placed (h.stages p) ∙ f.in_limits; words = ap length (h.words p) ∙ f.words };
    room = ap length h.cells;
  }
  change_roomy s t e z (advances p (progress.Opened at w) n why h) = roomy_as s t _ h.state (record {
    count = length-set _ _ _;
    fit = written s z p n _ (record { in_limits = whence_within s z e p n (progress.Opened at w) why; words = length-set _ _ _ ∙ own_words s z p n });
    room = length-set (keeping s.cells p at w) (said_at p at) (Holds w) ∙ length-set s.cells (kept_at p at) (Holds (kept_word s.cells p at w));
  })
  change_roomy s t e z (advances p (progress.Answered answer) n why h) = roomy_as s t _ h (record {
    count = length-set _ _ _;
    fit = written s z p n (answered (of s p) answer) (record { in_limits = refl; words = own_words s z p n });
    room = refl;
  })
  change_roomy s t e z (keeps q m rest f ok k h sent) = roomy_as s t _ h (record { count = refl; fit = z.fit; room = length-set _ _ _ })
  change_roomy s t e z (hears q m rest at g ok k st c h) =
      let i = parts s.n m ok in
      let n : Named s m.receiver = (i.receiver_low, i.receiver_high) in
      roomy_as s t _ h (record {
        count = length-set _ _ _;
        fit = written s z m.receiver n (hearing (of s m.receiver) m)
            (record { in_limits = (z.fit m.receiver n.0 (small s z m.receiver n.1)).in_limits; words = length-set _ _ _ ∙ own_words s z m.receiver n });
        room = refl;
      })

  pub same_tables : (s t : State C K) (e : Event) → Change ch co s e t → tables co t ≡ tables co s
  same_tables s t e c = ap (tables_of co) (change_lasting s t e c).coins

  pub sized_keeps : (s t : State C K) (e : Event) → Sized s → Change ch co s e t → Sized t
  sized_keeps s t e z c =
      let l = change_lasting s t e c in
      let r = change_roomy s t e z c in
      let n = l.n in
      let i = z.at_least in
      let j = z.at_most in
      let k = z.room in
      let m = r.room in
      record {
        at_least = omega arith;
        at_most = omega arith;
        majority = l.majority ∙ z.majority ∙ ap majority_of (sym l.n);
        count = r.count ∙ z.count;
        fit = r.fit;
        room = omega arith;
      }

  no_mail : (xs : List Message) → length xs ≤ 0 → xs ≡ []
  no_mail [] h = refl
  no_mail (x ∷ xs) h = absurd (omega arith)

  -- what an accepted opening was given
  pub record Accepted (n : ℕ) (cells : List Cell) (c : C) : Type 0 where
    pub low : 1 ≤ n
    pub high : n ≤ 15
    pub room : 1024 * n ≤ length cells
    pub places : n - 1 ≤ ch.places c
    pub nothing : ch.bag c ≡ []

  pub accepted : (n : ℕ) (cells : List Cell) (c : C) → open_refusal ch n (length cells) c ≡ None → Accepted n cells c
  accepted n cells c e =
      let f = first_none _ (first (when (ltb (length cells) (1024 * n)) Memory) (first (when (ltb (ch.places c) (n - 1)) Places) (when (ltb 0 (length (ch.bag c))) Leftover))) e in
      let g = first_none _ (first (when (ltb (ch.places c) (n - 1)) Places) (when (ltb 0 (length (ch.bag c))) Leftover)) f.1 in
      let h = first_none _ (when (ltb 0 (length (ch.bag c))) Leftover) g.1 in
      let i = between_tells 1 15 n (not-false _ (when_none _ Count f.0)) in
      record {
        low = i.0;
        high = i.1;
        room = ltb-false _ _ (when_none _ Memory g.0);
        places = ltb-false _ _ (when_none _ Places h.0);
        nothing = no_mail _ (ltb-false _ _ (when_none _ Leftover h.1));
      }

  pub fresh_record : (p : ℕ) → 1 ≤ p → p ≤ 15 → record_of all_uncalled p ≡ uncalled
  fresh_record p a b = get_or-replicate 15 (p - 1) uncalled nobody (omega arith)

  pub sized_fresh : (s : State C K) → Fresh ch co s → Sized s
  sized_fresh s f =
      let a = accepted f.n f.cells f.channel f.accepted in
      let l = length-append (replicate (1024 * f.n) Empty) (drop (1024 * f.n) f.cells) in
      let m : length (replicate (1024 * f.n) Empty) ≡ 1024 * f.n = length-replicate _ _ in
      subst Sized (sym f.is) (record {
        at_least = a.low;
        at_most = a.high;
        majority = refl;
        count = length-replicate 15 uncalled;
        fit = λ p i j. subst Fit (sym (fresh_record p i j)) (record { in_limits = refl; words = length-replicate 15 blank });
        room = omega arith;
      })

  fresh_page : (b : Bool) (n : ℕ) (cells : List Cell) (p k r x : ℕ) → page b n (replicate (1024 * n) Empty ++ drop (1024 * n) cells) p k r x ≡ None
  unfolding page
  fresh_page b n cells p k r x =
      let empty : List Cell = replicate (1024 * n) Empty in
      cond_both (inside n p (place k r x)) _ _ (λ (o : Option Word). o ≡ None)
      (λ e.
      let i = spot_below n b p (place k r x) (inside_tells n p (place k r x) e) in
      let l : length empty ≡ 1024 * n = length-replicate _ _ in
      ap word_in (get_or_append_left empty (drop (1024 * n) cells) Empty (spot b p (place k r x)) (omega arith) ∙ get_or-replicate (1024 * n) (spot b p (place k r x)) Empty Empty i))
      (λ e. refl)

  fresh_stage : (n p : ℕ) → n ≤ 15 → stage_in n all_uncalled p ≡ idle
  unfolding stage_in
  fresh_stage n p few = cond_both (between 1 n p) _ _ (λ (u : Stage). u ≡ idle)
      (λ e. let i = between_tells 1 n p e in ap (λ (c : Controller). stage_of c.stage c.heard) (fresh_record p i.0 (omega arith))) (λ e. refl)

  pub fresh_outline : (s : State C K) → Fresh ch co s → FreshOutline (outline ch s)
  fresh_outline s f =
      let a = accepted f.n f.cells f.channel f.accepted in
      subst (λ u. FreshOutline (outline ch u)) (sym f.is) (record {
        stages = λ p. fresh_stage f.n p a.high;
        no_kept = fresh_page false f.n f.cells;
        no_said = fresh_page true f.n f.cells;
        no_mail = a.nothing;
      })
