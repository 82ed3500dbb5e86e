-- A call or a step leaves a park alive: the phase that it opens asks every other controller.
use Rattle.std.proofs.Common.{◌≡◌, ℕ, zero, suc, ◌-◌, ◌≤◌, true, false, cond, eqb, ltb, List, [], ◌∷◌, ◌++◌, get_or, None, Option, sym, refl, ◌∙◌, subst, inl, inr, ⊎_elim, arith}
use Rattle.std.specs.List.{ContainsAt as Has, AllByRecursion as All}
use Rattle.std.proofs.ByRecursion.{All-append, All-set, has_append_left, has_push, has_shuffled}
use Rattle.std.proofs.lemmas.Bool.{cases_eq, cond_both, eqb-false, ne_eqb}
use Rattle.channel.specs.declared.channel.Channel as channel
use Rattle.channel.specs.Meaning.{SameBag}
use Rattle.channel.specs.Sends.{SentAll}
use Rattle.channel.proofs.Sends.{sent_count, sent_keeps}
use Rattle.coins.specs.declared.Coins as coins
use Rattle.terms.specs.declared.answer.Answer.TheVariants.{Undecided}
use Rattle.terms.specs.declared.answer.Progress.{Progress}
use Rattle.terms.specs.declared.answer.Progress.TheVariants as progress
use Rattle.terms.specs.declared.message.Message.{Message}
use Rattle.terms.specs.declared.rules.Next.TheVariants as next
use Rattle.terms.specs.declared.rules.Verdict.{Verdict}
use Rattle.terms.specs.declared.rules.Verdict.TheVariants.{Pair, GoOn}
use Rattle.terms.specs.declared.word.Cell.TheVariants.{Empty, Holds}
use Rattle.terms.specs.declared.word.Place.{Place}
use Rattle.terms.specs.declared.word.Word.{Word}
use Rattle.terms.specs.Heard.{blank, has_bit, heard_groups, heard_names}
use Rattle.terms.specs.Places.{name_fits, within}
use Rattle.terms.specs.Readings.{alike, every, reading_of}
use Rattle.terms.specs.Rules.{next_of, verdict_of}
use Rattle.park.specs.declared.controller.Controller.{Controller}
use Rattle.park.specs.Asks.{after_first, after_second, goes_to, opened, phase_to, phases}
use Rattle.park.specs.Cells.{keeping, kept_word, said_at, saying}
use Rattle.park.specs.Controllers.{answered, asking, with_record}
use Rattle.park.specs.States.{State, of}
use Rattle.promise.specs.Runs.{Event}
use Rattle.promise.proofs.Alive.{Fits, CellFits, Formed, Alive}
use Rattle.promise.proofs.AliveWrites.{StillWaits, asks_more, down_same, has_cons, has_more, keeping_fits, kept_fits, live_with}
use Rattle.promise.proofs.Changes.{Whence, Went}
use Rattle.promise.proofs.HeardSets.{heard_itself}
use Rattle.promise.proofs.Outline.{Sized, listed, small}
use Rattle.promise.proofs.RecordWrites.{entry_set}
use Rattle.promise.proofs.RefusalsAndLimits.{Named, between_from, well_formed_from}
use Rattle.promise.proofs.Sizes.{whence_within}

-- ---- the PHASEs of a phase

phases_formed : (n p k : ℕ) (at : Place) (w : Word) → 1 ≤ p → p ≤ n → k ≤ n → within at ≡ true → Fits n w → All (Formed n) (phases k p at w)
phases_formed n p zero at w low high h inside fits = tt
phases_formed n p (suc k) at w low high h inside fits =
    let rest : All (Formed n) (phases k p at w) = phases_formed n p k at w low high (omega arith) inside fits in
    cond_both (eqb (suc k) p) (phases k p at w) (phases k p at w ++ phase_to p (suc k) at w ∷ []) (All (Formed n)) (λ e. rest)
    (λ e.
    let one : Formed n (phase_to p (suc k) at w) = well_formed_from n (phase_to p (suc k) at w) (record {
      sender_low = low;
      sender_high = high;
      receiver_low = omega arith;
      receiver_high = h;
      apart = eqb-false (suc k) p e;
      place = inside;
      word = fits;
    }) in
    All-append (Formed n) (phases k p at w) (phase_to p (suc k) at w ∷ []) rest (one, tt))

phases_has : (p k : ℕ) (at : Place) (w : Word) (q : ℕ) → 1 ≤ q → q ≤ k → (q ≡ p → ⊥) → Has (phases k p at w) (phase_to p q at w)
phases_has p zero at w q low high other = absurd (omega arith)
phases_has p (suc k) at w q low high other =
    ⊎_elim
    (λ (e : q ≡ suc k).
    let t : eqb (suc k) p ≡ false = ne_eqb (suc k) p (λ f. other (e ∙ f)) in
    subst (λ b. Has (cond b (phases k p at w) (phases k p at w ++ phase_to p (suc k) at w ∷ [])) (phase_to p q at w)) (sym t)
    (subst (λ x. Has (phases k p at w ++ phase_to p (suc k) at w ∷ []) (phase_to p x at w)) (sym e) (has_push (phases k p at w) (phase_to p (suc k) at w))))
    (λ (o : q ≡ suc k → ⊥).
    let h : Has (phases k p at w) (phase_to p q at w) = phases_has p k at w q low (omega arith) other in
    cond_both (eqb (suc k) p) (phases k p at w) (phases k p at w ++ phase_to p (suc k) at w ∷ []) (λ ms. Has ms (phase_to p q at w)) (λ e. h)
    (λ e. has_append_left (phases k p at w) (phase_to p (suc k) at w ∷ []) (phase_to p q at w) h))
    (cases_eq q (suc k))

module _ {C : Type 0} (sends : C → Message → C → Type 0) (bag : C → List Message) (places : C → ℕ)
    (gains : (c : C) (m : Message) (d : C) → sends c m d → SameBag (m ∷ bag c) (bag d) × (places d ≡ places c)) where
  sent_waits : (ms : List Message) (c d : C) → SentAll sends c ms d → StillWaits (bag c) (bag d)
  sent_waits [] c d q x h = subst (λ y. Has (bag y) x) (sym q) h
  sent_waits (m ∷ ms) c d q x h =
      sent_waits ms q.0 d q.2 x (has_shuffled (m ∷ bag c) (bag q.0) x (gains c m q.0 q.1).0 (has_more m (bag c) x h))

  sent_new : (ms : List Message) (c d : C) → SentAll sends c ms d → (x : Message) → Has ms x → Has (bag d) x
  sent_new [] c d q x h = absurd (let l = h.1 in omega arith)
  sent_new (m ∷ ms) c d q x h =
      ⊎_elim
      (λ (e : m ≡ x). sent_waits ms q.0 d q.2 x
      (has_shuffled (m ∷ bag c) (bag q.0) x (gains c m q.0 q.1).0 (subst (Has (m ∷ bag c)) e (0, omega arith, λ y. refl))))
      (λ (w : Has ms x). sent_new ms q.0 d q.2 x w)
      (has_cons m x ms h)

-- ---- the word of a phase that is opened has a name that fits

abbrev Fair : ℕ → Progress → Type 0
Fair n (progress.Opened at w) = Fits n w
Fair n (progress.Answered answer) = Unit {0}

all_entry : {X : Type 0} (P : X → Type 0) (xs : List X) (i : ℕ) (d : X) → All P xs → P d → P (get_or xs i d)
all_entry P [] i d a b = b
all_entry P (x ∷ xs) zero d a b = a.0
all_entry P (x ∷ xs) (suc i) d a b = all_entry P xs i d a.1 b

abbrev NameFits : ℕ → Option ℕ → Type 0
NameFits n name = name_fits n name ≡ true

names_fit : (n k set : ℕ) (words : List Word) → All (Fits n) words → All (NameFits n) (heard_names k set words)
names_fit n zero set words a = tt
names_fit n (suc k) set words a =
    let rest = names_fit n k set words a in
    let names : List (Option ℕ) = heard_names k set words in
    let name : Option ℕ = (get_or words k blank).name in
    cond_both (has_bit set k) (names ++ name ∷ []) names (All (NameFits n)) (λ e. All-append (NameFits n) names (name ∷ []) rest (all_entry (Fits n) words k blank a refl, tt)) (λ e. rest)

reading_fits : (n : ℕ) (names : List (Option ℕ)) → All (NameFits n) names → NameFits n (reading_of eqb names)
reading_fits n [] a = refl
reading_fits n (x ∷ xs) a = cond_both (every (alike eqb x) xs) x None (NameFits n) (λ e. a.0) (λ e. refl)

module _ {C K : Type 0} (ch : channel.Ghosts C) (co : coins.Ghosts K)
    (gains : (c : C) (m : Message) (d : C) → ch.sends c m d → SameBag (m ∷ ch.bag c) (ch.bag d) × (ch.places d ≡ ch.places c))
    (s : State C K) (z : Sized s) (a : Alive ch co s) (p : ℕ) (n : Named s p) where
  goes_fair : (at : Place) (v : Verdict) → Fair s.n (goes_to ch co s p at (next_of at.selector at.round v))
  goes_fair at (Pair (true, true)) = tt
  goes_fair at (Pair (true, false)) =
      cond_both (ltb at.selector 16) next.Selector (next.Answer Undecided) (λ x. Fair s.n (goes_to ch co s p at x)) (λ e. between_from 1 s.n p n.0 n.1) (λ e. tt)
  goes_fair at (Pair (false, second)) = tt
  goes_fair at (GoOn group) = cond_both (ltb at.round 16) (next.Round group) (next.Answer Undecided) (λ x. Fair s.n (goes_to ch co s p at x)) (λ e. refl) (λ e. tt)

  fair : (e : Event) (g : Progress) → Whence ch co s e p g → Fair s.n g
  fair e g (inl why) = subst (Fair s.n) (sym why.2) (between_from 1 s.n p n.0 n.1)
  fair e g (inr why) =
      let at = why.0 in
      let groups = heard_groups s.n (of s p).heard (of s p).words in
      let names = heard_names s.n (of s p).heard (of s p).words in
      subst (Fair s.n) (sym why.4)
      (cond_both (eqb at.phase 1) (after_first ch co s groups names at) (after_second ch co s p groups names at) (Fair s.n)
      (λ e. reading_fits s.n names (names_fit s.n s.n (of s p).heard (of s p).words (a.words p)))
      (λ e. goes_fair at (verdict_of p (co.group s.coins p at.selector) at.round (co.common s.coins at.selector at.round) groups names)))

  -- ---- p opens a phase, or has its answer

  opens_alive : (at : Place) (w : Word) (c : C) → within at ≡ true → Fits s.n w → SentAll ch.sends s.channel (phases s.n p at w) c → Alive ch co (opened ch co s p at w c)
  opens_alive at w c inside fits sent =
      let ms : List Message = phases s.n p at w in
      let before : List Message = ch.bag s.channel in
      let new : Controller = asking (of s p) p at (kept_word s.cells p at w) in
      let waits : StillWaits before (ch.bag c) = sent_waits ch.sends ch.bag ch.places gains ms s.channel c sent in
      live_with s.n s.majority s.controllers s.cells (saying s.cells p at w) before (ch.bag c) (ch.places s.channel) (ch.places c) p new a
      (sent_count ch.sends ch.bag ch.places gains ms s.channel c sent).1 n.0 (listed s z p n.1)
      (sent_keeps ch.sends ch.bag ch.places gains (Formed s.n) ms s.channel c (phases_formed s.n p s.n at w n.0 n.1 (omega arith) inside fits) a.formed sent)
      (λ i h. entry_set (CellFits s.n) (keeping s.cells p at w) (said_at p at) i (Holds w) Empty (keeping_fits s.n s.cells a.kept p at w n.0 n.1 inside fits i h) fits)
      (All-set (Fits s.n) (of s p).words (p - 1) (kept_word s.cells p at w) (kept_fits s.n s.cells a.kept p at w n.0 n.1 inside fits) (a.words p))
      (λ q l u o. asks_more s.n s.majority before (ch.bag c) s.controllers (with_record s.controllers p new) q (of s q) waits (down_same s.controllers p new refl) (a.asks q l u)) (
        heard_itself p n.0 (small s z p n.1),
        λ up less q l u o. inr (inr (inl (
          phase_to p q at w,
          sent_new ch.sends ch.bag ch.places gains ms s.channel c sent (phase_to p q at w) (phases_has p s.n at w q l u o),
          (refl, refl, refl, refl),
        ))),
      )

  pub alive_advances : (e : Event) (g : Progress) (t : State C K) → Whence ch co s e p g → Went ch co s p g t → Alive ch co t
  alive_advances e (progress.Opened at w) t why h =
      subst (Alive ch co) (sym h.state) (opens_alive at w t.channel (whence_within ch co s z e p n (progress.Opened at w) why) (fair e (progress.Opened at w) why) h.sent)
  alive_advances e (progress.Answered answer) t why h =
      let bag : List Message = ch.bag s.channel in
      let c : Controller = answered (of s p) answer in
      subst (Alive ch co) (sym h)
      (live_with s.n s.majority s.controllers s.cells s.cells bag bag (ch.places s.channel) (ch.places s.channel) p c a refl n.0 (listed s z p n.1) a.formed a.kept (a.words p)
      (λ q l u o. asks_more s.n s.majority bag bag s.controllers (with_record s.controllers p c) q (of s q) (λ m h. h) (down_same s.controllers p c refl) (a.asks q l u)) tt)
