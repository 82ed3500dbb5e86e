-- Every event on a park is an act on its outline.
use Rattle.std.proofs.Common.{◌≡◌, ℕ, ◌+◌, ◌-◌, ◌/◌, ◌^◌, ◌<◌, ◌≤◌, Bool, true, false, cond, eqb, ltb, ◌⊎◌, List, ◌∷◌, length, get_or, Option, sym, refl, ap, ◌∙◌, subst, ap₂, inl, inr, arith}
use lib.Bits.{bit_or}
use lib.Count.{ones}
use Rattle.std.specs.List.{ContainsAt as Has, AllByRecursion as All}
use Rattle.std.proofs.ByRecursion.{all-has, all_has_itself, all_shuffled}
use Rattle.std.proofs.lemmas.List.{get_or-set_same, get_or-set_other}
use Rattle.std.proofs.lemmas.Bool.{and_parts, eqb-true, eqb-false, leb-true, ltb-true, ltb-false}
use Rattle.channel.specs.declared.channel.Channel as channel
use Rattle.channel.specs.Meaning.{SameBag}
use Rattle.channel.specs.Sends.{SentAll}
use Rattle.channel.proofs.Sends.{sent_keeps}
use Rattle.coins.specs.declared.Coins as coins
use Rattle.terms.specs.declared.answer.Answer.{Answer}
use Rattle.terms.specs.declared.answer.Answer.TheVariants.{Yes, No, Undecided}
use Rattle.terms.specs.declared.answer.Progress.{Progress}
use Rattle.terms.specs.declared.message.Kind.TheVariants.{Phase, Echo}
use Rattle.terms.specs.declared.message.Message.{Message}
use Rattle.terms.specs.declared.rules.Next.TheVariants as next
use Rattle.terms.specs.declared.rules.Verdict.{Verdict}
use Rattle.terms.specs.declared.rules.Verdict.TheVariants.{Pair, GoOn}
use Rattle.terms.specs.declared.word.Place.{Place}
use Rattle.terms.specs.declared.word.Side.{Side}
use Rattle.terms.specs.declared.word.Word.{Word}
use Rattle.terms.specs.Heard.{blank, heard_groups, heard_names, with_heard}
use Rattle.terms.specs.Places.{same_place, within, well_formed}
use Rattle.terms.specs.Rules.{next_of, second_word, verdict_of}
use Rattle.park.specs.declared.controller.Stage.TheVariants.{Asking}
use Rattle.park.specs.Asks.{after_first, after_second, first_place, goes_to, next_round, opened, own_word, nameless, phases, second_phase}
use Rattle.park.specs.Asks as asks
use Rattle.park.specs.Cells.{kept_word}
use Rattle.park.specs.Controllers.{answered, asking, hearing}
use Rattle.park.specs.Messages.{echo_of, kept}
use Rattle.park.specs.States.{State, of, with_channel, with_controller}
use Rattle.laws.proofs.Computed.{outcome_of, verdict_after, words_read}
use Rattle.laws.specs.Outlines.{Act, call, step_first, step_second, deliver_phase, deliver_echo, nothing, Answers, Opens, Goes, Letter}
use Rattle.laws.specs.Outlines as outlines
use Rattle.laws.specs.Rules.{After, turned_away, won, named_self, agreed, differed, leaned, kept_own, tossed, In, Outcome, yes_no, on, Reading, common, blank_heard, apart}
use Rattle.promise.specs.Runs.{Event}
use Rattle.promise.proofs.CellWrites.{inside_from, keep_keeps, keep_said, say_says, say_keeps}
use Rattle.promise.proofs.Changes.{Change, stays, advances, keeps, hears, Still, Whence, Went, stays_still, waited}
use Rattle.promise.proofs.HeardSets.{alone_is}
use Rattle.promise.proofs.Mail.{all_from, all_phases}
use Rattle.promise.proofs.Outline.{place, page, stage_of, stage_in, word_from, outline, tables, Sized, listed, small}
use Rattle.promise.proofs.RecordWrites.{stage_is, stage_like, word_is, word_like, moved_here, moved_stages, moved_others, moved_word, moved_words}
use Rattle.promise.proofs.RefusalsAndLimits.{Limits, limits, parts, within_from}
use Rattle.promise.proofs.Sizes.{sized_within}

-- the rules read only words of whoever was heard
reading_like : {A : Type 0} (H : ℕ → Type 0) (f g : ℕ → Option A) (o : Option A) → ((q : ℕ) → H q → g q ≡ f q) → Reading H f o → Reading H g o
reading_like H f g o e (common a h) = common a (λ q i. e q i ∙ h q i)
reading_like H f g o e (blank_heard q i h) = blank_heard q i (e q i ∙ h)
reading_like H f g o e (apart q q' i j h) = apart q q' i j (λ z. h (sym (e q i) ∙ z ∙ e q' j))

module _ (p : ℕ) (own : Side) (r : ℕ) (coin : Side) (H : ℕ → Type 0) (V W : ℕ → Word) (e : (q : ℕ) → H q → W q ≡ V q) where
  names : (q : ℕ) → H q → (W q).name ≡ (V q).name
  names q i = ap (λ (w : Word). w.name) (e q i)

  groups : (q : ℕ) → H q → (W q).group ≡ (V q).group
  groups q i = ap (λ (w : Word). w.group) (e q i)

  after_like : (o : Outcome) → After p own r coin H V o → After p own r coin H W o
  after_like o (turned_away m q i h d) = turned_away m q i (names q i ∙ h) d
  after_like o (won h) = won (λ q i. names q i ∙ h q i)
  after_like o (named_self q i h) = named_self q i (names q i ∙ h)
  after_like o (agreed h g) = agreed (λ q i. names q i ∙ h q i) (λ q i. groups q i ∙ g q i)
  after_like o (differed g h f d) = differed g (λ q i. names q i ∙ h q i) (λ q i. groups q i ∙ f q i) d
  after_like o (leaned h q q' n i f j d) = leaned h q q' (λ v i. names v i ∙ n v i) i (groups q i ∙ f) j (λ z. d (sym (groups q' j) ∙ z))
  after_like o (kept_own h g one) = kept_own (λ q i. names q i ∙ h q i) (λ q i. groups q i ∙ g q i) one
  after_like o (tossed h g d) = tossed (λ q i. names q i ∙ h q i) (λ q i. groups q i ∙ g q i) d

same_at : (a b : Place) → same_place a b ≡ true → a ≡ b
same_at a b e =
    let h = and_parts _ _ e in
    let i = and_parts _ _ h.1 in
    ap (λ k. place k a.round a.phase) (eqb-true a.selector b.selector h.0)
    ∙ ap (λ r. place b.selector r a.phase) (eqb-true a.round b.round i.0)
    ∙ ap (place b.selector b.round) (eqb-true a.phase b.phase i.1)

-- whoever asks has heard itself, and only controllers of the park
abbrev pub HeardWell : {C K : Type 0} → channel.Ghosts C → State C K → Type 0
HeardWell ch s = (p k r x S : ℕ) → (outline ch s).stage p ≡ outlines.asking k r x S → (S < 2 ^ s.n) × In p S

module _ {C K : Type 0} (ch : channel.Ghosts C) (co : coins.Ghosts K)
    (gains : (c : C) (m : Message) (d : C) → ch.sends c m d → SameBag (m ∷ ch.bag c) (ch.bag d) × (ch.places d ≡ ch.places c)) where
  module _ (s : State C K) (z : Sized s) (p : ℕ) (a : 1 ≤ p) (b : p ≤ s.n) where
    long : s.n ≤ length s.controllers
    long = listed s z s.n (omega arith)

    few : p ≤ 15
    few = small s z p b

    stage_now : stage_in s.n s.controllers p ≡ stage_of (of s p).stage (of s p).heard
    stage_now = stage_is s.n s.controllers p a b

    -- p opens a phase
    opened_outline : (at : Place) (w : Word) → within at ≡ true → (c : C) → SentAll ch.sends s.channel (phases s.n p at w) c
        → Opens (outline ch s) (outline ch (opened ch co s p at w c)) p at.selector at.round at.phase w
    opened_outline at w i c sent =
        let own = kept_word s.cells p at w in
        let new = asking (of s p) p at own in
        let inner = inside_from s.n p at a b i in
        let l = (z.fit p a few).words in
        let P : Message → Type 0 = λ m. Has (ch.bag s.channel) m ⊎ Letter Phase p at.selector at.round at.phase w m in
        record {
          own = own;
          says = say_says s.n s.cells p at w z.room inner;
          keeps = say_keeps s.n s.cells p at w z.room inner;
          moves = record {
            here = moved_here s.controllers p new a s.n b long ∙ ap (outlines.asking at.selector at.round at.phase) (alone_is p a few);
            stages = moved_stages s.controllers p new a s.n b long;
            others = moved_others s.controllers p new a s.n b long;
          };
          heard = moved_word s.controllers p new a s.n b long p a ∙ get_or-set_same (of s p).words (p - 1) own blank (let m = few in omega arith);
          sends = λ m has. all-has P (ch.bag c) m
              (sent_keeps ch.sends ch.bag ch.places gains P (phases s.n p at w) s.channel c
              (all_from _ P _ (λ x h. inr h) (all_phases p at w s.n)) (all_from _ P _ (λ x h. inl h) (all_has_itself _)) sent) has;
        }

    opens_outline : (at : Place) (w : Word) (t : State C K) → within at ≡ true → asks.Opens ch co s p at w t
        → Opens (outline ch s) (outline ch t) p at.selector at.round at.phase w
    opens_outline at w t i h =
        subst (λ (u : State C K). Opens (outline ch s) (outline ch u) p at.selector at.round at.phase w) (sym h.state) (opened_outline at w i t.channel h.sent)

    -- p has its answer
    answered_outline : (answer : Answer) (t : State C K) → t ≡ with_controller s p (answered (of s p) answer) → Answers (outline ch s) (outline ch t) p answer
    answered_outline answer t e = subst (λ (u : State C K). Answers (outline ch s) (outline ch u) p answer) (sym e) (record {
      same_kept = λ p k r x. refl;
      same_said = λ p k r x. refl;
      moves = record {
        here = moved_here s.controllers p (answered (of s p) answer) a s.n b long;
        stages = moved_stages s.controllers p (answered (of s p) answer) a s.n b long;
        others = moved_others s.controllers p (answered (of s p) answer) a s.n b long;
      };
      sends = λ m h. h;
    })

    goes_outline : (at : Place) (t : State C K) → Limits at → (v : Verdict) → Went ch co s p (goes_to ch co s p at (next_of at.selector at.round v)) t
        → Goes (tables co s) (outline ch s) (outline ch t) p at.selector at.round (outcome_of v)
    goes_outline at t l (Pair (true, true)) h = answered_outline Yes t h
    goes_outline at t l (Pair (false, second)) h = answered_outline No t h
    goes_outline at t l (Pair (true, false)) h = go (ltb at.selector 16) refl h
      where
        go : (d : Bool) → ltb at.selector 16 ≡ d → Went ch co s p (goes_to ch co s p at (cond d next.Selector (next.Answer Undecided))) t
            → Goes (tables co s) (outline ch s) (outline ch t) p at.selector at.round yes_no
        go true e h = let i = ltb-true at.selector 16 e in
            inl (i, opens_outline (first_place (at.selector + 1)) _ t (within_from (first_place (at.selector + 1)) (omega arith)) h)
        go false e h = let i = ltb-false at.selector 16 e in inr (omega arith, answered_outline Undecided t h)
    goes_outline at t l (GoOn group) h = go (ltb at.round 16) refl h
      where
        go : (d : Bool) → ltb at.round 16 ≡ d → Went ch co s p (goes_to ch co s p at (cond d (next.Round group) (next.Answer Undecided))) t
            → Goes (tables co s) (outline ch s) (outline ch t) p at.selector at.round (on group)
        go true e h = let i = ltb-true at.round 16 e in inl (i, opens_outline (next_round at) (nameless group) t (within_from (next_round at) (omega arith)) h)
        go false e h = let i = ltb-false at.round 16 e in inr (omega arith, answered_outline Undecided t h)

  -- nothing but messages that left
  still_act : (s t : State C K) → Still ch co s t → Act (tables co s) s.n (outline ch s) (outline ch t)
  still_act s t h = nothing
      (λ p k r x. ap₂ (λ n cells. page false n cells p k r x) h.n h.cells)
      (λ p k r x. ap₂ (λ n cells. page true n cells p k r x) h.n h.cells)
      (λ q. ap (λ n. stage_in n t.controllers q) h.n ∙ stage_like s.n t.controllers s.controllers q (λ _ _. h.stages q) (λ _ _. h.heard q))
      (λ q u. ap (λ n. word_from n t.controllers q u) h.n ∙ word_like s.n t.controllers s.controllers q u (λ _ _ _. ap (λ (ws : List Word). get_or ws (u - 1) blank) (h.words q)))
      (λ m has. all-has _ _ m h.mail has)

  -- a PHASE is taken
  keeps_act : (s : State C K) → Sized s → (m : Message) (rest c : C) → Has (ch.bag s.channel) m → All (Has (ch.bag s.channel)) (ch.bag rest) → well_formed s.n m ≡ true
      → m.kind ≡ Phase → ch.sends rest (echo_of ch (with_channel s rest) m) c
      → Act (tables co s) s.n (outline ch s) (outline ch (kept ch (with_channel s rest) m c))
  keeps_act s z m rest c has all ok k sent =
      let i = parts s.n m ok in
      let inner = inside_from s.n m.receiver m.place i.receiver_low i.receiver_high i.place in
      let v = kept_word s.cells m.receiver m.place m.word in
      let P : Message → Type 0 = λ x. Has (ch.bag s.channel) x ⊎ Letter Echo m.receiver m.place.selector m.place.round m.place.phase v x in
      deliver_phase m v has k
      (keep_keeps s.n s.cells m.receiver m.place m.word z.room inner)
      (keep_said s.n s.cells m.receiver m.place m.word z.room inner)
      (λ q. refl) (λ q u. refl)
      (λ x h. all-has P (ch.bag c) x (all_shuffled P _ (ch.bag c) (gains rest (echo_of ch (with_channel s rest) m) c sent).0
      (inr (record { is_kind = refl; is_from = refl; is_selector = refl; is_round = refl; is_phase = refl; is_word = refl }), all_from _ P _ (λ y g. inl g) all)) h)

  -- an ECHO is heard
  hears_act : (s : State C K) → Sized s → (m : Message) (rest : C) → Has (ch.bag s.channel) m → All (Has (ch.bag s.channel)) (ch.bag rest) → well_formed s.n m ≡ true
      → m.kind ≡ Echo → (of s m.receiver).stage ≡ Asking m.place
      → Act (tables co s) s.n (outline ch s) (outline ch (with_controller (with_channel s rest) m.receiver (hearing (of s m.receiver) m)))
  hears_act s z m rest has all ok k st =
      let i = parts s.n m ok in
      let p = m.receiver in
      let at = m.place in
      let new = hearing (of s p) m in
      let S = (of s p).heard in
      let l = long s z p i.receiver_low i.receiver_high in
      let few = small s z p i.receiver_high in
      let sender = small s z m.sender i.sender_high in
      let words = (z.fit p i.receiver_low few).words in
      deliver_echo m S has k i.sender_low i.sender_high (stage_now s z p i.receiver_low i.receiver_high ∙ ap (λ u. stage_of u S) st) (record {
        same_kept = λ p k r x. refl;
        same_said = λ p k r x. refl;
        moves = record {
          here = moved_here s.controllers p new i.receiver_low s.n i.receiver_high l ∙ ap (λ u. stage_of u (with_heard S m.sender)) st
              ∙ ap (λ e. outlines.asking at.selector at.round at.phase (bit_or S e)) (alone_is m.sender i.sender_low sender);
          stages = moved_stages s.controllers p new i.receiver_low s.n i.receiver_high l;
          others = moved_others s.controllers p new i.receiver_low s.n i.receiver_high l;
        };
        heard = moved_word s.controllers p new i.receiver_low s.n i.receiver_high l m.sender i.sender_low ∙ get_or-set_same (of s p).words (m.sender - 1) m.word blank (let e = i.sender_low in omega arith);
        before = λ v d. moved_words s.controllers p new i.receiver_low s.n i.receiver_high l v
            (λ j. get_or-set_other (of s p).words (m.sender - 1) (v - 1) m.word blank (λ e. d (let f = i.sender_low in omega arith)));
        sends = λ x h. all-has _ _ x all h;
      })

  advances_act : (s t : State C K) (e : Event) → Sized s → HeardWell ch s → (p : ℕ) (g : Progress) → 1 ≤ p → p ≤ s.n → Whence ch co s e p g → Went ch co s p g t
      → Act (tables co s) s.n (outline ch s) (outline ch t)
  advances_act s t e z hw p g a b (inl why) h =
      call p a b (stage_now s z p a b ∙ ap (λ u. stage_of u (of s p).heard) why.1)
      (opens_outline s z p a b (first_place 1) (own_word (co.group s.coins p 1) p) t (within_from (first_place 1) (omega arith)) (subst (λ x. Went ch co s p x t) why.2 h))
  advances_act s t e z hw p g a b (inr why) h = go (eqb at.phase 1) refl (subst (λ x. Went ch co s p x t) why.4 h)
    where
      at : Place
      at = why.0

      S : ℕ
      S = (of s p).heard

      ws : List Word
      ws = (of s p).words

      gs : List (Option Side)
      gs = heard_groups s.n S ws

      ns : List (Option ℕ)
      ns = heard_names s.n S ws

      asks_at : stage_in s.n s.controllers p ≡ outlines.asking at.selector at.round at.phase S
      asks_at = stage_now s z p a b ∙ ap (λ u. stage_of u S) why.2

      heard : (S < 2 ^ s.n) × In p S
      heard = hw p _ _ _ S asks_at

      enough : s.n / 2 + 1 ≤ ones S
      enough = let l = leb-true s.majority (ones S) why.3 in let m = z.majority in omega arith

      same_words : (q : ℕ) → In q S → word_from s.n s.controllers p q ≡ get_or ws (q - 1) blank
      same_words q i = word_is s.n s.controllers p q a b i.0

      lim : Limits at
      lim = limits at (sized_within ch co s z p a b at why.2)

      go : (d : Bool) → eqb at.phase 1 ≡ d → Went ch co s p (cond d (after_first ch co s gs ns at) (after_second ch co s p gs ns at)) t
          → Act (tables co s) s.n (outline ch s) (outline ch t)
      go true e h =
          let l = lim in
          let one = eqb-true at.phase 1 e in
          let reads = words_read s.n S ws heard.0 z.at_most (p, heard.1) in
          step_first p at.selector at.round S (second_word gs ns) (asks_at ∙ ap (λ x. outlines.asking at.selector at.round x S) one) enough
          (reading_like _ _ _ _ (λ q i. ap (λ (w : Word). w.group) (same_words q i)) reads.0)
          (reading_like _ _ _ _ (λ q i. ap (λ (w : Word). w.name) (same_words q i)) reads.1)
          (opens_outline s z p a b (second_phase at) (second_word gs ns) t (within_from (second_phase at) (omega arith)) h)
      go false e h =
          let l = lim in
          let not-one = eqb-false at.phase 1 e in
          let two : at.phase ≡ 2 = omega arith in
          let own = co.group s.coins p at.selector in
          let coin = co.common s.coins at.selector at.round in
          let v = verdict_of p own at.round coin gs ns in
          step_second p at.selector at.round S (outcome_of v) (asks_at ∙ ap (λ x. outlines.asking at.selector at.round x S) two) enough
          (after_like p own at.round coin (λ q. In q S) _ _ same_words _ (verdict_after p own at.round coin s.n S ws heard.0 (p, heard.1)))
          (goes_outline s z p a b at t lim v h)

  pub change_act : (s t : State C K) (e : Event) → Sized s → HeardWell ch s → Change ch co s e t → Act (tables co s) s.n (outline ch s) (outline ch t)
  change_act s t e z hw (stays x) = still_act s t (stays_still ch co s t e x)
  change_act s t e z hw (advances p g n why h) = advances_act s t e z hw p g n.0 n.1 why h
  change_act s t e z hw (keeps q m rest f ok k h sent) =
      let w = waited ch co s m rest f in
      subst (λ (u : State C K). Act (tables co s) s.n (outline ch s) (outline ch u)) (sym h) (keeps_act s z m rest t.channel w.1 w.0 ok k sent)
  change_act s t e z hw (hears q m rest at f ok k st c h) =
      let w = waited ch co s m rest f in
      subst (λ (u : State C K). Act (tables co s) s.n (outline ch s) (outline ch u)) (sym h)
      (hears_act s z m rest w.1 w.0 ok k (st ∙ ap Asking (same_at at m.place (and_parts _ _ c).0)))
