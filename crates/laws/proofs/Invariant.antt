-- What holds of every park in outline that acts can lead to: the invariant, and that every act keeps it.
use Rattle.std.proofs.Common.{◌≡◌, ℕ, ◌+◌, ◌-◌, ◌*◌, ◌/◌, ◌^◌, ◌<◌, ◌≤◌, ◌⊎◌, [], Some, Option, sym, refl, ap, ◌∙◌, subst, inl, inr, arith}
use lib.Bits.{bit_or}
use lib.Count.{ones}
use native.Mathlib.Decide.{ℕ_discrete}
use Rattle.std.specs.List.{ContainsAt as Has}
use Rattle.terms.specs.declared.answer.Answer.{Answer}
use Rattle.terms.specs.declared.answer.Answer.TheVariants.{Yes, No, Undecided}
use Rattle.terms.specs.declared.message.Kind.{Kind}
use Rattle.terms.specs.declared.message.Kind.TheVariants.{Phase, Echo}
use Rattle.terms.specs.declared.message.Message.{Message}
use Rattle.terms.specs.declared.word.Side.{Side}
use Rattle.terms.specs.declared.word.Word.{Word}
use Rattle.laws.specs.Rules.{Outcome, yes_yes, no_no, yes_no, on, Reading, After, In, first, later}
use Rattle.laws.specs.Outlines.{
  Stage,
  idle,
  asking,
  done,
  Outline,
  Tables,
  Same,
  Keeps,
  Unchanged,
  Moves,
  Sends,
  Letter,
  Opens,
  Answers,
  Goes,
  Hears,
  Act,
  call,
  step_first,
  step_second,
  deliver_phase,
  deliver_echo,
  nothing,
  FreshOutline,
}
use Rattle.laws.specs.Pages.{answer_in, pages, Heard, Read, Ended, Follows}
use Rattle.laws.proofs.Bits.{alone, in_alone, alone_small, added, added_small, still_in}
use Rattle.laws.proofs.Cells.{wrote_grows, wrote_new, keeps_grows, keeps_new}
use Rattle.laws.proofs.Finding.{Spoke}
use Rattle.laws.proofs.Readings.{none_some}

-- places in the order in which a caller passes them
abbrev rank : ℕ → ℕ → ℕ → ℕ
rank k r x = k * 32 + r * 2 + x

-- a caller in this stage waits in this phase
abbrev pub At : Stage → ℕ → ℕ → ℕ → Type 0
At idle k r x = ⊥
At (asking k' r' x' S) k r x = (k ≡ k') × (r ≡ r') × (x ≡ x')
At (done a) k r x = ⊥

-- cells that hold a word, and answers, stay
pub record Grows (s t : Outline) : Type 0 where
  pub kept : (p k r x : ℕ) (w : Word) → s.kept p k r x ≡ Some w → t.kept p k r x ≡ Some w
  pub said : (p k r x : ℕ) (w : Word) → s.said p k r x ≡ Some w → t.said p k r x ≡ Some w
  pub answer : (p : ℕ) (a : Answer) → answer_in (s.stage p) ≡ Some a → answer_in (t.stage p) ≡ Some a

-- a PHASE carries what its sender said there, an ECHO what its sender kept there
abbrev pub TrueMail : Outline → Message → Type 0
TrueMail s m = (m.kind ≡ Phase → s.said m.sender m.place.selector m.place.round m.place.phase ≡ Some m.word)
    × (m.kind ≡ Echo → s.kept m.sender m.place.selector m.place.round m.place.phase ≡ Some m.word)

-- Phase and Echo are two
kinds_differ : {u : Kind} → u ≡ Phase → u ≡ Echo → ⊥
kinds_differ e f = let z : ◌≡◌ {A = ℕ} 0 1 = cc in omega arith

module _ (c : Tables) (n : ℕ) where
  abbrev pub EndedIn : Outline → ℕ → ℕ → ℕ → Outcome → Type 0
  EndedIn s = Ended n (pages c s)

  abbrev pub ReadIn : Outline → ℕ → ℕ → Word → Type 0
  ReadIn s = Read n (pages c s)

  -- why p said w there
  pub data Ground (s : Outline) (p k r x : ℕ) (w : Word) : Type 0 where
    by_call : k ≡ 1 → r ≡ 1 → x ≡ 1 → w ≡ first (c.draw p k) p → Ground s p k r x w
    by_selector : (k₀ r₀ : ℕ) → k ≡ k₀ + 1 → r ≡ 1 → x ≡ 1 → w ≡ first (c.draw p k) p → EndedIn s p k₀ r₀ yes_no → Ground s p k r x w
    by_round : (r₀ : ℕ) (g : Side) → r ≡ r₀ + 1 → x ≡ 1 → w ≡ later g → EndedIn s p k r₀ (on g) → Ground s p k r x w
    by_phase : x ≡ 2 → ReadIn s k r w → Spoke (s.said p k r 1) → Ground s p k r x w

  abbrev pub Ends : Outline → ℕ → ℕ → ℕ → Type 0
  Ends s p k r = (o : Outcome) × EndedIn s p k r o × Follows n (pages c s) p k r o

  abbrev pub Bounds : ℕ → ℕ → ℕ → ℕ → Type 0
  Bounds p k r x = (1 ≤ p) × (p ≤ n) × (1 ≤ k) × (k ≤ 16) × (1 ≤ r) × (r ≤ 16) × (1 ≤ x) × (x ≤ 2)

  -- p waits there, with heard set S
  pub record Asks (s : Outline) (p k r x S : ℕ) : Type 0 where
    pub spoke : Spoke (s.said p k r x)
    pub small : S < 2 ^ n
    pub held : (q : ℕ) → In q S → s.kept q k r x ≡ Some (s.words p q)
    pub itself : In p S
    pub latest : (k' r' x' : ℕ) (w : Word) → s.said p k' r' x' ≡ Some w → rank k' r' x' ≤ rank k r x

  -- what a controller's stage says of the pages
  abbrev pub Fit : Outline → ℕ → Stage → Type 0
  Fit s p idle = (k r x : ℕ) (w : Word) → ¬ (s.said p k r x ≡ Some w)
  Fit s p (asking k r x S) = Asks s p k r x S
  Fit s p (done a) = (a ≡ Yes → (k r : ℕ) × EndedIn s p k r yes_yes) × ((k r : ℕ) × Spoke (s.said p k r 2))

  pub record Inv (s : Outline) : Type 0 where
    pub bounds : (p k r x : ℕ) (w : Word) → s.said p k r x ≡ Some w → Bounds p k r x
    pub ground : (p k r x : ℕ) (w : Word) → s.said p k r x ≡ Some w → Ground s p k r x w
    pub kept_said : (q k r x : ℕ) (w : Word) → s.kept q k r x ≡ Some w → (p : ℕ) × (s.said p k r x ≡ Some w)
    pub fit : (p : ℕ) → Fit s p (s.stage p)
    pub after_first : (p k r : ℕ) (w : Word) → s.said p k r 1 ≡ Some w → At (s.stage p) k r 1 ⊎ Spoke (s.said p k r 2)
    pub after_second : (p k r : ℕ) (w : Word) → s.said p k r 2 ≡ Some w → At (s.stage p) k r 2 ⊎ Ends s p k r
    pub true_mail : (m : Message) → Has s.mail m → TrueMail s m

  -- ---- grounds last

  module _ {s t : Outline} (G : Grows s t) where
    heard_more : {k r x S : ℕ} {W : ℕ → Word} → Heard n (pages c s) k r x S W → Heard n (pages c t) k r x S W
    heard_more {k} {r} {x} h = record { enough = h.enough; from = λ q i. G.kept q k r x _ (h.from q i) }

    read_more : {k r : ℕ} {w : Word} → ReadIn s k r w → ReadIn t k r w
    read_more h = record { set = h.set; words = h.words; heard = heard_more h.heard; group = h.group; name = h.name }

    ended_more : {p k r : ℕ} {o : Outcome} → EndedIn s p k r o → EndedIn t p k r o
    ended_more {p} {k} {r} h = record {
      word = h.word;
      spoke = G.said p k r 2 _ h.spoke;
      set = h.set;
      words = h.words;
      heard = heard_more h.heard;
      after = h.after;
    }

    spoke_more : (p k r x : ℕ) → Spoke (s.said p k r x) → Spoke (t.said p k r x)
    spoke_more p k r x h = (h.0, G.said p k r x _ h.1)

    follows_more : (p k r : ℕ) (o : Outcome) → Follows n (pages c s) p k r o → Follows n (pages c t) p k r o
    follows_more p k r yes_yes h = G.answer p _ h
    follows_more p k r no_no h = G.answer p _ h
    follows_more p k r yes_no (inl h) = inl (G.said p _ _ _ _ h)
    follows_more p k r yes_no (inr h) = inr (G.answer p _ h)
    follows_more p k r (on g) (inl h) = inl (G.said p _ _ _ _ h)
    follows_more p k r (on g) (inr h) = inr (G.answer p _ h)

    ends_more : (p k r : ℕ) → Ends s p k r → Ends t p k r
    ends_more p k r h = (h.0, ended_more h.1, follows_more p k r h.0 h.2)

    ground_more : {p k r x : ℕ} {w : Word} → Ground s p k r x w → Ground t p k r x w
    ground_more (by_call a b d e) = by_call a b d e
    ground_more (by_selector k₀ r₀ a b d e f) = by_selector k₀ r₀ a b d e (ended_more f)
    ground_more (by_round r₀ g a b d f) = by_round r₀ g a b d (ended_more f)
    ground_more {p} {k} {r} (by_phase a f h) = by_phase a (read_more f) (spoke_more p k r 1 h)

    mail_more : (m : Message) → TrueMail s m → TrueMail t m
    mail_more m h = (λ e. G.said _ _ _ _ _ (h.0 e), λ e. G.kept _ _ _ _ _ (h.1 e))

  -- ---- one act: what is new has its ground

  -- q's stage, its words heard and what it said are as before
  record Still (s t : Outline) (q : ℕ) : Type 0 where
    stage : t.stage q ≡ s.stage q
    words : (v : ℕ) → t.words q v ≡ s.words q v
    said : (k r x : ℕ) (w : Word) → t.said q k r x ≡ Some w → s.said q k r x ≡ Some w

  -- q's stage fits, and where it waited before it still waits or went on
  record Settled (s t : Outline) (q : ℕ) : Type 0 where
    fit : Fit t q (t.stage q)
    left_first : (k r : ℕ) → At (s.stage q) k r 1 → At (t.stage q) k r 1 ⊎ Spoke (t.said q k r 2)
    left_second : (k r : ℕ) → At (s.stage q) k r 2 → At (t.stage q) k r 2 ⊎ Ends t q k r

  record New (t : Outline) (p k r x : ℕ) (w : Word) : Type 0 where
    bounds : Bounds p k r x
    ground : Ground t p k r x w
    here : At (t.stage p) k r x

  pub record Step (s t : Outline) : Type 0 where
    pub grows : Grows s t
    said : (p k r x : ℕ) (w : Word) → t.said p k r x ≡ Some w → (s.said p k r x ≡ Some w) ⊎ New t p k r x w
    kept : (q k r x : ℕ) (w : Word) → t.kept q k r x ≡ Some w → (s.kept q k r x ≡ Some w) ⊎ ((p : ℕ) × (t.said p k r x ≡ Some w))
    stage : (q : ℕ) → Still s t q ⊎ Settled s t q
    mail : (m : Message) → Has t.mail m → Has s.mail m ⊎ TrueMail t m

  fit_more : {s t : Outline} → Grows s t → (p : ℕ) → Still s t p → (u : Stage) → Fit s p u → Fit t p u
  fit_more G p S idle h = λ k r x w e. h k r x w (S.said k r x w e)
  fit_more G p S (asking k r x heard) h = record {
    spoke = spoke_more G p k r x h.spoke;
    small = h.small;
    held = λ q i. G.kept q k r x _ (h.held q i) ∙ ap Some (sym (S.words q));
    itself = h.itself;
    latest = λ k' r' x' w e. h.latest k' r' x' w (S.said k' r' x' w e);
  }
  fit_more G p S (done a) h =
      (λ e. let y = h.0 e in (y.0, y.1, ended_more G y.2), let y = h.1 in (y.0, y.1, spoke_more G p y.0 y.1 2 y.2))

  -- the invariant goes along with every step
  advance : {s t : Outline} → Inv s → Step s t → Inv t
  advance {s} {t} I T = record {
    bounds = λ p k r x w e. elim (T.said p k r x w e) [ inl h ↦ I.bounds p k r x w h | inr h ↦ h.bounds ];
    ground = λ p k r x w e. elim (T.said p k r x w e) [ inl h ↦ ground_more G (I.ground p k r x w h) | inr h ↦ h.ground ];
    kept_said = λ q k r x w e. elim (T.kept q k r x w e) [
      | inl h ↦ let a = I.kept_said q k r x w h in (a.0, G.said _ _ _ _ _ a.1)
      | inr h ↦ h
    ];
    fit = λ p. elim (T.stage p) [
      | inl h ↦ subst (Fit t p) (sym h.stage) (fit_more G p h (s.stage p) (I.fit p))
      | inr h ↦ h.fit
    ];
    after_first = λ p k r w e. elim (T.said p k r 1 w e) [
      | inr h ↦ inl h.here
      | inl h ↦ elim (I.after_first p k r w h) [
        | inr b ↦ inr (spoke_more G p k r 2 b)
        | inl b ↦ elim (T.stage p) [ inl a ↦ inl (subst (λ z. At z k r 1) (sym a.stage) b) | inr a ↦ a.left_first k r b ]
      ]
    ];
    after_second = λ p k r w e. elim (T.said p k r 2 w e) [
      | inr h ↦ inl h.here
      | inl h ↦ elim (I.after_second p k r w h) [
        | inr b ↦ inr (ends_more G p k r b)
        | inl b ↦ elim (T.stage p) [ inl a ↦ inl (subst (λ z. At z k r 2) (sym a.stage) b) | inr a ↦ a.left_second k r b ]
      ]
    ];
    true_mail = λ m e. elim (T.mail m e) [ inl h ↦ mail_more G m (I.true_mail m h) | inr h ↦ h ];
  }
    where
      G : Grows s t
      G = T.grows

  -- ---- the acts

  -- what a cell holds now, where the page is unchanged, it held before
  before : {f f' : ℕ → ℕ → ℕ → ℕ → Option Word} → Unchanged f f' → (p k r x : ℕ) (w : Word) → f' p k r x ≡ Some w → f p k r x ≡ Some w
  before u p k r x w h = sym (u p k r x) ∙ h

  -- who moved, and who stayed
  moved : {s t : Outline} {p : ℕ} {u : Stage} → Moves s t p u → ((q : ℕ) → ¬ (q ≡ p) → (k r x : ℕ) (w : Word) → t.said q k r x ≡ Some w → s.said q k r x ≡ Some w)
      → Settled s t p → (q : ℕ) → Still s t q ⊎ Settled s t q
  moved {s} {t} {p} m said settled q = elim (ℕ_discrete q p) [
    | yes e ↦ inr (subst (Settled s t) (sym e) settled)
    | no d ↦ inl (record { stage = m.stages q d; words = λ v. m.others q v d; said = said q d })
  ]

  -- answers stay, where who moves had none
  answers_stay : {s t : Outline} {p : ℕ} {u : Stage} → Moves s t p u → ((b : Answer) → ¬ (answer_in (s.stage p) ≡ Some b))
      → (q : ℕ) (b : Answer) → answer_in (s.stage q) ≡ Some b → answer_in (t.stage q) ≡ Some b
  answers_stay {s} {t} {p} m none q b h = elim (ℕ_discrete q p) [
    | yes e ↦ absurd (none b (sym (ap (λ z. answer_in (s.stage z)) e) ∙ h))
    | no d ↦ ap answer_in (m.stages q d) ∙ h
  ]

  -- nothing but the mail changes
  quiet : {s t : Outline} → Unchanged s.kept t.kept → Unchanged s.said t.said → ((q : ℕ) → t.stage q ≡ s.stage q)
      → ((q u : ℕ) → t.words q u ≡ s.words q u) → ((m : Message) → Has t.mail m → Has s.mail m) → Step s t
  quiet ek es et ew b = record {
    grows = record {
      kept = λ p k r x w h. ek p k r x ∙ h;
      said = λ p k r x w h. es p k r x ∙ h;
      answer = λ p a h. ap answer_in (et p) ∙ h;
    };
    said = λ p k r x w h. inl (before es p k r x w h);
    kept = λ p k r x w h. inl (before ek p k r x w h);
    stage = λ q. inl (record { stage = et q; words = ew q; said = before es q });
    mail = λ m h. inl (b m h);
  }

  -- a word is kept that was said
  delivered : {s t : Outline} → Inv s → (m : Message) (v : Word) → Has s.mail m → m.kind ≡ Phase
      → Keeps s.kept t.kept m.receiver m.place.selector m.place.round m.place.phase m.word v
      → Unchanged s.said t.said → ((q : ℕ) → t.stage q ≡ s.stage q) → ((q u : ℕ) → t.words q u ≡ s.words q u)
      → Sends s t (Letter Echo m.receiver m.place.selector m.place.round m.place.phase v) → Step s t
  delivered {s} {t} I m v waits kind K es et ew sends = record {
    grows = record {
      kept = keeps_grows K;
      said = λ p k r x w h. es p k r x ∙ h;
      answer = λ p a h. ap answer_in (et p) ∙ h;
    };
    said = λ p k r x w h. inl (before es p k r x w h);
    kept = λ p k r x w h. elim (keeps_new K p k r x w h) [
      | inl a ↦ inl a
      | inr a ↦ inr (m.sender, es m.sender k r x ∙ spoken k r x w a.0.1 a.0.2 a.0.3 a.1)
    ];
    stage = λ q. inl (record { stage = et q; words = ew q; said = before es q });
    mail = λ m' h. elim (sends m' h) [ inl a ↦ inl a | inr a ↦ inr (echoed m' a) ];
  }
    where
      spoken : (k r x : ℕ) (w : Word) → k ≡ m.place.selector → r ≡ m.place.round → x ≡ m.place.phase → w ≡ m.word → s.said m.sender k r x ≡ Some w
      spoken k r x w a b d e = let h = (I.true_mail m waits).0 kind in cc

      echoed : (m' : Message) → Letter Echo m.receiver m.place.selector m.place.round m.place.phase v m' → TrueMail t m'
      echoed m' l = (λ e. absurd (kinds_differ e l.is_kind), λ e. let h = K.here in cc)

  -- an echo is heard
  heard : {s t : Outline} → Inv s → (p q k r x S : ℕ) (w : Word) → 1 ≤ q → q ≤ n → s.stage p ≡ asking k r x S → s.kept q k r x ≡ Some w
      → Hears s t p q k r x S w → Step s t
  heard {s} {t} I p q k r x S w l u at word H = record {
    grows = G;
    said = λ p k r x w h. inl (before H.same_said p k r x w h);
    kept = λ p k r x w h. inl (before H.same_kept p k r x w h);
    stage = moved H.moves (λ q d. before H.same_said q) settled;
    mail = λ m h. inl (H.sends m h);
  }
    where
      G : Grows s t
      G = record {
        kept = λ p k r x w h. H.same_kept p k r x ∙ h;
        said = λ p k r x w h. H.same_said p k r x ∙ h;
        answer = answers_stay H.moves (λ b h. none_some _ b (ap answer_in at) h);
      }

      asked : Asks s p k r x S
      asked = subst (Fit s p) at (I.fit p)

      -- from q itself, or from who was heard before and is not q
      holds : (v : ℕ) → In v (bit_or S (2 ^ (q - 1))) → t.kept v k r x ≡ Some (t.words p v)
      holds v i = elim (ℕ_discrete v q) [
        | yes e ↦ ap (λ z. t.kept z k r x) e ∙ G.kept q k r x w word ∙ ap Some (sym H.heard) ∙ ap (λ z. Some (t.words p z)) (sym e)
        | no d ↦ elim (added S q v l i) [
          | inl e ↦ absurd (d e)
          | inr j ↦ G.kept v k r x _ (asked.held v j) ∙ ap Some (sym (H.before v d))
        ]
      ]

      settled : Settled s t p
      settled = record {
        fit = subst (Fit t p) (sym H.moves.here) (record {
          spoke = spoke_more G p k r x asked.spoke;
          small = added_small n S q l u asked.small;
          held = holds;
          itself = still_in S q p asked.itself;
          latest = λ k' r' x' w e. asked.latest k' r' x' w (before H.same_said p k' r' x' w e);
        });
        left_first = λ k' r' b. inl (subst (λ z. At z k' r' 1) (sym H.moves.here) (subst (λ z. At z k' r' 1) at b));
        left_second = λ k' r' b. inl (subst (λ z. At z k' r' 2) (sym H.moves.here) (subst (λ z. At z k' r' 2) at b));
      }

  -- an answer is given
  answered : {s t : Outline} (p : ℕ) (a : Answer) → Answers s t p a → ((b : Answer) → ¬ (answer_in (s.stage p) ≡ Some b))
      → (a ≡ Yes → (k r : ℕ) × EndedIn s p k r yes_yes) → (k r : ℕ) × Spoke (s.said p k r 2)
      → ((k r : ℕ) → ¬ At (s.stage p) k r 1) → (Grows s t → (k r : ℕ) → At (s.stage p) k r 2 → Ends t p k r) → Step s t
  answered {s} {t} p a A none wins spoke l1 l2 = record {
    grows = G;
    said = λ p k r x w h. inl (before A.same_said p k r x w h);
    kept = λ p k r x w h. inl (before A.same_kept p k r x w h);
    stage = moved A.moves (λ q d. before A.same_said q) settled;
    mail = λ m h. inl (A.sends m h);
  }
    where
      G : Grows s t
      G = record {
        kept = λ p k r x w h. A.same_kept p k r x ∙ h;
        said = λ p k r x w h. A.same_said p k r x ∙ h;
        answer = answers_stay A.moves none;
      }

      settled : Settled s t p
      settled = record {
        fit = subst (Fit t p) (sym A.moves.here)
            (λ e. let y = wins e in (y.0, y.1, ended_more G y.2), (spoke.0, spoke.1, spoke_more G p spoke.0 spoke.1 2 spoke.2));
        left_first = λ k r b. absurd (l1 k r b);
        left_second = λ k r b. inr (l2 G k r b);
      }

  -- a phase is opened
  opened : {s t : Outline} (p k r x : ℕ) (w : Word) → Opens s t p k r x w → ((b : Answer) → ¬ (answer_in (s.stage p) ≡ Some b))
      → ((k' r' x' : ℕ) (v : Word) → s.said p k' r' x' ≡ Some v → rank k' r' x' < rank k r x)
      → Bounds p k r x → (Grows s t → Ground t p k r x w)
      → (Grows s t → (k r : ℕ) → At (s.stage p) k r 1 → Spoke (t.said p k r 2)) → (Grows s t → (k r : ℕ) → At (s.stage p) k r 2 → Ends t p k r) → Step s t
  opened {s} {t} p k r x w O none behind bounds ground l1 l2 = record {
    grows = G;
    said = λ p' k' r' x' v h. elim (wrote_new O.says p' k' r' x' v h) [
      | inl a ↦ inl a
      | inr a ↦ inr (new p' k' r' x' v a.0 a.1)
    ];
    kept = λ p' k' r' x' v h. elim (keeps_new O.keeps p' k' r' x' v h) [
      | inl a ↦ inl a
      | inr a ↦ inr (p, spoken k' r' x' v a.0.1 a.0.2 a.0.3 a.1)
    ];
    stage = moved O.moves (λ q d k' r' x' v h. sym (O.says.rest q k' r' x' (λ e. d e.0)) ∙ h) settled;
    mail = λ m h. elim (O.sends m h) [ inl a ↦ inl a | inr a ↦ inr (posted m a) ];
  }
    where
      G : Grows s t
      G = record {
        kept = keeps_grows O.keeps;
        said = wrote_grows O.says (λ v e. let z = behind k r x v e in omega arith);
        answer = answers_stay O.moves none;
      }

      spoken : (k' r' x' : ℕ) (v : Word) → k' ≡ k → r' ≡ r → x' ≡ x → v ≡ w → t.said p k' r' x' ≡ Some v
      spoken k' r' x' v a b d e = let h = O.says.here in cc

      posted : (m : Message) → Letter Phase p k r x w m → TrueMail t m
      posted m l = (λ e. let h = O.says.here in cc, λ e. absurd (kinds_differ l.is_kind e))

      this : New t p k r x w
      this = record { bounds = bounds; ground = ground G; here = subst (λ z. At z k r x) (sym O.moves.here) (refl, refl, refl) }

      new : (p' k' r' x' : ℕ) (v : Word) → Same p' k' r' x' p k r x → v ≡ w → New t p' k' r' x' v
      new p' k' r' x' v e f = rw (e.0, e.1, e.2, e.3, f) this

      settled : Settled s t p
      settled = record {
        fit = subst (Fit t p) (sym O.moves.here) (record {
          spoke = (w, O.says.here);
          small = alone_small n p bounds.0 bounds.1;
          held = λ q i.
              let e = alone p q bounds.0 i in
              ap (λ z. t.kept z k r x) e ∙ O.keeps.here ∙ ap Some (sym O.heard) ∙ ap (λ z. Some (t.words p z)) (sym e);
          itself = in_alone p bounds.0;
          latest = λ k' r' x' v h. elim (wrote_new O.says p k' r' x' v h) [
            | inl a ↦ let z = behind k' r' x' v a in omega arith
            | inr a ↦ omega arith
          ];
        });
        left_first = λ k r b. inr (l1 G k r b);
        left_second = λ k r b. inr (l2 G k r b);
      }

  called_first : {s t : Outline} → Inv s → (p : ℕ) → 1 ≤ p → p ≤ n → s.stage p ≡ idle → Opens s t p 1 1 1 (first (c.draw p 1) p) → Step s t
  called_first {s} {t} I p l u e O =
      opened p 1 1 1 _ O (λ b h. none_some _ b (ap answer_in e) h) (λ k r x v h. absurd (silent k r x v h)) (omega arith)
      (λ G. by_call refl refl refl refl) (λ G k r b. absurd (nowhere k r 1 b)) (λ G k r b. absurd (nowhere k r 2 b))
    where
      silent : Fit s p idle
      silent = subst (Fit s p) e (I.fit p)

      nowhere : (k r x : ℕ) → ¬ At (s.stage p) k r x
      nowhere k r x b = subst (λ z. At z k r x) e b

  module _ (s t : Outline) (I : Inv s) (p k r x S : ℕ) (e : s.stage p ≡ asking k r x S) where
    asked : Asks s p k r x S
    asked = subst (Fit s p) e (I.fit p)

    -- a caller that waits has no answer
    no_answer : (b : Answer) → ¬ (answer_in (s.stage p) ≡ Some b)
    no_answer b h = none_some _ b (ap answer_in e) h

    -- it waits there alone
    place : (k' r' x' : ℕ) → At (s.stage p) k' r' x' → (k' ≡ k) × (r' ≡ r) × (x' ≡ x)
    place k' r' x' b = subst (λ z. At z k' r' x') e b

    -- what it has heard
    heard_of : n / 2 + 1 ≤ ones S → Heard n (pages c s) k r x S (s.words p)
    heard_of maj = record { enough = (asked.small, maj); from = asked.held }

    bounded : Bounds p k r x
    bounded = I.bounds p k r x _ asked.spoke.1

  stepped_first : {s t : Outline} → Inv s → (p k r S : ℕ) (w : Word) → s.stage p ≡ asking k r 1 S → n / 2 + 1 ≤ ones S
      → Reading (λ q. In q S) (λ q. (s.words p q).group) w.group → Reading (λ q. In q S) (λ q. (s.words p q).name) w.name
      → Opens s t p k r 2 w → Step s t
  stepped_first {s} {t} I p k r S w e maj groups names O =
      let a = asked s t I p k r 1 S e in
      opened p k r 2 w O (no_answer s t I p k r 1 S e) (λ k' r' x' v h. let z = a.latest k' r' x' v h in omega arith)
      (let b = bounded s t I p k r 1 S e in omega arith)
      (λ G. by_phase refl (read_more G read) (spoke_more G p k r 1 a.spoke))
      (λ G k' r' b. let z = place s t I p k r 1 S e k' r' 1 b in (w, rw (z.0, z.1) O.says.here))
      (λ G k' r' b. let z = place s t I p k r 1 S e k' r' 2 b in absurd (omega arith))
    where
      read : ReadIn s k r w
      read = record { set = S; words = s.words p; heard = heard_of s t I p k r 1 S e maj; group = groups; name = names }

  module _ (s t : Outline) (I : Inv s) (p k r S : ℕ) (e : s.stage p ≡ asking k r 2 S) (maj : n / 2 + 1 ≤ ones S) where
    abbrev Rule : Outcome → Type 0
    Rule o = After p (c.draw p k) r (c.coin k r) (λ q. In q S) (s.words p) o

    asks : Asks s p k r 2 S
    asks = asked s t I p k r 2 S e

    ended : {o : Outcome} → Rule o → EndedIn s p k r o
    ended a = record { word = asks.spoke.0; spoke = asks.spoke.1; set = S; words = s.words p; heard = heard_of s t I p k r 2 S e maj; after = a }

    not_first : (k' r' : ℕ) → ¬ At (s.stage p) k' r' 1
    not_first k' r' b = let z = place s t I p k r 2 S e k' r' 1 b in omega arith

    ends_here : Ends t p k r → (k' r' : ℕ) → At (s.stage p) k' r' 2 → Ends t p k' r'
    ends_here E k' r' b = let z = place s t I p k r 2 S e k' r' 2 b in rw (z.0, z.1) E

    gives : (a : Answer) → Answers s t p a → (a ≡ Yes → (k r : ℕ) × EndedIn s p k r yes_yes) → (Grows s t → Ends t p k r) → Step s t
    gives a A wins E = answered p a A (no_answer s t I p k r 2 S e) wins (k, r, asks.spoke) not_first (λ G. ends_here (E G))

    stepped_second : (o : Outcome) → Rule o → Goes c s t p k r o → Step s t
    stepped_second yes_yes a A = gives Yes A (λ z. (k, r, ended a)) (λ G. (yes_yes, ended_more G (ended a), ap answer_in A.moves.here))
    stepped_second no_no a A =
        gives No A (λ z. let y : ◌≡◌ {A = ℕ} 0 1 = cc in absurd (omega arith)) (λ G. (no_no, ended_more G (ended a), ap answer_in A.moves.here))
    stepped_second yes_no a (inr A) =
        gives Undecided A.1 (λ z. let y : ◌≡◌ {A = ℕ} 0 1 = cc in absurd (omega arith))
        (λ G. (yes_no, ended_more G (ended a), inr (ap answer_in A.1.moves.here)))
    stepped_second (on g) a (inr A) =
        gives Undecided A.1 (λ z. let y : ◌≡◌ {A = ℕ} 0 1 = cc in absurd (omega arith))
        (λ G. (on g, ended_more G (ended a), inr (ap answer_in A.1.moves.here)))
    stepped_second yes_no a (inl O) =
        let b = bounded s t I p k r 2 S e in
        opened p (k + 1) 1 1 _ O.1 (no_answer s t I p k r 2 S e)
        (λ k' r' x' v h. let z = asks.latest k' r' x' v h in let b' = I.bounds p k' r' x' v h in omega arith)
        (let l = O.0 in omega arith)
        (λ G. by_selector k r refl refl refl refl (ended_more G (ended a)))
        (λ G k' r' b. absurd (not_first k' r' b))
        (λ G. ends_here (yes_no, ended_more G (ended a), inl O.1.says.here))
    stepped_second (on g) a (inl O) =
        let b = bounded s t I p k r 2 S e in
        opened p k (r + 1) 1 _ O.1 (no_answer s t I p k r 2 S e) (λ k' r' x' v h. let z = asks.latest k' r' x' v h in omega arith)
        (let l = O.0 in omega arith)
        (λ G. by_round r g refl refl refl (ended_more G (ended a)))
        (λ G k' r' b. absurd (not_first k' r' b))
        (λ G. ends_here (on g, ended_more G (ended a), inl O.1.says.here))

  pub act_step : {s t : Outline} → Inv s → Act c n s t → Step s t
  act_step I (call p l u e O) = called_first I p l u e O
  act_step I (step_first p k r S w e maj groups names O) = stepped_first I p k r S w e maj groups names O
  act_step {s} {t} I (step_second p k r S o e maj a g) = stepped_second s t I p k r S e maj o a g
  act_step I (deliver_phase m v waits kind K es et ew sends) = delivered I m v waits kind K es et ew sends
  act_step I (deliver_echo m S waits kind l u e H) = heard I m.receiver m.sender _ _ _ S m.word l u e ((I.true_mail m waits).1 kind) H
  act_step I (nothing ek es et ew b) = quiet ek es et ew b

  pub act_keeps : {s t : Outline} → Inv s → Act c n s t → Inv t
  act_keeps I a = advance I (act_step I a)

  pub fresh_keeps : {s : Outline} → FreshOutline s → Inv s
  fresh_keeps {s} F = record {
    bounds = λ p k r x w h. absurd (silent p k r x w h);
    ground = λ p k r x w h. absurd (silent p k r x w h);
    kept_said = λ q k r x w h. absurd (none_some _ w (F.no_kept q k r x) h);
    fit = λ p. subst (Fit s p) (sym (F.stages p)) (λ k r x w. silent p k r x w);
    after_first = λ p k r w h. absurd (silent p k r 1 w h);
    after_second = λ p k r w h. absurd (silent p k r 2 w h);
    true_mail = λ m h. absurd (no_letter m (subst (λ ms. Has ms m) F.no_mail h));
  }
    where
      silent : (p k r x : ℕ) (w : Word) → ¬ (s.said p k r x ≡ Some w)
      silent p k r x w h = none_some _ w (F.no_said p k r x) h

      no_letter : (m : Message) → ¬ Has [] m
      no_letter m h = let z = h.1 in omega arith
