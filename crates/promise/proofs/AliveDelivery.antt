-- A delivery leaves a park alive.
use Rattle.std.proofs.Common.{◌≡◌, ℕ, ◌-◌, ◌*◌, ◌<◌, ◌≤◌, true, false, not, leb, ◌⊎◌, List, ◌∷◌, get_or, sym, refl, ap, ◌∙◌, subst, inl, inr, ⊎_elim, arith}
use lib.Count.{ones}
use Rattle.std.specs.List.{ContainsAt as Has, AllByRecursion as All}
use Rattle.std.proofs.ByRecursion.{all-has, All-set, has_shuffled, all_shuffled}
use Rattle.std.proofs.lemmas.Bool.{and_parts, and_from, not-true, eq-eqb, cases_Bool, true≢false}
use Rattle.channel.specs.declared.channel.Channel as channel
use Rattle.channel.specs.Meaning.{Leaves, SameBag}
use Rattle.coins.specs.declared.Coins as coins
use Rattle.terms.specs.declared.message.Kind.{Kind}
use Rattle.terms.specs.declared.message.Kind.TheVariants.{Phase, Echo}
use Rattle.terms.specs.declared.message.Mark.{Mark}
use Rattle.terms.specs.declared.message.Mark.TheVariants.{Gone, Copied}
use Rattle.terms.specs.declared.message.Message.{Message}
use Rattle.terms.specs.declared.word.Cell.{Cell}
use Rattle.terms.specs.declared.word.Cell.TheVariants.{Empty}
use Rattle.terms.specs.declared.word.Place.{Place}
use Rattle.terms.specs.Heard.{heard_from, with_heard}
use Rattle.terms.specs.Places.{same_place}
use Rattle.park.specs.declared.controller.Controller.{Controller}
use Rattle.park.specs.declared.controller.Stage.{Stage}
use Rattle.park.specs.declared.controller.Stage.TheVariants.{Uncalled, Asking, Answered}
use Rattle.park.specs.Cells.{keeping}
use Rattle.park.specs.Controllers.{counts, hearing, with_record}
use Rattle.park.specs.Messages.{echo_of, kept}
use Rattle.park.specs.States.{State, of, with_channel, with_controller}
use Rattle.promise.proofs.Alive.{Fits, CellFits, Formed, Mail, Reaches, Asked, Live, Alive}
use Rattle.promise.proofs.AliveWrites.{StillWaits, StillDown, reaches_more, asked_map, live_with, down_same, kept_fits, keeping_fits, has_cons, has_more}
use Rattle.promise.proofs.Changes.{Fetched, Dropped, unformed, down, uncounted, waited}
use Rattle.promise.proofs.HeardSets.{still_heard, now_heard}
use Rattle.promise.proofs.Mail.{all_from}
use Rattle.promise.proofs.Outline.{Sized, listed, small}
use Rattle.promise.proofs.RefusalsAndLimits.{Parts, clash, parts, well_formed_from}

-- all that waited still does, but for the message m
abbrev Left : List Message → Message → List Message → Type 0
Left before m after = (x : Message) → Has before x → (m ≡ x) ⊎ Has after x

left_by : (mark : Mark) (before after : List Message) (places : ℕ) (m : Message) → Leaves before places m mark after → Left before m after
left_by Gone before after places m h x w = has_cons m x after (has_shuffled before (m ∷ after) x h w)
left_by Copied before after places m h x w = inr (has_shuffled before after x h.0 w)

-- the message m is p's question to q at a place, or q's answer
abbrev Between : Message → ℕ → ℕ → Place → Type 0
Between m p q at = Mail m Phase p q at ⊎ Mail m Echo q p at

mail_of : (m x : Message) (kind : Kind) (from to : ℕ) (at : Place) → m ≡ x → Mail x kind from to at → Mail m kind from to at
mail_of m x kind from to at e h = subst (λ y. Mail y kind from to at) (sym e) h

reaches_left : (before after : List Message) (list : List Controller) (m : Message) (p heard : ℕ) (at : Place) (q : ℕ) → Left before m after
    → Reaches before list p heard at q → Reaches after list p heard at q ⊎ Between m p q at
reaches_left before after list m p heard at q left (inl x) = inl (inl x)
reaches_left before after list m p heard at q left (inr (inl x)) = inl (inr (inl x))
reaches_left before after list m p heard at q left (inr (inr (inl x))) =
    ⊎_elim (λ (e : m ≡ x.0). inr (inl (mail_of m x.0 Phase p q at e x.2))) (λ (h : Has after x.0). inl (inr (inr (inl (x.0, h, x.2))))) (left x.0 x.1)
reaches_left before after list m p heard at q left (inr (inr (inr x))) =
    ⊎_elim (λ (e : m ≡ x.0). inr (inr (mail_of m x.0 Echo q p at e x.2))) (λ (h : Has after x.0). inl (inr (inr (inr (x.0, h, x.2))))) (left x.0 x.1)

same_places : (a b : Place) → a ≡ b → same_place a b ≡ true
same_places a b e =
    and_from _ _ (eq-eqb _ _ (ap (λ (x : Place). x.selector) e)) (and_from _ _ (eq-eqb _ _ (ap (λ (x : Place). x.round) e)) (eq-eqb _ _ (ap (λ (x : Place). x.phase) e)))

counts_parts : (majority : ℕ) (c : Controller) (at : Place) (m : Message) → counts majority c at m ≡ true → leb majority (ones c.heard) ≡ false
counts_parts majority c at m e =
    let a = and_parts (same_place at m.place) _ e in
    not-true _ (and_parts (not (leb majority (ones c.heard))) _ a.1).0

counts_from : (majority : ℕ) (c : Controller) (at : Place) (m : Message) → at ≡ m.place → leb majority (ones c.heard) ≡ false → heard_from c.heard m.sender ≡ false
    → counts majority c at m ≡ true
counts_from majority c at m e waits new = and_from _ _ (same_places at m.place e) (and_from _ _ (ap not waits) (ap not new))

-- another controller is heard
module _ (sender : ℕ) (low : 1 ≤ sender) (high : sender ≤ 15) where
  asked_hearing : (R R' : Place → ℕ → Type 0) (n majority p : ℕ) (c d : Controller) (stage : Stage) → 1 ≤ p → d.up ≡ c.up → d.heard ≡ with_heard c.heard sender
      → leb majority (ones c.heard) ≡ false → ((at : Place) (q : ℕ) → 1 ≤ q → R at q → R' at q) → Asked R n majority p c stage → Asked R' n majority p d stage
  asked_hearing R R' n majority p c d Uncalled i u h waits f x = tt
  asked_hearing R R' n majority p c d (Answered answer) i u h waits f x = tt
  asked_hearing R R' n majority p c d (Asking at) i u h waits f x =
      (ap (λ S. heard_from S p) h ∙ still_heard sender low high c.heard p i x.0, λ up less q l v o. f at q l (x.1 (sym u ∙ up) waits q l v o))

  reaches_hearing : (bag : List Message) (list : List Controller) (p heard : ℕ) (at : Place) (q : ℕ) → 1 ≤ q → Reaches bag list p heard at q → Reaches bag list p (with_heard heard sender) at q
  reaches_hearing bag list p heard at q l (inl x) = inl x
  reaches_hearing bag list p heard at q l (inr (inl x)) = inr (inl (still_heard sender low high heard q l x))
  reaches_hearing bag list p heard at q l (inr (inr x)) = inr (inr x)

-- a message m was fetched from a park that is alive
module _ {C K : Type 0} (ch : channel.Ghosts C) (co : coins.Ghosts K) (s : State C K) (z : Sized s) (a : Alive ch co s) (m : Message) (rest : C) (f : Fetched ch co s m rest) where
  abbrev before : List Message
  before = ch.bag s.channel

  abbrev after : List Message
  after = ch.bag rest

  abbrev list : List Controller
  list = s.controllers

  left : Left before m after
  left = left_by f.mark before after (ch.places s.channel) m f.leaves

  all_formed : All (Formed s.n) after
  all_formed = all_from (Has before) (Formed s.n) after (λ x h. all-has (Formed s.n) before x a.formed h) (waited ch co s m rest f).0

  formed : Formed s.n m
  formed = all-has (Formed s.n) before m a.formed (waited ch co s m rest f).1

  i : Parts s.n m
  i = parts s.n m formed

  -- the records stay, and whoever waited for m is still served
  live_left : (cells : List Cell) (bag : List Message) (places : ℕ) → ((i : ℕ) → i < 1024 * s.n → CellFits s.n (get_or cells i Empty)) → All (Formed s.n) bag → StillWaits after bag
      → places ≡ ch.places s.channel
      → ((p : ℕ) (at : Place) → (of s p).stage ≡ Asking at → (of s p).up ≡ true → leb s.majority (ones (of s p).heard) ≡ false
      → (q : ℕ) → Between m p q at → Reaches bag list p (of s p).heard at q)
      → Live s.n s.majority list cells bag places
  live_left cells bag places kept formed more same serves =
      let room = a.room in
      record {
        room = omega arith;
        formed = formed;
        kept = kept;
        words = a.words;
        asks = λ p l u.
            let c : Controller = of s p in
            asked_map (Reaches before list p c.heard) (Reaches bag list p c.heard) s.n s.majority p c c.stage refl
            (λ at e up waits q v x.
            ⊎_elim (λ (y : Reaches after list p c.heard at q). reaches_more after bag list list p c.heard at q more (λ r d. d) y)
            (λ (y : Between m p q at). serves p at e up waits q y)
            (reaches_left before after list m p c.heard at q left x))
            (a.asks p l u);
      }

  only_echo : m.kind ≡ Echo → (p q : ℕ) (at : Place) → Between m p q at → Mail m Echo q p at
  only_echo kind p q at (inl y) = let w = y.0 in clash (cc)
  only_echo kind p q at (inr y) = y

  -- it is dropped: nobody waits for it
  pub alive_drops : Dropped ch co s m → Alive ch co (with_channel s rest)
  alive_drops why = live_left s.cells after (ch.places rest) a.kept all_formed (λ x h. h) f.places (serves why)
    where
      serves : Dropped ch co s m → (p : ℕ) (at : Place) → (of s p).stage ≡ Asking at → (of s p).up ≡ true → leb s.majority (ones (of s p).heard) ≡ false
          → (q : ℕ) → Between m p q at → Reaches after list p (of s p).heard at q
      serves (unformed no_one) p at e up waits q y = absurd (true≢false (sym formed ∙ no_one))
      serves (down d) p at e up waits q (inl y) = inl (ap (λ r. (of s r).up) (sym y.2) ∙ d)
      serves (down d) p at e up waits q (inr y) = absurd (true≢false (sym up ∙ ap (λ r. (of s r).up) (sym y.2) ∙ d))
      serves (uncounted kind no_one) p at e up waits q y =
          let w = only_echo kind p q at y in
          let here : (of s m.receiver).stage ≡ Asking at = ap (λ r. (of s r).stage) w.2 ∙ e in
          let new : leb s.majority (ones (of s m.receiver).heard) ≡ false = ap (λ r. leb s.majority (ones (of s r).heard)) w.2 ∙ waits in
          ⊎_elim (λ (x : heard_from (of s m.receiver).heard m.sender ≡ true).
          inr (inl (ap (heard_from (of s p).heard) (sym w.1) ∙ ap (λ r. heard_from (of s r).heard m.sender) (sym w.2) ∙ x)))
          (λ (x : heard_from (of s m.receiver).heard m.sender ≡ false). absurd (true≢false (sym (counts_from s.majority (of s m.receiver) at m (sym w.3) new x) ∙ no_one at here)))
          (cases_Bool (heard_from (of s m.receiver).heard m.sender))

  -- a PHASE is answered
  pub alive_keeps : m.kind ≡ Phase → (c : C) → SameBag (echo_of ch (with_channel s rest) m ∷ after) (ch.bag c) → ch.places c ≡ ch.places rest
      → Alive ch co (kept ch (with_channel s rest) m c)
  alive_keeps kind c same places =
      let echo : Message = echo_of ch (with_channel s rest) m in
      let fits = kept_fits s.n s.cells a.kept m.receiver m.place m.word i.receiver_low i.receiver_high i.place i.word in
      let well : Formed s.n echo = well_formed_from s.n echo (record {
        sender_low = i.receiver_low;
        sender_high = i.receiver_high;
        receiver_low = i.sender_low;
        receiver_high = i.sender_high;
        apart = λ e. i.apart (sym e);
        place = i.place;
        word = fits;
      }) in
      live_left (keeping s.cells m.receiver m.place m.word) (ch.bag c) (ch.places c)
      (keeping_fits s.n s.cells a.kept m.receiver m.place m.word i.receiver_low i.receiver_high i.place i.word)
      (all_shuffled (Formed s.n) (echo ∷ after) (ch.bag c) same (well, all_formed))
      (λ x h. has_shuffled (echo ∷ after) (ch.bag c) x same (has_more echo after x h))
      (places ∙ f.places)
      (λ p at e up waits q y.
      ⊎_elim (λ (w : Mail m Phase p q at). inr (inr (inr (echo, has_shuffled (echo ∷ after) (ch.bag c) echo same (0, omega arith, λ d. refl), (refl, w.2, w.1, w.3)))))
      (λ (w : Mail m Echo q p at). let v = w.0 in clash (cc)) y)

  -- an ECHO is heard
  pub alive_hears : m.kind ≡ Echo → (at : Place) → counts s.majority (of s m.receiver) at m ≡ true
      → Alive ch co (with_controller (with_channel s rest) m.receiver (hearing (of s m.receiver) m))
  alive_hears kind at counted =
      let p : ℕ = m.receiver in
      let c : Controller = of s p in
      let list' : List Controller = with_record list p (hearing c m) in
      let few : m.sender ≤ 15 = small s z m.sender i.sender_high in
      let lasts : StillDown list list' = down_same list p (hearing c m) refl in
      live_with s.n s.majority list s.cells s.cells before after (ch.places s.channel) (ch.places rest) p (hearing c m) a f.places i.receiver_low (listed s z p i.receiver_high) all_formed a.kept
      (All-set (Fits s.n) c.words (m.sender - 1) m.word i.word (a.words p))
      (λ q l u o.
      let d : Controller = of s q in
      asked_map (Reaches before list q d.heard) (Reaches after list' q d.heard) s.n s.majority q d d.stage refl
      (λ at e up w r v x.
      ⊎_elim (λ (y : Reaches after list q d.heard at r). reaches_more after after list list' q d.heard at r (λ z h. h) lasts y)
      (λ (y : Between m q r at). absurd (o (sym (only_echo kind q r at y).2)))
      (reaches_left before after list m q d.heard at r left x))
      (a.asks q l u))
      (asked_hearing m.sender i.sender_low few (Reaches before list p c.heard) (Reaches after list' p (hearing c m).heard) s.n s.majority p c (hearing c m) c.stage
      i.receiver_low refl refl (counts_parts s.majority c at m counted)
      (λ at q l x.
      ⊎_elim (λ (y : Reaches after list p c.heard at q).
      reaches_hearing m.sender i.sender_low few after list' p c.heard at q l (reaches_more after after list list' p c.heard at q (λ z h. h) lasts y))
      (λ (y : Between m p q at).
      inr (inl (ap (heard_from (with_heard c.heard m.sender)) (sym (only_echo kind p q at y).1) ∙ now_heard m.sender i.sender_low few c.heard)))
      (reaches_left before after list m p c.heard at q left x))
      (a.asks p i.receiver_low i.receiver_high))
