-- A run of three in which controller 1 opens round 4, made act by act: each act is checked and then added to the run.
use Rattle.std.proofs.Common.{◌≡◌, ℕ, zero, suc, Bool, true, false, List, [], ◌∷◌, length, Some, None, Ok, Option, sym, refl, ap, subst, inl, inr, arith}
use lib.Count.{ones, ones_in}
use Rattle.std.proofs.lemmas.List.Sorted.{length_permutation, IsPermutation-cons, IsPermutation-refl, IsPermutation-swap, IsPermutation-trans}
use Rattle.channel.specs.Meaning.{Gives, SameBag}
use Rattle.channel.specs.Sends.{SentAll}
use Rattle.terms.specs.declared.answer.Progress.{Progress}
use Rattle.terms.specs.declared.answer.Progress.TheVariants.{Opened, Answered}
use Rattle.terms.specs.declared.message.Kind.{Kind}
use Rattle.terms.specs.declared.message.Kind.TheVariants.{Phase, Echo}
use Rattle.terms.specs.declared.message.Mark.{Mark}
use Rattle.terms.specs.declared.message.Mark.TheVariants.{Gone}
use Rattle.terms.specs.declared.message.Message.{Message}
use Rattle.terms.specs.declared.refusal.Refusal.{Refusal}
use Rattle.terms.specs.declared.refusal.Refusal.TheVariants as refusals
use Rattle.terms.specs.declared.word.Place.{Place}
use Rattle.terms.specs.declared.word.Side.TheVariants.{Zero}
use Rattle.terms.specs.declared.word.Word.{Word}
use Rattle.terms.specs.Places.{well_formed}
use Rattle.park.specs.Asks.{Advances, StepsFrom, Opens, nameless, opened, opens_selector, phases, progress_from}
use Rattle.park.specs.Controllers.{after_echo, answered, has_called, ready_at}
use Rattle.park.specs.Messages.{If, Takes, echo_of, kept}
use Rattle.park.specs.Refusals.{first, name_refusal, too_few_places, when}
use Rattle.park.specs.States.{State, of, with_channel, with_controller, with_controllers}
use Rattle.terms.specs.declared.act.Act.TheVariants.{Call, Step, Deliver}
use Rattle.promise.specs.declared.act.Outcome.TheVariants.{Advanced, Delivered}
use Rattle.promise.specs.Promise.{OpenedRound}
use Rattle.promise.specs.Runs.{performed, Event, History, Does, Run, start, then}
use Rattle.witness.specs.Piles.{ALongSelectorExists, Pile, pile, put_back, table, taken, three}
use Rattle.witness.proofs.Opened.{opened_over}
use Rattle.witness.proofs.Worked.{unless_none}

abbrev S : Type 0
S = State Pile (Unit {0})

-- ---- tests that hand on what they found

abbrev decided : {A : Type 0} (b : Bool) → (b ≡ true → A) → A → A
decided true so other = so refl
decided false so other = other

abbrev unrefused : {A : Type 0} (o : Option Refusal) → (o ≡ None → A) → A → A
unrefused None so other = so refl
unrefused (Some e) so other = other

abbrev found : {A B : Type 0} (o : Option A) → ((x : A) → o ≡ Some x → B) → B → B
found None so other = other
found (Some x) so other = so x refl

if_true : (A B : Type 0) (b : Bool) → b ≡ true → A → If b A B
if_true A B b e a = subst (λ b. If b A B) (sym e) a

-- ---- sending

abbrev Sendable : List Message → ℕ → List Message → Type 0
Sendable w f ms = (d : Pile) × SentAll pile.sends (record { waiting = w; free = f }) ms d

abbrev one_more : (w : List Message) (f : ℕ) (m : Message) (ms : List Message) → Option (Sendable (m ∷ w) f ms) → Option (Sendable w (suc f) (m ∷ ms))
one_more w f m ms None = None
one_more w f m ms (Some (d, sent)) = Some (d, (record { waiting = m ∷ w; free = f }, (refl, refl), sent))

abbrev send_all : (w : List Message) (f : ℕ) (ms : List Message) → Option (Sendable w f ms)
send_all w f [] = Some (record { waiting = w; free = f }, refl)
send_all w zero (m ∷ ms) = None
send_all w (suc f) (m ∷ ms) = one_more w f m ms (send_all (m ∷ w) f ms)

-- ---- call and step

abbrev ComesTo : S → ℕ → Progress → Type 0
ComesTo s p g = (t : S) × Advances pile table s p g (Ok g) t

abbrev opening : (s : S) (p : ℕ) (at : Place) (w : Word) → when (too_few_places pile s) refusals.NoPlace ≡ None
    → Option (Sendable s.channel.waiting s.channel.free (phases s.n p at w)) → Option (ComesTo s p (Opened at w))
opening s p at w free None = None
opening s p at w free (Some (d, sent)) =
    Some (opened pile table s p at w d, unless_none _ s (λ r t. (r ≡ Ok (Opened at w)) × Opens pile table s p at w t) _ _ free (refl, record { state = refl; sent = sent }))

abbrev advance : (s : S) (p : ℕ) (g : Progress) → Option (ComesTo s p g)
advance s p (Answered answer) = Some (with_controller s p (answered (of s p) answer), (refl, refl))
advance s p (Opened at w) =
    unrefused (when (too_few_places pile s) refusals.NoPlace)
    (λ free. opening s p at w free (send_all s.channel.waiting s.channel.free (phases s.n p at w))) None

-- a run from the three
record Went : Type 0 where
  history : History
  park : S
  run : Run pile table three history park

abbrev going : (x : Went) (e : Event) (u : S) → Does pile table x.park e u → Went
going x e u does = record { history = e ∷ x.history; park = u; run = then x.run e u does }

abbrev call : ℕ → Went → Went
call p x =
    let s : S = x.park in
    let g : Progress = opens_selector pile table s p 1 in
    unrefused (first (name_refusal s p) (when (has_called (of s p).stage) refusals.Called))
    (λ e. found (advance s p g) (λ to q. going x (performed (Call p) (Ok (Advanced g))) to.0 (Ok g, unless_none _ s _ _ _ e to.1, refl)) x) x

abbrev step : ℕ → Went → Went
step p x =
    let s : S = x.park in
    unrefused (name_refusal s p)
    (λ e. found (ready_at s.majority (of s p))
    (λ at ready. found (advance s p (progress_from pile table s p at))
    (λ to q. going x (performed (Step p) (Ok (Advanced (progress_from pile table s p at)))) to.0 (
      Ok (progress_from pile table s p at),
      unless_none _ s _ _ _ e (subst (λ o. StepsFrom pile table o s p (Ok (progress_from pile table s p at)) to.0) (sym ready) to.1),
      refl,
    )) x) x) x

-- ---- deliver

abbrev left : S → List Message → S
left s rest = with_channel s (record { waiting = rest; free = suc s.channel.free })

abbrev takes : (k : Kind) (s : S) (rest : List Message) (m : Message) → (t : S) × Takes pile k (left s rest) m t
takes Phase s rest m = (kept pile (left s rest) m (record { waiting = echo_of pile (left s rest) m ∷ rest; free = s.channel.free }), (refl, (refl, refl)))
takes Echo s rest m = (with_controllers (left s rest) (after_echo s.majority s.controllers m (of s m.receiver).stage), refl)

abbrev deliver : ℕ → Went → Went
deliver pick x =
    let s : S = x.park in
    found (taken pick s.channel.waiting)
    (λ got is. decided (well_formed s.n got.0)
    (λ well. decided (of s got.0.receiver).up
    (λ up. let to = takes got.0.kind s got.1 got.0 in
    going x (performed (Deliver pick) (Ok (Delivered got.0.receiver))) to.0 (
      Ok got.0.receiver,
      record {
        got = Some (got.0, Gone);
        rest = record { waiting = got.1; free = suc s.channel.free };
        fetched = (got.0, is, refl, refl);
        does = if_true _ _ _ well (refl, if_true _ _ _ up to.1);
      },
      refl,
    )) x) x) x

abbrev trip : ℕ → ℕ → Went → Went
trip p pick x = step p (deliver 0 (deliver pick x))

abbrev called : Went
called = call 2 (call 1 (record { history = []; park = three; run = start }))

-- Round 1: the groups differ, so both words of phase 2 are blank, and both go on with their own draws.
abbrev round_2 : Went
round_2 = trip 2 2 (trip 1 2 (trip 2 3 (trip 1 3 called)))

-- Round 2: controller 1 hears both groups and says blank, controller 2 hears its own alone and says it, against the coin.
abbrev round_3 : Went
round_3 = trip 2 3 (trip 1 2 (trip 2 2 (trip 1 3 round_2)))

-- Round 3: the groups differ again, and controller 1 hears blanks alone.
abbrev round_4 : Went
round_4 = trip 1 0 (trip 1 3 round_3)

opened_round_4 : OpenedRound round_4.history 1 1 4
unfolding ones ones_in
opened_round_4 = (nameless Zero, inl (inr refl))

-- ---- the pile is a channel

zero_is_not_one : ◌≡◌ {A = ℕ} 0 1 → ⊥
zero_is_not_one z = omega arith

clash : {A : Type 0} (x : A) → None ≡ Some x → ⊥
clash x e = zero_is_not_one (cc)

joined : (x : Message) (xs : List Message) (y : Message) (ys : List Message) → ◌≡◌ {A = Option (Message × List Message)} (Some (x, xs)) (Some (y, ys)) → x ∷ xs ≡ y ∷ ys
joined x xs y ys e =
    let both : ◌≡◌ {A = Message × List Message} (x, xs) (y, ys) = cc in
    ap (λ (q : Message × List Message). q.0 ∷ q.1) both

-- what was taken, put before the others, is the pile rearranged
behind : (x : Message) (xs : List Message) (o : Option (Message × List Message)) (m : Message) (rest : List Message)
    → ((y : Message) (ys : List Message) → o ≡ Some (y, ys) → SameBag xs (y ∷ ys)) → put_back x o ≡ Some (m, rest) → SameBag (x ∷ xs) (m ∷ rest)
behind x xs None m rest h e = absurd (clash _ e)
behind x xs (Some (y, ys)) m rest h e =
    subst (SameBag (x ∷ xs)) (joined y (x ∷ ys) m rest e)
    (IsPermutation-trans _ _ _ (IsPermutation-cons x xs (y ∷ ys) (h y ys refl)) (IsPermutation-swap (x ∷ y ∷ ys) (y ∷ x ∷ ys) 0 1 (omega arith) (omega arith) refl))

taken_is : (i : ℕ) (w : List Message) (m : Message) (rest : List Message) → taken i w ≡ Some (m, rest) → SameBag w (m ∷ rest)
taken_is i [] m rest e = absurd (clash _ e)
taken_is zero (x ∷ xs) m rest e = subst (SameBag (x ∷ xs)) (joined x xs m rest e) (IsPermutation-refl (x ∷ xs))
taken_is (suc i) (x ∷ xs) m rest e = behind x xs (taken i xs) m rest (λ y ys q. taken_is i xs y ys q) e

pile_gives : (c : Pile) (pick : ℕ) (got : Option (Message × Mark)) (d : Pile) → pile.fetches c pick got d → Gives pile.bag pile.places c got d
pile_gives c pick got d (m, is, gave, free) =
    let all : SameBag c.waiting (m ∷ d.waiting) = taken_is pick c.waiting m d.waiting is in
    let long : length (m ∷ d.waiting) ≡ length c.waiting = length_permutation _ _ all in
    subst (λ got. Gives pile.bag pile.places c got d) (sym gave) (omega arith, all, omega arith)

pile_gains : (c : Pile) (m : Message) (d : Pile) → pile.sends c m d → SameBag (m ∷ c.waiting) d.waiting × (pile.places d ≡ pile.places c)
pile_gains c m d (free, is) =
    let long : length d.waiting ≡ length (m ∷ c.waiting) = ap length is in
    (subst (SameBag (m ∷ c.waiting)) (sym is) (IsPermutation-refl (m ∷ c.waiting)), omega arith)

pub a_long_selector_exists_lem : ALongSelectorExists
a_long_selector_exists_lem = record {
  channel = record { bounded = λ c. omega arith; gains = pile_gains; gives = pile_gives };
  fresh = (opened_over pile table three.channel tt 3 0 refl (omega arith) (omega arith) (omega arith)).fresh;
  history = round_4.history;
  park = round_4.park;
  run = round_4.run;
  opened = opened_round_4;
}
