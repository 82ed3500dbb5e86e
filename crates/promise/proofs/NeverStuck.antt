-- A park that is alive is never stuck.
use Rattle.std.proofs.Common.{◌≡◌, ℕ, suc, ◌-◌, ◌/◌, ◌%◌, ◌^◌, ◌<◌, ◌≤◌, true, false, not, leb, ◌⊎◌, List, [], ◌∷◌, length, is_ok, Some, None, Ok, Option, Result, sym, refl, ap, ◌∙◌, subst, inl, inr, ⊎_elim, arith}
use lib.Count.{ones}
use Rattle.std.specs.List.{ContainsAt as Has}
use Rattle.std.proofs.ByRecursion.{all-has}
use Rattle.std.proofs.lemmas.Bool.{cases_Bool, cases_eq, both_ways, eqb-true, le-ltb, leb-false, cond-true}
use Rattle.channel.specs.declared.channel.Channel as channel
use Rattle.channel.specs.Meaning.{Gives}
use Rattle.coins.specs.declared.Coins as coins
use Rattle.terms.specs.declared.answer.Answer.{Answer}
use Rattle.terms.specs.declared.answer.Progress.{Progress}
use Rattle.terms.specs.declared.answer.Progress.TheVariants as progress
use Rattle.terms.specs.declared.message.Mark.{Mark}
use Rattle.terms.specs.declared.message.Message.{Message}
use Rattle.terms.specs.declared.refusal.Refusal.{Refusal}
use Rattle.terms.specs.declared.refusal.Refusal.TheVariants.{Name, Down, NoPlace}
use Rattle.terms.specs.declared.word.Place.{Place}
use Rattle.terms.specs.Heard.{heard_from, majority_of}
use Rattle.terms.specs.Places.{between, well_formed}
use Rattle.park.specs.declared.controller.Controller.{Controller}
use Rattle.park.specs.declared.controller.Stage.{Stage}
use Rattle.park.specs.declared.controller.Stage.TheVariants.{Uncalled, Asking, Answered}
use Rattle.park.specs.Asks.{Advances, Opens, StepsFrom, progress_from}
use Rattle.park.specs.Controllers.{has_called, ready_at, ready_by, record_of}
use Rattle.park.specs.Messages.{Accepts, DeliversFetched}
use Rattle.park.specs.Refusals.{Unless, name_refusal, too_few_places, when, first}
use Rattle.park.specs.States.{State, of, with_channel}
use Rattle.promise.specs.Promise.{Called, Crashed, Holds, MoreThanHalfUp, EveryDeliveryIsAccepted, StepIsAccepted, NeverStuck}
use Rattle.promise.specs.Runs.{History}
use Rattle.promise.proofs.Alive.{Formed, Reaches, Asked, Alive}
use Rattle.promise.proofs.HeardSets.{ones_more, half_of}
use Rattle.promise.proofs.Mail.{left}
use Rattle.promise.proofs.Outline.{Sized}
use Rattle.promise.proofs.Recorded.{Recorded}
use Rattle.promise.proofs.RefusalsAndLimits.{between_from, clash, if_true}

not_refused : {R S : Type 0} (o : Option Refusal) (s : S) (U : Result R Refusal → S → Type 0) (r : Result R Refusal) (t : S) → o ≡ None → Unless o s U r t → U r t
not_refused None s U r t e x = x
not_refused (Some refusal) s U r t e x = clash (cc)

nothing_in : (m : Message) → Has [] m → ⊥
nothing_in m h = let l = h.1 in omega arith

empty_or_not : (xs : List Message) → (xs ≡ []) ⊎ (0 < length xs)
empty_or_not [] = inl refl
empty_or_not (x ∷ xs) = inr (omega arith)

-- a caller without answer asks somewhere
asks_somewhere : (stage : Stage) → has_called stage ≡ true → ((answer : Answer) → stage ≡ Answered answer → ⊥) → (at : Place) × (stage ≡ Asking at)
asks_somewhere Uncalled e no_answer = absurd (both_ways false refl e)
asks_somewhere (Asking at) e no_answer = (at, refl)
asks_somewhere (Answered answer) e no_answer = absurd (no_answer answer refl)

-- with nothing waiting, every other controller that is up was heard
heard_up : (list : List Controller) (p heard : ℕ) (at : Place) (q : ℕ) → Reaches [] list p heard at q → ((record_of list q).up ≡ false → ⊥) → heard_from heard q ≡ true
heard_up list p heard at q (inl d) up = absurd (up d)
heard_up list p heard at q (inr (inl h)) up = h
heard_up list p heard at q (inr (inr (inl w))) up = absurd (nothing_in w.0 w.1)
heard_up list p heard at q (inr (inr (inr w))) up = absurd (nothing_in w.0 w.1)

module _ {C K : Type 0} (ch : channel.Ghosts C) (co : coins.Ghosts K)
    (gives : (c : C) (pick : ℕ) (got : Option (Message × Mark)) (d : C) → ch.fetches c pick got d → Gives ch.bag ch.places c got d) where
  delivery_is_accepted : (s : State C K) → Alive ch co s → 0 < length (ch.bag s.channel) → EveryDeliveryIsAccepted ch co s
  delivery_is_accepted s a some pick r t d = go d.got (gives s.channel pick d.got d.rest d.fetched) d.does
    where
      go : (got : Option (Message × Mark)) → Gives ch.bag ch.places s.channel got d.rest → DeliversFetched ch s got d.rest r t → is_ok r ≡ true
      go None g x = absurd (let l = ap length g.0 in omega arith)
      go (Some (m, mark)) g x =
          let e : well_formed s.n m ≡ true = all-has (Formed s.n) (ch.bag s.channel) m a.formed (left mark _ _ _ m g.1).1 in
          let y : (r ≡ Ok m.receiver) × Accepts ch (with_channel s d.rest) m t = if_true (well_formed s.n m) _ _ e x in
          ap is_ok y.0

  advance_is_accepted : (s : State C K) (p : ℕ) (goes : Progress) (r : Result Progress Refusal) (t : State C K)
      → too_few_places ch s ≡ false → Advances ch co s p goes r t → is_ok r ≡ true
  advance_is_accepted s p (progress.Opened at w) r t e x =
      let y : (r ≡ Ok (progress.Opened at w)) × Opens ch co s p at w t = not_refused _ s (λ r t. (r ≡ Ok (progress.Opened at w)) × Opens ch co s p at w t) r t (ap (λ b. when b NoPlace) e) x in
      ap is_ok y.0
  advance_is_accepted s p (progress.Answered answer) r t e x = ap is_ok x.0

  step_is_accepted : (s : State C K) (p : ℕ) (at : Place) → name_refusal s p ≡ None → ready_at s.majority (of s p) ≡ Some at → too_few_places ch s ≡ false → StepIsAccepted ch co s p
  step_is_accepted s p at named ready room r t x =
      let y : StepsFrom ch co (ready_at s.majority (of s p)) s p r t = not_refused _ s (StepsFrom ch co (ready_at s.majority (of s p)) s p) r t named x in
      let z : Advances ch co s p (progress_from ch co s p at) r t = subst (λ o. StepsFrom ch co o s p r t) ready y in
      advance_is_accepted s p (progress_from ch co s p at) r t room z

  -- with nothing waiting, an up caller without answer has heard a majority
  has_majority : (h : History) (s : State C K) → Sized s → Alive ch co s → Recorded h s → ch.bag s.channel ≡ [] → MoreThanHalfUp h s.n → (p : ℕ) (at : Place)
      → 1 ≤ p → p ≤ s.n → (of s p).up ≡ true → (of s p).stage ≡ Asking at → leb s.majority (ones (of s p).heard) ≡ true
  has_majority h s sized a rec empty most p at low high up stage =
      ⊎_elim (λ (ready : leb s.majority (ones (of s p).heard) ≡ true). ready)
      (λ (waits : leb s.majority (ones (of s p).heard) ≡ false). absurd (
      let asked : Asked (Reaches (ch.bag s.channel) s.controllers p (of s p).heard) s.n s.majority p (of s p) (Asking at) =
      subst (Asked (Reaches (ch.bag s.channel) s.controllers p (of s p).heard) s.n s.majority p (of s p)) stage (a.asks p low high) in
      let every : (j : ℕ) → j < s.n → most.0 / 2 ^ j % 2 ≡ 1 → (of s p).heard / 2 ^ j % 2 ≡ 1 = λ j l bit. (
      let e : suc j - 1 ≡ j = omega arith in
      let bit' : most.0 / 2 ^ (suc j - 1) % 2 ≡ 1 = ap (λ i. most.0 / 2 ^ i % 2) e ∙ bit in
      let q_up : (of s (suc j)).up ≡ false → ⊥ = λ d. most.3 (suc j) (omega arith) bit' ((rec.crashed (suc j)).1 ((omega arith, omega arith), d)) in
      let heard : heard_from (of s p).heard (suc j) ≡ true =
      ⊎_elim (λ (same : suc j ≡ p). ap (heard_from (of s p).heard) same ∙ asked.0)
      (λ (other : suc j ≡ p → ⊥). heard_up s.controllers p (of s p).heard at (suc j)
      (subst (λ bag. Reaches bag s.controllers p (of s p).heard at (suc j)) empty (asked.1 up waits (suc j) (omega arith) (omega arith) other)) q_up)
      (cases_eq (suc j) p) in
      ap (λ i. (of s p).heard / 2 ^ i % 2) (sym e) ∙ eqb-true _ 1 heard) in
      let more : ones most.0 ≤ ones (of s p).heard = ones_more s.n most.0 (of s p).heard most.1 every in
      let enough : majority_of s.n ≤ ones most.0 = half_of s.n (ones most.0) most.2 in
      let less : ones (of s p).heard < s.majority = leb-false s.majority (ones (of s p).heard) waits in
      let half = sized.majority in
      omega arith))
      (cases_Bool (leb s.majority (ones (of s p).heard)))

  step_of_caller : (h : History) (s : State C K) → Sized s → Alive ch co s → Recorded h s → ch.bag s.channel ≡ [] → MoreThanHalfUp h s.n → (p : ℕ)
      → Called h p → (Crashed h p → ⊥) → ((answer : Answer) → Holds h p answer → ⊥) → StepIsAccepted ch co s p
  step_of_caller h s sized a rec empty most p called uncrashed unanswered =
      let named = (rec.called p).0 called in
      let low : 1 ≤ p = named.0.0 in
      let high : p ≤ s.n = named.0.1 in
      let up : (of s p).up ≡ true = ⊎_elim (λ (u : (of s p).up ≡ true). u) (λ (d : (of s p).up ≡ false). absurd (uncrashed ((rec.crashed p).1 ((low, high), d)))) (cases_Bool (of s p).up) in
      let asks = asks_somewhere (of s p).stage named.1 (λ answer e. unanswered answer ((rec.holds p answer).1 ((low, high), e))) in
      let majority : leb s.majority (ones (of s p).heard) ≡ true = has_majority h s sized a rec empty most p asks.0 low high up asks.1 in
      let ready : ready_at s.majority (of s p) ≡ Some asks.0 = ap (ready_by s.majority (of s p).heard) asks.1 ∙ cond-true _ (Some asks.0) None majority in
      let name : between 1 s.n p ≡ true = between_from 1 s.n p low high in
      let unnamed : name_refusal s p ≡ None = ap (λ b. first (when (not b) Name) (when (not (of s p).up) Down)) name ∙ ap (λ b. when (not b) Down) up in
      let l : length (ch.bag s.channel) ≡ 0 = ap length empty in
      let room = a.room in
      step_is_accepted s p asks.0 unnamed ready (le-ltb _ _ (omega arith))

  pub never_stuck : (h : History) (s : State C K) → Sized s → Alive ch co s → Recorded h s → NeverStuck ch co h s
  never_stuck h s sized a rec most p called uncrashed unanswered =
      ⊎_elim (λ (empty : ch.bag s.channel ≡ []). inr (p, step_of_caller h s sized a rec empty most p called uncrashed unanswered))
      (λ (some : 0 < length (ch.bag s.channel)). inl (delivery_is_accepted s a some))
      (empty_or_not (ch.bag s.channel))
