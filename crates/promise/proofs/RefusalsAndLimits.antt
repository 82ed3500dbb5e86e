-- What no refusal means, and the limits on names, places and messages by their parts.
use Rattle.std.proofs.Common.{◌≡◌, ℕ, ◌≤◌, Bool, true, false, not, eqb, ◌⊎◌, Some, None, Err, Option, Result, refl, ap, inl, inr, arith}
use Rattle.std.proofs.lemmas.Bool.{and_parts, and_from, both_ways, eqb-false, le-leb, leb-true, ne_eqb, not-false, not-true}
use Rattle.terms.specs.declared.message.Message.{Message}
use Rattle.terms.specs.declared.refusal.Refusal.{Refusal}
use Rattle.terms.specs.declared.word.Place.{Place}
use Rattle.terms.specs.Places.{between, name_fits, well_formed, within}
use Rattle.park.specs.Messages.{If}
use Rattle.park.specs.Refusals.{Unless, first, is_down, name_refusal, no_such_name, when}
use Rattle.park.specs.States.{State}

-- two constructors are not one
pub clash : {A : Type 0} → ◌≡◌ {A = ℕ} 0 1 → A
clash e = absurd (omega arith)

-- ---- refusals

pub when_none : (b : Bool) (e : Refusal) → when b e ≡ None → b ≡ false
when_none true e h = clash (cc)
when_none false e h = refl

pub first_none : (a b : Option Refusal) → first a b ≡ None → (a ≡ None) × (b ≡ None)
first_none None b h = (refl, h)
first_none (Some e) b h = clash (cc)

-- an act was refused and changed nothing, or no refusal applied
pub unless_cases : {R S : Type 0} (o : Option Refusal) (s : S) (U : Result R Refusal → S → Type 0) (r : Result R Refusal) (t : S) → Unless o s U r t
    → ((e : Refusal) × (r ≡ Err e) × (t ≡ s)) ⊎ ((o ≡ None) × U r t)
unless_cases (Some e) s U r t h = inl (e, h.0, h.1)
unless_cases None s U r t h = inr (refl, h)

pub if_cases : (b : Bool) (A B : Type 0) → If b A B → ((b ≡ true) × A) ⊎ ((b ≡ false) × B)
if_cases true A B h = inl (refl, h)
if_cases false A B h = inr (refl, h)

pub if_true : (b : Bool) (A B : Type 0) → b ≡ true → If b A B → A
if_true true A B e h = h
if_true false A B e h = absurd (both_ways false refl e)

-- ---- names

pub between_tells : (low high i : ℕ) → between low high i ≡ true → (low ≤ i) × (i ≤ high)
between_tells low high i e = let h = and_parts _ _ e in (leb-true low i h.0, leb-true i high h.1)

pub between_from : (low high i : ℕ) → low ≤ i → i ≤ high → between low high i ≡ true
between_from low high i a b = and_from _ _ (le-leb low i a) (le-leb i high b)

abbrev pub Named : {C K : Type 0} → State C K → ℕ → Type 0
Named s p = (1 ≤ p) × (p ≤ s.n)

pub named : {C K : Type 0} (s : State C K) (p : ℕ) → name_refusal s p ≡ None → Named s p
named s p e = between_tells 1 s.n p (not-false _ (when_none (no_such_name s p) _ (first_none _ (when (is_down s p) _) e).0))

-- ---- places

pub record Limits (at : Place) : Type 0 where
  pub selector_low : 1 ≤ at.selector
  pub selector_high : at.selector ≤ 16
  pub round_low : 1 ≤ at.round
  pub round_high : at.round ≤ 16
  pub phase_low : 1 ≤ at.phase
  pub phase_high : at.phase ≤ 2

pub limits : (at : Place) → within at ≡ true → Limits at
limits at e =
    let h = and_parts _ _ e in
    let i = and_parts _ _ h.1 in
    let k = between_tells 1 16 at.selector h.0 in
    let r = between_tells 1 16 at.round i.0 in
    let x = between_tells 1 2 at.phase i.1 in
    record { selector_low = k.0; selector_high = k.1; round_low = r.0; round_high = r.1; phase_low = x.0; phase_high = x.1 }

pub within_from : (at : Place) → Limits at → within at ≡ true
within_from at l =
    and_from _ _ (between_from 1 16 at.selector l.selector_low l.selector_high)
    (and_from _ _ (between_from 1 16 at.round l.round_low l.round_high) (between_from 1 2 at.phase l.phase_low l.phase_high))

-- ---- well-formed messages

pub record Parts (n : ℕ) (m : Message) : Type 0 where
  pub sender_low : 1 ≤ m.sender
  pub sender_high : m.sender ≤ n
  pub receiver_low : 1 ≤ m.receiver
  pub receiver_high : m.receiver ≤ n
  pub apart : m.receiver ≡ m.sender → ⊥
  pub place : within m.place ≡ true
  pub word : name_fits n m.word.name ≡ true

pub parts : (n : ℕ) (m : Message) → well_formed n m ≡ true → Parts n m
parts n m e =
    let a = and_parts (between 1 n m.sender) _ e in
    let b = and_parts (between 1 n m.receiver) _ a.1 in
    let c = and_parts (not (eqb m.receiver m.sender)) _ b.1 in
    let d = and_parts (within m.place) _ c.1 in
    let x = between_tells 1 n m.sender a.0 in
    let y = between_tells 1 n m.receiver b.0 in
    record { sender_low = x.0; sender_high = x.1; receiver_low = y.0; receiver_high = y.1; apart = eqb-false _ _ (not-true _ c.0); place = d.0; word = d.1 }

pub well_formed_from : (n : ℕ) (m : Message) → Parts n m → well_formed n m ≡ true
well_formed_from n m a =
    and_from (between 1 n m.sender) _ (between_from 1 n m.sender a.sender_low a.sender_high)
    (and_from (between 1 n m.receiver) _ (between_from 1 n m.receiver a.receiver_low a.receiver_high)
    (and_from (not (eqb m.receiver m.sender)) _ (ap not (ne_eqb m.receiver m.sender a.apart)) (and_from (within m.place) _ a.place a.word)))
