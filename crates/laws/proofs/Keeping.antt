-- What every park in outline that acts lead to keeps: the invariant, the three laws, and what the pages and the mail hold.
use Rattle.std.proofs.Common.{◌≡◌, ℕ, ◌+◌, ◌≤◌, ◌⊎◌, Some}
use Rattle.std.specs.List.{ContainsAt as Has}
use Rattle.terms.specs.declared.answer.Answer.TheVariants.{Yes, No}
use Rattle.terms.specs.declared.message.Kind.TheVariants.{Phase, Echo}
use Rattle.terms.specs.declared.message.Message.{Message}
use Rattle.terms.specs.declared.word.Word.{Word}
use Rattle.laws.specs.Rules.{other}
use Rattle.laws.specs.Outlines.{idle, Outline, Tables, Act}
use Rattle.laws.specs.Pages.{pages}
pub use Rattle.laws.specs.Pages.{answer_in}
use Rattle.laws.proofs.Coin as coin
pub use Rattle.laws.proofs.Invariant.{Inv, TrueMail, fresh_keeps, act_keeps}
use Rattle.laws.proofs.Invariant.{act_step}
pub use Rattle.laws.proofs.Lawful.{caller_spoke, idle_silent}
use Rattle.laws.proofs.Lawful.{grounded, carried}
use Rattle.laws.proofs.Obligation as obligation
use Rattle.laws.proofs.Safety as safety

module _ (c : Tables) (n : ℕ) where
  pub said_grows : {s t : Outline} → Inv c n s → Act c n s t → (p k r x : ℕ) (w : Word) → s.said p k r x ≡ Some w → t.said p k r x ≡ Some w
  said_grows I a = (act_step c n I a).grows.said

  module _ (s : Outline) (I : Inv c n s) where
    pub one_yes : (p q : ℕ) → answer_in (s.stage p) ≡ Some Yes → answer_in (s.stage q) ≡ Some Yes → p ≡ q
    one_yes = safety.one_yes n (pages c s) (grounded c n s I)

    pub coin_opposed : (p k r : ℕ) (w : Word) → 2 ≤ r → s.said p k (r + 2) 1 ≡ Some w
        → (q : ℕ) × (v : Word) × (s.said q k r 2 ≡ Some v) × (v.group ≡ Some (other (c.coin k r)))
    coin_opposed = coin.coin_opposed n (pages c s) (grounded c n s I)

    pub somebody_wins : (p : ℕ) → ¬ (s.stage p ≡ idle)
        → ((q : ℕ) → ¬ (s.stage q ≡ idle) → (answer_in (s.stage q) ≡ Some Yes) ⊎ (answer_in (s.stage q) ≡ Some No))
        → (q : ℕ) × (answer_in (s.stage q) ≡ Some Yes)
    somebody_wins p called all =
        let w = caller_spoke c n s I p called in
        obligation.somebody_wins n (pages c s) (grounded c n s I) (carried c n s I) p w.0 w.1 (λ q v h. all q (λ e. idle_silent c n s I q 1 1 1 v e h))

    pub said_within : (p k r x : ℕ) (w : Word) → s.said p k r x ≡ Some w
        → (1 ≤ p) × (p ≤ n) × (1 ≤ k) × (k ≤ 16) × (1 ≤ r) × (r ≤ 16) × (1 ≤ x) × (x ≤ 2)
    said_within = I.bounds

    pub kept_was_said : (q k r x : ℕ) (w : Word) → s.kept q k r x ≡ Some w → (p : ℕ) × (s.said p k r x ≡ Some w)
    kept_was_said = I.kept_said

    -- a waiting PHASE carries what its sender said there, a waiting ECHO what its sender kept there
    pub mail_is_true : (m : Message) → Has s.mail m
        → (m.kind ≡ Phase → s.said m.sender m.place.selector m.place.round m.place.phase ≡ Some m.word)
        × (m.kind ≡ Echo → s.kept m.sender m.place.selector m.place.round m.place.phase ≡ Some m.word)
    mail_is_true = I.true_mail
