-- Every event leaves a park alive.
use Rattle.std.proofs.Common.{◌≡◌, ℕ, false, List, ◌∷◌, sym, refl, subst}
use Rattle.std.proofs.lemmas.Bool.{both_ways}
use Rattle.channel.specs.declared.channel.Channel as channel
use Rattle.channel.specs.Meaning.{SameBag}
use Rattle.coins.specs.declared.Coins as coins
use Rattle.terms.specs.declared.message.Message.{Message}
use Rattle.terms.specs.declared.word.Place.{Place}
use Rattle.park.specs.declared.controller.Controller.{Controller}
use Rattle.park.specs.declared.controller.Stage.{Stage}
use Rattle.park.specs.declared.controller.Stage.TheVariants.{Uncalled, Asking, Answered}
use Rattle.park.specs.Controllers.{taken_down, with_record}
use Rattle.park.specs.Messages.{echo_of}
use Rattle.park.specs.States.{State, of, with_channel, with_controller}
use Rattle.promise.specs.Runs.{Event}
use Rattle.promise.proofs.Alive.{Alive, Asked, Reaches}
use Rattle.promise.proofs.AliveDelivery.{alive_drops, alive_hears, alive_keeps}
use Rattle.promise.proofs.AliveOpening.{alive_advances}
use Rattle.promise.proofs.AliveWrites.{asks_more, down_more, live_with}
use Rattle.promise.proofs.Changes.{Change, stays, advances, keeps, hears, same, drops, crashes}
use Rattle.promise.proofs.Outline.{Sized, listed}
use Rattle.promise.proofs.RefusalsAndLimits.{Named}

-- who is down waits for nobody
asked_down : (R R' : Place → ℕ → Type 0) (n majority p : ℕ) (c : Controller) (stage : Stage) → Asked R n majority p c stage → Asked R' n majority p (taken_down c) stage
asked_down R R' n majority p c Uncalled x = tt
asked_down R R' n majority p c (Answered answer) x = tt
asked_down R R' n majority p c (Asking at) x = (x.0, λ up. absurd (both_ways false refl up))

module _ {C K : Type 0} (ch : channel.Ghosts C) (co : coins.Ghosts K) where
  alive_crashes : (s : State C K) → Sized s → Alive ch co s → (p : ℕ) → Named s p → Alive ch co (with_controller s p (taken_down (of s p)))
  alive_crashes s z a p n =
      let bag : List Message = ch.bag s.channel in
      let c : Controller = taken_down (of s p) in
      let list : List Controller = with_record s.controllers p c in
      live_with s.n s.majority s.controllers s.cells s.cells bag bag (ch.places s.channel) (ch.places s.channel) p c a refl n.0 (listed s z p n.1) a.formed a.kept (a.words p)
      (λ q l u o. asks_more s.n s.majority bag bag s.controllers list q (of s q) (λ m h. h) (down_more s.controllers p c refl) (a.asks q l u))
      (asked_down (Reaches bag s.controllers p (of s p).heard) (Reaches bag list p (of s p).heard) s.n s.majority p (of s p) (of s p).stage (a.asks p n.0 n.1))

  pub change_alive : ((c : C) (m : Message) (d : C) → ch.sends c m d → SameBag (m ∷ ch.bag c) (ch.bag d) × (ch.places d ≡ ch.places c))
      → (s t : State C K) (e : Event) → Sized s → Alive ch co s → Change ch co s e t → Alive ch co t
  change_alive gains s t e z a (stays (same q desk k h)) = subst (Alive ch co) (sym h) a
  change_alive gains s t e z a (stays (drops q m rest f why h)) = subst (Alive ch co) (sym h) (alive_drops ch co s z a m rest f why)
  change_alive gains s t e z a (stays (crashes p q n h)) = subst (Alive ch co) (sym h) (alive_crashes s z a p n)
  change_alive gains s t e z a (advances p g n why h) = alive_advances ch co gains s z a p n e g t why h
  change_alive gains s t e z a (keeps q m rest f ok kind h sent) =
      let g = gains rest (echo_of ch (with_channel s rest) m) t.channel sent in
      subst (Alive ch co) (sym h) (alive_keeps ch co s z a m rest f kind t.channel g.0 g.1)
  change_alive gains s t e z a (hears q m rest at f ok kind st c h) = subst (Alive ch co) (sym h) (alive_hears ch co s z a m rest f kind at c)
