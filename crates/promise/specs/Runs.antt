-- Runs: any list of acts on the park that one accepted opening made, with their results.
use Rattle.std.specs.Prelude.{◌≡◌, ℕ, List, [], ◌∷◌, length, None, Result}
use Rattle.channel.specs.declared.channel.Channel as channel
use Rattle.coins.specs.declared.Coins as coins
use Rattle.permit.specs.Acts.{Loads, Dispatches, HandsBack}
use Rattle.permit.specs.declared.acts.Returned.{Returned}
use Rattle.permit.specs.Permits.{HeldPermit, LoadedPermit}
use Rattle.terms.specs.declared.refusal.Refusal.{Refusal}
use Rattle.terms.specs.declared.word.Cell.{Cell}
use Rattle.park.specs.declared.collected.Collected.{Collected}
use Rattle.park.specs.Opening.{open_refusal, fresh}
use Rattle.park.specs.Permits.{Collects, AtDesk}
use Rattle.park.specs.States.{Block, State}
use Rattle.terms.specs.declared.act.Act.{Act}
use Rattle.promise.specs.declared.act.Outcome.{Outcome}
use Rattle.promise.specs.Performs.{Performs}

-- An act with its result, accepted or refused: call, step, crash and deliver are performed, the others are on permits.
pub data Event : Type 0 where
  performed : Act → Result Outcome Refusal → Event
  collected : ℕ → Result Collected Refusal → Event
  loaded : HeldPermit → Result LoadedPermit (Returned HeldPermit) → Event
  dispatched : LoadedPermit → Result (Unit {0}) (Returned LoadedPermit) → Event
  handed_back : HeldPermit → Result (Unit {0}) (Returned HeldPermit) → Event

-- what happened so far, the newest first
abbrev pub History : Type 0
History = List Event

module _ {C K : Type 0} (ch : channel.Ghosts C) (co : coins.Ghosts K) where
  -- the park before and after one act: the relation of the act's own contract
  abbrev pub Does : State C K → Event → State C K → Type 0
  Does s (performed act r) t = Performs ch co s act r t
  Does s (collected p r) t = Collects s p r t
  Does s (loaded permit r) t = AtDesk (λ desk. Loads desk permit) s r t
  Does s (dispatched permit r) t = AtDesk (λ desk. Dispatches desk permit) s r t
  Does s (handed_back permit r) t = AtDesk (λ desk. HandsBack desk permit) s r t

  pub data Run (s : State C K) : History → State C K → Type 0 where
    start : Run s [] s
    then : {h : History} {t : State C K} → Run s h t → (e : Event) (u : State C K) → Does t e u → Run s (e ∷ h) u

  -- just opened, over any memory, channel and coins
  pub record Fresh (s : State C K) : Type 0 where
    pub n : ℕ
    pub vehicle : ℕ
    pub cells : List Cell
    pub block : Block
    pub channel : C
    pub coins : K
    pub accepted : open_refusal ch n (length cells) channel ≡ None
    pub is : s ≡ fresh n vehicle cells block channel coins
