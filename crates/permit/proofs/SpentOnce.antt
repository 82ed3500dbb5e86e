-- In every run the stage of the desk tells how often the permit was given, loaded, dispatched and handed back.
use Rattle.std.proofs.Common.{◌≡◌, ℕ, ◌+◌, cond, List, ◌∷◌, refl, arith}
use Rattle.permit.specs.declared.desk.Desk.{Desk}
use Rattle.permit.specs.declared.desk.PermitStage.{PermitStage}
use Rattle.permit.specs.declared.desk.PermitStage.TheVariants.{NotGiven, Held, Loaded, Dispatched, HandedBack}
use Rattle.permit.specs.Acts.{new_desk, same_stage}
use Rattle.permit.specs.Runs.{Act, give, load, dispatch, hand_back, Does, Run, start, then, times, EveryRunSpendsOnce}

-- 1 for the stage itself
abbrev here : PermitStage → PermitStage → ℕ
here x stage = cond (same_stage x stage) 1 0

-- how often x was reached on the way to a stage
abbrev passed : PermitStage → PermitStage → ℕ
passed x NotGiven = 0
passed x Held = here x Held
passed x Loaded = here x Loaded + here x Held
passed x Dispatched = here x Dispatched + (here x Loaded + here x Held)
passed x HandedBack = here x HandedBack + here x Held

abbrev Told : Desk → List Act → Type 0
Told desk acts = (x : PermitStage) → times x acts ≡ passed x desk.stage

-- an accepted act goes to the next stage from the one before it, so that the next one is reached once more; a refused one goes nowhere
kept : (act : Act) (desk after : Desk) (acts : List Act) → Does desk act after → Told desk acts → Told after (act ∷ acts)
kept (give r) desk after acts does told x = let t = told x in grind arith
kept (load permit r) desk after acts does told x = let t = told x in grind arith
kept (dispatch permit r) desk after acts does told x = let t = told x in grind arith
kept (hand_back permit r) desk after acts does told x = let t = told x in grind arith

told_in : (v : ℕ) (acts : List Act) (desk : Desk) → Run (new_desk v) acts desk → Told desk acts
told_in v acts desk start x = refl
told_in v acts desk (then {acts = before} {desk = old} run act after does) x = kept act old after before does (told_in v before old run) x

pub every_run_spends_once : (v : ℕ) → EveryRunSpendsOnce (new_desk v)
every_run_spends_once v acts desk run =
    let t = told_in v acts desk run in
    record {
      given_at_most_once = grind (arith, t Held);
      loaded_or_handed_back = grind (arith, t Held, t Loaded, t HandedBack);
      dispatched_or_handed_back = grind (arith, t Held, t Dispatched, t HandedBack);
      dispatched_only_when_loaded = grind (arith, t Dispatched, t Loaded);
    }
