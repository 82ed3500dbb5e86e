-- The words for each stage of a permit.
use Rattle.std.specs.Prelude.{ℕ, List, codes}
use Rattle.permit.specs.declared.desk.PermitStage.{PermitStage}
use Rattle.permit.specs.declared.desk.PermitStage.TheVariants.{NotGiven, Held, Loaded, Dispatched, HandedBack}

abbrev pub stage_text : PermitStage → List ℕ
stage_text NotGiven = codes "not given"
stage_text Held = codes "held"
stage_text Loaded = codes "loaded"
stage_text Dispatched = codes "dispatched"
stage_text HandedBack = codes "handed back"
