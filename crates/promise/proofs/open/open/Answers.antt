use Rattle.std.proofs.Common.{[]}
use Rattle.std.proofs.lemmas.Result.{IfOk-weaker}
use Rattle.promise.specs.Runs.{start}
use Rattle.promise.proofs.Kept.{every_run_keeps_the_promise}
use Rattle.promise.proofs.Opened.{opened_fresh}
use Rattle.promise.proofs.open.open.Goals as goal

pub returns : goal.returns
returns g c =
    let ch = g.met.C.Channel in
    let fresh = opened_fresh g.C.Channel g.K.Coins c.args.n c.args.vehicle c.args.supplies c.args.supplies.cells.ok.0 c.open.result c.open.ensures.opens in
    record {
      opens = c.open.ensures.opens;
      sound = c.open.ensures.sound;
      fresh = fresh;
      promise = IfOk-weaker c.open.result _ _ (λ park F. every_run_keeps_the_promise g.C.Channel g.K.Coins ch.gains ch.gives park park [] F start) fresh;
    }
