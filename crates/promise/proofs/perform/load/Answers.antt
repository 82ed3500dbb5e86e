use Rattle.promise.specs.Runs.{loaded}
use Rattle.promise.proofs.Kept.{event_keeps_the_promise}
use Rattle.promise.proofs.perform.load.Goals as goal

pub returns : goal.returns
returns g c =
    let ch = g.met.C.Channel in
    record { does = c.load.ensures.loads; sound = c.load.ensures.sound; promise = event_keeps_the_promise g.C.Channel g.K.Coins ch.gains ch.gives _ _ (loaded c.args.permit c.load.result) c.load.ensures.loads }
