use Rattle.promise.specs.Runs.{dispatched}
use Rattle.promise.proofs.Kept.{event_keeps_the_promise}
use Rattle.promise.proofs.perform.dispatch.Goals as goal

pub returns : goal.returns
returns g c =
    let ch = g.met.C.Channel in
    record { does = c.dispatch.ensures.dispatches; sound = c.dispatch.ensures.sound; promise = event_keeps_the_promise g.C.Channel g.K.Coins ch.gains ch.gives _ _ (dispatched c.args.permit c.dispatch.result) c.dispatch.ensures.dispatches }
