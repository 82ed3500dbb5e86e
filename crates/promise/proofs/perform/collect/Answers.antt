use Rattle.promise.specs.Runs.{collected}
use Rattle.promise.proofs.Kept.{event_keeps_the_promise}
use Rattle.promise.proofs.perform.collect.Goals as goal

pub returns : goal.returns
returns g c =
    let ch = g.met.C.Channel in
    record { does = c.collect.ensures.collects; sound = c.collect.ensures.sound; promise = event_keeps_the_promise g.C.Channel g.K.Coins ch.gains ch.gives _ _ (collected c.args.p c.collect.result) c.collect.ensures.collects }
