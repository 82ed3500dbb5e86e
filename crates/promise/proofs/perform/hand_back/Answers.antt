use Rattle.promise.specs.Runs.{handed_back}
use Rattle.promise.proofs.Kept.{event_keeps_the_promise}
use Rattle.promise.proofs.perform.hand_back.Goals as goal

pub returns : goal.returns
returns g c =
    let ch = g.met.C.Channel in
    record { does = c.hand_back.ensures.hands_back; sound = c.hand_back.ensures.sound; promise = event_keeps_the_promise g.C.Channel g.K.Coins ch.gains ch.gives _ _ (handed_back c.args.permit c.hand_back.result) c.hand_back.ensures.hands_back }
