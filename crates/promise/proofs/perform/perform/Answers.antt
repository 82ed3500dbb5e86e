use Rattle.promise.specs.Runs.{performed}
use Rattle.promise.proofs.Kept.{event_keeps_the_promise, every_run_keeps_the_promise}
use Rattle.promise.proofs.perform.perform.Goals as goal

pub returns : goal.returns
returns g c =
    let ch = g.met.C.Channel in
    record {
      does = c.act_on.ensures.does;
      sound = c.act_on.ensures.sound;
      promise = event_keeps_the_promise g.C.Channel g.K.Coins ch.gains ch.gives _ _ (performed c.args.act c.act_on.result) c.act_on.ensures.does;
      every_run = every_run_keeps_the_promise g.C.Channel g.K.Coins ch.gains ch.gives;
    }
