use Rattle.std.proofs.Common.{◌-◌}
use Rattle.channel.specs.Sends.{SentAll}
use Rattle.park.specs.Asks.{phases}
use Rattle.park.proofs.broadcast.send_to_others.Given as goal

abbrev pub invariant-loop-q : goal.invariant-loop-q
invariant-loop-q g l = SentAll g.C.Channel.sends l.initial.channel (phases (l.q - 1) l.p.number l.place l.word) l.channel
