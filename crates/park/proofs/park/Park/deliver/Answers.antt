use Rattle.std.proofs.Common.{rules}
use Rattle.park.proofs.Received.{delivered, left_by}
use Rattle.park.proofs.park.Park.deliver.Goals as goal

pub returns-in_default-clause-delivers : goal.returns-in_default-clause-delivers
returns-in_default-clause-delivers g c = delivered g.C.Channel c.self.view_is c.fetch.ensures (search rules)

pub returns-then-not-is_well_formed-clause-delivers : goal.returns-then-not-is_well_formed-clause-delivers
returns-then-not-is_well_formed-clause-delivers g c = delivered g.C.Channel c.self.view_is c.fetch.ensures (search rules)

pub accept-requires-clause-free : goal.accept-requires-clause-free
accept-requires-clause-free g c is_phase =
    let ch = g.C.Channel in
    let left = left_by ch.bag ch.places c.self.inside.channel c.fetch.new.self c.fetch.result (g.met.C.Channel.bounded _) (g.met.C.Channel.gives _ _ _ _ c.fetch.ensures) in
    search rules

pub returns-clause-delivers : goal.returns-clause-delivers
returns-clause-delivers g c = delivered g.C.Channel c.self.view_is c.fetch.ensures (search rules)
