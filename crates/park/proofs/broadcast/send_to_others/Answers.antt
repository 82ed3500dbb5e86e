use Rattle.std.proofs.Common.{◌≡◌, ℕ, ◌-◌, ◌+◌, rules, subst, arith}
use Rattle.channel.specs.Sends.{SentAll}
use Rattle.park.specs.Asks.{phases}
use Rattle.park.proofs.Phases.{place_free, sent_self, sent_other}
use Rattle.park.proofs.broadcast.send_to_others.Goals as goal
use Rattle.park.proofs.broadcast.send_to_others.Goals.{then-q-p, else-q-p}

-- The branches are split in two answers, since each goal has a type of its own for what led to it.
pub loop-q-preserved : goal.loop-q-preserved
loop-q-preserved g c =
    let q = c.loop-q.q in
    let p = c.args.p.number in
    let at = c.args.place in
    let w = c.args.word in
    let ch = g.C.Channel in
    let first = c.args.channel.now in
    let now = c.loop-q.channel in
    let next : q ≡ q + 1 - 1 = omega arith in
    subst (λ (i : ℕ). SentAll ch.sends first (phases i p at w) c.if-q-p.channel) next
    (elim c.if-q-p.branch [
      | then-q-p b ↦ sent_other p at w ch.sends ch.bag ch.places g.met.C.Channel.gains c.args.n q first now c.args.p.named.0 c.requires.name c.loop-q.auto.q c.loop-q-test.true b.if-q-p.true c.requires.free c.loop-q.invariant b.send.new.self _ (λ free. (b.send.ensures.accepted free).1) b.channel-is
      | else-q-p b ↦ sent_self p at w ch.sends ch.bag ch.places g.met.C.Channel.gains q first now _ c.loop-q.auto.q b.if-q-p.false c.loop-q.invariant b.channel-is
    ])

pub returns-after-q-p : goal.returns-after-q-p
returns-after-q-p g c =
    let q = c.loop-q.q in
    let p = c.args.p.number in
    let at = c.args.place in
    let w = c.args.word in
    let ch = g.C.Channel in
    let first = c.args.channel.now in
    let now = c.loop-q.channel in
    let last : q ≡ c.args.n = search rules in
    subst (λ (i : ℕ). SentAll ch.sends first (phases i p at w) c.if-q-p.channel) last
    (elim c.if-q-p.branch [
      | then-q-p b ↦ sent_other p at w ch.sends ch.bag ch.places g.met.C.Channel.gains c.args.n q first now c.args.p.named.0 c.requires.name c.loop-q.auto.q c.loop-q-test.true b.if-q-p.true c.requires.free c.loop-q.invariant b.send.new.self _ (λ free. (b.send.ensures.accepted free).1) b.channel-is
      | else-q-p b ↦ sent_self p at w ch.sends ch.bag ch.places g.met.C.Channel.gains q first now _ c.loop-q.auto.q b.if-q-p.false c.loop-q.invariant b.channel-is
    ])

pub unwrap-requires : goal.unwrap-requires
unwrap-requires g c =
    let ch = g.C.Channel in
    let free = place_free c.args.p.number c.args.place c.args.word ch.sends ch.bag ch.places g.met.C.Channel.gains c.args.n c.loop-q.q c.args.channel.now c.loop-q.channel c.args.p.named.0 c.requires.name c.loop-q.auto.q c.loop-q-test.true c.if-q-p.true c.requires.free c.loop-q.invariant in
    (c.send.ensures.accepted free).0
