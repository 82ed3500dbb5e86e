use Rattle.std.proofs.Common.{◌≡◌, ℕ, ◌≤◌, min, List, Option, ap, ◌∙◌, arith}
use Rattle.terms.specs.declared.word.Side.{Side}
use Rattle.terms.specs.declared.word.Word.{Word}
use Rattle.terms.specs.Heard.{heard_entries, heard_groups}
use Rattle.park.specs.declared.controller.Controller.{Controller}
use Rattle.park.specs.Asks.{progress_after}
use Rattle.park.specs.States.{State, of}
use Rattle.park.proofs.park.Park.progress.Goals as goal

-- of at most 15 controllers, what was heard of this record
heard_is : {A : Type 0} (entry : Word → A) (m n : ℕ) (c d : Controller) → m ≡ n → m ≤ 15 → c ≡ d
    → heard_entries entry (min m 15) c.heard c.words ≡ heard_entries entry n d.heard d.words
heard_is entry m n c d i few e =
    let k : min m 15 ≡ n = omega arith in
    ap (λ k. heard_entries entry k c.heard c.words) k ∙ ap (λ (r : Controller). heard_entries entry n r.heard r.words) e

pub returns : goal.returns
returns g c =
    let s = c.args.self.now in
    let p = c.args.p.number in
    let at = c.args.at.place in
    let few = c.self.inside.head.count.1 in
    let count = ap (λ (t : State _ _). t.n) c.self.view_is in
    let heard = c.collect_heard-heard.ensures in
    let lent = c.as_heard in
    let same = c.get-c.ensures.value ∙ ap (λ (t : State _ _). of t p) c.self.view_is in
    let gs = lent.ensures.groups ∙ heard.groups ∙ heard_is (λ w. w.group) c.self.inside.head.n s.n _ (of s p) count few same in
    let ns = lent.ensures.names ∙ heard.names ∙ heard_is (λ w. w.name) c.self.inside.head.n s.n _ (of s p) count few same in
    c.progress_by.ensures ∙ ap (λ (l : List (Option Side)). progress_after g.C.Channel g.K.Coins s p l lent.result.names.now at) gs
    ∙ ap (λ (l : List (Option ℕ)). progress_after g.C.Channel g.K.Coins s p (heard_groups s.n (of s p).heard (of s p).words) l at) ns
