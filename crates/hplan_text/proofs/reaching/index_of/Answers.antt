use Rattle.std.proofs.Common.{ℕ, Vec, Global, ◌+◌, sym, subst, ap}
use Rattle.hplan_text.proofs.Indexed.{IsIndexTo, index-same, index-more}
use Rattle.hplan_text.proofs.reaching.index_of.Goals as goal
use Rattle.hplan_text.proofs.reaching.index_of.Goals.{in-Some, in_default}

pub loop-i-preserved : goal.loop-i-preserved
loop-i-preserved c =
    let ids = c.args.ids.now in
    let nodes = c.args.nodes.now in
    let d = c.index-nodes-i.result in
    elim c.match-place_of.branch [
      | in-Some w ↦ (let p = w.in-Some.ensures in
          index-more ids nodes c.loop-i.i d c.loop-i-test.true c.loop-i.index.items c.loop-i.invariant w.in-Some.place p.0 p.1 c.requires.rises c.match-place_of.index.items (ap (λ (v : Vec ℕ Global). v.items) w.index-is))
      | in_default w ↦ subst (IsIndexTo ids nodes (c.loop-i.i + 1)) (sym (ap (λ (v : Vec ℕ Global). v.items) w.index-is)) (index-same ids nodes c.loop-i.i d c.loop-i-test.true c.loop-i.index.items c.loop-i.invariant w.in_default.ensures)
    ]
