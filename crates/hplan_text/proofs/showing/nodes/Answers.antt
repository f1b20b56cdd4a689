use Rattle.std.proofs.Common.{drop, [], append-nil, sym, subst}
use Rattle.hplan_text.specs.Showing.{AreNodesAt}
use Rattle.std.proofs.Math.ListN.{drop_of_length-le}
use Rattle.hplan_text.proofs.showing.nodes.Goals as goal

pub returns : goal.returns
returns c =
    let none = drop_of_length-le c.args.places.now c.loop-id-test.false in
    subst (λ ns. AreNodesAt c.args.c.now c.args.tree.now c.args.ids.now c.args.first (drop c.args.first c.args.places.now) ns) (append-nil c.loop-id.nodes)
    (c.loop-id.invariant [] (subst (λ ks. AreNodesAt c.args.c.now c.args.tree.now c.args.ids.now c.loop-id.id ks []) (sym none) tt))
