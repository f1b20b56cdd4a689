use Rattle.std.proofs.Common.{◌≡◌, length, ap, sym, subst, ◌∙◌}
use Rattle.std.proofs.lemmas.List.{length-map}
use Rattle.plan_model.specs.task_networks.Preorder.{preorder}
use Rattle.tree_core.specs.Labels.{labels, growth_of, growths_of}
use Rattle.tree_core.specs.Growing.{OfTree, AreNodes, ArePlaces}
use Rattle.tree_core.specs.Runs.{AreAt}
use Rattle.tree_core.proofs.Built.{built}
use Rattle.tree_core.proofs.Columns.{are_at, order_place}
use Rattle.tree_core.proofs.growing.joined_laid_out.Goals as goal

pub parents_of-requires-clause-nodes : goal.parents_of-requires-clause-nodes
parents_of-requires-clause-nodes c = subst (λ xs. OfTree (growths_of c.args.steps.now) (AreNodes (length c.args.steps.now) xs)) (sym c.as_slice-2.ensures.value) c.in_ok-nodes.ensures.nodes

pub nodes_of-requires-clause-nodes : goal.nodes_of-requires-clause-nodes
nodes_of-requires-clause-nodes c = subst (λ xs. OfTree (growths_of c.args.steps.now) (AreNodes (length c.args.steps.now) xs)) (sym c.as_slice-5.ensures.value) c.in_ok-nodes.ensures.nodes

pub returns : goal.returns
returns c =
    let gs = growths_of c.args.steps.now in
    let (tree, order, s) = built labels gs c.requires.joined in
    let many = length-map c.args.steps.now growth_of in
    let nodes = c.in_ok-nodes.nodes.items in
    let places = c.in_ok-places.places.items in
    let are : AreNodes (length gs) nodes tree order = subst (λ j. AreNodes j nodes tree order) (sym many) (c.in_ok-nodes.ensures.nodes tree order s) in
    let ps : ArePlaces (length nodes) nodes places = subst (λ xs. ArePlaces (length xs) xs places) c.as_slice.ensures.value c.in_ok-places.ensures.places in
    let long : length places ≡ length order = c.in_ok-places.ensures.many ∙ ap length c.as_slice.ensures.value ∙ are.0 ∙ sym s.growths_are.many in
    let list = c.in_ok-order.ensures.equal ∙ c.as_slice-8.ensures.value in
    record {
      nodes_are = c.in_ok-nodes-2.ensures.nodes;
      run = record {
        tree = tree;
        order = order;
        grown = s;
        rows = c.in_ok-nodes-2.ensures.rows tree order s;
        places = subst (λ xs. AreAt (preorder labels tree) xs order) (sym list) (are_at places (preorder labels tree) order long (order_place gs tree order s nodes are places ps));
      };
    }
