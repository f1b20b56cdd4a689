use Rattle.std.proofs.Common.{◌≡◌, ◌+◌, ◌<◌, length, Some, None, ap, sym, subst, ◌∙◌, arith}
use Rattle.std.proofs.lemmas.List.{length-map}
use Rattle.std.proofs.lemmas.Option.{get_or_from_slice_get}
use Rattle.tree_core.specs.declared.growth.Growth as Grown
use Rattle.tree_core.specs.Labels.{labels, growth_of, growths_of}
use Rattle.tree_core.specs.Rooms.{found}
use Rattle.tree_core.specs.Growing.{IsNodeAt}
use Rattle.tree_core.proofs.Gets.{get-map, get_some}
use Rattle.tree_core.proofs.Built.{built}
use Rattle.tree_core.proofs.Columns.{number_within}
use Rattle.tree_core.proofs.DefectLaws.{none_of, some_of, parent_before}
use Rattle.tree_core.proofs.Walking.{root_ends_at, sibling_follows, parent_ends}
use Rattle.tree_core.proofs.walk.after_subtree.Goals as goal

pub overflow_add-steps : goal.overflow_add-steps
overflow_add-steps c =
    let steps = c.args.steps.now in
    let n = c.loop-node.node in
    let (g, h) = get_some steps n c.loop-node.invariant.0 in
    let under = subst (λ (z : Grown.Growth). z.parent ≡ Some c.in-Some.parent) (get_or_from_slice_get steps n g _ h) c.in-Some.is in
    let (tree, order, s) = built labels (growths_of steps) c.requires.joined in
    let within : g.child < length (growths_of steps) = number_within (growths_of steps) tree order s n c.in-Some.parent (growth_of g) (get-map growth_of steps n g h) under in
    let child = ap (λ (z : Grown.Growth). z.child) (get_or_from_slice_get steps n g c.index-steps-node.result h) in
    let many = length-map steps growth_of in
    let few = c.requires.few in
    omega arith

pub returns-then-is_some-clause-next : goal.returns-then-is_some-clause-next
returns-then-is_some-clause-next c tree order s e ends =
    let steps = c.args.steps.now in
    let n = c.loop-node.node in
    let (g, h) = get_some steps n c.loop-node.invariant.0 in
    let at = get-map growth_of steps n g h in
    let under = subst (λ (z : Grown.Growth). z.parent ≡ Some c.in-Some.parent) (get_or_from_slice_get steps n g _ h) c.in-Some.is in
    let (y, f) = some_of c.at-next.result (sym c.is_some.ensures ∙ c.if-is_some.true) in
    subst (λ o. IsNodeAt e o tree order) (sym f)
    (sibling_follows (growths_of steps) c.args.children.now c.requires.children tree order s n (growth_of g) at c.in-Some.parent under y e (subst (λ (z : Grown.Growth). found c.args.children.now c.in-Some.parent (z.child + 1) ≡ Some y) (get_or_from_slice_get steps n g _ h) (sym c.at-next.ensures.found ∙ f)) (c.loop-node.invariant.1 tree order s e ends))

pub loop-node-smaller : goal.loop-node-smaller
loop-node-smaller c =
    let steps = c.args.steps.now in
    let n = c.loop-node.node in
    let (g, h) = get_some steps n c.loop-node.invariant.0 in
    let at = get-map growth_of steps n g h in
    let under = subst (λ (z : Grown.Growth). z.parent ≡ Some c.in-Some.parent) (get_or_from_slice_get steps n g _ h) c.in-Some.is in
    parent_before (growths_of steps) c.requires.joined n (growth_of g) c.in-Some.parent at under

pub loop-node-preserved : goal.loop-node-preserved
loop-node-preserved c =
    let steps = c.args.steps.now in
    let n = c.loop-node.node in
    let (g, h) = get_some steps n c.loop-node.invariant.0 in
    let at = get-map growth_of steps n g h in
    let under = subst (λ (z : Grown.Growth). z.parent ≡ Some c.in-Some.parent) (get_or_from_slice_get steps n g _ h) c.in-Some.is in
    let less = parent_before (growths_of steps) c.requires.joined n (growth_of g) c.in-Some.parent at under in
    let within = c.loop-node.invariant.0 in
    let none = none_of c.at-next.result (sym c.is_some.ensures ∙ c.if-is_some.false) in (
      omega arith,
      λ tree order s e ends.
          parent_ends (growths_of steps) c.args.children.now c.requires.children tree order s n (growth_of g) at c.in-Some.parent under e (subst (λ (z : Grown.Growth). found c.args.children.now c.in-Some.parent (z.child + 1) ≡ None) (get_or_from_slice_get steps n g _ h) (sym c.at-next.ensures.found ∙ none)) (c.loop-node.invariant.1 tree order s e ends),
    )

pub returns-clause-next : goal.returns-clause-next
returns-clause-next c tree order s e ends =
    let steps = c.args.steps.now in
    let n = c.loop-node.node in
    let (g, h) = get_some steps n c.loop-node.invariant.0 in
    let at = get-map growth_of steps n g h in
    root_ends_at (growths_of steps) c.args.children.now c.requires.children tree order s n (growth_of g) at e (subst (λ (z : Grown.Growth). z.parent ≡ None) (get_or_from_slice_get steps n g _ h) c.in_default.is) (c.loop-node.invariant.1 tree order s e ends)
