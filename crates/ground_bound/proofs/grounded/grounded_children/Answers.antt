use Rattle.std.proofs.Common.{◌≡◌, Some, slice_get, ap, sym, ◌∙◌}
use Rattle.std.proofs.lemmas.Option.{slice_get-get_or}
use Rattle.ground_bound.specs.Grounded.{StandsForChild}
use Rattle.ground_bound.specs.MethodRows.{ground}
use Rattle.ground_bound.proofs.Places.{zip_put}
use Rattle.ground_bound.proofs.grounded.grounded_children.Goals as goal

pub loop-child-preserved : goal.loop-child-preserved
loop-child-preserved c =
    let children = c.args.children.now in
    let k = c.loop-child.child-index in
    let child = c.child-item.result in
    let at : slice_get children k ≡ Some child = slice_get-get_or children k child c.loop-child-test.true ∙ ap Some (sym c.child-item.is) in
    zip_put (StandsForChild c.args.tasks.now (ground c.args.it.now)) children c.loop-child.kids c.put.new.self k child c.grounded_child.result at c.loop-child.invariant c.in_ok-put.ensures.put c.grounded_child.ensures.child
