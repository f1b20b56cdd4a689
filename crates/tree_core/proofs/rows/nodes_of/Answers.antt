use Rattle.std.proofs.Common.{ℕ, ◌≡◌, ◌+◌, ◌<◌, List, length, Option, Some, None, slice_get, slice_index_or, unwrap_or, refl, ap, sym, subst, ◌∙◌, arith, length-append}
use Rattle.std.proofs.lemmas.List.{length-map}
use Rattle.std.proofs.lemmas.List.Elements.{All-push}
use Rattle.std.proofs.lemmas.Option.{slice_get-get_or, get_or_from_slice_get}
use Rattle.plan_model.specs.task_networks.Tree.{Tree, Address}
use Rattle.tree_core.specs.declared.growth.Growth as Grown
use Rattle.tree_core.specs.declared.tree.Node.{Node}
use Rattle.tree_core.specs.Tables.{Row, table}
use Rattle.tree_core.specs.Growths.{IsAt, IsTreeOf}
use Rattle.tree_core.specs.Labels.{labels, growth_of, growths_of}
use Rattle.tree_core.specs.Nodes.{row_under, row_with, row_of, rows_of}
use Rattle.tree_core.specs.Growing.{IsPlaced}
use Rattle.tree_core.proofs.Gets.{get_some, get_within, get-map}
use Rattle.tree_core.proofs.Columns.{root_row, child_row, same_label, many_rows_are, more_rows, same_rows}
use Rattle.tree_core.proofs.rows.nodes_of.Goals as goal

-- the row of a growth's node has its parent's place, if it has a parent, and its end
row_kept : (steps : List Grown.Growth) (tree : Tree labels) (order : List Address) (s : IsTreeOf labels (growths_of steps) tree order) (x k : ℕ) (placed : IsPlaced tree order x k)
    (g : Grown.Growth) (at : IsAt labels (growths_of steps) x (growth_of g)) (r : Row labels) (row : slice_get (table labels tree) k ≡ Some r)
    (node : Node) (up : Option ℕ) → up ≡ r.parent → node.parent ≡ unwrap_or up 0 → node.end ≡ r.end → (o : Option ℕ) → g.parent ≡ o → row_under node g o ≡ r
row_kept steps tree order s x k placed g at r row node up same parent end None none =
    let label = same_label (growths_of steps) tree order s x k placed (growth_of g) at r row in
    let (above, number) = root_row (growths_of steps) tree order s x k placed (growth_of g) at r row none in
    λ i. record { label = sym label i; parent = sym above i; number = sym number i; end = end i }
row_kept steps tree order s x k placed g at r row node up same parent end (Some y) some =
    let label = same_label (growths_of steps) tree order s x k placed (growth_of g) at r row in
    let (z, above, par, number) = child_row (growths_of steps) tree order s x k placed (growth_of g) at r row y some in
    let is = ap Some (parent ∙ ap (λ p. unwrap_or p 0) (same ∙ par)) ∙ sym par in
    λ i. record { label = sym label i; parent = is i; number = sym number i; end = end i }

pub loop-place-preserved : goal.loop-place-preserved
loop-place-preserved c =
    let steps = c.args.steps.now in
    let n = c.loop-place.place in
    let old = c.loop-place.kept in
    let pushed = c.in_ok-push.ensures.pushed in
    let long = c.loop-place.invariant.0 in
    let node = slice_get-get_or c.args.nodes.now n 0 c.loop-place-test.true in
    let below = c.requires.below n _ node in
    let (g, h) = get_some steps _ below in
    let kept : Node = record { growth = slice_index_or c.args.nodes.now n 0; parent = c.unwrap_or.result; end = slice_index_or c.args.ends.now n 0 } in
    let at = get-map growth_of steps _ g h in (
      ap length pushed ∙ (length-append old _ ∙ ap (λ k. k + 1) long),
      rw pushed (All-push (λ (x : Node). x.growth < length steps) old _ c.loop-place.invariant.1 below),
      λ tree order s k r m t. ap (λ xs. slice_get (rows_of steps xs) k) pushed ∙ more_rows (row_of steps) old _ n long k r m (λ l. c.loop-place.invariant.2 tree order s k r l t) (λ z. (
          let row = subst (λ j. slice_get (table labels tree) j ≡ Some r) z t in
          let placed = (c.requires.nodes tree order s).1 n _ node in
          let parent = get_or_from_slice_get c.args.parents.now n r.parent _ ((c.requires.parents tree order s).each n r row) in
          let end = get_or_from_slice_get c.args.ends.now n r.end _ (c.requires.ends tree order s n r (omega arith) row) in
          ap (row_with kept) h ∙ row_kept steps tree order s _ n placed g at r row kept _ parent c.unwrap_or.ensures end g.parent refl
          )),
    )

pub returns : goal.returns
returns c = record {
  nodes = record { few = (let f = c.loop-place.auto.place-end in let g = c.loop-place.invariant.0 in let h = c.requires.few in omega arith); each = c.loop-place.invariant.1 };
  rows = λ tree order s. (
      let a = (c.requires.nodes tree order s).0 in
      let b = length-map c.args.steps.now growth_of in
      let d = many_rows_are (growths_of c.args.steps.now) tree order s in
      let e = c.loop-place-test.false in
      let f = c.loop-place.auto.place-end in
      let g = c.loop-place.invariant.0 in
      let l = length-map c.loop-place.kept (row_of c.args.steps.now) in
      same_rows (rows_of c.args.steps.now c.loop-place.kept) (table labels tree) (omega arith) (λ k r t. c.loop-place.invariant.2 tree order s k r (let m = get_within (table labels tree) k r t in omega arith) t)
      );
}
