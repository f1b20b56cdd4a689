use Rattle.std.proofs.Common.{◌≡◌, ◌+◌, ◌++◌, inl, inr, [], ◌∷◌, length, Some, None, slice_get, ap, sym, subst, ◌∙◌, arith, length-append}
use Rattle.std.proofs.lemmas.Bool.{cases_lt}
use Rattle.std.proofs.lemmas.List.{length-map}
use Rattle.std.proofs.lemmas.Option.{slice_get-get_or, get_or_from_slice_get}
use Rattle.tree_core.specs.declared.growth.Growth as Grown
use Rattle.tree_core.specs.Tables.{table}
use Rattle.tree_core.specs.Labels.{labels, growth_of, growths_of}
use Rattle.tree_core.specs.Growing.{AreNodes}
use Rattle.tree_core.proofs.Gets.{get_some, get_within, get_left, get-map}
use Rattle.tree_core.proofs.DefectLaws.{parent_before}
use Rattle.tree_core.proofs.Columns.{root_row, child_row, place_noted, many_rows_are}
use Rattle.tree_core.proofs.Setting.{get-push}
use Rattle.tree_core.proofs.rows.parents_of.Goals as goal
use Rattle.tree_core.proofs.rows.parents_of.Goals.{in-Some, in-None}

pub bounds-places-parent : goal.bounds-places-parent
bounds-places-parent c =
    let steps = c.args.steps.now in
    let node = slice_get-get_or c.args.nodes.now c.loop-node.node-index 0 c.loop-node-test.true in
    let x = c.requires.below c.loop-node.node-index _ node in
    let (g, h) = get_some steps _ x in
    let up = subst (λ (z : Grown.Growth). z.parent ≡ Some c.in-Some.parent) (get_or_from_slice_get steps _ g _ h) c.in-Some.is in
    let l = parent_before (growths_of steps) c.requires.joined _ (growth_of g) c.in-Some.parent (get-map growth_of steps _ g h) up in
    let m = c.requires.many in
    omega arith

pub loop-node-preserved : goal.loop-node-preserved
loop-node-preserved c =
    let steps = c.args.steps.now in
    let n = c.loop-node.node-index in
    let old = c.loop-node.parents.items in
    let v = c.match-steps-node.parent in
    let pushed = c.in_ok-push.ensures.items in
    let long = c.loop-node.invariant.0 in (
      ap length pushed ∙ (let z = length-append old (v ∷ []) in let y : length (old ++ v ∷ []) ≡ n + 1 = omega arith in y),
      λ tree order s k r m t. ap (λ xs. slice_get xs k) pushed ∙ (elim (cases_lt k n) [
        | inl l ↦ get_left old (v ∷ []) k r.parent (c.loop-node.invariant.1 tree order s k r l t)
        | inr l ↦ (
            let z : k ≡ n = omega arith in
            let node = slice_get-get_or c.args.nodes.now n 0 c.loop-node-test.true in
            let x = c.requires.below n _ node in
            let (g, h) = get_some steps _ x in
            let are : AreNodes (length (growths_of steps)) c.args.nodes.now tree order = subst (λ j. AreNodes j c.args.nodes.now tree order) (sym (length-map steps growth_of)) (c.requires.nodes tree order s) in
            let placed = are.1 n _ node in
            let row = subst (λ j. slice_get (table labels tree) j ≡ Some r) z t in
            let at = get-map growth_of steps _ g h in
            ap (slice_get (old ++ v ∷ [])) z ∙ get-push old v n long ∙ ap Some (elim c.match-steps-node.branch [
              | in-Some w ↦ (
                  let up = subst (λ (u : Grown.Growth). u.parent ≡ Some w.in-Some.parent) (get_or_from_slice_get steps _ g _ h) w.in-Some.is in
                  let (y, above, par, num) = child_row (growths_of steps) tree order s _ n placed (growth_of g) at r row w.in-Some.parent up in
                  w.parent-is ∙ ap Some (get_or_from_slice_get c.args.places.now w.in-Some.parent y _ (place_noted (growths_of steps) tree order s c.args.nodes.now are c.args.places.now c.requires.places w.in-Some.parent y above)) ∙ sym par
                  )
              | in-None w ↦ (
                  let none = subst (λ (u : Grown.Growth). u.parent ≡ None) (get_or_from_slice_get steps _ g _ h) w.in-None.is in
                  w.parent-is ∙ sym (root_row (growths_of steps) tree order s _ n placed (growth_of g) at r row none).0
                  )
            ])
            )
      ]),
    )

pub returns-clause-parents : goal.returns-clause-parents
returns-clause-parents c tree order s =
    let a = (c.requires.nodes tree order s).0 in
    let b = length-map c.args.steps.now growth_of in
    let d = many_rows_are (growths_of c.args.steps.now) tree order s in
    let e = c.loop-node-test.false in
    let f = c.loop-node.auto.node-index-end in
    let g = c.loop-node.invariant.0 in
    record {
      many = (let z : length c.loop-node.parents.items ≡ length (table labels tree) = omega arith in z);
      each = λ k r t. c.loop-node.invariant.1 tree order s k r (let l = get_within (table labels tree) k r t in omega arith) t;
    }
