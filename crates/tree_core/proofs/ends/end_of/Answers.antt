use Rattle.std.proofs.Common.{◌≡◌, true, false, Some, slice_get, ap, sym, ◌∙◌, arith}
use Rattle.std.proofs.lemmas.Option.{slice_get-get_or, same_Some}
use Rattle.tree_core.proofs.Gets.{get_within}
use Rattle.tree_core.proofs.Columns.{equal_some, some_equal}
use Rattle.tree_core.proofs.Ending.{reached_first, reached_more, reached_end}
use Rattle.tree_core.proofs.ends.end_of.Goals as goal
use Rattle.tree_core.proofs.ends.end_of.Goals.{then-loop-end-test+else-eq, else-loop-end-test}

pub loop-end-init : goal.loop-end-init
loop-end-init c = (omega arith, (let l = c.requires.place in omega arith), λ tree p. reached_first tree c.args.place)

pub loop-end-smaller : goal.loop-end-smaller
loop-end-smaller c =
    let l = c.loop-end-test.true in
    let m = c.requires.many in
    let x = c.loop-end.invariant.0 in
    let h = c.requires.later c.loop-end.end _ (omega arith) (slice_get-get_or c.args.ends.now c.loop-end.end 0 (omega arith)) in
    let h0 = h.0 in
    let h1 = h.1 in
    omega arith

pub loop-end-preserved : goal.loop-end-preserved
loop-end-preserved c =
    let l = c.loop-end-test.true in
    let m = c.requires.many in
    let x = c.loop-end.invariant.0 in
    let e = slice_get-get_or c.args.ends.now c.loop-end.end 0 (omega arith) in
    let h = c.requires.later c.loop-end.end _ (omega arith) e in
    let h0 = h.0 in
    let h1 = h.1 in
    let up = slice_get-get_or c.args.parents.now c.loop-end.end _ l ∙ ap Some (equal_some _ c.args.place (sym c.eq.ensures ∙ c.if-eq.true)) in (
      omega arith,
      h1,
      λ tree p. reached_more tree c.args.parents.now p c.args.ends.now c.args.place c.loop-end.end _ (c.requires.ends tree p) x up e,
    )

pub returns-clause-end : goal.returns-clause-end
returns-clause-end c tree p r t =
    let none : slice_get c.args.parents.now c.loop-end.end ≡ Some (Some c.args.place) → ⊥ = elim c.loop-end-test.branch [
      | then-loop-end-test+else-eq w ↦ (λ e. (
          let f = same_Some _ _ (sym (slice_get-get_or c.args.parents.now c.loop-end.end _ w.loop-end-test.true) ∙ e) in
          let g = some_equal _ c.args.place f in
          let h = sym w.eq.ensures ∙ w.if-eq.false in
          let z : true ≡ false = sym g ∙ h in
          cc
          ))
      | else-loop-end-test w ↦ (λ e. (let l = get_within c.args.parents.now c.loop-end.end (Some c.args.place) e in let m = w.loop-end-test.false in omega arith))
    ] in
    reached_end tree c.args.parents.now p c.args.place c.loop-end.end (c.loop-end.invariant.2 tree p) none r t
