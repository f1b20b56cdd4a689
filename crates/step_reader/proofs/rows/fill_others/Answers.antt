use Rattle.std.proofs.Common.{sym, ap, ◌∙◌, ◌++◌, ◌∷◌, [], get_or}
use Rattle.step_reader.proofs.RowLaws.{heir_more, other_more, heir_is, heir_is_not}
use Rattle.step_reader.proofs.rows.fill_others.Goals as goal

pub loop-child-preserved-then-eq : goal.loop-child-preserved-then-eq
loop-child-preserved-then-eq c =
    let heir = heir_is c.args.heir c.loop-child.child (sym c.eq.ensures ∙ c.if-eq.true) in
    c.loop-child.invariant ∙ sym (heir_more c.args.heir c.args.cells.now c.loop-child.child heir)

pub loop-child-preserved : goal.loop-child-preserved
loop-child-preserved c =
    let other = heir_is_not c.args.heir c.loop-child.child (sym c.eq.ensures ∙ c.if-eq.false) in
    c.in_ok-push.ensures.items ∙ ap (λ xs. xs ++ get_or c.args.cells.now c.loop-child.child 0 ∷ []) c.loop-child.invariant
    ∙ sym (other_more c.args.heir c.args.cells.now c.loop-child.child other)
