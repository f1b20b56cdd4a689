use Rattle.std.proofs.Common.{◌∙◌, map, slice_index, ap, sym, subst}
use Rattle.std.specs.Option.{option_copied}
use Rattle.std.proofs.lemmas.Result.{IfOk-weaker}
use Rattle.plan_model.specs.plan_meaning.Network.{network}
use Rattle.schedule_queue.specs.Children.{below}
use Rattle.schedule_queue.specs.Given.{AreRightAfter}
use Rattle.schedule_queue.proofs.Neighbours.{has_parent, has_later, right_after, none_after}
use Rattle.schedule_queue.proofs.given.Given.right_after.Goals as goal

pub returns-in_default : goal.returns-in_default
returns-in_default c = λ T plan gap is.
    subst (AreRightAfter (network c.args.self.now.c.now) T c.args.address) (sym c.new.ensures.items)
    (none_after c.args.self.now.c.now T c.args.self.now.tree.now is.setting.rows_are is.setting.grown is.pairs c.args.self.now.later.now
    is.later c.args.address
    (λ i q h. has_parent c.args.self.now.c.now T c.args.self.now.tree.now is.setting.rows_are is.setting.grown is.pairs
    c.args.self.now.later.now is.later c.args.address i q h (sym c.parent.ensures.parent ∙ c.in_default.is)))

pub returns-in-Some-known : goal.returns-in-Some-known
returns-in-Some-known c = IfOk-weaker c.at.result _ _
    (λ found e T plan gap is. subst (AreRightAfter (network c.args.self.now.c.now) T c.args.address)
    (sym (e ∙ (λ z. map (λ j. slice_index (c.below.ensures z) j) (c.after.ensures z))))
    (right_after c.args.self.now.c.now T c.args.self.now.tree.now is.setting.rows_are is.setting.grown is.pairs c.args.self.now.later.now
    is.later c.args.address c.in-Some.parent c.in-Some-number.number
    (sym c.parent.ensures.parent ∙ c.in-Some.is) (sym c.number.ensures.number ∙ c.in-Some-number.is) c.in-Some-known.later.now
    (sym c.known.ensures ∙ ap option_copied c.in-Some-known.is) (below c.args.self.now.children.now c.in-Some.parent)
    (is.children c.in-Some.parent)))
    c.at.ensures

pub returns-in-None : goal.returns-in-None
returns-in-None c = λ T plan gap is.
    subst (AreRightAfter (network c.args.self.now.c.now) T c.args.address) (sym c.new-in-None.ensures.items)
    (none_after c.args.self.now.c.now T c.args.self.now.tree.now is.setting.rows_are is.setting.grown is.pairs c.args.self.now.later.now
    is.later c.args.address
    (λ i q h. has_later c.args.self.now.c.now T c.args.self.now.tree.now is.setting.rows_are is.setting.grown is.pairs
    c.args.self.now.later.now is.later c.args.address i q h c.in-Some.parent
    (sym c.parent.ensures.parent ∙ c.in-Some.is) (sym c.known.ensures ∙ ap option_copied c.in-None.is)))
