use Rattle.std.proofs.Common.{◌≡◌, ◌++◌, codes, ap, sym, subst, ◌∙◌}
use Rattle.std.specs.Prelude.{OnOk}
use Rattle.std.proofs.lemmas.List.{append-nil}
use Rattle.std.specs.Option.{option_copied}
use Rattle.ground_bound.proofs.CycleTexts.{target_task, target_simple, on_ok_then}
use Rattle.ground_bound.proofs.ground_words.push_target.Goals as goal

pub returns-in-Task : goal.returns-in-Task
returns-in-Task c =
    let plan = c.in-Some.plan.now in
    let child = c.in-Some-get.child.now in
    record {
      pushed = subst (λ w. OnOk c.push_task.result (c.push_task.new.text ≡ (c.args.text.now ++ codes " ") ++ w))
          (target_task c.args.c.now c.args.edge.now plan child (sym c.get.ensures.item ∙ ap option_copied c.in-Some.is) (sym c.get-2.ensures.item ∙ ap option_copied c.in-Some-get.is)
          c.in-Task.number c.in-Task.is c.as_slice.result.now c.as_slice-in-Task.result.now c.as_slice.ensures.items c.as_slice-in-Task.ensures.items) c.push_task.ensures.pushed;
    }

pub returns-in-Action : goal.returns-in-Action
returns-in-Action c =
    let plan = c.in-Some.plan.now in
    let child = c.in-Some-get.child.now in
    let none = target_simple c.args.c.now c.args.edge.now plan child (sym c.get.ensures.item ∙ ap option_copied c.in-Some.is) (sym c.get-2.ensures.item ∙ ap option_copied c.in-Some-get.is) _ c.in-Action.is tt in
    record {
      pushed = on_ok_then c.push_all.result (λ p. p ∙ sym (append-nil (c.args.text.now ++ codes " ")) ∙ ap (λ w. (c.args.text.now ++ codes " ") ++ w) (sym none)) c.push_all.ensures.pushed;
    }

pub returns-in-Check : goal.returns-in-Check
returns-in-Check c =
    let plan = c.in-Some.plan.now in
    let child = c.in-Some-get.child.now in
    let none = target_simple c.args.c.now c.args.edge.now plan child (sym c.get.ensures.item ∙ ap option_copied c.in-Some.is) (sym c.get-2.ensures.item ∙ ap option_copied c.in-Some-get.is) _ c.in-Check.is tt in
    record {
      pushed = on_ok_then c.push_all-in-Check.result (λ p. p ∙ sym (append-nil (c.args.text.now ++ codes " ")) ∙ ap (λ w. (c.args.text.now ++ codes " ") ++ w) (sym none)) c.push_all-in-Check.ensures.pushed;
    }
