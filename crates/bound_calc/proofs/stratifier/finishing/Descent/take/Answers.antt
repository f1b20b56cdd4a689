use Rattle.std.proofs.Common.{◌∷◌, ◌++◌, [], false, map, take_all, refl, ap, subst, sym, ◌∙◌, arith}
use Rattle.bound_calc.specs.declared.stratifier.finishing.Step.TheVariants.{Enter}
use Rattle.std.proofs.lemmas.Grind.{common_steps}
use Rattle.std.proofs.lemmas.List.{get_or_read, get_or_default}
use Rattle.bound_calc.specs.stratifier.Finishing.{IsDescent}
use Rattle.bound_calc.proofs.stratifier.Descents.{went_in_so, no_more_work, came_out, passed_by, task_within}
use Rattle.bound_calc.proofs.stratifier.finishing.Descent.take.Goals as goal

pub index-requires : goal.index-requires
index-requires c =
    let l = task_within c.args.rows.now _ _ _ _ c.args.step c.in-Enter.is c.requires.descent in
    let r = c.requires.descent.room in
    omega arith

pub index_mut-requires : goal.index_mut-requires
index_mut-requires c =
    let l = task_within c.args.rows.now _ _ _ _ c.args.step c.in-Enter.is c.requires.descent in
    let r = c.requires.descent.room in
    omega arith

pub bounds-rows-task : goal.bounds-rows-task
bounds-rows-task c = task_within c.args.rows.now _ _ _ _ c.args.step c.in-Enter.is c.requires.descent

pub returns-in_ok-push-in-Leave-clause-descent : goal.returns-in_ok-push-in-Leave-clause-descent
returns-in_ok-push-in-Leave-clause-descent c =
    let w = c.args.self.now in
    subst (IsDescent c.args.rows.now w.marks.items w.steps.items) (sym c.in_ok-push-in-Leave.ensures.items)
    (came_out c.args.rows.now w.marks.items w.steps.items w.order.items c.in-Leave.task (subst (λ s. IsDescent c.args.rows.now w.marks.items (w.steps.items ++ s ∷ []) w.order.items) c.in-Leave.is c.requires.descent))

pub returns-after-loop-next-clause-descent : goal.returns-after-loop-next-clause-descent
returns-after-loop-next-clause-descent c =
    let w = c.args.self.now in
    let t = c.in-Enter.task in
    let l = task_within c.args.rows.now _ _ _ t c.args.step c.in-Enter.is c.requires.descent in
    let r = c.requires.descent.room in
    went_in_so c.args.rows.now w.marks.items _ w.steps.items c.push-then-not-index.new.self.items _ w.order.items _ c.as_slice-next-items.result.now t c.args.step c.in-Enter.is c.requires.descent
    (sym (get_or_read w.marks.items t c.index.result.now (omega arith) c.index.ensures false) ∙ c.if-not-index.true)
    (ap (λ v. v.items) c.loop-next.invariant.marks) c.in_ok-push-in-Enter.ensures.items (c.loop-next.invariant.steps ∙ ap (λ zs. c.push-then-not-index.new.self.items ++ map Enter zs) (take_all c.loop-next.next-index c.as_slice-next-items.result.now c.loop-next-test.false))
    (get_or_default c.args.rows.now t [] c.index-rows-task.result l ∙ sym (c.as_slice-next-items.ensures.items ∙ c.index-rows-task.is)) (ap (λ v. v.items) c.loop-next.invariant.order)
    c.requires.within

pub returns-after-loop-next-clause-less : goal.returns-after-loop-next-clause-less
returns-after-loop-next-clause-less c =
    let w = c.args.self.now in
    let t = c.in-Enter.task in
    let l = task_within c.args.rows.now _ _ _ t c.args.step c.in-Enter.is c.requires.descent in
    let r = c.requires.descent.room in
    no_more_work c.args.rows.now w.marks.items _ w.steps.items c.push-then-not-index.new.self.items _ w.order.items w.order.items c.as_slice-next-items.result.now t c.args.step c.in-Enter.is c.requires.descent
    (sym (get_or_read w.marks.items t c.index.result.now (omega arith) c.index.ensures false) ∙ c.if-not-index.true)
    (ap (λ v. v.items) c.loop-next.invariant.marks) c.in_ok-push-in-Enter.ensures.items (c.loop-next.invariant.steps ∙ ap (λ zs. c.push-then-not-index.new.self.items ++ map Enter zs) (take_all c.loop-next.next-index c.as_slice-next-items.result.now c.loop-next-test.false))
    (get_or_default c.args.rows.now t [] c.index-rows-task.result l ∙ sym (c.as_slice-next-items.ensures.items ∙ c.index-rows-task.is)) refl

pub returns-else-not-index-clause-descent : goal.returns-else-not-index-clause-descent
returns-else-not-index-clause-descent c =
    let w = c.args.self.now in
    let t = c.in-Enter.task in
    let l = task_within c.args.rows.now _ _ _ t c.args.step c.in-Enter.is c.requires.descent in
    let r = c.requires.descent.room in
    passed_by c.args.rows.now w.marks.items w.steps.items w.order.items t
    (sym (get_or_read w.marks.items t c.index.result.now (omega arith) c.index.ensures false) ∙ c.if-not-index.false)
    (subst (λ s. IsDescent c.args.rows.now w.marks.items (w.steps.items ++ s ∷ []) w.order.items) c.in-Enter.is c.requires.descent)

pub loop-next-init : goal.loop-next-init
loop-next-init c = grind (arith, common_steps)

pub loop-next-preserved : goal.loop-next-preserved
loop-next-preserved c = grind (arith, common_steps)
