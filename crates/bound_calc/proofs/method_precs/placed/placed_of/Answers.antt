use Rattle.std.proofs.Common.{◌<◌, ◌≤◌, ◌⊎◌, inl, inr, List, length, ◌++◌, ◌∷◌, [], take, get_or, sym, ap, ◌∙◌, append_assoc, arith}
use Rattle.std.proofs.lemmas.Bool.{cases_lt}
use Rattle.std.proofs.lemmas.List.{take_more}
use Rattle.plan_model.specs.declared.networks.Child.{Child}
use Rattle.plan_model.specs.declared.networks.Guard.{Guard}
use Rattle.plan_model.specs.declared.terms.Term.{Term}
use Rattle.plan_model.specs.declared.terms.Term.TheVariants.{Var}
use Rattle.plan_model.specs.declared.terms.Param.{Param}
use Rattle.plan_model.specs.plan_meaning.Compilation.{placed, all_placed, params_of}
use Rattle.bound_calc.proofs.method_precs.Growing.{all_placed-push, placed_more, placed_whole}
use Rattle.bound_calc.proofs.method_precs.placed.placed_of.Goals as goal

abbrev none : Param
none = record { name = record { number = 0 }; ty = 0 }

pub loop-k-preserved : goal.loop-k-preserved
loop-k-preserved c =
    let h = c.args.problem.now in
    let params = c.params_of-params.result.now in
    let args = c.as_slice-args.result.now in
    let k = c.loop-k.k in
    let before = c.loop-child.placed in
    let l : c.loop-k.k < length c.params_of-params.result.now = omega (arith, c.loop-k-test.true, c.min-k-end.ensures) in
    let m : c.loop-k.k < length c.as_slice-args.result.now = omega (arith, c.loop-k-test.true, c.min-k-end.ensures) in
    let g : Guard = record { ty = (get_or params k none).ty; term = get_or args k (Var 0) } in
    c.in_ok-push.ensures.pushed
    ∙ (ap (λ xs. xs ++ g ∷ []) c.loop-k.invariant
    ∙ (append_assoc before (placed h (take k params) (take k args)) (g ∷ [])
    ∙ ap (λ zs. before ++ zs) (sym (placed_more h params args k none (Var 0) l m))))

pub loop-child-preserved : goal.loop-child-preserved
loop-child-preserved c =
    let h = c.args.problem.now in
    let children = c.args.children.now in
    let i = c.loop-child.child-index in
    let child : Child = c.child-item.result in
    let params = c.params_of-params.result.now in
    let args = c.as_slice-args.result.now in
    let k = c.loop-k.k in
    let end : (length c.params_of-params.result.now ≤ c.loop-k.k) ⊎ (length c.as_slice-args.result.now ≤ c.loop-k.k) =
    elim (cases_lt c.loop-k.k (length c.params_of-params.result.now)) [ inl l ↦ inr (omega (arith, l, c.loop-k-test.false, c.min-k-end.ensures)) | inr l ↦ inl l ] in
    c.loop-k.invariant
    ∙ (ap (λ zs. c.loop-child.placed ++ zs) (placed_whole h params args k end
    ∙ (ap (λ (ps : List Param). placed h ps args) c.params_of-params.ensures
    ∙ ap (λ (ts : List Term). placed h (params_of h child.head) ts) c.as_slice-args.ensures.items))
    ∙ (ap (λ zs. zs ++ placed h (params_of h child.head) child.args) c.loop-child.invariant
    ∙ (sym (all_placed-push h (take i children) child)
    ∙ ap (all_placed h) (sym (take_more children i child c.loop-child-test.true ∙ ap (λ (x : Child). take i children ++ x ∷ []) (sym c.child-item.is))))))
