use Rattle.std.proofs.Common.{◌≡◌, List, take, get_or, sym, ap, subst, ◌∙◌}
use Rattle.std.proofs.lemmas.Bool.{false≢true}
use Rattle.std.proofs.lemmas.List.{take_more, take_all}
use Rattle.std.proofs.lemmas.Result.{IfOk-weaker}
use Rattle.plan_model.specs.declared.networks.Guard.{Guard}
use Rattle.plan_model.specs.declared.terms.Term.TheVariants.{Var}
use Rattle.plan_model.specs.plan_meaning.Compilation.{AreGuards, Keeps, IsGuard, all_placed, once, same_guard}
use Rattle.bound_calc.proofs.method_precs.Growing.{keeps_push, keeps_past}
use Rattle.bound_calc.proofs.method_precs.guards.guards_of.Goals as goal
use Rattle.bound_calc.proofs.method_precs.guards.guards_of.Goals.{then-not-is_declared_in+in_ok-push, else-not-is_declared_in}

abbrev none : Guard
none = record { ty = 0; term = Var 0 }

pub loop-guard-preserved : goal.loop-guard-preserved
loop-guard-preserved c =
    let P : Guard → Type 0 = IsGuard c.args.problem.now c.args.method.now in
    let xs = c.as_slice-guard-items.result.now in
    let k = c.loop-guard.guard-index in
    let before = take k xs in
    subst (λ ys. Keeps P ys c.if-not-is_declared_in.kept) (sym (take_more xs k none c.loop-guard-test.true))
    (elim c.if-not-is_declared_in.branch [
      | then-not-is_declared_in+in_ok-push w ↦
          subst (Keeps P _) (sym (w.kept-is ∙ w.in_ok-push.ensures.pushed))
          (keeps_push P before c.loop-guard.kept (get_or xs k none) c.loop-guard.invariant (λ d. false≢true (sym w.if-not-is_declared_in.true ∙ c.is_declared_in.ensures.1 d)))
      | else-not-is_declared_in w ↦
          subst (Keeps P _) (sym w.kept-is)
          (keeps_past P before c.loop-guard.kept (get_or xs k none) c.loop-guard.invariant (λ n. n (c.is_declared_in.ensures.0 w.if-not-is_declared_in.false)))
    ])

pub returns : goal.returns
returns c =
    let h = c.args.problem.now in
    let s = c.args.method.now in
    let kept : List Guard = c.loop-guard.kept in
    let all = take_all c.loop-guard.guard-index c.as_slice-guard-items.result.now c.loop-guard-test.false
    ∙ (c.as_slice-guard-items.ensures.items ∙ (c.in_ok-placed.ensures ∙ ap (all_placed h) c.as_slice.ensures.items)) in
    let keeps = subst (λ (xs : List Guard). Keeps (IsGuard h s) xs kept) all c.loop-guard.invariant in
    IfOk-weaker c.single_guards.result (λ single. single ≡ once same_guard c.as_slice-2.result.now) (AreGuards h s)
    (λ single e. (kept, keeps, e ∙ ap (once same_guard) c.as_slice-2.ensures.items)) c.single_guards.ensures
