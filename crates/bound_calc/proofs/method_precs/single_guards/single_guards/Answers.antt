use Rattle.std.proofs.Common.{◌≡◌, ◌++◌, ◌∷◌, [], cond, true, not, take, get_or, sym, subst, ap, ◌∙◌}
use Rattle.std.specs.BTreeMap.{is_at}
use Rattle.std.specs.BTreeSet.{contains}
use Rattle.plan_model.specs.declared.networks.Guard.{Guard}
use Rattle.plan_model.specs.declared.terms.Term.TheVariants.{Var}
use Rattle.plan_model.specs.plan_meaning.Compilation.{same_guard}
use Rattle.bound_calc.specs.method_precs.Keys.{key}
use Rattle.plan_model.proofs.plan_meaning.Once.{has, once_next_new, once_next_old}
use Rattle.bound_calc.proofs.method_precs.SameKeys.{key_cmp, seen_more}
use Rattle.bound_calc.proofs.method_precs.SinglePairs.{not_true, not_false}
use Rattle.bound_calc.proofs.method_precs.single_guards.single_guards.Goals as goal
use Rattle.bound_calc.proofs.method_precs.single_guards.single_guards.Goals.{then-branch+in_ok-push, else-branch}

abbrev none : Guard
none = record { ty = 0; term = Var 0 }

pub loop-guard-preserved : goal.loop-guard-preserved
loop-guard-preserved c =
    let guards = c.args.guards.now in
    let k = c.loop-guard.guard-index in
    let guard = get_or guards k none in
    let old = contains key_cmp c.loop-guard.seen (key guard) in
    let added : c.in_ok-insert.field-0 ≡ not (contains key_cmp c.loop-guard.seen (key (get_or c.args.guards.now c.loop-guard.guard-index none))) =
    c.in_ok-insert.ensures.added ∙ ap (λ x. not (contains key_cmp c.loop-guard.seen x)) c.key_of.ensures in
    let there : contains key_cmp c.loop-guard.seen (key (get_or c.args.guards.now c.loop-guard.guard-index none)) ≡ has same_guard (get_or c.args.guards.now c.loop-guard.guard-index none) (take c.loop-guard.guard-index c.args.guards.now) =
    c.loop-guard.invariant.seen guard in
    record {
      seen = λ g. seen_more guards k none c.loop-guard-test.true g (contains key_cmp c.loop-guard.seen (key g)) (contains key_cmp c.insert.new.self (key g)) (c.loop-guard.invariant.seen g)
          (subst (λ x. contains key_cmp c.insert.new.self (key g) ≡ cond (is_at (key_cmp x) (key g)) true (contains key_cmp c.loop-guard.seen (key g))) c.key_of.ensures (c.in_ok-insert.ensures.updates.0 (key g)));
      single = elim c.if-branch.branch [
        | then-branch+in_ok-push w ↦
            w.single-is ∙ (w.in_ok-push.ensures.pushed ∙ (ap (λ xs. xs ++ guard ∷ []) c.loop-guard.invariant.single
            ∙ sym (once_next_new same_guard guards k none c.loop-guard-test.true (sym there ∙ not_true old (sym added ∙ w.if-branch.true)))))
        | else-branch w ↦
            w.single-is ∙ (c.loop-guard.invariant.single ∙ sym (once_next_old same_guard guards k none c.loop-guard-test.true (sym there ∙ not_false old (sym added ∙ w.if-branch.false))))
      ];
    }
