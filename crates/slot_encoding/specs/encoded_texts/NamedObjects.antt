-- Up to which number a compiled value names objects: one more than the greatest number that stands in it, or 0 where it names none.
-- Source: this project's.
use Rattle.std.specs.Prelude.{ℕ, ◌+◌, max, List, [], ◌∷◌, map}
use Rattle.plan_model.specs.declared.terms.Term.{Term}
use Rattle.plan_model.specs.declared.terms.Term.TheVariants.{Var, Obj}
use Rattle.plan_model.specs.declared.terms.GroundAtom.{GroundAtom}
use Rattle.plan_model.specs.declared.networks.Child.{Child}
use Rattle.plan_model.specs.declared.networks.Constraint.{Constraint}
use Rattle.plan_model.specs.declared.networks.Guard.{Guard}
use Rattle.plan_model.specs.declared.formulas.Formula.{Formula}
use Rattle.plan_model.specs.declared.formulas.Formula.TheFolds.{fold-Formula}
use Rattle.plan_model.specs.declared.formulas.Formula.TheOpen.{Formula-F}
use Rattle.plan_model.specs.declared.effects.Effect.{Effect}
use Rattle.plan_model.specs.declared.effects.Effect.TheFolds.{fold-Effect}
use Rattle.plan_model.specs.declared.effects.Effect.TheOpen.{Effect-F}
use Rattle.plan_model.specs.declared.schemas.ActionSchema.{ActionSchema}
use Rattle.plan_model.specs.declared.schemas.MethodPlan.{MethodPlan}
use Rattle.plan_model.specs.declared.values.Compiled.{Compiled}

abbrev pub greatest : List ℕ → ℕ
greatest [] = 0
greatest (n ∷ ns) = max n (greatest ns)

abbrev pub of_term : Term → ℕ
of_term (Var k) = 0
of_term (Obj o) = o + 1

abbrev pub of_terms : List Term → ℕ
of_terms ts = greatest (map of_term ts)

abbrev pub formula_step : Formula-F ℕ → ℕ
formula_step (Formula-F.Holds a) = of_terms a.args
formula_step (Formula-F.Equal s t) = max (of_term s) (of_term t)
formula_step (Formula-F.Not f) = f
formula_step (Formula-F.And fs) = greatest fs
formula_step (Formula-F.Or fs) = greatest fs
formula_step (Formula-F.Imply f g) = max f g
formula_step (Formula-F.Forall xs f) = f
formula_step (Formula-F.Exists xs f) = f

abbrev pub of_formula : Formula → ℕ
of_formula = fold-Formula ℕ formula_step

abbrev pub effect_step : Effect-F ℕ → ℕ
effect_step (Effect-F.Add a) = of_terms a.args
effect_step (Effect-F.Delete a) = of_terms a.args
effect_step (Effect-F.And es) = greatest es
effect_step (Effect-F.Forall xs e) = e
effect_step (Effect-F.When f e) = max (of_formula f) e

abbrev pub of_effect : Effect → ℕ
of_effect = fold-Effect ℕ effect_step

abbrev pub of_object : ℕ → ℕ
of_object o = o + 1

abbrev pub of_fact : GroundAtom → ℕ
of_fact g = greatest (map of_object g.args)

abbrev pub of_child : Child → ℕ
of_child child = of_terms child.args

abbrev pub of_constraint : Constraint → ℕ
of_constraint con = max (of_term con.left) (of_term con.right)

abbrev pub of_guard : Guard → ℕ
of_guard g = of_term g.term

-- the task's arguments, the subtasks, what is equal or differs, the guards, the precondition
abbrev pub of_method : MethodPlan → ℕ
of_method plan =
    max (max (of_terms plan.schema.task_args) (greatest (map of_child plan.schema.children)))
    (max (max (greatest (map of_constraint plan.schema.constraints)) (greatest (map of_guard plan.guards))) (of_formula plan.schema.pre))

abbrev pub of_action : ActionSchema → ℕ
of_action a = max (of_formula a.pre) (of_effect a.eff)

abbrev pub of_compiled : Compiled → ℕ
of_compiled c =
    max (max (greatest (map of_method c.methods)) (greatest (map of_action c.hddl.actions)))
    (max (greatest (map of_fact c.hddl.init)) (of_formula c.hddl.goal))
