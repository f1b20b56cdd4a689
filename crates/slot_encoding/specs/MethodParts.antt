-- What conditions and effects of printed actions say of the source: conditions and effects that are not empty, and of a method its task,
-- its children, its constraints and its guards. The variables of slots, or of cells, stand in front of the parameters.
-- Source: this project's encoding, after Alford et al., "Bound to Plan", ICAPS 2016.
use Rattle.std.specs.Prelude.{ℕ, Bool, true, false, cond, List, [], ◌∷◌, map}
use Rattle.plan_model.specs.declared.terms.Term.{Term}
use Rattle.plan_model.specs.declared.terms.Term.TheVariants.{Var}
use Rattle.plan_model.specs.declared.terms.Atom.{Atom}
use Rattle.plan_model.specs.declared.networks.Head.{Head}
use Rattle.plan_model.specs.declared.networks.Head.TheVariants.{Task, Action, Check}
use Rattle.plan_model.specs.declared.networks.Child.{Child}
use Rattle.plan_model.specs.declared.networks.Constraint.{Constraint}
use Rattle.plan_model.specs.declared.networks.Guard.{Guard}
use Rattle.plan_model.specs.declared.formulas.Formula.{Formula}
use Rattle.plan_model.specs.declared.formulas.Formula.TheVariants.{Holds, Equal, Not}
use Rattle.plan_model.specs.declared.formulas.Formula.TheFolds.{fold-Formula}
use Rattle.plan_model.specs.declared.formulas.Formula.TheOpen.{Formula-F}
use Rattle.plan_model.specs.declared.effects.Effect.{Effect}
use Rattle.plan_model.specs.declared.effects.Effect.TheFolds.{fold-Effect}
use Rattle.plan_model.specs.declared.effects.Effect.TheOpen.{Effect-F}
use Rattle.plan_model.specs.declared.schemas.MethodPlan.{MethodPlan}
use Rattle.plan_model.specs.declared.values.Compiled.{Compiled}
use Rattle.slot_encoding.specs.SourceParts.{moved, source_formula, source_effect}
use Rattle.slot_encoding.specs.EncodedNames.{task_predicate, action_predicate, check_predicate, guard_predicate}

-- the condition as a list of parts: none where it is an empty conjunction
abbrev pub no_part : Formula-F Bool → Bool
no_part (Formula-F.Holds a) = false
no_part (Formula-F.Equal s t) = false
no_part (Formula-F.Not f) = false
no_part (Formula-F.And []) = true
no_part (Formula-F.And (f ∷ fs)) = false
no_part (Formula-F.Or fs) = false
no_part (Formula-F.Imply f g) = false
no_part (Formula-F.Forall ps f) = false
no_part (Formula-F.Exists ps f) = false

abbrev pub no_effect : Effect-F Bool → Bool
no_effect (Effect-F.Add a) = false
no_effect (Effect-F.Delete a) = false
no_effect (Effect-F.And []) = true
no_effect (Effect-F.And (e ∷ es)) = false
no_effect (Effect-F.Forall ps e) = false
no_effect (Effect-F.When f e) = false

abbrev pub is_empty : Formula → Bool
is_empty = fold-Formula Bool no_part

abbrev pub is_empty_effect : Effect → Bool
is_empty_effect = fold-Effect Bool no_effect

abbrev pub test : Bool → Term → Term → Formula
test equal s t = cond equal (Equal s t) (Not (Equal s t))

-- front: how many variables stand in front of the parameters
module _ (c : Compiled) (names : List (List ℕ)) (front : ℕ) where
  abbrev pub condition_part : Formula → List Formula
  condition_part f = cond (is_empty f) [] (source_formula names c.hddl.names front f ∷ [])

  abbrev pub change_part : Effect → List Effect
  change_part e = cond (is_empty_effect e) [] (source_effect names c.hddl.names front e ∷ [])

  -- the task of the method, in the place of variable v
  abbrev pub task_in : ℕ → MethodPlan → Atom
  task_in v plan = record { predicate = task_predicate c plan.schema.task; args = Var v ∷ map (moved names c.hddl.names front) plan.schema.task_args }

  -- a child of method m, in the place of variable v
  abbrev pub child_in : ℕ → ℕ → Child → Atom
  child_in m v child = by child.head
    where
      by : Head → Atom
      by (Task t) = record { predicate = task_predicate c t; args = Var v ∷ map (moved names c.hddl.names front) child.args }
      by (Action a) = record { predicate = action_predicate c a; args = Var v ∷ map (moved names c.hddl.names front) child.args }
      by Check = record { predicate = check_predicate c m; args = Var v ∷ map (moved names c.hddl.names front) child.args }

  abbrev pub children_in : ℕ → List ℕ → List Child → List Atom
  children_in m (v ∷ vs) (child ∷ children) = child_in m v child ∷ children_in m vs children
  children_in m [] children = []
  children_in m (v ∷ vs) [] = []

  abbrev pub constraint_parts : MethodPlan → List Formula
  constraint_parts plan = map (λ (con : Constraint). test con.equal (moved names c.hddl.names front con.left) (moved names c.hddl.names front con.right)) plan.schema.constraints

  abbrev pub guard_parts : MethodPlan → List Formula
  guard_parts plan = map (λ (g : Guard). Holds (record { predicate = guard_predicate c g.ty; args = moved names c.hddl.names front g.term ∷ [] })) plan.guards

  abbrev pub tested_part : MethodPlan → List Formula
  tested_part plan = cond plan.tested (condition_part plan.schema.pre) []
