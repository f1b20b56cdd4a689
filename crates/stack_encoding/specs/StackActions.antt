-- The actions of the printed problem of a stack: of the methods, the checks and the source actions.
-- Only what is at the tip can be taken. A method's children come into its cell and those above it; where nothing comes, the cell below is the tip.
-- Source: this project's encoding.
use Rattle.std.specs.Prelude.{ℕ, zero, suc, List, [], ◌∷◌, ◌++◌, map, length, codes, decimal}
use Rattle.plan_model.specs.declared.terms.Term.TheVariants.{Var}
use Rattle.plan_model.specs.declared.terms.Atom.{Atom}
use Rattle.plan_model.specs.declared.terms.Param.{Param}
use Rattle.plan_model.specs.declared.formulas.Formula.{Formula}
use Rattle.plan_model.specs.declared.formulas.Formula.TheVariants.{Holds, And}
use Rattle.plan_model.specs.declared.effects.Effect.{Effect}
use Rattle.plan_model.specs.declared.effects.Effect.TheVariants as E
use Rattle.plan_model.specs.declared.schemas.ActionSchema.{ActionSchema}
use Rattle.plan_model.specs.declared.schemas.MethodPlan.{MethodPlan}
use Rattle.plan_model.specs.declared.values.Compiled.{Compiled}
use Rattle.plan_model.specs.task_networks.Spelling.{numbers}
use Rattle.slot_encoding.specs.SourceParts.{name, source_word, source_param}
use Rattle.slot_encoding.specs.EncodedNames.{action_predicate, check_predicate, slot_param}
use Rattle.slot_encoding.specs.MethodParts.{condition_part, change_part, task_in, children_in, constraint_parts, guard_parts, tested_part}
use Rattle.stack_machine.specs.Stack.{behind}
use Rattle.stack_encoding.specs.StackNames.{tip_predicate, up_predicate}

module _ (c : Compiled) (names : List (List ℕ)) (b : ℕ) where
  -- the cell of variable v is the tip
  abbrev pub is_tip : ℕ → Atom
  is_tip v = record { predicate = tip_predicate c; args = Var v ∷ [] }

  -- the cell of variable u is the one above that of variable v
  abbrev pub is_up : (v u : ℕ) → Atom
  is_up v u = record { predicate = up_predicate c; args = Var v ∷ Var u ∷ [] }

  -- where nothing comes in its place: variable 0 is the cell below, variable 1 its own, which is the tip
  abbrev pub falling_params : List Param → List Param
  falling_params params = slot_param c names b (codes "htn_d") ∷ slot_param c names b (codes "htn_h") ∷ map (source_param names c.hddl.names) params

  abbrev pub at_tip : Atom → List Formula
  at_tip held = Holds held ∷ Holds (is_tip 1) ∷ Holds (is_up 0 1) ∷ []

  -- what is held goes, and the cell below is the tip
  abbrev pub falling : Atom → List Effect
  falling held = E.Delete held ∷ E.Delete (is_tip 1) ∷ E.Add (is_tip 0) ∷ []

  -- a source action, or the check of a method, with its parameters after the cells
  abbrev pub held_at_tip : (predicate count : ℕ) → Atom
  held_at_tip predicate count = record { predicate = predicate; args = map Var (numbers 1 (suc count)) }

  abbrev pub tip_action : List ℕ → ℕ → List Param → Formula → List Effect → ActionSchema
  tip_action word predicate params pre change = record {
    name = name names word;
    params = falling_params params;
    pre = And (at_tip (held_at_tip predicate (length params)) ++ condition_part c names 2 pre);
    eff = E.And (falling (held_at_tip predicate (length params)) ++ change);
  }

  abbrev pub stack_action : ℕ → ActionSchema → ActionSchema
  stack_action a s = tip_action (source_word c.hddl.names s.name) (action_predicate c a) s.params s.pre (change_part c names 2 s.eff)

  abbrev pub stack_check : ℕ → MethodPlan → ActionSchema
  stack_check m plan = tip_action (codes "htn_c_" ++ source_word c.hddl.names plan.schema.name) (check_predicate c m) plan.schema.params plan.schema.pre []

  -- what a method asks of its parameters, which stand behind this many variables of cells
  abbrev pub asked : (front : ℕ) → MethodPlan → List Formula
  asked front plan = constraint_parts c names front plan ++ (guard_parts c names front plan ++ tested_part c names front plan)

  -- the cells of n variables from 0 on lie one above the other
  abbrev pub rising : (n : ℕ) → List Formula
  rising zero = []
  rising (suc n) = map (λ k. Holds (is_up k (suc k))) (numbers 0 n)

  -- of n children the line's last is in the cell of the method's task, variable 0, and the one that k come after is in that of variable k
  abbrev pub child_cells : MethodPlan → List ℕ
  child_cells plan = map (behind plan.line) (numbers 0 (length plan.schema.children))

  -- the tip goes from the cell of variable 0 to that of variable n
  abbrev pub climbing : (n : ℕ) → List Effect
  climbing zero = []
  climbing (suc n) = E.Delete (is_tip 0) ∷ E.Add (is_tip (suc n)) ∷ []

  module _ (m : ℕ) (plan : MethodPlan) where
    -- by how many children there are
    abbrev pub method_params : ℕ → List Param
    method_params zero = falling_params plan.schema.params
    method_params (suc n) =
        slot_param c names b (codes "htn_h") ∷ map (λ k. slot_param c names b (codes "htn_h" ++ decimal k)) (numbers 1 n) ++ map (source_param names c.hddl.names) plan.schema.params

    abbrev pub method_pre : ℕ → List Formula
    method_pre zero = at_tip (task_in c names 2 1 plan) ++ asked 2 plan
    method_pre (suc n) = Holds (task_in c names (suc n) 0 plan) ∷ Holds (is_tip 0) ∷ rising (suc n) ++ asked (suc n) plan

    abbrev pub method_eff : ℕ → List Effect
    method_eff zero = falling (task_in c names 2 1 plan)
    method_eff (suc n) =
        E.Delete (task_in c names (suc n) 0 plan) ∷ map E.Add (children_in c names (suc n) m (child_cells plan) plan.schema.children) ++ climbing n

    -- the top method is number 0
    abbrev pub method_word : ℕ → List ℕ
    method_word zero = codes "htn_start"
    method_word (suc k) = codes "htn_m_" ++ source_word c.hddl.names plan.schema.name

    abbrev pub stack_method : ActionSchema
    stack_method = record {
      name = name names (method_word m);
      params = method_params (length plan.schema.children);
      pre = And (method_pre (length plan.schema.children));
      eff = E.And (method_eff (length plan.schema.children));
    }
