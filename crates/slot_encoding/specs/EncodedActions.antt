-- The actions of the printed problem: of the methods, the checks and the source actions.
-- A slot holds what is pending in it; a method puts its children into slots, an action and a check free their slot.
-- Source: this project's encoding, after Alford et al., "Bound to Plan", ICAPS 2016.
use Rattle.std.specs.Prelude.{ℕ, zero, suc, ◌+◌, ◌-◌, cond, List, [], ◌∷◌, ◌++◌, map, length, slice_index, Option, codes, decimal}
use Rattle.plan_model.specs.declared.options.Style.{Style}
use Rattle.plan_model.specs.declared.terms.Term.{Term}
use Rattle.plan_model.specs.declared.terms.Term.TheVariants.{Var}
use Rattle.plan_model.specs.declared.terms.Atom.{Atom}
use Rattle.plan_model.specs.declared.terms.Param.{Param}
use Rattle.plan_model.specs.declared.networks.Child.{Child}
use Rattle.plan_model.specs.declared.networks.Pair.{Pair}
use Rattle.plan_model.specs.declared.formulas.Formula.{Formula}
use Rattle.plan_model.specs.declared.formulas.Formula.TheVariants.{Holds, Equal, Not, And}
use Rattle.plan_model.specs.declared.effects.Effect.{Effect}
use Rattle.plan_model.specs.declared.effects.Effect.TheVariants as E
use Rattle.plan_model.specs.declared.schemas.ActionSchema.{ActionSchema}
use Rattle.plan_model.specs.declared.schemas.MethodPlan.{MethodPlan}
use Rattle.plan_model.specs.declared.values.Compiled.{Compiled}
use Rattle.plan_model.specs.task_networks.Spelling.{numbers, is_heir}
use Rattle.slot_encoding.specs.SourceParts.{name, source_word, source_param}
use Rattle.order_encoder.specs.OrderFormulas.{pair_of, wait_parts, clear_parts, copy_parts}
use Rattle.slot_encoding.specs.EncodedNames.{free_predicate, action_predicate, check_predicate, slot_param, order_numbers}
pub use Rattle.slot_encoding.specs.MethodParts.{no_part, no_effect, is_empty, is_empty_effect, test, condition_part, change_part, task_in, child_in, children_in, constraint_parts, guard_parts, tested_part}

-- the slot variables of the children, from number i on: the heir has the task's, the others the new ones in number order
abbrev pub slot_vars : Option ℕ → ℕ → ℕ → ℕ → List ℕ
slot_vars heir i new zero = []
slot_vars heir i new (suc n) = cond (is_heir heir i) (0 ∷ slot_vars heir (suc i) new n) (new ∷ slot_vars heir (suc i) (suc new) n)

-- each two of the new slots differ
abbrev pub differ : List ℕ → List Formula
differ [] = []
differ (v ∷ vs) = map (λ u. Not (Equal (Var v) (Var u))) vs ++ differ vs

module _ (c : Compiled) (names : List (List ℕ)) (b : ℕ) (style : Style) where
  abbrev pub is_free : ℕ → Atom
  is_free v = record { predicate = free_predicate c; args = Var v ∷ [] }

  abbrev pub source_condition : ℕ → Formula → List Formula
  source_condition front f = condition_part c names front f

  abbrev pub source_change : ℕ → Effect → List Effect
  source_change front e = change_part c names front e

  -- what is held goes, and its slot is free; depth is the number of variables in force
  abbrev pub freeing : Atom → ℕ → List Effect
  freeing held depth = E.Delete held ∷ E.Add (is_free 0) ∷ clear_parts (order_numbers c names b) b depth style (Var 0)

  abbrev pub waiting : ℕ → List Formula
  waiting depth = wait_parts (order_numbers c names b) b depth style (Var 0)

  -- a source action, or the check of a method, with its parameters after the slot
  abbrev pub held_work : ℕ → ℕ → Atom
  held_work predicate count = record { predicate = predicate; args = map Var (numbers 0 (suc count)) }

  abbrev pub work_action : List ℕ → ℕ → List Param → Formula → List Effect → ActionSchema
  work_action word predicate params pre change = record {
    name = name names word;
    params = slot_param c names b (codes "htn_h") ∷ map (source_param names c.hddl.names) params;
    pre = And (Holds (held_work predicate (length params)) ∷ waiting (suc (length params)) ++ source_condition 1 pre);
    eff = E.And (freeing (held_work predicate (length params)) (suc (length params)) ++ change);
  }

  abbrev pub encoded_action : ℕ → ActionSchema → ActionSchema
  encoded_action a s = work_action (source_word c.hddl.names s.name) (action_predicate c a) s.params s.pre (source_change 1 s.eff)

  abbrev pub encoded_check : ℕ → MethodPlan → ActionSchema
  encoded_check m plan = work_action (codes "htn_c_" ++ source_word c.hddl.names plan.schema.name) (check_predicate c m) plan.schema.params plan.schema.pre []

  module _ (m : ℕ) (plan : MethodPlan) where
    -- how many new slots the method takes
    abbrev pub spare : ℕ
    spare = length plan.schema.children - 1

    abbrev pub front : ℕ
    front = suc spare

    abbrev pub depth : ℕ
    depth = front + length plan.schema.params

    abbrev pub children_slots : List ℕ
    children_slots = slot_vars plan.heir 0 1 (length plan.schema.children)

    -- the task of the method, held in slot 0
    abbrev pub held_task : Atom
    held_task = task_in c names front 0 plan

    abbrev pub child_atom : ℕ → Child → Atom
    child_atom v child = child_in c names front m v child

    abbrev pub child_atoms : List ℕ → List Child → List Atom
    child_atoms vs children = children_in c names front m vs children

    abbrev pub constraints : List Formula
    constraints = constraint_parts c names front plan

    abbrev pub guards : List Formula
    guards = guard_parts c names front plan

    abbrev pub tested : List Formula
    tested = tested_part c names front plan

    abbrev pub method_pre : List Formula
    method_pre = Holds held_task ∷ waiting depth ++ (map (λ v. Holds (is_free v)) (numbers 1 spare) ++ (differ (numbers 1 spare) ++ (constraints ++ (guards ++ tested))))

    abbrev pub splitting : List Effect
    splitting =
        E.Delete held_task ∷ map (λ v. E.Delete (is_free v)) (numbers 1 spare)
        ++ (map E.Add (child_atoms children_slots plan.schema.children)
        ++ (map (λ (p : Pair). E.Add (pair_of (order_numbers c names b) b (Var (slice_index children_slots p.first)) (Var (slice_index children_slots p.then)))) plan.schema.pairs
        ++ copies plan.copiers))
      where
        copies : List ℕ → List Effect
        copies [] = []
        copies (i ∷ is) = copy_parts (order_numbers c names b) b depth style (Var 0) (Var (slice_index children_slots i)) ++ copies is

    abbrev pub method_eff : List Child → List Effect
    method_eff [] = freeing held_task depth
    method_eff (child ∷ children) = splitting

    -- the top method is number 0
    abbrev pub method_word : ℕ → List ℕ
    method_word zero = codes "htn_start"
    method_word (suc k) = codes "htn_m_" ++ source_word c.hddl.names plan.schema.name

    abbrev pub encoded_method : ActionSchema
    encoded_method = record {
      name = name names (method_word m);
      params = slot_param c names b (codes "htn_h") ∷ map (λ k. slot_param c names b (codes "htn_h" ++ decimal k)) (numbers 1 spare) ++ map (source_param names c.hddl.names) plan.schema.params;
      pre = And method_pre;
      eff = E.And (method_eff plan.schema.children);
    }
