-- What is true at the start, the goal and the actions of the printed problem, each part as it is made from the frame.
-- Source: this project's encoding, after Alford et al., "Bound to Plan", ICAPS 2016.
use Rattle.std.specs.Prelude.{ℕ, suc, ◌≡◌, ◌+◌, ◌-◌, cond, Option, Some, List, [], ◌∷◌, ◌++◌, map, length, slice_index, slice_get, codes, decimal}
use Rattle.std.specs.List.{flat_map}
use Rattle.htn_base.specs.declared.name.Name.{Name}
use Rattle.plan_model.specs.declared.options.Slots.{Slots}
use Rattle.plan_model.specs.declared.terms.Param.{Param}
use Rattle.plan_model.specs.declared.terms.Term.{Term}
use Rattle.plan_model.specs.declared.terms.Term.TheVariants.{Var, Obj}
use Rattle.plan_model.specs.declared.terms.Atom.{Atom}
use Rattle.plan_model.specs.declared.terms.GroundAtom.{GroundAtom}
use Rattle.plan_model.specs.declared.formulas.Formula.{Formula}
use Rattle.plan_model.specs.declared.formulas.Formula.TheVariants.{Holds, Forall}
use Rattle.plan_model.specs.declared.effects.Effect.{Effect}
use Rattle.plan_model.specs.declared.effects.Effect.TheVariants as E
use Rattle.plan_model.specs.declared.networks.Head.{Head}
use Rattle.plan_model.specs.declared.networks.Head.TheVariants.{Task, Action, Check}
use Rattle.plan_model.specs.declared.networks.Child.{Child}
use Rattle.plan_model.specs.declared.networks.Constraint.{Constraint}
use Rattle.plan_model.specs.declared.networks.Guard.{Guard}
use Rattle.plan_model.specs.declared.networks.Pair.{Pair}
use Rattle.plan_model.specs.declared.schemas.ActionSchema.{ActionSchema}
use Rattle.plan_model.specs.declared.schemas.MethodPlan.{MethodPlan}
use Rattle.plan_model.specs.declared.schemas.Predicate.{Predicate}
use Rattle.plan_model.specs.declared.values.Pddl.{Pddl}
use Rattle.plan_model.specs.plan_meaning.Network.{InTypeOf}
use Rattle.plan_model.specs.plan_meaning.Compilation.{Keeps}
use Rattle.plan_model.specs.task_networks.Spelling.{numbers}
use Rattle.slot_encoding.specs.SourceParts as source
use Rattle.order_encoder.specs.OrderFormulas as order
use Rattle.slot_encoding.specs.EncodedNames as encoded
use Rattle.slot_encoding.specs.EncodedActions as actions
use Rattle.slot_encoding.specs.EncodedValue as value
use Rattle.slot_encoding.specs.FirstFree as first
use Rattle.slot_encoder.specs.Pieces.{encoded_goal}
use Rattle.slot_encoder.specs.Rules as rules
use Rattle.slot_encoder.specs.Parts as parts
use Rattle.slot_encoder.specs.Encodings as encodings
use Rattle.slot_encoder.specs.declared.lower_slots.LowerSlots.{LowerSlots}
use Rattle.slot_encoder.specs.declared.split_action.SplitAction.{SplitAction}
use Rattle.slot_encoding.specs.slot_declarations.Made as declarations
use Rattle.slot_encoding.specs.declared.slot_declarations.declarations.Declarations.{Declarations}
use Rattle.slot_encoding.specs.declared.slot_declarations.frame.Frame.{Frame}

module _ (f : Frame) where
  -- the compiled problem, the words of the source and of the printed problem, the number of slots, the style
  open f use {compiled.{now as c, now.{hddl.{names as own}}}, printed.{now as words}, slots as b, style}

  abbrev pairs : order.OrderNumbers
  pairs = encoded.order_numbers c words b

  -- what stands in the source, with the names, types and variables of the printed problem
  abbrev pub term : ℕ → Term → Term
  term = source.moved words own

  abbrev pub atom : ℕ → Atom → Atom
  atom = source.source_atom words own

  abbrev pub formula : ℕ → Formula → Formula
  formula = source.source_formula words own

  abbrev pub effect : ℕ → Effect → Effect
  effect = source.source_effect words own

  -- none where it is an empty conjunction
  abbrev pub condition : ℕ → Formula → List Formula
  condition = actions.source_condition c words b style

  abbrev pub change : ℕ → Effect → List Effect
  change = actions.source_change c words b style

  -- atoms, conditions and effects of slots
  abbrev pub is_free : ℕ → Atom
  is_free = actions.is_free c words b style

  abbrev pub comes_before : ℕ → ℕ → Atom
  comes_before first then = order.pair_of pairs b (Var first) (Var then)

  -- a slot holds what has these arguments
  abbrev pub held_atom : ℕ → ℕ → ℕ → List Term → Atom
  held_atom predicate slot front terms = record { predicate = predicate; args = Var slot ∷ map (term front) terms }

  abbrev pub waiting : ℕ → List Formula
  waiting = actions.waiting c words b style

  abbrev pub cleared : ℕ → List Effect
  cleared depth = order.clear_parts pairs b depth style (Var 0)

  abbrev pub freeing : Atom → ℕ → List Effect
  freeing = actions.freeing c words b style

  -- all actions
  abbrev pub all_actions : List ActionSchema
  all_actions = value.encoded_actions c words b style

  -- of the methods, the top method being number 0
  abbrev pub method_actions : List MethodPlan → List ActionSchema
  method_actions = value.encoded_methods c words b style 0

  abbrev pub method_action : ℕ → MethodPlan → ActionSchema
  method_action = actions.encoded_method c words b style

  abbrev pub method_name : ℕ → MethodPlan → Name
  method_name m plan = source.name words (actions.method_word c words b style m plan m)

  abbrev pub new_slot : ℕ → Param
  new_slot k = declarations.slot_param f (codes "htn_h" ++ decimal k)

  -- the task's slot, the new slots, and the method's own parameters
  abbrev pub method_params : MethodPlan → List Param
  method_params plan = declarations.slot_param f (codes "htn_h") ∷ map new_slot (numbers 1 (length plan.schema.children - 1)) ++ map (declarations.param f) plan.schema.params

  -- the method's task, in the first slot
  abbrev pub method_task : ℕ → MethodPlan → Atom
  method_task front plan = held_atom (encoded.task_predicate c plan.schema.task) 0 front plan.schema.task_args

  abbrev pub new_slots_free : ℕ → List Formula
  new_slots_free spare = map (λ v. Holds (is_free v)) (numbers 1 spare)

  abbrev pub constraint : ℕ → Constraint → Formula
  constraint front con = actions.test con.equal (term front con.left) (term front con.right)

  abbrev pub constraints : ℕ → List Constraint → List Formula
  constraints front cs = map (constraint front) cs

  abbrev pub guard : ℕ → Guard → Formula
  guard front g = Holds (record { predicate = encoded.guard_predicate c g.ty; args = term front g.term ∷ [] })

  abbrev pub guards : ℕ → List Guard → List Formula
  guards front gs = map (guard front) gs

  -- the precondition where it is tested at once
  abbrev pub tested : ℕ → MethodPlan → List Formula
  tested front plan = cond plan.tested (condition front plan.schema.pre) []

  -- a method's condition: what stands before that the new slots differ, and what stands behind
  abbrev pub method_before : MethodPlan → List Formula
  method_before plan = Holds (actions.held_task c words b style 0 plan) ∷ waiting (actions.depth c words b style 0 plan) ++ new_slots_free (actions.spare c words b style 0 plan)

  abbrev pub method_behind : ℕ → MethodPlan → List Formula
  method_behind front plan = constraints front plan.schema.constraints ++ (guards front plan.guards ++ tested front plan)

  abbrev pub new_slots_taken : ℕ → List Effect
  new_slots_taken spare = map (λ v. E.Delete (is_free v)) (numbers 1 spare)

  -- a child in its slot; check: the predicate of the method's check
  abbrev pub child_atom : ℕ → ℕ → ℕ → Child → Atom
  child_atom front check v child = by child.head
    where
      by : Head → Atom
      by (Task t) = held_atom (encoded.task_predicate c t) v front child.args
      by (Action a) = held_atom (encoded.action_predicate c a) v front child.args
      by Check = held_atom check v front child.args

  abbrev pub child_atoms : ℕ → ℕ → List ℕ → List Child → List Atom
  child_atoms front check (v ∷ vs) (child ∷ children) = child_atom front check v child ∷ child_atoms front check vs children
  child_atoms front check [] children = []
  child_atoms front check (v ∷ vs) [] = []

  abbrev pub added_pair : List ℕ → Pair → Effect
  added_pair slots p = E.Add (comes_before (slice_index slots p.first) (slice_index slots p.then))

  abbrev pub added_pairs : List ℕ → List Pair → List Effect
  added_pairs slots ps = map (added_pair slots) ps

  -- the order of what waits for the task, copied for one child
  abbrev pub copied : ℕ → List ℕ → ℕ → List Effect
  copied depth slots i = order.copy_parts pairs b depth style (Var 0) (Var (slice_index slots i))

  -- what a method with children does besides that the task goes: the new slots are taken, the children are in theirs, in order
  abbrev pub children_put : ℕ → MethodPlan → List Effect
  children_put check plan =
      new_slots_taken (actions.spare c words b style 0 plan)
      ++ (map E.Add (child_atoms (actions.front c words b style 0 plan) check (actions.children_slots c words b style 0 plan) plan.schema.children)
      ++ (added_pairs (actions.children_slots c words b style 0 plan) plan.schema.pairs
      ++ flat_map (copied (actions.depth c words b style 0 plan) (actions.children_slots c words b style 0 plan)) plan.copiers))

  -- a method with children puts them into slots
  abbrev pub split : ℕ → MethodPlan → List Effect
  split check plan =
      E.Delete (actions.held_task c words b style 0 plan) ∷ new_slots_taken (actions.spare c words b style 0 plan)
      ++ (map E.Add (child_atoms (actions.front c words b style 0 plan) check (actions.children_slots c words b style 0 plan) plan.schema.children)
      ++ (added_pairs (actions.children_slots c words b style 0 plan) plan.schema.pairs
      ++ flat_map (copied (actions.depth c words b style 0 plan) (actions.children_slots c words b style 0 plan)) plan.copiers))

  abbrev pub method_change : ℕ → MethodPlan → List Child → List Effect
  method_change check plan [] = freeing (actions.held_task c words b style 0 plan) (actions.depth c words b style 0 plan)
  method_change check plan (child ∷ children) = split check plan

  -- a childless method frees the task's slot
  abbrev pub method_eff : ℕ → MethodPlan → List Effect
  method_eff check plan = method_change check plan plan.schema.children

  -- of the checks
  abbrev pub check_actions : List MethodPlan → List ActionSchema
  check_actions = value.encoded_checks c words b style 0

  abbrev pub check_action : ℕ → MethodPlan → ActionSchema
  check_action check plan = actions.work_action c words b style (codes "htn_c_" ++ source.source_word own plan.schema.name) check plan.schema.params plan.schema.pre []

  -- of the source
  abbrev pub source_actions : List ActionSchema → List ActionSchema
  source_actions = value.encoded_source c words b style 0

  abbrev pub source_action : ℕ → ActionSchema → ActionSchema
  source_action = actions.encoded_action c words b style

  -- of a source action or a check: the slot, and then the parameters
  abbrev pub work_params : List Param → List Param
  work_params params = declarations.slot_param f (codes "htn_h") ∷ map (declarations.param f) params

  abbrev pub work_atom : ℕ → ℕ → Atom
  work_atom = actions.held_work c words b style

  -- it is held in the slot with nothing before it, and its own condition holds
  abbrev pub work_pre : ℕ → ℕ → Formula → List Formula
  work_pre predicate count pre = Holds (work_atom predicate count) ∷ waiting (suc count) ++ condition 1 pre

  abbrev pub work_eff : ℕ → ℕ → List Effect
  work_eff predicate count = freeing (work_atom predicate count) (suc count)

  -- what is true at the start
  abbrev pub IsInitial : List GroundAtom → Type 0
  IsInitial = value.IsInitial c words b style

  abbrev pub first_atoms : List GroundAtom
  first_atoms = value.first_atoms c words b style

  abbrev pub slot_atom : ℕ → GroundAtom
  slot_atom k = value.atom (encoded.free_predicate c) (encoded.first_slot c + k)

  -- the guard atoms of these types behind old
  abbrev pub AddsGuardAtoms : List ℕ → List GroundAtom → List GroundAtom → Type 0
  AddsGuardAtoms tys old new = (added : List GroundAtom) × value.AreGuardAtoms c words b style tys added × (new ≡ old ++ added)

  -- the atoms of one guard behind old
  abbrev pub AddsMembers : ℕ → List GroundAtom → List GroundAtom → Type 0
  AddsMembers ty old new = (members : List ℕ) × Keeps (λ o. InTypeOf c o ty) (numbers 0 (length c.hddl.objects)) members × (new ≡ old ++ map (value.atom (encoded.guard_predicate c ty)) members)

  -- the goal: the source's, and every slot free
  abbrev pub goal : Formula
  goal = encoded_goal c words b style

  abbrev pub free : Term → Formula
  free slot = Holds (record { predicate = encoded.free_predicate c; args = slot ∷ [] })

  abbrev pub slot_free : ℕ → Formula
  slot_free o = free (Obj o)

  abbrev pub any_slot_free : Formula
  any_slot_free = Forall (order.any_slot (encoded.order_numbers c words 0) 0) (free (Var 0))

  abbrev pub slots_free : List Formula
  slots_free = order.free_parts pairs b 0 style (encoded.free_predicate c)

  -- all but the actions and what is true of lower slots, by which free slots a method takes
  abbrev pub IsHead : Slots → Pddl → Type 0
  IsHead rule = parts.IsHead rule c words b style

  abbrev pub AreDeclared : Slots → Declarations → Type 0
  AreDeclared rule = parts.AreDeclared rule c words b style

  -- the predicate for lower slots, and how they are said
  abbrev pub less : Predicate
  less = first.less c words b style

  abbrev pub lower_slots : Slots → Option LowerSlots
  lower_slots rule = rules.lower_slots rule c words b style

  -- a split action is this one, whichever free slots a method takes
  abbrev pub IsMethod : ℕ → SplitAction → Type 0
  IsMethod m a = (rule : Slots) → slice_get (rules.methods rule c words b style) m ≡ Some (encodings.whole_by rule c words b style a)

  abbrev pub IsCheck : ℕ → SplitAction → Type 0
  IsCheck j a = (rule : Slots) → slice_get (check_actions c.methods) j ≡ Some (encodings.whole_by rule c words b style a)

  abbrev pub IsSource : ℕ → ActionSchema → SplitAction → Type 0
  IsSource a action s = (rule : Slots) → encodings.whole_by rule c words b style s ≡ source_action a action

  abbrev pub IsAction : ℕ → SplitAction → Type 0
  IsAction k a = (rule : Slots) → slice_get (rules.actions rule c words b style) k ≡ Some (encodings.whole_by rule c words b style a)
