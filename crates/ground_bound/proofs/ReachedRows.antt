-- Of what is reached: the head and the subtasks of each method are listed, and the rows are as many as may be.
use Rattle.std.proofs.Common.{ℕ, ◌≡◌, ◌+◌, ◌≤◌, inl, inr, List, map, length, Some, slice_get, refl, ap, sym, subst, ◌∙◌, Contains, arith}
use Rattle.std.specs.Option.{option_map}
use Rattle.std.proofs.lemmas.List.{length-append, length-map}
use Rattle.std.proofs.lemmas.List.Elements.{Contains-append_cases}
use Rattle.std.proofs.lemmas.Option.{slice_get-map}
use Rattle.htn_base.specs.Packed.{Row, row_of}
use Rattle.plan_model.specs.declared.values.Compiled.{Compiled}
use Rattle.plan_model.specs.task_networks.Bound.{as_child}
use Rattle.plan_model.specs.plan_meaning.Network.{Work, action, check, task, GroundMethod, IsGroundMethod, network, child_of, decomposed}
use Rattle.plan_model.specs.plan_meaning.Solution.{top_work}
use Rattle.plan_model.proofs.plan_meaning.MethodParts.{head_by, works_by}
use Rattle.plan_model.proofs.plan_meaning.Pairs.{map_to}
use Rattle.plan_texts.specs.SoundlyCompiled.{IsSoundlyCompiled}
use Rattle.slot_machine.proofs.bound_laws.Decided.{Or_not}
use Rattle.reached_parts.specs.Reached.{over, IsReachedBy, AreClosed, IsSize}
use Rattle.reached_parts.specs.MethodOrder.{IsBefore}
use Rattle.reached_parts.specs.HowMany.{IsAtMost}
use Rattle.reached_parts.specs.Search.{method_of, methods_of, task_of, action_of, works_of, AreTheReached}
use Rattle.ground_bound.specs.Grounded.{IsListedTask, HaveListedTasks}
use Rattle.slot_machine.proofs.OtherChildren.{Contains-map}
use Rattle.slot_machine.proofs.bound_laws.FiniteEdges.{keep, keep_to, to_keep, reached_or_not}
use Rattle.reached_parts.proofs.GroundNetwork.{decided}
use Rattle.reached_parts.proofs.LeastLists.{reached_exactly}
use Rattle.reached_parts.proofs.SameMethods.{reached_among}
use Rattle.reached_parts.proofs.Searching.{place, task_apart}

module _ (c : Compiled) (soundly : IsSoundlyCompiled c) (tasks actions rows : List Row) (the : AreTheReached c tasks actions rows) where
  abbrev methods : List GroundMethod
  methods = methods_of rows

  abbrev HasReachedHead : GroundMethod → Type 0
  HasReachedHead g = IsReachedBy c methods ((network c).head g)

  told : (g : GroundMethod) → Or_not (HasReachedHead g)
  told g = reached_or_not (over c methods) IsBefore (top_work c) (decided soundly.problem soundly.checks c soundly.compiled methods the.reached.closed.ground) g

  kept : List GroundMethod
  kept = keep HasReachedHead told methods

  kept_are : (g : GroundMethod) → Contains kept g → Contains methods g
  unfolding kept
  kept_are g k = (keep_to HasReachedHead told methods g k).0

  -- those whose heads are reached are enough
  closed : AreClosed c kept the.atoms
  unfolding kept
  closed = record {
    ground = λ g k. the.reached.closed.ground g (kept_are g k);
    initial = the.reached.closed.initial;
    method = λ g is r m.
        let q = reached_among (network c) IsBefore (top_work c) kept methods kept_are ((network c).head g) r in
        to_keep HasReachedHead told methods g (the.reached.closed.method g is q m) q;
    added = λ n args s e r m a d. the.reached.closed.added n args s e (reached_among (network c) IsBefore (top_work c) kept methods kept_are (action n args) r) m a d;
  }

  head_reached : (g : GroundMethod) → Contains methods g → HasReachedHead g
  unfolding kept
  head_reached g k = (keep_to HasReachedHead told methods g ((the.reached.least kept the.atoms closed).0 g k)).1

  task_listed : (t : ℕ) (args : List ℕ) → IsReachedBy c methods (task t args) → Contains tasks (row_of t args)
  task_listed t args r = elim (Contains-append_cases (map task_of tasks) (map action_of actions) (task t args) ((the.works_are (task t args)).1 (r, tt))) [
    | inl k ↦ (let (q, i, e) = map_to task_of tasks (task t args) k in subst (Contains tasks) (task_apart q (row_of t args) e) i)
    | inr k ↦ (let (q, i, e) = map_to action_of actions (task t args) k in absurd cc)
  ]

  listed : (w : Work) → IsReachedBy c methods w → IsListedTask tasks w
  listed (action a args) r = tt
  listed (check m values) r = tt
  listed (task t args) r = task_listed t args r

  pub have_listed_tasks : HaveListedTasks c tasks rows
  have_listed_tasks r k =
      let g = method_of r in
      let in_methods : Contains methods g = Contains-map method_of rows r k in
      let is = the.reached.closed.ground g in_methods in (
        is.plan,
        is.is,
        record {
          task = listed (decomposed g is.plan) (subst (λ o. IsReachedBy c methods (head_by g o)) is.is (head_reached g in_methods));
          subtasks = λ child d.
              let (i, e) = place is.plan.schema.children child d in
              let at : slice_get (works_by g (Some is.plan)) i ≡ Some (child_of g child) = slice_get-map (child_of g) is.plan.schema.children i ∙ ap (option_map (child_of g)) e in
              listed (child_of g child) (as_child g i in_methods (head_reached g in_methods) (subst (λ o. slice_get (works_by g o) i ≡ Some (child_of g child)) (sym is.is) at));
        },
      )

  pub are_ground : (r : Row) → Contains rows r → IsGroundMethod c (method_of r)
  are_ground r k = the.reached.closed.ground (method_of r) (Contains-map method_of rows r k)

  size : IsSize c (length (works_of tasks actions) + length methods)
  size = record {
    methods = methods;
    atoms = the.atoms;
    reached = the.reached;
    different = the.methods_different;
    works = works_of tasks actions;
    works_different = the.works_different;
    works_are = the.works_are;
    is = refl;
  }

  pub rows_few : (most : ℕ) → IsAtMost c most → length tasks + length rows ≤ most
  rows_few most (n, s, l) =
      let (lists, (m, t, same)) = reached_exactly soundly.problem soundly.checks c soundly.compiled in
      let a = same n s in
      let b = same (length (works_of tasks actions) + length methods) size in
      let x = length-append (map task_of tasks) (map action_of actions) in
      let y = length-map tasks task_of in
      let z = length-map rows method_of in
      omega arith
