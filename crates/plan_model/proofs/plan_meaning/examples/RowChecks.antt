-- Ground methods, fronts, spellings and solutions of a worked row, each from parts that compute.
use Rattle.std.proofs.Common.{Contains, ℕ, ◌≡◌, Bool, false, true, List, [], ◌∷◌, map, slice_get, Some, refl, sym, subst, ◌∙◌, ◌++◌, arith}
use Rattle.std.specs.List.{list_all}
use Rattle.plan_model.specs.declared.schemas.MethodPlan.{MethodPlan}
use Rattle.plan_model.specs.declared.steps.GroundAction.{GroundAction}
use Rattle.plan_model.specs.declared.values.Compiled.{Compiled}
use Rattle.plan_model.specs.task_networks.Net.{Net}
use Rattle.plan_model.specs.task_networks.Tree.{Tree, Address, Label, waits, label_at, work_of, IsGrown, IsOpen}
use Rattle.plan_model.specs.task_networks.Pending.{IsPending}
use Rattle.plan_model.specs.task_networks.Preorder.{nodes_at}
use Rattle.plan_model.specs.task_networks.PendingComputed.{pending}
use Rattle.plan_model.proofs.task_networks.PendingNodes.{pending_iff}
use Rattle.plan_model.specs.task_networks.Schedule.{IsSchedule}
use Rattle.plan_model.specs.task_networks.Front.{IsFront}
use Rattle.plan_model.specs.task_networks.Executable.{AreLabels, AreAllowed, last_state}
use Rattle.plan_model.specs.task_networks.Spelling.{Act, AreActs}
use Rattle.plan_model.proofs.task_networks.Nodes.{lists_address}
use Rattle.plan_model.proofs.task_networks.Tests.{schedule_iff, is_schedule, is_taken, all_to}
use Rattle.plan_model.proofs.task_networks.SpellingTests.{spells_by, is_spelling}
use Rattle.plan_model.specs.plan_meaning.Truth.{State, IsTrueIn, AreTyped}
use Rattle.plan_model.specs.plan_meaning.Network.{GroundMethod, IsGroundMethod, IsDeclared, InTypeOf, Meets, child_of, network}
use Rattle.plan_model.specs.plan_meaning.Solution.{top_work, initial, Allows, next, IsGoal, IsSolution, IsExecutableFront}
use Rattle.plan_model.specs.plan_meaning.SpelledPlan.{step_of, IsSpelling}
use Rattle.plan_model.proofs.plan_meaning.TruthEquations.{truth-And}
use Rattle.plan_model.proofs.plan_meaning.examples.TruthExamples.{from}
use Rattle.plan_model.proofs.plan_meaning.examples.FlatNetworks.{is_pair_by, flat_decides, is_flat}
use Rattle.plan_model.proofs.plan_meaning.ListedItems.{Every, of_each}
use Rattle.plan_model.proofs.plan_meaning.examples.RowValues.{always}

-- the empty conjunction is true in every state
pub always_true : (InType : ℕ → ℕ → Type 0) (S : State) (values : List ℕ) → IsTrueIn InType S always values
always_true InType S values = from (λ i. truth-And InType S [] i values) tt

-- a method that is not tested asks nothing
pub untested : {A : Type 0} → false ≡ true → A
untested e = absurd cc

-- a tree has its labels in one way
pub same_labels : (N : Net) (tree : Tree N) (order : List Address) (labels others : List (Label N)) → AreLabels N tree order labels → AreLabels N tree order others → labels ≡ others
same_labels N tree [] [] [] a b = refl
same_labels N tree [] [] (k ∷ ks) a b = absurd b
same_labels N tree [] (l ∷ ls) ks a b = absurd a
same_labels N tree (p ∷ ps) [] ks a b = absurd a
same_labels N tree (p ∷ ps) (l ∷ ls) [] a b = absurd b
same_labels N tree (p ∷ ps) (l ∷ ls) (k ∷ ks) a b =
    let e : Some l ≡ Some k = sym a.0 ∙ b.0 in
    let f : l ≡ k = cc in
    let g : ls ≡ ks = same_labels N tree ps ls ks a.1 b.1 in
    λ i. f i ∷ g i

module _ (c : Compiled) where
  pub ground_by : (g : GroundMethod) (plan : MethodPlan) → slice_get c.methods g.number ≡ Some plan → AreTyped (InTypeOf c) plan.schema.params g.values
      → Every (Meets g.values) plan.schema.constraints → Every (λ child. IsDeclared c (child_of g child)) plan.schema.children → IsGroundMethod c g
  ground_by g plan is typed constraints declared = record {
    plan = plan;
    is = is;
    typed = typed;
    met = record {
      constraints = of_each (Meets g.values) plan.schema.constraints constraints;
      declared = of_each (λ child. IsDeclared c (child_of g child)) plan.schema.children declared;
    };
  }

  abbrev pub precedes : GroundMethod → ℕ → ℕ → Bool
  precedes g = is_pair_by (slice_get c.methods g.number)

  -- a schedule is one by computation
  pub schedule_by : list_all is_flat c.methods ≡ true → (tree : Tree (network c)) (order : List Address) → is_schedule (network c) precedes tree order ≡ true → IsSchedule (network c) tree order
  schedule_by flat tree order e = (schedule_iff (network c) precedes (flat_decides c flat) tree order).0 e

  pub no_schedule_by : list_all is_flat c.methods ≡ true → (tree : Tree (network c)) (order : List Address) → is_schedule (network c) precedes tree order ≡ false → IsSchedule (network c) tree order → ⊥
  no_schedule_by flat tree order e s = absurd (let f = (schedule_iff (network c) precedes (flat_decides c flat) tree order).1 s in cc)

  pub front_by : list_all is_flat c.methods ≡ true → (tree : Tree (network c)) (order : List Address) → IsGrown (network c) tree → work_of (network c) tree ≡ top_work c → is_schedule (network c) precedes tree order ≡ true → IsFront (network c) (top_work c) tree order
  front_by flat tree order grown root e = record { grown = grown; root = root; schedule = schedule_by flat tree order e }

  pub spelling_by : (b : ℕ) (acts : List (Act (network c))) (tree : Tree (network c)) (order : List Address) (slot : Address → ℕ) → IsFront (network c) (top_work c) tree order
      → slot [] ≡ 1 → is_spelling (network c) b tree order slot ≡ true → AreActs (network c) tree slot order acts → IsSpelling c b (map (step_of c) acts) tree order slot
  spelling_by b acts tree order slot front root e spelled = (acts, spells_by (network c) b (top_work c) acts tree order slot front root e spelled, refl)

  -- no leaf is open
  abbrev pub is_closed : Tree (network c) → Bool
  is_closed tree = list_all (λ p. is_taken (network c) precedes (label_at (network c) tree p)) (nodes_at (network c) [] tree)

  none_open : (tree : Tree (network c)) → is_closed tree ≡ true → (p : Address) → IsOpen (network c) tree p → ⊥
  none_open tree e p (w, f) =
      let a = all_to (λ p. is_taken (network c) precedes (label_at (network c) tree p)) (nodes_at (network c) [] tree) e p (lists_address (network c) tree p (waits w, f)) in
      let b : is_taken (network c) precedes (Some (waits w)) ≡ true = subst (λ z. is_taken (network c) precedes z ≡ true) f a in
      absurd cc

  pub solution_by : (tree : Tree (network c)) (order : List Address) (labels : List (Label (network c))) → IsFront (network c) (top_work c) tree order → is_closed tree ≡ true
      → AreLabels (network c) tree order labels → AreAllowed (network c) State (Allows c) (next c) (initial c) labels → IsGoal c (last_state (network c) State (Allows c) (next c) (initial c) labels)
      → IsSolution c tree order
  solution_by tree order labels front closed are allowed goal = record {
    finished = record { front = front; no_leaves = none_open tree closed };
    executable = record { labels = labels; are_labels = are; allowed = allowed };
    goal = goal;
  }

  -- each node of an executable front is allowed
  pub allowed_of : (tree : Tree (network c)) (order : List Address) (labels : List (Label (network c))) → AreLabels (network c) tree order labels → IsExecutableFront c tree order
      → AreAllowed (network c) State (Allows c) (next c) (initial c) labels
  allowed_of tree order labels are f = subst (AreAllowed (network c) State (Allows c) (next c) (initial c)) (same_labels (network c) tree order f.executable.labels labels f.executable.are_labels are) f.executable.allowed

  -- with one slot no two nodes are pending at a time
  pub one_slot : (steps : List GroundAction) (tree : Tree (network c)) (order : List Address) (slot : Address → ℕ) → IsSpelling c 1 steps tree order slot
      → (taken rest : List Address) → order ≡ taken ++ rest → (u v : Address) → Contains (pending (network c) tree taken) u → Contains (pending (network c) tree taken) v → u ≡ v
  one_slot steps tree order slot s taken rest e u v a b =
      let p : IsPending (network c) tree taken u = (pending_iff (network c) tree taken u).0 a in
      let q : IsPending (network c) tree taken v = (pending_iff (network c) tree taken v).0 b in
      let x = s.1.range u p.address in
      let y = s.1.range v q.address in
      s.1.apart taken rest e u v p q (omega arith)
