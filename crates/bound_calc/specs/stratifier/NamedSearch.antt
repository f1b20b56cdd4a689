-- The search for the bad cycle that is named: the tasks that edges go from and to, distances, and first steps.
-- Source: this project's.
use Rattle.std.specs.Prelude.{ℕ, zero, suc, ◌≡◌, ◌+◌, ◌<◌, ◌≤◌, ◌⊎◌, List, [], ◌∷◌, map, length, All, Contains, Bool, true, slice_get, slice_index_or, Option, Some, None, sum_by}
use Rattle.plan_model.specs.declared.networks.Head.TheVariants.{Task}
use Rattle.plan_model.specs.declared.networks.Child.{Child}
use Rattle.plan_model.specs.declared.schemas.MethodPlan.{MethodPlan}
use Rattle.plan_model.specs.declared.values.Compiled.{Compiled}
use Rattle.plan_model.specs.task_networks.Strata.{IsWalk, Reaches, ComesFirst}
use Rattle.plan_model.specs.plan_meaning.Network.{top_task}
use Rattle.plan_model.specs.plan_meaning.Schemas.{Schema, task}
use Rattle.plan_model.specs.plan_meaning.Strata.{Edge, AreEdges, source, target}
use Rattle.bound_calc.specs.declared.stratifier.edge.Edge as Declared
use Rattle.bound_calc.specs.declared.stratifier.named.Ends.{Ends}
use Rattle.bound_calc.specs.stratifier.Listed.{edge_of}

-- the edge goes from the method's task to the child's
pub record IsEndsOf (methods : List MethodPlan) (e : Declared.Edge) (n : Ends) : Type 0 where
  pub plan : MethodPlan
  pub child : Child
  pub is : slice_get methods e.method ≡ Some plan
  pub at : slice_get plan.schema.children e.child ≡ Some child
  pub from : plan.schema.task ≡ n.from
  pub to : child.head ≡ Task n.to

abbrev pub HasEnds : List MethodPlan → Declared.Edge → Type 0
HasEnds methods e = (n : Ends) × IsEndsOf methods e n

abbrev pub AreEndsBelow : ℕ → List Ends → Type 0
AreEndsBelow count ends = All (λ (n : Ends). (n.from < count) × (n.to < count)) ends

-- the ends of each edge
pub record AreEnds (c : Compiled) (edges : List Declared.Edge) (ends : List Ends) : Type 0 where
  pub room : length ends ≡ length edges
  pub from : (k : ℕ) (e : Declared.Edge) (n : Ends) → slice_get edges k ≡ Some e → slice_get ends k ≡ Some n → source c (edge_of e) ≡ task n.from
  pub to : (k : ℕ) (e : Declared.Edge) (n : Ends) → slice_get edges k ≡ Some e → slice_get ends k ≡ Some n → target c (edge_of e) ≡ task n.to
  pub below : AreEndsBelow (top_task c + 1) ends

-- those of all edges
abbrev pub AreAllEnds : Compiled → List Ends → Type 0
AreAllEnds c ends = (edges : List Declared.Edge) × AreEdges c (map edge_of edges) × AreEnds c edges ends

-- of all walks the shortest, and of these the first
pub record IsBest {Node Link : Type 0} (source target : Link → Node) (edges : List Link) (x y : Node) (walk : List Link) : Type 0 where
  pub walks : IsWalk source target edges x walk y
  pub shortest : (back : List Link) → IsWalk source target edges x back y → length walk ≤ length back
  pub first : (back : List Link) → IsWalk source target edges x back y → length back ≡ length walk → (walk ≡ back) ⊎ ComesFirst source target edges walk back

module _ (c : Compiled) (edges : List Declared.Edge) where
  abbrev pub IsBestWalk : Schema → Schema → List Edge → Type 0
  IsBestWalk = IsBest (source c) (target c) (map edge_of edges)

  -- a walk leads back from the end of the edge at this place
  abbrev pub ClosesAt : ℕ → Type 0
  ClosesAt k = (e : Declared.Edge) × (slice_get edges k ≡ Some e) × Reaches (source c) (target c) (map edge_of edges) (target c (edge_of e)) (source c (edge_of e))

  -- the edge at this place, and the best walk back
  abbrev pub IsCycleAt : ℕ → List Declared.Edge → Type 0
  IsCycleAt k cycle = (e : Declared.Edge) × (slice_get edges k ≡ Some e) × (walk : List Edge) × (map edge_of cycle ≡ edge_of e ∷ walk) × IsBestWalk (target c (edge_of e)) (source c (edge_of e)) walk

-- the first bad edge whose ends are of one group
abbrev pub IsClosing : List ℕ → List Ends → List Bool → ℕ → Type 0
IsClosing groups ends bad k = (n : Ends) × (slice_get ends k ≡ Some n) × (slice_get bad k ≡ Some true) × (slice_index_or groups n.from 0 ≡ slice_index_or groups n.to 0)

-- so many edges lead from the task to the goal, one after another
abbrev pub Leads : List Ends → ℕ → ℕ → ℕ → Type 0
Leads ends goal zero t = t ≡ goal
Leads ends goal (suc n) t = (e : Ends) × Contains ends e × (e.from ≡ t) × Leads ends goal n e.to

-- for each task the least number of edges that lead to the goal
pub record AreDistances (ends : List Ends) (goal : ℕ) (found : List (Option ℕ)) : Type 0 where
  pub leads : (t n : ℕ) → slice_index_or found t None ≡ Some n → Leads ends goal n t
  pub least : (t m : ℕ) → Leads ends goal m t → (n : ℕ) × (slice_index_or found t None ≡ Some n) × (n ≤ m)

abbrev pub IsOneMore : Option ℕ → Option ℕ → Type 0
IsOneMore from to = (n : ℕ) × (from ≡ Some (suc n)) × (to ≡ Some n)

abbrev pub IsNearer : List (Option ℕ) → Ends → Type 0
IsNearer found e = IsOneMore (slice_index_or found e.from None) (slice_index_or found e.to None)

-- the edge at this place goes from the task one step nearer to the goal
abbrev pub IsStep : List Ends → List (Option ℕ) → ℕ → ℕ → Type 0
IsStep ends found t k = (e : Ends) × (slice_get ends k ≡ Some e) × (e.from ≡ t) × IsNearer found e

-- for each task the first such edge
pub record AreFirstSteps (ends : List Ends) (found : List (Option ℕ)) (steps : List (Option ℕ)) : Type 0 where
  pub room : length steps ≡ length found
  pub first : (t k : ℕ) → slice_index_or steps t None ≡ Some k → IsStep ends found t k × ((j : ℕ) → j < k → IsStep ends found t j → ⊥)
  pub none : (t k : ℕ) → slice_index_or steps t None ≡ None → IsStep ends found t k → ⊥

abbrev pub IsSourceInto : List Ends → ℕ → ℕ → Type 0
IsSourceInto ends s t = (e : Ends) × Contains ends e × (e.from ≡ s) × (e.to ≡ t)

abbrev pub IsSourceOf : List (List ℕ) → List ℕ → ℕ → Type 0
IsSourceOf sources tasks s = (t : ℕ) × Contains tasks t × Contains (slice_index_or sources t []) s

abbrev pub weight : Option ℕ → ℕ
weight None = 1
weight (Some n) = 0

-- how many have no distance
abbrev pub left : List (Option ℕ) → ℕ
left found = sum_by weight found

-- the tasks that are as Into says have a distance; those that had none have this one, and are listed
pub record AreFound (Into : ℕ → Type 0) (distance : ℕ) (old new : List (Option ℕ)) (next : List ℕ) : Type 0 where
  pub room : length new ≡ length old
  pub kept : (t n : ℕ) → slice_index_or old t None ≡ Some n → slice_index_or new t None ≡ Some n
  pub into : (t : ℕ) → Into t → (n : ℕ) × (slice_index_or new t None ≡ Some n)
  pub fresh : (t n : ℕ) → slice_index_or new t None ≡ Some n → (slice_index_or old t None ≡ Some n) ⊎ ((n ≡ distance) × Contains next t × Into t)
  pub listed : (t : ℕ) → Contains next t → slice_index_or new t None ≡ Some distance
  pub many : left new + length next ≡ left old
