-- The edges between the tasks of a compiled problem; bad cycles, tail-recursive problems, rankings and groups.
-- Source: this project's, after the tail-recursive problems of Alford et al., "Bound to Plan", ICAPS 2016.
use Rattle.std.specs.Prelude.{ℕ, ◌≡◌, ◌<◌, ◌⊎◌, ◌↔◌, List, ◌∷◌, ◌++◌, Contains, slice_get, Option, Some, None}
use Rattle.plan_model.specs.declared.values.Compiled.{Compiled}
use Rattle.plan_model.specs.task_networks.Order.{IsLast}
use Rattle.plan_model.specs.task_networks.Net.{count}
use Rattle.plan_model.specs.task_networks.Bound.{IsReached}
use Rattle.plan_model.specs.task_networks.Strata as Edges
use Rattle.plan_model.specs.plan_meaning.Network.{top_task}
use Rattle.plan_model.specs.plan_meaning.Schemas.{Schema, task, schemas}

-- a method, by its place in the compiled list, and the number of one of its children
pub record Edge : Type 0 where
  pub method : ℕ
  pub child : ℕ

-- the method's place first, then the child's number
abbrev pub IsEarlier : Edge → Edge → Type 0
IsEarlier e f = (e.method < f.method) ⊎ ((e.method ≡ f.method) × (e.child < f.child))

module _ (c : Compiled) where
  -- the task is reached from the top task
  abbrev pub IsReachedTask : ℕ → Type 0
  IsReachedTask t = IsReached (schemas c) (task (top_task c)) (task t)

  -- what the edge goes from, and what it goes to
  abbrev pub source : Edge → Schema
  source e = (schemas c).head e.method

  abbrev pub target_by : Option Schema → Schema
  target_by (Some s) = s
  target_by None = task 0

  abbrev pub target : Edge → Schema
  target e = target_by (slice_get ((schemas c).works e.method) e.child)

  -- an edge: a method of a reached task, and a child that is a task
  pub record IsEdge (e : Edge) : Type 0 where
    pub ground : (schemas c).IsGround e.method
    pub reached : IsReached (schemas c) (task (top_task c)) (source e)
    pub subtask : ℕ
    pub is : slice_get ((schemas c).works e.method) e.child ≡ Some (task subtask)

  -- all edges, in their order
  pub record AreEdges (edges : List Edge) : Type 0 where
    pub all : (e : Edge) → Contains edges e ↔ IsEdge e
    pub in_order : (before rest : List Edge) (e f : Edge) → edges ≡ before ++ e ∷ f ∷ rest → IsEarlier e f

  -- the child doesn't come after all its siblings
  abbrev pub IsBad : Edge → Type 0
  IsBad e = IsLast ((schemas c).Pair e.method) (count (schemas c) e.method) e.child → ⊥

  abbrev pub IsTailRecursive : Type 0
  IsTailRecursive = (edges : List Edge) × AreEdges edges × Edges.IsTailRecursive source target edges IsBad

  -- the bad cycle that is named: a bad edge, and the walk back
  abbrev pub IsNamedCycle : Edge → List Edge → Type 0
  IsNamedCycle e walk = (edges : List Edge) × AreEdges edges × Edges.IsNamedCycle source target edges IsBad e walk

  -- rank gives each task a number
  abbrev pub IsRanking : (Schema → ℕ) → Type 0
  IsRanking rank = (edges : List Edge) × AreEdges edges × Edges.IsLawfulRanking source target edges IsBad rank

  abbrev pub IsOneGroup : Schema → Schema → Type 0
  IsOneGroup s t = (edges : List Edge) × AreEdges edges × Edges.IsOneGroup source target edges s t
