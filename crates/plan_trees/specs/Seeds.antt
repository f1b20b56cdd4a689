-- The seeds of the nodes of a plan's tree: each stands at an address, behind that of its parent.
-- Source: this project's.
use Rattle.std.specs.Prelude.{ℕ, suc, ◌≡◌, ◌<◌, ◌≤◌, ◌+◌, true, List, [], ◌∷◌, length, slice_get, Option, Some, None, Contains}
use Rattle.htn_base.specs.Different.{AreDifferent}
use Rattle.plan_model.specs.declared.values.Compiled.{Compiled}
use Rattle.plan_model.specs.task_networks.Tree.{Tree, Address, used, label_at, IsAddress}
use Rattle.plan_model.specs.plan_meaning.Network.{network}
use Rattle.hplan_text.specs.declared.values.HNode.{HNode}
use Rattle.hplan_text.specs.declared.values.HPlan.{HPlan}
use Rattle.hplan_text.specs.Printable.{task_ids}
use Rattle.tree_core.specs.Growths.{IsUnder}
use Rattle.plan_encoder.specs.Laws.{IsTreeOfPlan}
use Rattle.numbered_lines.specs.declared.lines.Lines.{Lines}
use Rattle.line_fits.specs.declared.fitted.Fits.{Fits}
use Rattle.line_fits.specs.declared.fitted.MethodFit.{MethodFit}
use Rattle.line_fits.specs.Fitted.{ForPlans, AreFits, method_of}
use Rattle.plan_trees.specs.declared.seed.Source.{Source}
use Rattle.plan_trees.specs.declared.seed.Source.TheVariants.{Step, Task, Check}
use Rattle.plan_trees.specs.declared.seed.Seed.{Seed}
use Rattle.plan_trees.specs.Sources.{fit_of, is_checked}

-- a tree of the plan in which these methods decompose the tasks
pub record IsFittedTree (c : Compiled) (plan : HPlan) (fits : Fits) (tree : Tree (network c)) (node : ℕ → Address) : Type 0 where
  pub of_plan : IsTreeOfPlan c plan tree node
  pub root : label_at (network c) tree [] ≡ Some (used (method_of fits.root))
  pub splits : (k : ℕ) (x : HNode) (fit : MethodFit) → slice_get plan.nodes k ≡ Some x → slice_get fits.splits k ≡ Some fit
      → label_at (network c) tree (node x.line.id) ≡ Some (used (method_of fit))

module _ (c : Compiled) (lines : Lines) (fits : Fits) (plan : HPlan) (node : ℕ → Address) where
  -- the node of the line of this place
  abbrev pub IsNodeOf : ℕ → Address → Type 0
  IsNodeOf place p = (id : ℕ) × (slice_get (task_ids plan) place ≡ Some id) × (p ≡ node id)

  abbrev pub IsTaskAt : Option ℕ → Address → Type 0
  IsTaskAt None p = p ≡ []
  IsTaskAt (Some k) p = IsNodeOf (length lines.steps + k) p

  -- it stands at the address
  abbrev pub StandsAt : Source → Address → Type 0
  StandsAt (Step k) p = (k < length lines.steps) × IsNodeOf k p
  StandsAt (Task task) p = IsTaskAt task p
  StandsAt (Check task) p = (q : Address) × IsTaskAt task q × (p ≡ 0 ∷ q) × (is_checked c (fit_of fits task) ≡ true)

-- these are the addresses of the seeds, and all of the tree, each once
pub record AreSeeds (c : Compiled) (lines : Lines) (fits : Fits) (plan : HPlan) (tree : Tree (network c)) (node : ℕ
    → Address) (seeds : List Seed)
    (order : List Address) : Type 0 where
  pub many : length order ≡ length seeds
  pub under : (k : ℕ) (s : Seed) (p : Address) → slice_get seeds k ≡ Some s → slice_get order k ≡ Some p
      → IsUnder (network c) order k s.parent s.child p
  pub stands : (k : ℕ) (s : Seed) (p : Address) → slice_get seeds k ≡ Some s → slice_get order k ≡ Some p
      → StandsAt c lines fits plan node s.source p
  pub all : (p : Address) → IsAddress (network c) tree p → Contains order p
  pub different : AreDifferent order

-- of each such tree of each plan with these lines
abbrev pub AreSeedsOf : Compiled → Lines → Fits → List Seed → Type 0
AreSeedsOf c lines fits seeds = ForPlans c lines (λ plan. AreFits c plan fits → (tree : Tree (network c)) (node : ℕ → Address)
    → IsFittedTree c plan fits tree node → (order : List Address) × AreSeeds c lines fits plan tree node seeds order)

-- Whatever the lines say, the seeds are joined: each has a parent before the place, which is a decomposed task, and the children of each are
-- numbered.
pub record AreJoinedSeeds (seeds : List Seed) (place : ℕ) : Type 0 where
  pub first : (s : Seed) × (slice_get seeds 0 ≡ Some s) × (s.parent ≡ None)
  pub later : (k : ℕ) (s : Seed) → slice_get seeds (suc k) ≡ Some s → (x : ℕ) × (s.parent ≡ Some x) × (x ≤ k) × (x < place)
  pub tasks : (k x : ℕ) (s up : Seed) → slice_get seeds k ≡ Some s → s.parent ≡ Some x → slice_get seeds x ≡ Some up
      → (task : Option ℕ) × (up.source ≡ Task task)
  -- no child number stands twice under one parent, and none is left out
  pub once : (k l x : ℕ) (s r : Seed) → slice_get seeds k ≡ Some s → slice_get seeds l ≡ Some r → s.parent ≡ Some x → r.parent ≡ Some x
      → s.child ≡ r.child → k ≡ l
  pub none_left_out : (k x i : ℕ) (s : Seed) → slice_get seeds k ≡ Some s → s.parent ≡ Some x → s.child ≡ suc i
      → (l : ℕ) × (r : Seed) × (slice_get seeds l ≡ Some r) × (r.parent ≡ Some x) × (r.child ≡ i)
