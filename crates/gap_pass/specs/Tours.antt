-- Tours through a tree: each node is entered and later left, and what it waits for is left before.
-- Source: this project's.
use Rattle.std.specs.Prelude.{ℕ, ◌≡◌, List, [], ◌∷◌, length, take, Option, Some, None, option_map, slice_get, Contains}
use Rattle.std.specs.List.{filter_map}
use Rattle.std.specs.Option.{option_map_or}
use Rattle.htn_base.specs.Different.{AreDifferent}
use Rattle.plan_model.specs.declared.schemas.MethodPlan.{MethodPlan}
use Rattle.plan_model.specs.declared.values.Compiled.{Compiled}
use Rattle.plan_model.specs.Pairs.{Pairs}
use Rattle.plan_model.specs.task_networks.Order.{Precedes, IsLine}
use Rattle.plan_model.specs.task_networks.Net.{Net}
use Rattle.plan_model.specs.task_networks.Tree.{Tree, Label, waits, ran, used, Address, label_at, IsGrown}
use Rattle.plan_model.specs.task_networks.Preorder.{preorder}
use Rattle.plan_model.specs.plan_meaning.Network.{network}
use Rattle.tree_core.specs.Tables.{Row, table}
use Rattle.tree_core.specs.Labels.{labels, labelled}
use Rattle.tree_core.specs.Runs.{label_in}
use Rattle.gap_pass.specs.Children.{children_at}
use Rattle.gap_pass.specs.declared.tour.Step.{Step}
use Rattle.gap_pass.specs.declared.tour.Step.TheVariants.{Enter, Leave}

-- each method has the line of its children
abbrev pub HasLines : Compiled → Type 0
HasLines c = (m : ℕ) (plan : MethodPlan) → slice_get c.methods m ≡ Some plan
    → IsLine (Pairs plan.schema.pairs) (length plan.schema.children) plan.line

-- the number of the method that stands at a node
abbrev pub method_of : Option (Label labels) → Option ℕ
method_of None = None
method_of (Some (waits w)) = None
method_of (Some (ran w)) = None
method_of (Some (used d)) = Some d.method.number

abbrev pub line_of : Compiled → Option (Label labels) → List ℕ
line_of c label = option_map_or (λ m. option_map_or (λ (plan : MethodPlan). plan.line) (slice_get c.methods m) []) (method_of label) []

-- the children of these numbers, each to be entered
abbrev pub entered : List ℕ → List ℕ → List Step
entered children line = filter_map (λ i. option_map Enter (slice_get children i)) line

-- what a step is followed by on the stack, of which the end comes first
abbrev pub following : Compiled → List (Row labels) → List (List ℕ) → Step → List Step
following c rows children (Enter k) = Leave k ∷ entered (children_at children k) (line_of c (label_in rows k))
following c rows children (Leave k) = []

-- what holds of each grown tree with these rows
abbrev pub OfTree : (c : Compiled) → List (Row labels) → (Tree (network c) → Type 0) → Type 0
OfTree c rows P = (tree : Tree (network c)) → IsGrown (network c) tree → rows ≡ table labels (labelled c tree) → P tree

abbrev pub node_of : Step → ℕ
node_of (Enter k) = k
node_of (Leave k) = k

module _ (N : Net) (tree : Tree N) where
  abbrev pub IsAt : ℕ → Address → Type 0
  IsAt k p = slice_get (preorder N tree) k ≡ Some p

  -- P holds of each node that has to be left before: those that come after the node among its siblings, or its children
  abbrev pub Needs : Step → (ℕ → Type 0) → Type 0
  Needs (Enter k) P = (i j y : ℕ) (q : Address) (m : N.Method) → IsAt k (i ∷ q) → label_at N tree q ≡ Some (used m)
      → Precedes (N.Pair m) i j
      → IsAt y (j ∷ q) → P y
  Needs (Leave k) P = (i y : ℕ) (p : Address) → IsAt k p → IsAt y (i ∷ p) → P y

  -- the parent is entered before, or the node is
  abbrev pub IsBegun : List Step → Step → Type 0
  IsBegun before (Enter k) = (i x : ℕ) (q : Address) → IsAt k (i ∷ q) → IsAt x q → Contains before (Enter x)
  IsBegun before (Leave k) = Contains before (Enter k)

  abbrev pub IsLeft : List Step → ℕ → Type 0
  IsLeft before k = Contains before (Leave k)

  pub record IsReady (before : List Step) (s : Step) : Type 0 where
    pub node : (p : Address) × IsAt (node_of s) p
    pub begun : IsBegun before s
    pub needs : Needs s (IsLeft before)

  -- each node is left, no step is taken twice, and each where it may be taken
  pub record IsTour (steps : List Step) : Type 0 where
    pub each : (t : ℕ) (s : Step) → slice_get steps t ≡ Some s → IsReady (take t steps) s
    pub once : AreDifferent steps
    pub whole : (k : ℕ) (p : Address) → IsAt k p → IsLeft steps k
