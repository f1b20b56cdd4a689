-- The hierarchical plan that a finished tree and its order show: primitives are numbered by the order, the abstract nodes but the root behind them, and checks and method arguments are left out.
-- Source: the format of plans of the hierarchical track of the International Planning Competition 2020 (Behnke, Höller and Bercher); the numbering is this project's.
use Rattle.std.specs.Prelude.{ℕ, suc, ◌≡◌, List, [], ◌∷◌, ◌++◌, length, map, filter, Bool, true, false, slice_get, slice_index_or, Option, Some, None}
use Rattle.plan_model.specs.declared.types.Object.{Object}
use Rattle.plan_model.specs.declared.schemas.TaskSchema.{TaskSchema}
use Rattle.plan_model.specs.declared.schemas.ActionSchema.{ActionSchema}
use Rattle.plan_model.specs.declared.schemas.MethodPlan.{MethodPlan}
use Rattle.plan_model.specs.declared.values.Compiled.{Compiled}
use Rattle.plan_model.specs.task_networks.Net.{count}
use Rattle.plan_model.specs.task_networks.Tree.{Tree, Label, waits, ran, used, Address, label_at}
use Rattle.plan_model.specs.task_networks.Spelling.{numbers}
use Rattle.plan_model.specs.plan_meaning.Network.{Work, action, check, task, GroundMethod, network, objects_of}
use Rattle.hplan_text.specs.declared.values.HLine.{HLine}
use Rattle.hplan_text.specs.declared.values.HNode.{HNode}
use Rattle.hplan_text.specs.declared.values.HPlan.{HPlan}

module _ (c : Compiled) where
  -- the folded word of a name, as the source has it
  abbrev pub source_word : ℕ → List ℕ
  source_word number = slice_index_or c.hddl.names number []

  abbrev pub object_name_by : Option Object → List ℕ
  object_name_by (Some x) = source_word x.name.number
  object_name_by None = []

  abbrev pub object_name : ℕ → List ℕ
  object_name o = object_name_by (slice_get c.hddl.objects o)

  abbrev pub action_name_by : Option ActionSchema → List ℕ
  action_name_by (Some s) = source_word s.name.number
  action_name_by None = []

  abbrev pub task_name_by : Option TaskSchema → List ℕ
  task_name_by (Some s) = source_word s.name.number
  task_name_by None = []

  abbrev pub method_name_by : Option MethodPlan → List ℕ
  method_name_by (Some plan) = source_word plan.schema.name.number
  method_name_by None = []

  -- the name of an action or a task; a check has no line
  abbrev pub name_of : Work → List ℕ
  name_of (action a args) = action_name_by (slice_get c.hddl.actions a)
  name_of (check m values) = []
  name_of (task t args) = task_name_by (slice_get c.hddl.tasks t)

  -- the line of what stands at a node, with this number
  abbrev pub line_of : Work → ℕ → HLine
  line_of w n = record { id = n; name = name_of w; args = map object_name (objects_of c w) }

  -- a primitive
  abbrev pub is_primitive : Option (Label (network c)) → Bool
  is_primitive (Some (ran (action a args))) = true
  is_primitive (Some (ran (check m values))) = false
  is_primitive (Some (ran (task t args))) = false
  is_primitive (Some (waits w)) = false
  is_primitive (Some (used g)) = false
  is_primitive None = false

  -- an abstract node other than the root
  abbrev pub is_decomposed : Option (Label (network c)) → Bool
  is_decomposed (Some (used g)) = true
  is_decomposed (Some (ran w)) = false
  is_decomposed (Some (waits w)) = false
  is_decomposed None = false

  abbrev pub is_lower : Address → Option (Label (network c)) → Bool
  is_lower [] l = false
  is_lower (i ∷ q) l = is_decomposed l

  -- all but checks
  abbrev pub is_shown : Option (Label (network c)) → Bool
  is_shown (Some (ran (check m values))) = false
  is_shown (Some (ran (action a args))) = true
  is_shown (Some (ran (task t args))) = true
  is_shown (Some (waits w)) = true
  is_shown (Some (used g)) = true
  is_shown None = true

  module _ (tree : Tree (network c)) (order : List Address) where
    abbrev pub primitives_in : List Address
    primitives_in = filter (λ p. is_primitive (label_at (network c) tree p)) order

    abbrev pub lower_in : List Address
    lower_in = filter (λ p. is_lower p (label_at (network c) tree p)) order

    -- the numbered nodes: each has its place as its id
    abbrev pub numbered : List Address
    numbered = primitives_in ++ lower_in

    abbrev pub AreIds : List Address → List ℕ → Type 0
    AreIds [] [] = Unit {0}
    AreIds (p ∷ ps) (n ∷ ns) = (slice_get numbered n ≡ Some p) × AreIds ps ns
    AreIds [] (n ∷ ns) = ⊥
    AreIds (p ∷ ps) [] = ⊥

    -- the children of a node that are shown, in number order, which is the written one
    abbrev pub shown_children : Address → GroundMethod → List Address
    shown_children q g = filter (λ p. is_shown (label_at (network c) tree p)) (map (λ i. i ∷ q) (numbers 0 (count (network c) g)))

    -- the lines of these primitives, numbered from n on
    abbrev pub ArePrimitives : ℕ → List Address → List HLine → Type 0
    ArePrimitives n [] [] = Unit {0}
    ArePrimitives n (p ∷ ps) (l ∷ ls) = ((w : Work) × (label_at (network c) tree p ≡ Some (ran w)) × (l ≡ line_of w n)) × ArePrimitives (suc n) ps ls
    ArePrimitives n [] (l ∷ ls) = ⊥
    ArePrimitives n (p ∷ ps) [] = ⊥

    -- the lines of these abstract nodes: the task, the method's name and the children
    pub record IsNode (n : ℕ) (p : Address) (node : HNode) : Type 0 where
      pub method : GroundMethod
      pub is : label_at (network c) tree p ≡ Some (used method)
      pub line : node.line ≡ line_of ((network c).head method) n
      pub name : node.method ≡ method_name_by (slice_get c.methods method.number)
      pub ids : AreIds (shown_children p method) node.ids

    abbrev pub AreNodes : ℕ → List Address → List HNode → Type 0
    AreNodes n [] [] = Unit {0}
    AreNodes n (p ∷ ps) (x ∷ xs) = IsNode n p x × AreNodes (suc n) ps xs
    AreNodes n [] (x ∷ xs) = ⊥
    AreNodes n (p ∷ ps) [] = ⊥

    -- the tree and its order show the plan
    pub record ShowsHPlan (plan : HPlan) : Type 0 where
      pub primitives : ArePrimitives 0 primitives_in plan.primitives
      pub top : GroundMethod
      pub at_root : label_at (network c) tree [] ≡ Some (used top)
      pub root : AreIds (shown_children [] top) plan.root
      pub nodes : AreNodes (length primitives_in) lower_in plan.nodes
