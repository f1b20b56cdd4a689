-- The lines of a tree with a schedule, numbered; which trees and schedules show a plan; and that a plan's ids are a tree's nodes, in any
-- order. Checks are left out.
-- Source: the format of plans of the hierarchical track of the International Planning Competition 2020 (Behnke, Höller and Bercher); the
-- numbering is this project's.
use Rattle.std.specs.Prelude.{ℕ, zero, suc, ◌≡◌, ◌↔◌, List, [], ◌∷◌, map, filter, Bool, false, not, cond, slice_get, Option, Some, None, Contains}
use Rattle.std.specs.List.{filter_map}
use Rattle.htn_base.specs.Different.{AreDifferent}
use Rattle.plan_model.specs.task_networks.Net.{Net, count}
use Rattle.plan_model.specs.task_networks.Tree.{Tree, Address, Label, waits, ran, used, label_at, work_of, IsGrown, IsOpen}
use Rattle.plan_model.specs.task_networks.Listed.{same_address}
use Rattle.plan_model.specs.task_networks.Spelling.{numbers}
use Rattle.schedules.specs.latest.PlanLines.{StepLine, SplitLine, PlanLines, step_ids, line_ids, renamed, renamed_step, renamed_split, IsOneToOne, IsRenumbering}

-- the place of a node in a list
abbrev pub place : List Address → Address → ℕ
place [] p = zero
place (q ∷ ps) p = cond (same_address q p) zero (suc (place ps p))

-- what plans say of actions, and of methods with their tasks
pub record PlanWords (N : Net) : Type 1 where
  pub Step : Type 0
  pub Split : Type 0
  pub is_check : N.Work → Bool
  pub step : N.Work → Step
  pub split : N.Method → Split

module _ (N : Net) (W : PlanWords N) where
  abbrev pub is_shown : Option N.Work → Bool
  is_shown None = false
  is_shown (Some w) = not (W.is_check w)

  -- the children other than the check, in written order
  abbrev pub shown_children : N.Method → List ℕ
  shown_children m = filter (λ i. is_shown (slice_get (N.works m) i)) (numbers 0 (count N m))

  abbrev pub children_of_label : Option (Label N) → Address → List Address
  children_of_label None p = []
  children_of_label (Some (waits w)) p = []
  children_of_label (Some (ran w)) p = []
  children_of_label (Some (used m)) p = map (λ i. i ∷ p) (shown_children m)

  abbrev pub step_of_label : Option (Label N) → Address → Option (StepLine Address W.Step)
  step_of_label None p = None
  step_of_label (Some (waits w)) p = None
  step_of_label (Some (ran w)) p = cond (W.is_check w) None (Some (record { id = p; step = W.step w }))
  step_of_label (Some (used m)) p = None

  -- the root has no line
  abbrev pub split_of_label : Option (Label N) → Address → Option (SplitLine Address W.Split)
  split_of_label None p = None
  split_of_label (Some (waits w)) p = None
  split_of_label (Some (ran w)) p = None
  split_of_label (Some (used m)) [] = None
  split_of_label (Some (used m)) (i ∷ p) = Some (record {
    id = i ∷ p;
    split = W.split m;
    children = map (λ k. k ∷ i ∷ p) (shown_children m);
  })

  module _ (tree : Tree N) where
    abbrev pub children_shown : Address → List Address
    children_shown p = children_of_label (label_at N tree p) p

    abbrev pub step_line : Address → Option (StepLine Address W.Step)
    step_line p = step_of_label (label_at N tree p) p

    abbrev pub split_line : Address → Option (SplitLine Address W.Split)
    split_line p = split_of_label (label_at N tree p) p

    -- the lines, with nodes for ids
    abbrev pub lines : List Address → PlanLines Address W.Step W.Split
    lines order = record { steps = filter_map step_line order; root = children_shown []; splits = filter_map split_line order }

    -- actions are numbered from 0 in the order of the schedule, then decompositions in that order
    abbrev pub number : List Address → Address → ℕ
    number order = place (line_ids (lines order))

    abbrev pub plan_of : List Address → PlanLines ℕ W.Step W.Split
    plan_of order = renamed (number order) (lines order)

    -- the plan of the tree and the schedule is this one under other ids
    abbrev pub Shows : PlanLines ℕ W.Step W.Split → List Address → Type 0
    Shows plan order = (new : ℕ → ℕ) × IsRenumbering new plan (plan_of order)

    -- the nodes of the lines are the tree's, and say the same; nothing is asked of the order of the lines
    pub record IsTreeOf (plan : PlanLines ℕ W.Step W.Split) (node : ℕ → Address) : Type 0 where
      pub different : AreDifferent (line_ids plan)
      pub one_to_one : IsOneToOne node plan
      pub root : children_shown [] ≡ map node plan.root
      pub steps : (l : StepLine ℕ W.Step) → Contains plan.steps l → step_line (node l.id) ≡ Some (renamed_step node l)
      pub splits : (l : SplitLine ℕ W.Split) → Contains plan.splits l → split_line (node l.id) ≡ Some (renamed_split node l)
      pub all_steps : (p : Address) (l : StepLine Address W.Step) → step_line p ≡ Some l
          → (k : StepLine ℕ W.Step) × Contains plan.steps k × (node k.id ≡ p)
      pub all_splits : (p : Address) (l : SplitLine Address W.Split) → split_line p ≡ Some l
          → (k : SplitLine ℕ W.Split) × Contains plan.splits k × (node k.id ≡ p)

  -- the nodes of the actions, in the order of their lines
  abbrev pub step_nodes : (ℕ → Address) → PlanLines ℕ W.Step W.Split → List Address
  step_nodes node plan = map node (step_ids plan)

-- labels of which plans say the same: both are checks, or actions with one line, or methods with one line
abbrev pub SaysTheSame : (N : Net) (W : PlanWords N) → Label N → Label N → Type 0
SaysTheSame N W (used m) (used n) = W.split m ≡ W.split n
SaysTheSame N W (ran w) (ran v) = (W.is_check w ≡ W.is_check v) × (W.is_check w ≡ false → W.step w ≡ W.step v)
SaysTheSame N W (ran w) (waits v) = ⊥
SaysTheSame N W (ran w) (used n) = ⊥
SaysTheSame N W (used m) (waits v) = ⊥
SaysTheSame N W (used m) (ran v) = ⊥
SaysTheSame N W (waits w) l = ⊥

-- What is said of a ground method tells its pairs, how many children it has, and which of them is the check;
-- a check has no methods; and all ground methods of the top task say the same
pub record AreTelling (N : Net) (W : PlanWords N) (top : N.Work) : Type 0 where
  pub pairs : (m n : N.Method) → N.IsGround m → N.IsGround n → W.split m ≡ W.split n → (i j : ℕ) → N.Pair m i j ↔ N.Pair n i j
  pub checks : (m n : N.Method) → N.IsGround m → N.IsGround n → W.split m ≡ W.split n
      → map W.is_check (N.works m) ≡ map W.is_check (N.works n)
  pub no_method : (m : N.Method) → W.is_check (N.head m) ≡ false
  pub root : (m n : N.Method) → N.IsGround m → N.IsGround n → N.head m ≡ top → N.head n ≡ top → W.split m ≡ W.split n
  pub top_is_task : N.IsSimple top → ⊥

-- a grown tree of the top work without open leaves, whose nodes are those of the plan
pub record IsTreeFor (N : Net) (W : PlanWords N) (top : N.Work) (plan : PlanLines ℕ W.Step W.Split) (tree : Tree N) (node : ℕ
    → Address) : Type 0 where
  pub grown : IsGrown N tree
  pub root : work_of N tree ≡ top
  pub no_leaves : (p : Address) → IsOpen N tree p → ⊥
  pub of_plan : IsTreeOf N W tree plan node

-- the network of one task without methods, where nothing else is asked for
abbrev pub one_task : Net
one_task = record {
  Work = Unit {0};
  Method = ⊥;
  head = λ m. tt;
  works = λ m. [];
  IsSimple = λ w. ⊥;
  IsGround = λ m. ⊥;
  Pair = λ m i j. ⊥;
  heir = λ m. None;
  IsCopier = λ m i. ⊥;
}

abbrev pub no_words : PlanWords one_task
no_words = record { Step = Unit {0}; Split = Unit {0}; is_check = λ w. false; step = λ w. tt; split = λ m. tt }
