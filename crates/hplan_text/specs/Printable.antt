-- Which hierarchical plans are read back as they are printed.
-- Source: this project's.
use Rattle.std.specs.Prelude.{ℕ, ◌≡◌, ◌<◌, ◌^◌, true, List, [], ◌∷◌, ◌++◌, map, length}
use Rattle.htn_base.specs.Different.{AreDifferent}
use Rattle.htn_base.specs.Words.{IsFolded}
use Rattle.plan_texts.specs.Types.{Has, EachIs}
use Rattle.hplan_text.specs.declared.values.HLine.{HLine}
use Rattle.hplan_text.specs.declared.values.HNode.{HNode}
use Rattle.hplan_text.specs.declared.values.HPlan.{HPlan}
use Rattle.hplan_text.specs.Rows.{is_name}
use Rattle.hplan_text.specs.HPlanText.{hplan_text}
use Rattle.hplan_text.specs.SpellsHPlan.{SpellsHPlan}
use Rattle.hplan_text.specs.HPlanFaults.{Reaches}
use Rattle.hplan_text.specs.Reading.{IsHPlanRead}

-- one byte or more of 33 to 126, none an upper-case letter, and not the arrow
pub record IsPrintableWord (w : List ℕ) : Type 0 where
  pub some : 0 < length w
  pub name : is_name w ≡ true
  pub lower : IsFolded w

-- an id of 64 bits
abbrev pub IsSmall : ℕ → Type 0
IsSmall n = n < 2 ^ 64

pub record IsPrintableLine (line : HLine) : Type 0 where
  pub id : IsSmall line.id
  pub name : IsPrintableWord line.name
  pub args : EachIs IsPrintableWord line.args

pub record IsPrintableNode (node : HNode) : Type 0 where
  pub line : IsPrintableLine node.line
  pub method : IsPrintableWord node.method
  pub ids : EachIs IsSmall node.ids

-- each name, argument and method is a printable word, and each id has 64 bits
pub record IsPrintableHPlan (plan : HPlan) : Type 0 where
  pub primitives : EachIs IsPrintableLine plan.primitives
  pub root : EachIs IsSmall plan.root
  pub nodes : EachIs IsPrintableNode plan.nodes

abbrev pub line_id : HLine → ℕ
line_id line = line.id

abbrev pub node_id : HNode → ℕ
node_id node = node.line.id

-- the ids of the tasks
abbrev pub task_ids : HPlan → List ℕ
task_ids plan = map line_id plan.primitives ++ map node_id plan.nodes

abbrev pub listed_by : List HNode → List ℕ
listed_by [] = []
listed_by (node ∷ nodes) = node.ids ++ listed_by nodes

-- the ids that the root and the decomposed tasks list
abbrev pub all_ids : HPlan → List ℕ
all_ids plan = plan.root ++ listed_by plan.nodes

-- No two tasks have one id, each id that is listed is that of a task, none is listed twice, and the root reaches each task.
pub record IsSoundHPlan (plan : HPlan) : Type 0 where
  pub own : AreDifferent (task_ids plan)
  pub known : (n : ℕ) → Has (all_ids plan) n → Has (task_ids plan) n
  pub once : AreDifferent (all_ids plan)
  pub reached : (n : ℕ) → Has (task_ids plan) n → Reaches plan n

-- What is printed for such a plan has no fault, and spells the plan.
abbrev pub PrintableHPlansAreReadBack : Type 0
PrintableHPlansAreReadBack = (plan : HPlan) → IsPrintableHPlan plan → IsSoundHPlan plan → IsHPlanRead (hplan_text plan) plan

-- The words and the ids of a plan that a text spells are printable.
abbrev pub SpelledHPlansArePrintable : Type 0
SpelledHPlansArePrintable = (text : List ℕ) (plan : HPlan) → SpellsHPlan text plan → IsPrintableHPlan plan

-- A plan that is read of a text is sound.
abbrev pub ReadHPlansAreSound : Type 0
ReadHPlansAreSound = (text : List ℕ) (plan : HPlan) → IsHPlanRead text plan → IsSoundHPlan plan
