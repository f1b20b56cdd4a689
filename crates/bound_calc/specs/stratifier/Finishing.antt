-- A depth-first walk without recursion: what is still to be done, and which tasks it has left, in order.
use Rattle.std.specs.Prelude.{ℕ, suc, ◌≡◌, ◌+◌, ◌<◌, ◌⊎◌, ◌↔◌, Bool, cond, List, [], ◌∷◌, ◌++◌, length, Contains}
use Rattle.htn_base.specs.Different.{AreDifferent}
use Rattle.plan_model.specs.Parts.{IsMarked}
use Rattle.bound_calc.specs.declared.stratifier.finishing.Step.{Step}
use Rattle.bound_calc.specs.declared.stratifier.finishing.Step.TheVariants.{Enter, Leave}
use Rattle.bound_calc.specs.declared.stratifier.finishing.Descent.{Descent}
use Rattle.bound_calc.specs.stratifier.Graph.{Leads, Reaches, ReachBack}

abbrev pub task_of : Step → ℕ
task_of (Enter t) = t
task_of (Leave t) = t

-- a task that is entered reaches all that is to be done before it is left, and each that it leads to is marked or to be entered before
abbrev pub AreOpen : List (List ℕ) → List Bool → List Step → Type 0
AreOpen rows marks [] = Unit {0}
AreOpen rows marks (Enter t ∷ steps) = AreOpen rows marks steps
AreOpen rows marks (Leave t ∷ steps) = ((s : Step) → Contains steps s → Reaches rows t (task_of s))
    × ((w : ℕ) → Leads rows t w → IsMarked marks w ⊎ Contains steps (Enter w))
    × (Contains steps (Leave t) → ⊥)
    × AreOpen rows marks steps

pub record IsDescent (rows : List (List ℕ)) (marks : List Bool) (steps : List Step) (order : List ℕ) : Type 0 where
  pub room : length marks ≡ length rows
  pub all : (t : ℕ) → t < length rows → IsMarked marks t ⊎ Contains steps (Enter t)
  pub within : (s : Step) → Contains steps s → task_of s < length rows
  pub marked : (t : ℕ) → IsMarked marks t ↔ (Contains order t ⊎ Contains steps (Leave t))
  pub apart : (t : ℕ) → Contains order t → Contains steps (Leave t) → ⊥
  pub opened : AreOpen rows marks steps
  pub different : AreDifferent order
  pub left : (u w : ℕ) → Contains order u → Leads rows u w → IsMarked marks w
  pub back : ReachBack rows order

-- how many steps the rows of unmarked tasks can still add, one more for each
abbrev pub to_come : List (List ℕ) → List Bool → ℕ
to_come rows [] = 0
to_come [] (mark ∷ marks) = 0
to_come (row ∷ rows) (mark ∷ marks) = cond mark 0 (suc (length row)) + to_come rows marks

abbrev pub IsDescentOf : List (List ℕ) → Descent → Type 0
IsDescentOf rows walk = IsDescent rows walk.marks.items walk.steps.items walk.order.items

-- the walk before the step was taken off
abbrev pub IsBefore : List (List ℕ) → Step → Descent → Type 0
IsBefore rows step walk = IsDescent rows walk.marks.items (walk.steps.items ++ step ∷ []) walk.order.items

abbrev pub work_of : List (List ℕ) → Descent → ℕ
work_of rows walk = length walk.steps.items + to_come rows walk.marks.items
