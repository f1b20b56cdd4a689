-- Tasks that are entered by a walk: each is marked, and put once into the list of what is still to be done.
use Rattle.std.specs.Prelude.{ℕ, ◌≡◌, ◌+◌, ◌<◌, ◌⊎◌, ◌↔◌, Bool, false, List, length, slice_index_or, Contains}
use Rattle.plan_model.specs.Parts.{IsMarked, unmarked}
use Rattle.plan_model.specs.declared.schemas.MethodPlan.{MethodPlan}
use Rattle.plan_model.specs.declared.values.Compiled.{Compiled}
use Rattle.plan_model.specs.plan_meaning.Strata.{IsReachedTask}
use Rattle.bound_calc.specs.stratifier.Links.{IsSubtaskOf}
use Rattle.bound_calc.specs.declared.stratifier.reach.Walk.{Walk}

abbrev pub AreReachedMarks : Compiled → List Bool → Type 0
AreReachedMarks c marks = (t : ℕ) → IsMarked marks t ↔ IsReachedTask c t

abbrev pub AreUnmarked : List Bool → Type 0
AreUnmarked marks = (t : ℕ) → slice_index_or marks t false ≡ false

-- the tasks that are as Into says are marked beside the old ones; each new one is to be done
pub record AreEntered (Into : ℕ → Type 0) (old new : Walk) : Type 0 where
  pub room : length new.marks.items ≡ length old.marks.items
  pub marks : (t : ℕ) → IsMarked new.marks.items t ↔ (IsMarked old.marks.items t ⊎ Into t)
  pub kept : (t : ℕ) → Contains old.work.items t → Contains new.work.items t
  pub added : (t : ℕ) → Contains new.work.items t → Contains old.work.items t ⊎ (IsMarked new.marks.items t × (IsMarked old.marks.items t → ⊥))
  pub to_do : (t : ℕ) → IsMarked new.marks.items t → IsMarked old.marks.items t ⊎ Contains new.work.items t
  pub many : unmarked new.marks.items + length new.work.items ≡ unmarked old.marks.items + length old.work.items

-- those among the children of the methods at these places
abbrev pub AreSubtasksEntered : List MethodPlan → List ℕ → Walk → Walk → Type 0
AreSubtasksEntered methods places = AreEntered (IsSubtaskOf methods places)

abbrev pub HaveMarks : List MethodPlan → List ℕ → Walk → Type 0
HaveMarks methods places walk = (t : ℕ) → IsSubtaskOf methods places t → t < length walk.marks.items
