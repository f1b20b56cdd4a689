-- Hierarchical plans as lines with ids, and the same plan under other ids. The root's node has no line: its children are listed.
-- Source: the format of plans of the hierarchical track of the International Planning Competition 2020 (Behnke, Höller and Bercher).
use Rattle.std.specs.Prelude.{◌≡◌, ◌⊎◌, List, ◌++◌, map, Contains}
use Rattle.std.specs.List.Sorted.{IsPermutation}

-- an id, and what is said of an action
pub record StepLine (Id Step : Type 0) : Type 0 where
  pub id : Id
  pub step : Step

-- an id, what is said of a decomposed task and its method, and the ids of its children
pub record SplitLine (Id Split : Type 0) : Type 0 where
  pub id : Id
  pub split : Split
  pub children : List Id

-- the actions are executed in the order of their lines
pub record PlanLines (Id Step Split : Type 0) : Type 0 where
  pub steps : List (StepLine Id Step)
  pub root : List Id
  pub splits : List (SplitLine Id Split)

module _ {Id Step Split : Type 0} where
  abbrev pub step_ids : PlanLines Id Step Split → List Id
  step_ids plan = map (λ l. l.id) plan.steps

  abbrev pub line_ids : PlanLines Id Step Split → List Id
  line_ids plan = step_ids plan ++ map (λ l. l.id) plan.splits

  -- the id of a line, or listed
  abbrev pub IsId : PlanLines Id Step Split → Id → Type 0
  IsId plan i = Contains (line_ids plan) i
      ⊎ (Contains plan.root i ⊎ ((l : SplitLine Id Split) × Contains plan.splits l × Contains l.children i))

abbrev pub renamed_step : {Id Other Step : Type 0} → (Id → Other) → StepLine Id Step → StepLine Other Step
renamed_step new l = record { id = new l.id; step = l.step }

abbrev pub renamed_split : {Id Other Split : Type 0} → (Id → Other) → SplitLine Id Split → SplitLine Other Split
renamed_split new l = record { id = new l.id; split = l.split; children = map new l.children }

module _ {Id Other Step Split : Type 0} (new : Id → Other) where
  abbrev pub renamed : PlanLines Id Step Split → PlanLines Other Step Split
  renamed plan = record {
    steps = map (renamed_step new) plan.steps;
    root = map new plan.root;
    splits = map (renamed_split new) plan.splits;
  }

  abbrev pub IsOneToOne : PlanLines Id Step Split → Type 0
  IsOneToOne plan = (i j : Id) → IsId plan i → IsId plan j → new i ≡ new j → i ≡ j

  -- the same plan under new ids; the order of the decompositions doesn't count
  pub record IsRenumbering (plan : PlanLines Id Step Split) (other : PlanLines Other Step Split) : Type 0 where
    pub one_to_one : IsOneToOne plan
    pub steps : other.steps ≡ map (renamed_step new) plan.steps
    pub root : other.root ≡ map new plan.root
    pub splits : IsPermutation (map (renamed_split new) plan.splits) other.splits
