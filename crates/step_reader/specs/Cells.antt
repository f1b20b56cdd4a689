-- What a step of a stack names: cells, from 0 to b, and an object for each parameter; and in which cells a method's children come.
-- Source: this project's. A stack of tasks, as in LL parsing.
use Rattle.std.specs.Prelude.{ℕ, ◌≡◌, ◌≤◌, ◌<◌, ◌+◌, ◌-◌, Bool, MatchBool, MatchOption, List, [], ◌∷◌, length, slice_get, get_or, map, filter, not, Option, Some}
use Rattle.std.specs.Option.{option_map_or}
use Rattle.htn_base.specs.Escapes.{slot_word}
use Rattle.plan_model.specs.declared.schemas.MethodPlan.{MethodPlan}
use Rattle.plan_model.specs.declared.values.Compiled.{Compiled}
use Rattle.plan_model.specs.task_networks.Spelling.{numbers, is_heir}
use Rattle.problem_index.specs.declared.printed_index.PrintedName.{PrintedName}
use Rattle.problem_index.specs.declared.printed_index.PrintedName.TheVariants.{Action, Check, Method}
use Rattle.stack_encoding.specs.StackSpelling.{cells_of}

-- how many children come in the place of what a step of the printed action takes
abbrev pub children_at : Compiled → PrintedName → ℕ
children_at c (Action a) = 0
children_at c (Check m) = 0
children_at c (Method m) = option_map_or (λ (plan : MethodPlan). length plan.schema.children) (slice_get c.methods m) 0

module _ (b : ℕ) where
  -- the word is that of a cell from 0 to b
  abbrev pub IsCellWord : List ℕ → ℕ → Type 0
  IsCellWord word k = (k ≤ b) × (word ≡ slot_word k)

  abbrev pub IsTheCell : List ℕ → Option ℕ → Type 0
  IsTheCell word found = MatchOption found ((k : ℕ) → IsCellWord word k → ⊥) (IsCellWord word)

  -- each word is that of the cell at its place
  abbrev pub AreCellWords : List (List ℕ) → List ℕ → Type 0
  AreCellWords [] [] = Unit {0}
  AreCellWords (word ∷ words) (k ∷ cells) = IsCellWord word k × AreCellWords words cells
  AreCellWords [] (k ∷ cells) = ⊥
  AreCellWords (word ∷ words) [] = ⊥

  abbrev pub AreTheCells : List (List ℕ) → Bool → List ℕ → Type 0
  AreTheCells words found cells = MatchBool found (AreCellWords words cells) ((others : List ℕ) → AreCellWords words others → ⊥)

-- the cells lie one above the other, as those do that a step with n children names: the own cell
abbrev pub IsOwnCell : ℕ → List ℕ → Option ℕ → Type 0
IsOwnCell n cells found = MatchOption found ((h : ℕ) → 1 ≤ h → cells ≡ cells_of h n → ⊥) (λ h. (1 ≤ h) × (cells ≡ cells_of h n))

-- the children at the first k places of the line have their cells: the line's last has the given one, and each other the one above the next
abbrev pub ArePlaced : List ℕ → ℕ → ℕ → List ℕ → Type 0
ArePlaced line cell k cells = (j i : ℕ) → j < k → slice_get line j ≡ Some i → get_or cells i 0 ≡ cell + (length line - 1 - j)

-- no child stands twice in the line
abbrev pub AreOnce : List ℕ → Type 0
AreOnce line = (j k i : ℕ) → slice_get line j ≡ Some i → slice_get line k ≡ Some i → j ≡ k

-- the cells of the children other than the heir, in number order
abbrev pub others_in : Option ℕ → List ℕ → List ℕ
others_in heir cells = map (λ i. get_or cells i 0) (filter (λ i. not (is_heir heir i)) (numbers 0 (length cells)))
