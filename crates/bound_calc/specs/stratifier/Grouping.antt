-- Groups that are numbered one after another: each has all that its root reaches and that isn't numbered yet.
use Rattle.std.specs.Prelude.{ℕ, ◌≡◌, ◌⊎◌, ◌↔◌, List, [], length, slice_index_or}
use Rattle.plan_model.specs.Parts.{IsMarked}
use Rattle.bound_calc.specs.declared.stratifier.groups.Groups.{Groups}
use Rattle.bound_calc.specs.stratifier.Graph.{Leads, Reaches}
use Rattle.bound_calc.specs.declared.stratifier.named.Ends.{Ends}
use Rattle.bound_calc.specs.stratifier.NamedSearch.{IsSourceInto}

-- the rows of the edges with these ends
abbrev pub AreRowsOf : List Ends → List (List ℕ) → Type 0
AreRowsOf ends rows = (s t : ℕ) → Leads rows s t ↔ IsSourceInto ends s t

abbrev pub IsNumbered : Groups → ℕ → Type 0
IsNumbered groups = IsMarked groups.walk.marks.items

abbrev pub number : Groups → ℕ → ℕ
number groups t = slice_index_or groups.numbers.items t 0

-- what numbered tasks lead to is numbered, and nothing is to be done
pub record IsReady (rows : List (List ℕ)) (groups : Groups) : Type 0 where
  pub marks : length groups.walk.marks.items ≡ length rows
  pub numbers : length groups.numbers.items ≡ length rows
  pub closed : (u v : ℕ) → IsNumbered groups u → Leads rows u v → IsNumbered groups v
  pub nothing : groups.walk.work.items ≡ []

-- those that the root reaches are numbered too, with n where they were not
pub record IsNumberedFrom (rows : List (List ℕ)) (root n : ℕ) (old new : Groups) : Type 0 where
  pub ready : IsReady rows new
  pub numbered : (t : ℕ) → IsNumbered new t ↔ (IsNumbered old t ⊎ Reaches rows root t)
  pub kept : (t : ℕ) → IsNumbered old t → number new t ≡ number old t
  pub given : (t : ℕ) → IsNumbered new t → (IsNumbered old t → ⊥) → number new t ≡ n
