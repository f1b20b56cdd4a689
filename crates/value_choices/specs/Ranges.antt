-- A choice: for each parameter what it may stand for, in increasing order, and the values that are chosen now.
-- Source: this project's.
use Rattle.std.specs.Prelude.{ℕ, ◌≡◌, ◌+◌, ◌*◌, ◌≤◌, ◌↔◌, Bool, MatchBool, nat_lt, filter, List, [], ◌∷◌, length, slice_get, slice_index, Option, Some, MatchOption, Contains}
use Rattle.std.specs.List.Sorted.{IsStrictlyIncreasing}
use Rattle.plan_model.specs.declared.terms.Param.{Param}
use Rattle.value_choices.specs.declared.range.Range.{Range}
use Rattle.value_choices.specs.declared.range.Range.TheVariants.{One, Listed}
use Rattle.value_choices.specs.declared.choice.Choice.{Choice}
use Rattle.value_choices.specs.Choices.{Agrees, IsFirst, IsNext, IsLast}

abbrev pub options : Range → List ℕ
options (One x) = x ∷ []
options (Listed list) = list

-- the least option that is not less than low
pub record IsLeastFrom (xs : List ℕ) (low x : ℕ) : Type 0 where
  pub is : Contains xs x
  pub from : low ≤ x
  pub least : (y : ℕ) → Contains xs y → low ≤ y → x ≤ y

-- it, or there is none
abbrev pub IsTheLeastFrom : List ℕ → ℕ → Option ℕ → Type 0
IsTheLeastFrom xs low found = MatchOption found ((y : ℕ) → Contains xs y → low ≤ y → ⊥) (IsLeastFrom xs low)

module _ (InType : ℕ → ℕ → Type 0) where
  -- the objects of the type, or the known one where it is one of them
  pub record IsRange (ty : ℕ) (known : Option ℕ) (range : Range) : Type 0 where
    pub increasing : IsStrictlyIncreasing (options range)
    pub each : (x : ℕ) → Contains (options range) x ↔ (InType x ty × Agrees known x)

  -- one for each parameter of the first ones
  pub record AreRanges (params : List Param) (known : List (Option ℕ)) (ranges : List Range) : Type 0 where
    pub as_many : length known ≡ length params
    pub each : (i : ℕ) (p : Param) (k : Option ℕ) (r : Range) → slice_get params i ≡ Some p → slice_get known i ≡ Some k
        → slice_get ranges i ≡ Some r
        → IsRange p.ty k r

abbrev pub AreIncreasing : List Range → Type 0
AreIncreasing ranges = (i : ℕ) (r : Range) → slice_get ranges i ≡ Some r → IsStrictlyIncreasing (options r)

-- an option for each range
pub record AreAmong (ranges : List Range) (values : List ℕ) : Type 0 where
  pub as_many : length values ≡ length ranges
  pub each : (i : ℕ) (r : Range) → slice_get ranges i ≡ Some r → Contains (options r) (slice_index values i)

-- the least option of each range
pub record AreLeast (ranges : List Range) (values : List ℕ) : Type 0 where
  pub as_many : length values ≡ length ranges
  pub each : (i : ℕ) (r : Range) → slice_get ranges i ≡ Some r → IsLeastFrom (options r) 0 (slice_index values i)

-- it, or a range has none
abbrev pub AreTheLeast : List Range → Option (List ℕ) → Type 0
AreTheLeast ranges found = MatchOption found ((values : List ℕ) → AreAmong ranges values → ⊥) (AreLeast ranges)

-- how many lists of options there are, and how many come behind these values
abbrev pub many : List Range → ℕ
many [] = 1
many (r ∷ rs) = length (options r) * many rs

abbrev pub left_behind : List Range → List ℕ → ℕ
left_behind [] xs = 0
left_behind (r ∷ rs) [] = 0
left_behind (r ∷ rs) (x ∷ xs) = length (filter (λ y. nat_lt x y) (options r)) * many rs + left_behind rs xs

-- how often a choice can still move on
abbrev pub left : Choice → ℕ
left choice = left_behind choice.ranges.items choice.values.items

pub record IsChoice (choice : Choice) : Type 0 where
  pub increasing : AreIncreasing choice.ranges.items
  pub among : AreAmong choice.ranges.items choice.values.items

-- the choice goes through those of which P is true
pub record IsOver (P : List ℕ → Type 0) (choice : Choice) : Type 0 where
  pub is : IsChoice choice
  pub each : (values : List ℕ) → AreAmong choice.ranges.items values ↔ P values

-- it begins with the first of them, or there is none
abbrev pub Begins : (List ℕ → Type 0) → Option Choice → Type 0
Begins P found = MatchOption found ((values : List ℕ) → P values → ⊥) (λ choice. IsOver P choice × IsFirst P choice.values.items)

-- it moved on to the next of them, or there is none
abbrev pub Moves : (List ℕ → Type 0) → List ℕ → List ℕ → Bool → Type 0
Moves P old new moved = MatchBool moved (IsNext P old new) (IsLast P old)
