-- What a pass keeps, and how it follows a step of the tour.
-- Source: this project's.
use Rattle.std.specs.Prelude.{ℕ, ◌≡◌, ◌==◌, ◌<◌, List, [], length, set, get_or, cond, Bool, true, false, Option, Some, None, MatchOption, slice_get, Contains}
use Rattle.std.specs.Option.{option_map_or}
use Rattle.plan_model.specs.task_networks.Tree.{Label}
use Rattle.tree_core.specs.Tables.{Row}
use Rattle.tree_core.specs.Labels.{labels}
use Rattle.tree_core.specs.Runs.{label_in, parent_in, number_in}
use Rattle.kept_front.specs.declared.later.Later.{Later}
use Rattle.kept_front.specs.Later as laters
use Rattle.gap_pass.specs.Children.{children_at}
use Rattle.gap_pass.specs.Conditions.{IsGreatestOrNone}
use Rattle.gap_pass.specs.Least.{IsLeast}
use Rattle.gap_pass.specs.Tours.{method_of}
use Rattle.gap_pass.specs.declared.pass.Pass.{Pass}
use Rattle.gap_pass.specs.declared.tour.Step.{Step}
use Rattle.gap_pass.specs.declared.tour.Step.TheVariants.{Enter, Leave}

-- the number of each node among the primitives, where it is one
pub record AreOwn (size : ℕ) (actions : List ℕ) (own : List (Option ℕ)) : Type 0 where
  pub many : length own ≡ size
  pub each : (k i : ℕ) → slice_get own k ≡ Some (Some i) → slice_get actions i ≡ Some k
  pub all : (i k : ℕ) → slice_get actions i ≡ Some k → k < size → (j : ℕ) × (slice_get own k ≡ Some (Some j))

abbrev pub own_at : List (Option ℕ) → ℕ → Option ℕ
own_at own k = get_or own k None

abbrev pub only : ℕ → ℕ → Option ℕ
only found gap = cond (found == gap) (Some gap) None

-- those that child `number` of a node with this label comes right before
abbrev pub after_at : List Later → Option (Label labels) → Option ℕ → List ℕ
after_at later label number = option_map_or (λ m. option_map_or (λ i. option_map_or (λ l. laters.after l i) (slice_get later m) []) number
    []) (method_of label) []

pub record IsNew (size most : ℕ) (pass : Pass) : Type 0 where
  pub most_is : pass.most ≡ most
  pub caps : length pass.caps.items ≡ size
  pub gaps : length pass.gaps.items ≡ size

-- the least of the parent's cap and of the gaps of the siblings right after the node
abbrev pub IsCapAt : List Later → List (Row labels) → List (List ℕ) → Pass → ℕ → ℕ → Type 0
IsCapAt later rows children pass k cap = MatchOption (parent_in rows k) (cap ≡ pass.most)
    (λ x. IsLeast pass.gaps.items (get_or pass.caps.items x 0)
    (λ y. (j : ℕ) × Contains (after_at later (label_in rows x) (number_in rows k)) j
    × (slice_get (children_at children x) j ≡ Some y)) cap)

-- a primitive's gap is its number, if it is less than the cap; any other node's is the greatest up to its cap and its children's gaps
abbrev pub IsGapBy : List (List ℕ) → Pass → (ℕ → Type 0) → Option ℕ → ℕ → Option ℕ → Type 0
IsGapBy children pass At None k found = (bound : ℕ) × IsLeast pass.gaps.items (get_or pass.caps.items k 0)
    (Contains (children_at children k)) bound
    × IsGreatestOrNone At bound found
IsGapBy children pass At (Some i) k found = MatchOption found (i < get_or pass.caps.items k 0 → At i → ⊥)
    (λ g. (g ≡ i) × (i < get_or pass.caps.items k 0) × At i)

abbrev pub IsGapAt : List (List ℕ) → Pass → (ℕ → Type 0) → Option ℕ → ℕ → Option ℕ → Type 0
IsGapAt children pass At own k found = IsGapBy children pass At own k found

-- the node that is entered has its cap, or the node that is left its gap
pub record IsEntered (later : List Later) (rows : List (Row labels)) (children : List (List ℕ)) (old new : Pass) (k : ℕ) : Type 0 where
  pub cap : ℕ
  pub is_cap : IsCapAt later rows children old k cap
  pub caps : new.caps.items ≡ set old.caps.items k cap
  pub gaps : new.gaps.items ≡ old.gaps.items
  pub most : new.most ≡ old.most

pub record IsLeftAt (old new : Pass) (k gap : ℕ) : Type 0 where
  pub caps : new.caps.items ≡ old.caps.items
  pub gaps : new.gaps.items ≡ set old.gaps.items k gap
  pub most : new.most ≡ old.most

abbrev pub IsTaken : List Later → List (Row labels) → List (List ℕ) → List (Option ℕ) → (ℕ → ℕ → Type 0) → Pass → Pass → Step
    → Bool → Type 0
IsTaken later rows children own may old new (Enter k) found = (found ≡ true) × IsEntered later rows children old new k
IsTaken later rows children own may old new (Leave k) found = (gap : Option ℕ) × IsGapAt children old (may k) (own_at own k) k gap
    × MatchOption gap (found ≡ false) (λ g. (found ≡ true) × IsLeftAt old new k g)
