-- The parts of a type as marks: the mark at place i says whether type i is one of them.
-- Source: this project's; a part as in Typing.
use Rattle.std.specs.Prelude.{ℕ, ◌+◌, ◌≡◌, ◌==◌, ◌≤◌, ◌<◌, ◌||◌, ◌⊎◌, ◌↔◌, Bool, false, cond, IsTrue, All, Contains, List, length, sum_by, slice_index_or}
use Rattle.htn_base.specs.Limits.{most_pddl_types}
use Rattle.plan_model.specs.declared.types.Types.{Types}
use Rattle.plan_model.specs.declared.types.Parent.{Parent}
use Rattle.plan_model.specs.declared.parts.Parts.{Parts}
use Rattle.plan_model.specs.Typing.{Leads}

abbrev pub AreListedParents : ℕ → List Parent → Type 0
AreListedParents count parents = All (λ p. (p.child < count) × (p.parent < count)) parents

-- parents and unions are of listed types, which are few beside `object`
pub record AreListed (types : Types) : Type 0 where
  pub few : length types.names ≤ most_pddl_types + 1
  pub parents : AreListedParents (length types.names) types.parents
  pub unions : All (All (λ member. member < length types.names)) types.unions

abbrev pub has : Parts → ℕ → Bool
has parts ty = parts.whole || (ty == parts.of) || slice_index_or parts.marks ty false

abbrev pub IsMarked : List Bool → ℕ → Type 0
IsMarked marks ty = IsTrue (slice_index_or marks ty false)

-- how many have no mark
abbrev pub unmarked : List Bool → ℕ
unmarked marks = sum_by (λ mark. cond mark 0 1) marks

-- now the types of the list are marked too, of those for which there is a mark
abbrev pub AreMarkedToo : List ℕ → List Bool → List Bool → Type 0
AreMarkedToo types old new = (ty : ℕ) → ty < length old → IsMarked new ty ↔ (IsMarked old ty ⊎ Contains types ty)

-- the old marks are kept, and each is of a type from which a chain leads to one that was marked
pub record IsMarkedFurther (parents : List Parent) (old new : List Bool) : Type 0 where
  pub room : length new ≡ length old
  pub kept : (i : ℕ) → IsMarked old i → IsMarked new i
  pub sound : (i : ℕ) → IsMarked new i → (j : ℕ) × IsMarked old j × Leads parents i j

-- with a parent its child is marked
abbrev pub IsClosedUnder : List Parent → List Bool → Type 0
IsClosedUnder parents marks = (p : Parent) → Contains parents p → IsMarked marks p.parent → IsMarked marks p.child
