-- The children that a child comes right before.
-- Source: this project's.
use Rattle.std.specs.Prelude.{ℕ, ◌≡◌, ◌==◌, ◌<◌, ◌^◌, List, [], length, map, filter, get_or, slice_get, Some}
use Rattle.htn_base.specs.Different.{AreDifferent}
use Rattle.plan_model.specs.declared.networks.Pair.{Pair}
use Rattle.plan_model.specs.declared.schemas.MethodPlan.{MethodPlan}
use Rattle.plan_model.specs.declared.values.Compiled.{Compiled}
use Rattle.plan_model.specs.net_order.Meaning.{AreBelow}
use Rattle.kept_front.specs.declared.later.Later.{Later}

-- those of the pairs that begin with the child
abbrev pub followers : List Pair → ℕ → List ℕ
followers pairs i = map (λ (p : Pair). p.then) (filter (λ (p : Pair). p.first == i) pairs)

abbrev pub after : Later → ℕ → List ℕ
after later i = get_or later.by_child.items i []

-- how many of the pairs end with the child
abbrev pub predecessors : List Pair → ℕ → ℕ
predecessors pairs j = length (filter (λ (p : Pair). p.then == j) pairs)

abbrev pub before : Later → ℕ → ℕ
before later j = get_or later.counts.items j 0

pub record AreLater (pairs : List Pair) (later : Later) : Type 0 where
  pub after_each : (i : ℕ) → after later i ≡ followers pairs i
  pub before_each : (j : ℕ) → before later j ≡ predecessors pairs j

-- for each method what comes right after each of its children
abbrev pub AreAllLater : Compiled → List Later → Type 0
AreAllLater c laters = (m : ℕ) (plan : MethodPlan) → slice_get c.methods m ≡ Some plan → (later : Later) × (slice_get laters m ≡ Some later) × AreLater plan.schema.pairs later × AreDifferent plan.schema.pairs

-- pairs of so many children, each once, of which there are few
pub record AreSoundPairs (children : ℕ) (pairs : List Pair) : Type 0 where
  pub below : AreBelow children pairs
  pub different : AreDifferent pairs
  pub few : length pairs < 2 ^ 32

-- those of each method, as in what is compiled of a sound problem
abbrev pub HasSoundPairs : Compiled → Type 0
HasSoundPairs c = (m : ℕ) (plan : MethodPlan) → slice_get c.methods m ≡ Some plan
    → AreSoundPairs (length plan.schema.children) plan.schema.pairs
