-- The addresses of the primitives of a plan, in the order of their lines.
-- Source: this project's.
use Rattle.std.specs.Prelude.{ℕ, ◌≡◌, ◌<◌, List, length, slice_get, Some, set}
use Rattle.plan_trees.specs.declared.seed.Source.{Source}
use Rattle.plan_trees.specs.declared.seed.Source.TheVariants.{Step, Task, Check}
use Rattle.plan_trees.specs.declared.seed.Seed.{Seed}

abbrev pub noted : List ℕ → Source → ℕ → List ℕ
noted actions (Step k) address = set actions k address
noted actions (Task task) address = actions
noted actions (Check task) address = actions

-- the primitive line of this place stands at this seed, and at no other
pub record IsOnlySeed (seeds : List Seed) (line place : ℕ) : Type 0 where
  pub seed : Seed
  pub there : slice_get seeds place ≡ Some seed
  pub source : seed.source ≡ Step line
  pub only : (k : ℕ) (s : Seed) → slice_get seeds k ≡ Some s → s.source ≡ Step line → k ≡ place

-- of the seeds before place n
pub record AreActionsOf (seeds : List Seed) (order : List ℕ) (primitives n : ℕ) (actions : List ℕ) : Type 0 where
  pub many : length actions ≡ primitives
  pub each : (line place address : ℕ) → line < primitives → place < n → IsOnlySeed seeds line place → slice_get order place ≡ Some address
      → slice_get actions line ≡ Some address

abbrev pub AreActions : List Seed → List ℕ → ℕ → List ℕ → Type 0
AreActions seeds order primitives actions = AreActionsOf seeds order primitives (length seeds) actions
