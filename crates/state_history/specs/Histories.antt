-- A history: the states in the gaps from 0 to the last one.
-- Source: this project's; truth and the state after an effect as in plan_meaning.
use Rattle.std.specs.Prelude.{ℕ, ◌↔◌, List}
use Rattle.plan_model.specs.declared.terms.GroundAtom.{GroundAtom}
use Rattle.plan_model.specs.declared.formulas.Formula.{Formula}
use Rattle.plan_model.specs.declared.effects.Effect.{Effect}
use Rattle.plan_model.specs.plan_meaning.Truth as truth
use Rattle.problem_index.specs.declared.world.World.{World}
use Rattle.ground_state.specs.Clauses.{IsInType}
use Rattle.state_history.specs.declared.history.History.{History}
use Rattle.state_history.specs.Flips.{states}

-- the last gap
abbrev pub last : History → ℕ
last h = h.flips.last

-- the state in the gap; past the last gap it is that in the last
abbrev pub state_in : History → ℕ → truth.State
state_in h = states h.flips

-- two states have the same atoms
abbrev pub AreSame : truth.State → truth.State → Type 0
AreSame S T = (g : GroundAtom) → S g ↔ T g

-- the formula is true in the gap
abbrev pub IsTrueInGap : World → History → Formula → List ℕ → ℕ → Type 0
IsTrueInGap world h f values gap = truth.IsTrueIn (IsInType world) (state_in h gap) f values

-- the state after the effect in the last one
abbrev pub after_last : World → History → Effect → List ℕ → truth.State
after_last world h e values = truth.after (IsInType world) (state_in h (last h)) e values
