use Rattle.std.proofs.Common.{ℕ, ◌≡◌, ◌+◌, ◌*◌, ◌<◌, ◌^◌, ◌++◌, [], ◌∷◌, drop, Some}
use Rattle.plan_model.specs.plan_meaning.Truth.{values_of}
use Rattle.ground_state.specs.Numbers.{number_of}
use Rattle.ground_state.proofs.env.Env.row.Given as goal

-- the numbers of the objects from here on
abbrev pub invariant-loop-i : goal.invariant-loop-i
invariant-loop-i l = ((x : ℕ) → x < l.count → number_of l.numbers (drop l.i (values_of (l.self.values.items ++ x ∷ []) l.terms)) ≡ Some (l.first + l.step * x))
    × (l.first + 1 < 2 ^ 32) × (l.step + 1 < 2 ^ 32) × (l.first + l.step * l.count < 2 ^ 32)
