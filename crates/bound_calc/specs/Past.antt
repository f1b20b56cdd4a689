-- The bound where it is past 128 bits.
-- Source: this project's, after the progression bound of Alford et al., "Bound to Plan", ICAPS 2016.
use Rattle.std.specs.Prelude.{ℕ, ◌≤◌, ◌^◌}
use Rattle.plan_model.specs.declared.values.Compiled.{Compiled}
use Rattle.plan_model.specs.plan_meaning.Bound.{IsBound}
use Rattle.bound_calc.specs.declared.groups.BoundError.{BoundError}
use Rattle.bound_calc.specs.declared.groups.BoundError.TheVariants.{Past128, Memory}

-- there is a bound, and it doesn't fit in 128 bits
abbrev pub IsRefused : Compiled → BoundError → Type 0
IsRefused c Past128 = (n : ℕ) × IsBound c n × (2 ^ 128 ≤ n)
IsRefused c Memory = Unit {0}
