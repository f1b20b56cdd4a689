-- A text is bound exactly where it has no fault, and is else refused for the least.
-- Source: this project's.
use Rattle.std.specs.Prelude.{ℕ, Result, Ok, Err, Option, Some, None}
use Rattle.name_binding.specs.declared.faults.Spot.{Spot}
use Rattle.hddl_bind.specs.declared.errors.BindError.{BindError}
use Rattle.hddl_bind.specs.declared.errors.BindError.TheVariants.{Bad}

abbrev pub judged_by : {T : Type 0} → ℕ → T → Option Spot → Result T BindError
judged_by file bound None = Ok bound
judged_by file bound (Some s) = Err (Bad (record { code = s.code; file = file; at = s.at }))
