-- The ids of the lines of decomposed tasks.
-- Source: this project's.
use Rattle.std.specs.Prelude.{ℕ, Option, option_map, slice_get}
use Rattle.std.specs.Option.{option_and_then}
use Rattle.hplan_text.specs.declared.values.HPlan.{HPlan}
use Rattle.hplan_text.specs.Printable.{node_id}

-- that of the line at the place among these, if there is a place
abbrev pub id_at : HPlan → Option ℕ → Option ℕ
id_at plan line = option_and_then (λ k. option_map node_id (slice_get plan.nodes k)) line
