-- The slots of the printed problem, as a range of objects.
-- Source: this project's encoding, after Alford et al., "Bound to Plan", ICAPS 2016.
use Rattle.std.specs.Prelude.{ℕ}
use Rattle.plan_model.specs.declared.values.Compiled.{Compiled}
use Rattle.pddl_printer.specs.declared.object_range.Range.{Range}
use Rattle.slot_encoding.specs.EncodedNames.{slot_type, first_slot}

abbrev pub slots_of : Compiled → ℕ → Range
slots_of c b = record { ty = slot_type; first = first_slot c; count = b }
