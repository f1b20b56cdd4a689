-- Rows of ground methods, and the ground methods that they are.
-- Source: this project's.
use Rattle.htn_base.specs.Packed.{Row, row_of}
use Rattle.plan_model.specs.plan_meaning.Network.{GroundMethod}
use Rattle.ground_bound.specs.declared.in_order.MethodRow.{MethodRow}

abbrev pub row : MethodRow → Row
row it = row_of it.number it.objects.items

abbrev pub ground : MethodRow → GroundMethod
ground it = record { number = it.number; values = it.objects.items }
