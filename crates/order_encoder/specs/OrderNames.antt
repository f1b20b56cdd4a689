-- What the printed problem calls its order pairs, as the numbers that its formulas are defined by.
-- Source: this project's encoding, after Alford et al., "Bound to Plan", ICAPS 2016.
use Rattle.order_encoder.specs.OrderFormulas.{OrderNumbers}
use Rattle.order_encoder.specs.declared.order_names.OrderNames.{OrderNames}

abbrev pub numbers : OrderNames → OrderNumbers
numbers n = record { before = n.before; slot_type = n.slot_type; x = n.x; first_slot = n.first_slot }
