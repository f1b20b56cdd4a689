-- What is said of lower slots, as it is printed.
-- Source: this project's.
use Rattle.std.specs.Prelude.{ℕ, Option, None, Some}
use Rattle.pddl_printer.specs.declared.lower.Lower.{Lower}
use Rattle.pddl_printer.specs.declared.lowest.Lowest.{Lowest}
use Rattle.slot_encoding.specs.EncodedNames.{slot_type}
use Rattle.slot_encoder.specs.declared.lower_slots.LowerSlots.{LowerSlots}
use Rattle.problem_texts.specs.declared.pages.Pages.{Pages}

-- of so many slots
abbrev pub facts_with : Option LowerSlots → ℕ → Option Lower
facts_with None slots = None
facts_with (Some l) slots = Some (record { predicate = l.less; range = record { ty = slot_type; first = l.first; count = slots } })

abbrev pub lower_facts : Pages → Option Lower
lower_facts pages = facts_with pages.lower pages.encoding.now.slots

-- x: the number of variables in force
abbrev pub lowest_with : Option LowerSlots → (x : ℕ) → Option Lowest
lowest_with None x = None
lowest_with (Some l) x = Some (record { free = l.free; less = l.less; other = l.other; x = x })
