-- The lengths of a text with few slots, as they are counted, and when they tell those with more.
-- Source: this project's.
use Rattle.std.specs.Prelude.{ℕ, ◌≡◌, ◌<◌, ◌≤◌}
use Rattle.plan_model.specs.declared.options.Slots.{Slots}
use Rattle.plan_model.specs.declared.options.Slots.TheVariants.{Any}
use Rattle.plan_model.specs.declared.values.Compiled.{Compiled}
use Rattle.slot_encoding.specs.EncodedNames.{first_slot}
use Rattle.slot_encoding.specs.encoded_texts.NamedObjects.{of_compiled}
use Rattle.text_forms.specs.sheets.Sheets.{capped}
use Rattle.problem_texts.specs.declared.growth.FewSlots.{FewSlots}

-- as far as 64 bits go
pub record AreCapped (one two ten : ℕ) (counted : FewSlots) : Type 0 where
  pub one_is : counted.one ≡ capped one
  pub two_is : counted.two ≡ capped two
  pub ten_is : counted.ten ≡ capped ten

-- a method takes any free slots, there are some past the tenth, and the source names no object past its own, such as a slot
pub record GrowsEvenly (rule : Slots) (c : Compiled) (slots : ℕ) : Type 0 where
  pub any : rule ≡ Any
  pub many : 10 < slots
  pub declared : of_compiled c ≤ first_slot c
