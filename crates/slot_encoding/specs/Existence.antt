-- That a compiled problem has an encoded value.
-- Source: this project's.
use Rattle.std.specs.Prelude.{ℕ}
use Rattle.htn_base.specs.Different.{AreDifferent}
use Rattle.plan_model.specs.declared.options.Slots.{Slots}
use Rattle.plan_model.specs.declared.options.Style.{Style}
use Rattle.plan_model.specs.declared.values.Compiled.{Compiled}
use Rattle.plan_model.specs.declared.values.Pddl.{Pddl}
use Rattle.slot_encoding.specs.EncodedValue.{IsEncoded}
use Rattle.slot_encoding.specs.EncodedWords.{HasEncodedWords}
use Rattle.slot_encoding.specs.FirstFree.{IsEncodedBy, HasWordsBy}

-- with b slots, over words that differ and that have all words of it; how many they are is not bounded
pub record HasEncodedValue (c : Compiled) (b : ℕ) (style : Style) : Type 0 where
  pub value : Pddl
  pub encoded : IsEncoded c b style value
  pub words : HasEncodedWords c b value.names
  pub differ : AreDifferent value.names

-- the same by which free slots a method takes
pub record HasEncodedValueBy (rule : Slots) (c : Compiled) (b : ℕ) (style : Style) : Type 0 where
  pub value : Pddl
  pub encoded : IsEncodedBy rule c b style value
  pub words : HasWordsBy rule c b value.names
  pub differ : AreDifferent value.names
