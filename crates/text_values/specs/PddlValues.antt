-- The value of two PDDL texts.
-- Source: this project's.
use Rattle.std.specs.Prelude.{ℕ, List}
use Rattle.hddl_reader.specs.declared.sections.Language.TheVariants as language
use Rattle.plan_model.specs.declared.values.Pddl.{Pddl}
use Rattle.text_values.specs.form_spellings.PddlTexts.{IsPddlOf}
use Rattle.text_values.specs.form_spellings.SoundPddl.{IsSoundClassical}
use Rattle.text_forms.specs.declared.sexpr_text.read_error.ReadError.{ReadError}
use Rattle.text_values.specs.TextFaults.{HaveNoFault}
use Rattle.text_values.specs.Values as texts

module _ (domain problem : List ℕ) where
  -- The texts have no fault and spell the value, which is sound.
  pub record IsValueOf (c : Pddl) : Type 0 where
    pub faultless : HaveNoFault language.Pddl domain problem
    pub spelled : IsPddlOf domain problem c
    pub sound : IsSoundClassical c

  -- the least fault of the two texts; or memory ran out
  abbrev pub IsRefusal : ReadError → Type 0
  IsRefusal = texts.IsRefusal domain problem language.Pddl
