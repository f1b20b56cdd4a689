-- What is read of two PDDL texts and bound is the value that they spell, and sound.
-- Source: this project's.
use Rattle.std.specs.Prelude.{ℕ, List}
use Rattle.text_forms.specs.Faults.{IsFaultless}
use Rattle.hddl_reader.specs.declared.sections.Language.TheVariants as language
use Rattle.plan_model.specs.declared.values.Hddl.{Hddl}
use Rattle.text_values.specs.form_spellings.PddlTexts.{IsPddlOf}
use Rattle.plan_model.specs.Values.{without_tasks}
use Rattle.text_values.specs.form_spellings.SoundPddl.{IsSoundClassical}
use Rattle.text_values.specs.form_spellings.binding_laws.SoundValues.{IsBoundOf}

-- of texts without a bad byte: what is bound, without the tasks, methods and network that it lacks
abbrev pub ReadPddlIsItsValue : Type 0
ReadPddlIsItsValue = (domain problem : List ℕ) (h : Hddl) → IsBoundOf language.Pddl domain problem h → IsFaultless domain → IsFaultless problem
    → IsPddlOf domain problem (without_tasks h) × IsSoundClassical (without_tasks h)
