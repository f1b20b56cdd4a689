-- Two PDDL texts that spell a sound value have no fault, and what is printed for a value is read again.
-- Source: this project's.
use Rattle.std.specs.Prelude.{ℕ, List}
use Rattle.hddl_reader.specs.declared.sections.Language.TheVariants as language
use Rattle.plan_model.specs.declared.values.Pddl.{Pddl}
use Rattle.plan_texts.specs.Alike.{AreAlikePddl}
use Rattle.plan_texts.specs.PrintableValue.{IsPrintable}
use Rattle.plan_texts.specs.PrintedTexts.{domain_text, problem_text}
use Rattle.plan_texts.specs.SpellsPddl.{SpellsPddl}
use Rattle.text_values.specs.form_spellings.SoundPddl.{IsSoundPddl}
use Rattle.text_values.specs.form_spellings.Depth.{IsShallow}
use Rattle.text_values.specs.form_spellings.Faultless.{HasFewTypes}
use Rattle.text_values.specs.Exactly.{AreAccepted}

-- Whatever value they spell, in whatever order: where it is sound, it has at most 1,002 types beside object, and no list stands too
-- deep in the texts.
abbrev pub SpelledPddlHasNoFault : Type 0
SpelledPddlHasNoFault =
    (domain problem : List ℕ) (c : Pddl) → SpellsPddl domain problem c → IsShallow domain → IsShallow problem → IsSoundPddl c
    → HasFewTypes language.Pddl c.types → AreAccepted language.Pddl domain problem

-- The printed texts of the value have no fault, and each value that they spell is alike to it.
pub record IsReadAgain (c : Pddl) : Type 0 where
  pub accepted : AreAccepted language.Pddl (domain_text c) (problem_text c)
  pub alike : (read : Pddl) → SpellsPddl (domain_text c) (problem_text c) read → AreAlikePddl c read

-- where it can be printed, has at most 1,002 types beside object, and no list stands too deep in its texts
abbrev pub PrintedTextsAreReadAgain : Type 0
PrintedTextsAreReadAgain = (c : Pddl) → IsPrintable c → HasFewTypes language.Pddl c.types → IsShallow (domain_text c) → IsShallow (problem_text c) → IsReadAgain c
