-- The two printed texts of a translation: what they are, and when they are too long.
-- Source: this project's.
use Rattle.std.specs.Prelude.{ℕ, ◌≡◌, ◌<◌, ◌≤◌, ◌⊎◌, List, length}
use Rattle.htn_base.specs.Limits.{longest_output}
use Rattle.plan_model.specs.declared.values.Hddl.{Hddl}
use Rattle.plan_model.specs.declared.values.Compiled.{Compiled}
use Rattle.plan_model.specs.declared.values.Pddl.{Pddl}
use Rattle.plan_texts.specs.PrintedTexts.{domain_text, problem_text}
use Rattle.text_forms.specs.sheets.Sheets.{capped}
use Rattle.problem_texts.specs.declared.printing.Texts.{Texts as Printed}
use Rattle.htn_cli.specs.PrintedForms.{IsEncodedAs, HasWordsAs, HasEncodedValueAs, IsPrintedAs}
use Rattle.htn_cli.specs.declared.manner.Manner.{Manner}

pub record Texts : Type 0 where
  pub domain : List ℕ
  pub problem : List ℕ

abbrev pub texts_of : Printed → Texts
texts_of printed = record { domain = printed.domain; problem = printed.problem }

-- the first of two texts that is too long; n is its length
abbrev pub IsFirstTooLong : (domain problem : List ℕ) (n : ℕ) → Type 0
IsFirstTooLong domain problem n =
    ((longest_output < length domain) × (n ≡ capped (length domain)))
    ⊎ ((length domain ≤ longest_output) × (longest_output < length problem) × (n ≡ capped (length problem)))

-- the texts are those of a value that is printed for the problem, of which this is the compiled value
pub record AreTranslated (read : Hddl) (compiled : Compiled) (manner : Manner) (texts : Texts) : Type 0 where
  pub value : Pddl
  pub printed : IsPrintedAs manner.form manner.rule read manner.checks compiled manner.slots manner.style value
  pub words : HasWordsAs manner.form manner.rule compiled manner.slots value.names
  pub domain_is : texts.domain ≡ domain_text value
  pub problem_is : texts.problem ≡ problem_text value
  pub domain_fits : length texts.domain ≤ longest_output
  pub problem_fits : length texts.problem ≤ longest_output

-- there is an encoded value of the problem that has all its words, and of each such value the first text that is too long has this length
pub record AreTooLong (compiled : Compiled) (manner : Manner) (n : ℕ) : Type 0 where
  pub encoded : HasEncodedValueAs manner.form manner.rule compiled manner.slots manner.style
  pub too_long : (value : Pddl) → IsEncodedAs manner.form manner.rule compiled manner.slots manner.style value → HasWordsAs manner.form manner.rule compiled manner.slots value.names
      → IsFirstTooLong (domain_text value) (problem_text value) n
