-- What the printing of a compiled problem comes to.
-- Source: this project's.
use Rattle.std.specs.Prelude.{ℕ, ◌≡◌, ◌≤◌, List, length}
use Rattle.htn_base.specs.Limits.{longest_output}
use Rattle.plan_model.specs.declared.options.Slots as rule
use Rattle.plan_model.specs.declared.options.Style.{Style}
use Rattle.plan_model.specs.declared.values.Compiled.{Compiled}
use Rattle.plan_model.specs.declared.values.Pddl.{Pddl}
use Rattle.plan_texts.specs.PrintedTexts.{domain_text, problem_text}
use Rattle.slot_encoder.specs.Encodings.{IsPrintableWhereSound}
use Rattle.problem_texts.specs.Lengths.{ArePrintedWithin}
use Rattle.problem_texts.specs.declared.printing.Printed.{Printed}
use Rattle.stack_encoder.specs.StackTexts.{AreStackTextsWithin}
use Rattle.command_words.specs.declared.form.PrintedForm.{PrintedForm}
use Rattle.command_words.specs.declared.form.PrintedForm.TheVariants.{Slots, Stack}
use Rattle.htn_cli.specs.PrintedForms.{IsEncodedAs, HasWordsAs}
use Rattle.htn_cli.specs.Texts.{Texts}
use Rattle.htn_cli.specs.declared.manner.Manner.{Manner}

-- the two texts are those of an encoded value, with all its words
pub record ArePrintedAs (form : PrintedForm) (by : rule.Slots) (compiled : Compiled) (slots : ℕ) (style : Style) (domain problem : List ℕ) : Type 0 where
  pub value : Pddl
  pub encoded : IsEncodedAs form by compiled slots style value
  pub words : HasWordsAs form by compiled slots value.names
  pub printable : IsPrintableWhereSound compiled slots value
  pub domain_is : domain ≡ domain_text value
  pub problem_is : problem ≡ problem_text value

-- and neither is too long
pub record AreWhole (compiled : Compiled) (manner : Manner) (texts : Texts) : Type 0 where
  pub printed : ArePrintedAs manner.form manner.rule compiled manner.slots manner.style texts.domain texts.problem
  pub domain_fits : length texts.domain ≤ longest_output
  pub problem_fits : length texts.problem ≤ longest_output

-- both, or the length of the first that is too long, by the form
abbrev pub IsPrintedBy : PrintedForm → Compiled → Manner → Printed → Type 0
IsPrintedBy Slots compiled manner = ArePrintedWithin manner.rule compiled manner.slots manner.style longest_output
IsPrintedBy Stack compiled manner = AreStackTextsWithin compiled manner.slots longest_output

abbrev pub IsPrintedWithin : Compiled → Manner → Printed → Type 0
IsPrintedWithin compiled manner = IsPrintedBy manner.form compiled manner
