use Rattle.text_forms.specs.form_grammar.Definitions.{definition_form}
use Rattle.text_forms.specs.StepWords.{is_mark}
use Rattle.text_forms.specs.form_grammar.Plans.{step, step_rows, steps_form}
use Rattle.text_forms.specs.form_grammar.Sections.{define, section_rows}
use Rattle.text_forms.specs.form_grammar.Texts.{one_list, the_list, marked_lists, mark_or_list}
use Rattle.text_forms.proofs.form_grammar.Faults.{define_told, plan_told}
use Rattle.text_forms.proofs.form_grammar.TextLaws.{text_cuttable, prefix_laws}
use Rattle.text_forms.proofs.form_grammar.laws.definitions_and_plans_have_one_fault.Goals as goal

pub returns : goal.returns
returns c = record {
  define = λ n l d. define_told section_rows (define l d) c.args.text.now n;
  plan = plan_told step_rows step is_mark c.args.text.now;
  prefixes = λ l d. prefix_laws (definition_form l d) (text_cuttable section_rows (one_list 5 (define l d)) the_list) c.args.text.now 0;
  plan_prefixes = prefix_laws steps_form (text_cuttable step_rows (marked_lists is_mark step) mark_or_list) c.args.text.now 0;
}
