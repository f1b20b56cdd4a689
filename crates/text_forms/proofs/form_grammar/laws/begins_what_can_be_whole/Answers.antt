use Rattle.text_forms.specs.form_grammar.Effects.{eff, effect_rows}
use Rattle.text_forms.specs.form_grammar.Formulas.{gd, formula_rows}
use Rattle.text_forms.specs.form_grammar.Lists.{list_rows}
use Rattle.text_forms.specs.form_grammar.Networks.{network_rows}
use Rattle.text_forms.specs.StepWords.{is_mark}
use Rattle.text_forms.specs.form_grammar.Plans.{step, step_rows}
use Rattle.text_forms.specs.form_grammar.Rows.{Rows}
use Rattle.text_forms.specs.form_grammar.Laws.{BeginsWhatCanBeWhole}
use Rattle.text_forms.specs.form_grammar.Texts.{text_form, one_list, the_list, marked_lists, mark_or_list}
use Rattle.text_forms.proofs.form_grammar.Endings.{Ending, list_ends, formula_ends, effect_ends, network_ends, step_ends, one_ends, plan_ends, each_can}
use Rattle.text_forms.specs.form_grammar.Sections.{domain, define, section_rows}
use Rattle.text_forms.proofs.form_grammar.DomainEndings.{Can, domain_can}
use Rattle.text_forms.proofs.form_grammar.Fronts as fronts
use Rattle.text_forms.proofs.form_grammar.laws.begins_what_can_be_whole.Goals as goal

of_one : {X : Type 0} (rows : Rows X) (inside : X) → ((d : X) → Ending rows d) → BeginsWhatCanBeWhole (text_form rows (one_list 8 inside) the_list)
of_one rows inside e = fronts.begins_what_can_be_whole rows (one_list 8 inside) (λ d. Unit {0}) (each_can rows (one_list 8 inside) e (one_ends rows 8 inside (e inside))) the_list

pub returns : goal.returns
returns c = record {
  domains = λ l. fronts.begins_what_can_be_whole section_rows (one_list 5 (define l domain)) Can (domain_can l) the_list;
  plans = fronts.begins_what_can_be_whole step_rows (marked_lists is_mark step) (λ d. Unit {0}) (each_can step_rows (marked_lists is_mark step) step_ends plan_ends) mark_or_list;
  formulas = of_one formula_rows gd formula_ends;
  effects = of_one effect_rows eff effect_ends;
  lists = λ d. of_one list_rows d list_ends;
  networks = λ d. of_one network_rows d network_ends;
}
