use Rattle.std.proofs.Common.{refl, ◌∙◌}
use Rattle.text_forms.specs.form_grammar.Lists.{term_rows, list_rows}
use Rattle.text_forms.specs.form_grammar.Formulas.{formula_rows, of_terms, of_list}
use Rattle.text_forms.specs.form_grammar.Effects.{effect_rows, of_formula}
use Rattle.text_forms.specs.form_grammar.Networks.{network_rows}
use Rattle.text_forms.specs.form_grammar.Sections.{section_rows, of_effect, of_network}
use Rattle.text_forms.proofs.form_grammar.Meaning.{form_same}
use Rattle.text_forms.proofs.form_grammar.laws.parts_keep_their_forms.Goals as goal

pub returns : goal.returns
returns c = record {
  terms = λ d p. form_same effect_rows section_rows of_effect (λ e. refl) p (of_formula (of_terms d)) ∙ form_same formula_rows effect_rows of_formula (λ e. refl) p (of_terms d)
      ∙ form_same term_rows formula_rows of_terms (λ e. refl) p d;
  lists = λ d p. form_same effect_rows section_rows of_effect (λ e. refl) p (of_formula (of_list d)) ∙ form_same formula_rows effect_rows of_formula (λ e. refl) p (of_list d)
      ∙ form_same list_rows formula_rows of_list (λ e. refl) p d;
  formulas = λ d p. form_same effect_rows section_rows of_effect (λ e. refl) p (of_formula d) ∙ form_same formula_rows effect_rows of_formula (λ e. refl) p d;
  effects = λ d p. form_same effect_rows section_rows of_effect (λ e. refl) p d;
  networks = λ d p. form_same network_rows section_rows of_network (λ e. refl) p d;
}
