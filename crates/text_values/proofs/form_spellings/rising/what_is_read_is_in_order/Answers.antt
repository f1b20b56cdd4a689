use Rattle.text_values.proofs.form_spellings.order.Definitions.{formulas_in_order, effects_in_order}
use Rattle.text_values.proofs.form_spellings.order.Whole.{domains_in_order, problems_in_order}
use Rattle.text_values.proofs.form_spellings.seen.TypeLists.{types_stand}
use Rattle.text_values.proofs.form_spellings.rising.what_is_read_is_in_order.Goals as goal

pub returns : goal.returns
returns c = record { formulas = formulas_in_order; effects = effects_in_order; domains = domains_in_order; problems = problems_in_order; types = types_stand }
