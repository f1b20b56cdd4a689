use Rattle.text_values.proofs.form_spellings.NamesIn.{formulas_stand, effects_stand, lists_stand}
use Rattle.text_values.proofs.form_spellings.order.Whole.{domains_stand, problems_stand, domains_keep, problems_keep}
use Rattle.text_values.proofs.form_spellings.names.names_stand_in_the_table.Goals as goal

pub returns : goal.returns
returns c = record { formulas = formulas_stand; effects = effects_stand; lists = lists_stand; domains = domains_stand; problems = problems_stand; domains_keep = domains_keep; problems_keep = problems_keep }
