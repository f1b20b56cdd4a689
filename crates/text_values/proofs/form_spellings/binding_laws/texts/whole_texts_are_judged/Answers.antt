use Rattle.text_values.proofs.form_spellings.binding_laws.WholeFaults.{is_least_of_domain, domain_has_none, is_least_of_problem, both_have_none}
use Rattle.text_values.proofs.form_spellings.binding_laws.texts.whole_texts_are_judged.Goals as goal

pub returns : goal.returns
returns c = record { domains = is_least_of_domain; bound_domains = domain_has_none; problems = is_least_of_problem; both_bound = both_have_none }
