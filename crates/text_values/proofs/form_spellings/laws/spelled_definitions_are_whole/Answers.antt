use Rattle.text_values.proofs.form_spellings.SpelledSome.{hddl_domains_whole, hddl_problems_whole, pddl_domains_whole, pddl_problems_whole}
use Rattle.text_values.proofs.form_spellings.laws.spelled_definitions_are_whole.Goals as goal

pub returns : goal.returns
returns c = record { hddl_domains = hddl_domains_whole; hddl_problems = hddl_problems_whole; pddl_domains = pddl_domains_whole; pddl_problems = pddl_problems_whole }
