use Rattle.text_values.proofs.form_spellings.TextsRead.{domains_have_no_tasks, problems_have_no_network}
use Rattle.text_values.proofs.form_spellings.bound.pddl_texts_have_no_networks.Goals as goal

pub returns : goal.returns
returns c = record { domains = domains_have_no_tasks; problems = problems_have_no_network }
