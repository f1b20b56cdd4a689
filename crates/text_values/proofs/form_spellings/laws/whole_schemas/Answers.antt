use Rattle.text_values.proofs.form_spellings.WholeParts.{whole_tasks, whole_methods, whole_actions, whole_tops, whole_predicates}
use Rattle.text_values.proofs.form_spellings.laws.whole_schemas.Goals as goal

pub returns : goal.returns
returns c = record { tasks = whole_tasks; methods = whole_methods; actions = whole_actions; tops = whole_tops; predicates = whole_predicates }
