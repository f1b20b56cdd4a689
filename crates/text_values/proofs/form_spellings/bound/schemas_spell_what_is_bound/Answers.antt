use Rattle.text_values.proofs.form_spellings.SchemasRead.{predicates_read, tasks_read, actions_read, methods_read, tops_read}
use Rattle.text_values.proofs.form_spellings.bound.schemas_spell_what_is_bound.Goals as goal

pub returns : goal.returns
returns c = record { predicates = predicates_read; tasks = tasks_read; actions = actions_read; methods = methods_read; tops = tops_read }
