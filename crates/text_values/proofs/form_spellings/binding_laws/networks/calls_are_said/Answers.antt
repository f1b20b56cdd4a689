use Rattle.text_values.proofs.form_spellings.binding_laws.CallValues.{is_call_bound}
use Rattle.text_values.proofs.form_spellings.binding_laws.CallWords.{has_call_faults, has_task_faults}
use Rattle.text_values.proofs.form_spellings.binding_laws.networks.calls_are_said.Goals as goal

pub returns : goal.returns
returns c = record { subtasks = has_call_faults; tasks = has_task_faults; bound = is_call_bound }
