use Rattle.text_values.proofs.form_spellings.faultless.Depth.{depth_is_that_of_lists}
use Rattle.text_values.proofs.form_spellings.fault_laws.depth_is_that_of_lists.Goals as goal

pub returns : goal.returns
returns c = depth_is_that_of_lists
