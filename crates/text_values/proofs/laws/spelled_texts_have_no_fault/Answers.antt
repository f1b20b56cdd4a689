use Rattle.text_values.proofs.Spelled.{spelled_have_none}
use Rattle.text_values.proofs.laws.spelled_texts_have_no_fault.Goals as goal

pub returns : goal.returns
returns c = spelled_have_none c.spelled_texts_are_faultless.ensures.hddl
