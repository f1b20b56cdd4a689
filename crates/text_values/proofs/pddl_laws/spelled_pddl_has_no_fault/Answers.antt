use Rattle.text_values.proofs.PddlExactly.{spelled_have_none}
use Rattle.text_values.proofs.pddl_laws.spelled_pddl_has_no_fault.Goals as goal

pub returns : goal.returns
returns c = spelled_have_none c.spelled_texts_are_faultless.ensures.pddl
