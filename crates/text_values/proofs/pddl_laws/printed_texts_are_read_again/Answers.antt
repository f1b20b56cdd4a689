use Rattle.text_values.proofs.PddlExactly.{read_again}
use Rattle.text_values.proofs.pddl_laws.printed_texts_are_read_again.Goals as goal

pub returns : goal.returns
returns c = read_again c.spelled_texts_are_faultless.ensures.pddl
