use Rattle.std.proofs.Common.{sym, subst}
use Rattle.text_values.specs.PddlValues.{IsValueOf}
use Rattle.text_values.proofs.PddlTexts.{value_of}
use Rattle.text_values.proofs.pddl.pddl_of.Goals as goal

pub returns-in-Ok-clause-value : goal.returns-in-Ok-clause-value
returns-in-Ok-clause-value c =
    subst (IsValueOf c.args.domain.now c.args.problem.now) (sym c.without_tasks.ensures)
    (value_of c.args.domain.now c.args.problem.now c.in-Ok.value c.in-Ok.ensures.read c.read_pddl_is_its_value.ensures)
