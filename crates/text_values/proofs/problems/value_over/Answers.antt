use Rattle.std.proofs.Common.{sym, subst}
use Rattle.text_values.specs.Reading.{RefusesOver}
use Rattle.text_values.proofs.ProblemTexts.{read_of, refused_for}
use Rattle.text_values.proofs.problems.value_over.Goals as goal

pub returns-in-Ok-bind_problem-clause-value : goal.returns-in-Ok-bind_problem-clause-value
returns-in-Ok-bind_problem-clause-value c domain bound =
    read_of c.args.language domain c.args.text.now c.args.names.now c.read_problem.new.names c.args.domain bound c.in-Ok.problem c.in-Ok.ensures.read c.in-Ok.ensures.keeps
    c.in-Ok.ensures.differ c.requires.short c.in-Ok.ensures.few c.in-Ok-bind_problem.value c.in-Ok-bind_problem.ensures.bound

pub returns-in-Err-bind_problem-clause-refused : goal.returns-in-Err-bind_problem-clause-refused
returns-in-Err-bind_problem-clause-refused c domain bound =
    subst (RefusesOver c.args.language domain c.args.text.now) (sym c.read_error.ensures.same)
    (refused_for c.args.language domain c.args.text.now c.args.names.now c.read_problem.new.names c.args.domain bound c.in-Ok.problem c.in-Ok.ensures.read c.in-Ok.ensures.keeps
    c.in-Ok.ensures.differ c.in-Err-bind_problem.error c.in-Err-bind_problem.ensures.refused)
