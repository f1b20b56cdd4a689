use Rattle.std.proofs.Common.{subst, ap, ◌∙◌}
use Rattle.hddl_bind.specs.Judged.{judged_by}
use Rattle.hddl_bind.specs.WholeProblems.{IsNotedWithStart}
use Rattle.hddl_bind.proofs.WholeTexts.{problem_bound_if, problem_refused_if}
use Rattle.hddl_bind.proofs.bound_problem.bind_problem.Goals as goal

pub returns-in-Ok-clause-bound : goal.returns-in-Ok-clause-bound
returns-in-Ok-clause-bound c =
    let d = c.args.d in
    let p = c.args.p in
    let new = c.noted_problem-noted.new in
    let least = new.faults.least in
    let from_none = subst (λ old. IsNotedWithStart d p c.in-Ok.words old least new.d c.in-Ok.parts) c.new-faults.ensures.none c.in-Ok.ensures.noted in
    problem_bound_if c.args.names.now d p c.in-Ok.words c.in-Ok.ensures.words new.d c.in-Ok.parts least from_none c.judged.result (c.judged.ensures.judged ∙ ap (λ value. judged_by 1 value least) c.together.ensures.together)

pub returns-in-Ok-clause-refused : goal.returns-in-Ok-clause-refused
returns-in-Ok-clause-refused c =
    let d = c.args.d in
    let p = c.args.p in
    let new = c.noted_problem-noted.new in
    let least = new.faults.least in
    let from_none = subst (λ old. IsNotedWithStart d p c.in-Ok.words old least new.d c.in-Ok.parts) c.new-faults.ensures.none c.in-Ok.ensures.noted in
    problem_refused_if c.args.names.now d p c.in-Ok.words c.in-Ok.ensures.words new.d c.in-Ok.parts least from_none c.judged.result (c.judged.ensures.judged ∙ ap (λ value. judged_by 1 value least) c.together.ensures.together)
