use Rattle.std.proofs.lemmas.Result.{err_from_is_err_and}
use Rattle.command_words.specs.Words.{bound_of}
use Rattle.htn_cli.proofs.Results.{if_ok_too}
use Rattle.htn_cli.proofs.Leavings.{soundly, bound_not_computed, gives_bound}
use Rattle.htn_cli.proofs.bounding.bounded.Goals as goal

pub bound_of-bound-requires : goal.bound_of-bound-requires
bound_of-bound-requires c =
    record { soundly = soundly c.args.domain.now c.args.problem.now c.args.asked.now.checks c.in_ok-compiled.compiled c.in_ok-compiled.ensures.compiled }

pub returns-in_err-bound-clause-refused : goal.returns-in_err-bound-clause-refused
returns-in_err-bound-clause-refused c =
    let p = err_from_is_err_and c.from_residual-in_err-bound.result c.from_residual-in_err-bound.ensures.1 in
    rw (p.1, p.2) (bound_not_computed (bound_of c.args.asked.now) c.args.domain.now c.args.problem.now c.in_ok-compiled.compiled c.in_ok-compiled.ensures.compiled _ c.in_err-bound.ensures.refused)

pub returns-clause-output : goal.returns-clause-output
returns-clause-output c =
    if_ok_too c.output_with.result
    (gives_bound (bound_of c.args.asked.now) c.args.domain.now c.args.problem.now c.in_ok-compiled.compiled c.in_ok-compiled.ensures.compiled c.in_ok-bound.field-0 c.in_ok-bound.ensures.bound c.output_with.ensures.small)
    c.output_with.ensures.output
