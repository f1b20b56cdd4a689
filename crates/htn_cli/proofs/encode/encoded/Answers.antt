use Rattle.std.proofs.lemmas.Result.{err_from_is_err_and}
use Rattle.command_words.specs.Words.{encode_of}
use Rattle.htn_cli.proofs.Results.{if_ok_too, if_err_too}
use Rattle.htn_cli.proofs.Leavings.{soundly}
use Rattle.htn_cli.proofs.Encodings.{given_few, problem_stops, encoding_stops, gives_steps, steps_fit}
use Rattle.htn_cli.proofs.encode.encoded.Goals as goal

pub told_of-told-requires-clause-soundly : goal.told_of-told-requires-clause-soundly
told_of-told-requires-clause-soundly c =
    soundly c.args.domain.now c.args.problem.now c.args.asked.now.checks c.in_ok-compiled.compiled c.in_ok-compiled.ensures.compiled

pub told_of-told-requires-clause-given : goal.told_of-told-requires-clause-given
told_of-told-requires-clause-given c = given_few (encode_of c.args.asked.now).numeral c.args.given c.requires.given

pub returns-in_err-compiled-clause-refused : goal.returns-in_err-compiled-clause-refused
returns-in_err-compiled-clause-refused c =
    let p = err_from_is_err_and c.from_residual.result c.from_residual.ensures.1 in
    rw (p.1, p.2) (problem_stops (encode_of c.args.asked.now) c.args.domain.now c.args.problem.now c.args.hplan.now _ c.in_err-compiled.ensures.refused)

pub returns-clause-told : goal.returns-clause-told
returns-clause-told c =
    if_ok_too c.told_of-told.result
    (gives_steps (encode_of c.args.asked.now) c.args.domain.now c.args.problem.now c.args.hplan.now c.in_ok-compiled.compiled c.in_ok-compiled.ensures.compiled c.args.given c.requires.given)
    c.told_of-told.ensures.told

pub returns-clause-short : goal.returns-clause-short
returns-clause-short c =
    if_ok_too c.told_of-told.result
    (steps_fit (encode_of c.args.asked.now) c.args.domain.now c.args.problem.now c.args.hplan.now c.in_ok-compiled.compiled c.in_ok-compiled.ensures.compiled c.args.given c.requires.given)
    c.told_of-told.ensures.told

pub returns-clause-refused : goal.returns-clause-refused
returns-clause-refused c =
    if_err_too c.told_of-told.result
    (encoding_stops (encode_of c.args.asked.now) c.args.domain.now c.args.problem.now c.args.hplan.now c.in_ok-compiled.compiled c.in_ok-compiled.ensures.compiled c.args.given c.requires.given)
    c.told_of-told.ensures.refused
