use Rattle.stack_encoder.specs.Heads.{value_of}
use Rattle.stack_encoder.proofs.Ended.{past-domain, past-problem, both-within}
use Rattle.stack_encoder.proofs.printing.texts_within.Goals as goal

pub returns-in-Whole-2 : goal.returns-in-Whole-2
returns-in-Whole-2 c =
    both-within c.args.limit (value_of c.args.c.now c.args.encoding.now) _ _ _ _ c.in_ok-append_domain.field-0 c.in_ok-append_problem-in-Whole.field-0 c.new-domain.ensures.empty c.new-problem.ensures.empty c.in-Whole.is c.in-Whole-2.is
    c.in_ok-append_domain.ensures c.in_ok-append_problem-in-Whole.ensures

pub returns-in-TooLong-2 : goal.returns-in-TooLong-2
returns-in-TooLong-2 c =
    past-problem c.args.limit (value_of c.args.c.now c.args.encoding.now) _ _ _ _ c.in_ok-append_domain.field-0 c.in_ok-append_problem-in-Whole.field-0 c.in-TooLong-2.length c.in-Whole.is c.in-TooLong-2.is c.in_ok-append_domain.ensures
    c.in_ok-append_problem-in-Whole.ensures

pub returns-in-TooLong : goal.returns-in-TooLong
returns-in-TooLong c = past-domain c.args.limit (value_of c.args.c.now c.args.encoding.now) _ _ c.in_ok-append_domain.field-0 c.in-TooLong.length c.in-TooLong.is c.in_ok-append_domain.ensures
