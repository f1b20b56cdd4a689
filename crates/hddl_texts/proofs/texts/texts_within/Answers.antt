use Rattle.hddl_texts.specs.Texts.{hddl_of}
use Rattle.hddl_texts.proofs.Within.{past-domain, past-problem, both-within}
use Rattle.hddl_texts.proofs.texts.texts_within.Goals as goal

pub returns-in-Whole-2 : goal.returns-in-Whole-2
returns-in-Whole-2 c =
    both-within (hddl_of c.args.p.now) c.args.limit _ c.in_ok-print_domain.field-0 c.in_ok-print_domain.ensures _ c.in_ok-print_problem-in-Whole.field-0 c.in_ok-print_problem-in-Whole.ensures c.in-Whole.is
    c.in-Whole-2.is

pub returns-in-TooLong-2 : goal.returns-in-TooLong-2
returns-in-TooLong-2 c =
    past-problem (hddl_of c.args.p.now) c.args.limit _ c.in_ok-print_domain.field-0 c.in_ok-print_domain.ensures _ c.in_ok-print_problem-in-Whole.field-0 c.in_ok-print_problem-in-Whole.ensures c.in-Whole.is
    c.in-TooLong-2.length c.in-TooLong-2.is

pub returns-in-TooLong : goal.returns-in-TooLong
returns-in-TooLong c = past-domain (hddl_of c.args.p.now) c.args.limit _ c.in_ok-print_domain.field-0 c.in_ok-print_domain.ensures c.in-TooLong.length c.in-TooLong.is
