use Rattle.plan_texts.proofs.UniqueHddl.{hddl_alike}
use Rattle.hddl_texts.specs.PrintedHddl.{hddl_domain_text, hddl_problem_text}
use Rattle.hddl_texts.specs.Ids.{with_ids}
use Rattle.hddl_texts.proofs.PrintedHddlSpells.{printed_hddl_spells}
use Rattle.hddl_texts.proofs.laws.printed_hddl_is_read_alike.Goals as goal

pub returns : goal.returns
returns c =
    let h = c.args.problem.now in
    hddl_alike (with_ids h) c.args.read.now (hddl_domain_text h) (hddl_problem_text h) (printed_hddl_spells h c.requires.sound c.requires.apart) c.requires.spelled
