use Rattle.plan_texts.proofs.UniqueHddl.{hddl_alike}
use Rattle.hddl_texts.specs.PrintedHddl.{hddl_domain_text, hddl_problem_text}
use Rattle.hddl_texts.specs.Ids.{with_ids}
use Rattle.hddl_read_again.proofs.printed_hddl_is_read_again.Goals as goal

pub returns : goal.returns
returns c =
    let h = c.args.problem.now in
    let s = c.printed_hddl_spells.ensures in
    let law = c.spelled_texts_have_no_fault.ensures in
    record {
      accepted = law (hddl_domain_text h) (hddl_problem_text h) (with_ids h) s.spelled c.requires.shallow_domain c.requires.shallow_problem (s.sound c.requires.names) (s.ordered c.requires.ordered) c.requires.types;
      alike = λ read i. hddl_alike (with_ids h) read (hddl_domain_text h) (hddl_problem_text h) s.spelled i;
    }
