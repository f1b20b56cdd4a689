use Rattle.plan_texts.proofs.PrintedSpells.{printed_spells}
use Rattle.pddl_printer.proofs.texts.print_problem.Goals as goal

pub returns-clause-spelled : goal.returns-clause-spelled
returns-clause-spelled c = λ printable. printed_spells c.args.p.now printable
