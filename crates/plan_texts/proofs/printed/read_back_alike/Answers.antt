use Rattle.plan_texts.specs.PrintedTexts.{domain_text, problem_text}
use Rattle.plan_texts.proofs.PrintedSpells.{printed_spells}
use Rattle.plan_texts.proofs.UniquePddl.{spelled_alike}
use Rattle.plan_texts.proofs.printed.read_back_alike.Goals as goal

pub returns : goal.returns
returns c = spelled_alike c.args.value.now c.args.read.now (domain_text c.args.value.now) (problem_text c.args.value.now) (printed_spells c.args.value.now c.requires.printable) c.requires.spelled
