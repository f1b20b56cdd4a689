use Rattle.hddl_texts.proofs.PrintedHddlSpells.{printed_hddl_spells}
use Rattle.hddl_texts.proofs.PrintedIds.{problem-sound, still-ordered}
use Rattle.hddl_texts.proofs.laws.printed_hddl_spells.Goals as goal

pub returns-clause-spelled : goal.returns-clause-spelled
returns-clause-spelled c = printed_hddl_spells c.args.problem.now c.requires.sound c.requires.apart

pub returns-clause-sound : goal.returns-clause-sound
returns-clause-sound c = problem-sound c.args.problem.now c.requires.sound

pub returns-clause-ordered : goal.returns-clause-ordered
returns-clause-ordered c = still-ordered c.args.problem.now
