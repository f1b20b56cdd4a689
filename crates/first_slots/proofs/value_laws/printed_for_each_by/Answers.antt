use Rattle.first_slots.proofs.Headlines.{printed_by-rule, ordered_by, sound_of}
use Rattle.first_slots.proofs.value_laws.printed_for_each_by.Goals as goal

pub returns-clause-printed : goal.returns-clause-printed
returns-clause-printed c = printed_by-rule c.args.domain.now c.args.problem.now c.args.read.now c.args.other.now c.args.checks.now c.args.compiled.now c.args.other_compiled.now c.args.slots c.args.style.now c.args.value.now c.requires.spelled c.requires.other_spelled c.requires.other_compiled c.args.rule.now c.requires.printed

pub returns-clause-ordered : goal.returns-clause-ordered
returns-clause-ordered c =
    ordered_by c.args.domain.now c.args.problem.now c.args.read.now c.args.other.now c.args.checks.now c.args.compiled.now c.args.other_compiled.now c.args.slots c.args.style.now c.args.value.now c.requires.spelled c.requires.other_spelled c.requires.other_compiled
    (sound_of c.args.rule.now c.args.read.now c.args.checks.now c.args.compiled.now c.args.slots c.args.style.now c.args.value.now c.requires.printed) c.requires.ordered
