use Rattle.std.proofs.Common.{◌+◌, ◌<◌, length, arith}
use Rattle.reached_parts.specs.HowMany.{most_reached}
use Rattle.reached_parts.proofs.Searching.{lists_no_more}
use Rattle.reached_parts.proofs.count.few_enough.Goals as goal

pub returns-then-saturating_add-gt-MOST_REACHED-clause-refused :
    goal.returns-then-saturating_add-gt-MOST_REACHED-clause-refused
returns-then-saturating_add-gt-MOST_REACHED-clause-refused c = λ of atoms whole sound.
    let tasks = c.args.tasks.now in
    let actions = c.args.actions.now in
    let methods = c.args.methods.now in
    let more : most_reached < length tasks + length actions + length methods =
    let t = c.len.ensures.length in
    let a = c.len-2.ensures.length in
    let m = c.len-3.ensures.length in
    let works = c.saturating_add-works.ensures in
    let all = c.saturating_add.ensures in
    let past = c.if-saturating_add-gt-MOST_REACHED.true in
    omega (arith, t, a, m, works, all, past) in
    lists_no_more whole.problem whole.checks of whole.compiled atoms tasks actions methods sound most_reached more
