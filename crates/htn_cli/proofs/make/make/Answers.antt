use Rattle.std.proofs.Common.{rules, ◌*◌, ◌<◌, ◌≤◌, ◌^◌, ap, arith}
use Rattle.command_words.specs.Words.{make_of, number_of}
use Rattle.htn_cli.proofs.Results.{if_ok_both, if_err_too}
use Rattle.htn_cli.proofs.Makings.{packages_past, alone_gives, alone_stops}
use Rattle.htn_cli.proofs.make.make.Goals as goal

pub returns-then-slots-gt-MOST_MADE_SLOTS-clause-refused : goal.returns-then-slots-gt-MOST_MADE_SLOTS-clause-refused
returns-then-slots-gt-MOST_MADE_SLOTS-clause-refused c =
    let r = make_of c.args.asked.now in
    let slots = 5 * c.count_of-packages.result in
    let many : 4096 < slots = search rules in
    let small : slots < 2 ^ 128 = search rules in
    packages_past r slots (ap (λ n. 5 * n) c.count_of-packages.ensures) many small

pub returns-in-Ok-clause-given : goal.returns-in-Ok-clause-given
returns-in-Ok-clause-given c =
    let r = make_of c.args.asked.now in
    let few : 5 * c.count_of-packages.result ≤ 4096 = search rules in
    let count = c.count_of-packages.ensures in
    let within : 5 * number_of r.numeral ≤ 4096 = omega (arith, few, count) in
    if_ok_both c.translated-output.result (λ made gives fits. alone_gives r within made gives fits) c.translated-output.ensures.output c.translated-output.ensures.short

pub returns-in-Ok-clause-refused : goal.returns-in-Ok-clause-refused
returns-in-Ok-clause-refused c =
    let r = make_of c.args.asked.now in
    let few : 5 * c.count_of-packages.result ≤ 4096 = search rules in
    let count = c.count_of-packages.ensures in
    let within : 5 * number_of r.numeral ≤ 4096 = omega (arith, few, count) in
    if_err_too c.translated-output.result (alone_stops r within) c.translated-output.ensures.refused
