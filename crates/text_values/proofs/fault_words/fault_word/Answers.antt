use Rattle.std.proofs.Common.{rules, ◌≤◌, sym}
use Rattle.text_values.proofs.FaultWords.{none_between, none_past}
use Rattle.text_values.proofs.fault_words.fault_word.Goals as goal

pub returns-in-23-to-29 : goal.returns-in-23-to-29
returns-in-23-to-29 c =
    let from : 23 ≤ c.args.code = search rules in
    let to : c.args.code ≤ 29 = search rules in record { word = sym (none_between c.args.code from to) }

pub returns-in-37-to-65535 : goal.returns-in-37-to-65535
returns-in-37-to-65535 c =
    let from : 37 ≤ c.args.code = search rules in record { word = sym (none_past c.args.code from) }
