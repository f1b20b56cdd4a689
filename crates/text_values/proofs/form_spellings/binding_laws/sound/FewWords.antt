-- Two texts add at most one word for each of their tokens to a table.
use Rattle.std.proofs.Common.{[], arith}
use Rattle.std.specs.Prelude.{codes}
use Rattle.text_forms.proofs.Lists.{few_tokens}
use Rattle.htn_base.specs.Table.{with_word}
use Rattle.gd_reader.specs.Added.{AtMostOneForEachToken}
use Rattle.text_values.specs.form_spellings.binding_laws.SoundValues.{TablesAreFew}
use Rattle.text_values.proofs.form_spellings.binding_laws.sound.Limits.{one_longer}

pub tables_few : AtMostOneForEachToken → TablesAreFew
tables_few few domain problem left domain_short problem_short is =
    let a = few domain [] is.behind is.behind_differ is.domain_adds in
    let b = few_tokens domain in
    let c = one_longer is.behind (codes "object") in
    let d = few problem (with_word is.behind (codes "object")) left is.left_differ is.problem_adds in
    let e = few_tokens problem in
    omega arith
