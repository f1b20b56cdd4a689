use Rattle.std.proofs.Common.{length, ap, ◌∙◌, arith}
use Rattle.htn_base.proofs.PackedLemmas.{length-parts}
use Rattle.htn_base.proofs.word_list.WordList.len.Goals as goal

pub returns-clause-length : goal.returns-clause-length
returns-clause-length c =
    let list = c.self.inside in
    let long = length-parts 0 list.ends.items list.bytes.items ∙ ap (λ xs. length xs) c.self.view_is in
    omega (arith, c.len.ensures, long)
