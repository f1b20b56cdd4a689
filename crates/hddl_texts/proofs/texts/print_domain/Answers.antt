use Rattle.std.proofs.Common.{arith, rules}
use Rattle.hddl_texts.proofs.Within.{is-within}
use Rattle.hddl_texts.proofs.texts.print_domain.Goals as goal

pub returns : goal.returns
returns c =
    let one = c.new-sheet.ensures.same_text in
    let other = c.put_hddl_domain.ensures.put.same_text in
    is-within c.new-sheet.ensures.fresh c.put_hddl_domain.ensures.put c.requires.empty _ (search rules) c.answer.result (λ n e. (let counted = rw e at c.answer.type_inv in omega (arith, counted))) c.answer.ensures.ended
