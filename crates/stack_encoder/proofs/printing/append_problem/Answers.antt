use Rattle.std.proofs.Common.{refl, arith, rules}
use Rattle.text_forms.proofs.sheets.Written.{wrote-as}
use Rattle.stack_encoder.proofs.Ended.{is-appended}
use Rattle.stack_encoder.proofs.printing.append_problem.Goals as goal

pub returns : goal.returns
returns c =
    let put = wrote-as refl c.put_problem.ensures.put in
    let one = c.new-sheet.ensures.same_text in
    let other = put.same_text in
    is-appended c.new-sheet.ensures.fresh put _ (search rules) c.answer.result (λ n e. (let counted = rw e at c.answer.type_inv in omega (arith, counted))) c.answer.ensures.ended
