use Rattle.std.proofs.Common.{subst, arith, rules}
use Rattle.text_forms.specs.sheets.Sheets.{IsFresh}
use Rattle.hplan_text.specs.HPlanText.{hplan_text}
use Rattle.plan_text.proofs.PutTexts.{is_put}
use Rattle.tree_texts.proofs.text.printed.Goals as goal

pub returns : goal.returns
returns c =
    let fresh = subst (λ t. IsFresh t c.args.most c.new-sheet.result) c.requires.empty c.new-sheet.ensures.fresh in
    let one = c.new-sheet.ensures.same_text in
    let other = c.print.ensures.printed.same_text in
    record {
      ended = is_put (hplan_text c.args.shown.now) fresh c.print.ensures.printed _ (search rules) (let e = c.len.ensures.length in omega (arith, e)) c.answer-ended.result (λ n e. (let counted = rw e at c.answer-ended.type_inv in omega (arith, counted))) c.answer-ended.ensures.ended;
    }
