use Rattle.std.proofs.Common.{arith, rules}
use Rattle.text_forms.proofs.sheets.Written.{wrote-as, wrote-then}
use Rattle.pddl_printer.specs.Measured.{range_of}
use Rattle.problem_texts.proofs.Ended.{is-appended}
use Rattle.problem_texts.proofs.LowerParts.{domain-by}
use Rattle.problem_texts.proofs.pages.Pages.append_domain.Goals as goal

pub returns : goal.returns
returns c =
    let pages = c.args.self.now in
    let e = pages.encoding.now in
    let put = wrote-as (domain-by (range_of pages.written) pages.compiled.now e e.rule) (wrote-then c.put_domain_start.ensures.put (wrote-then c.in_ok-put_actions.ensures c.put.ensures.wrote)) in
    let one = c.new-sheet.ensures.same_text in
    let other = put.same_text in
    is-appended c.new-sheet.ensures.fresh put _ (search rules) c.answer.result (λ n e. (let counted = rw e at c.answer.type_inv in omega (arith, counted))) c.answer.ensures.ended
