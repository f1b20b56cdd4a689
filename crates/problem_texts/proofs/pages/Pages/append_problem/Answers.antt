use Rattle.std.proofs.Common.{ap, ◌∙◌, arith, rules}
use Rattle.text_forms.proofs.sheets.Written.{wrote-as}
use Rattle.pddl_printer.specs.Measured.{range_of}
use Rattle.problem_texts.specs.LowerParts.{facts_with}
use Rattle.problem_texts.proofs.Ended.{is-appended}
use Rattle.problem_texts.proofs.LowerParts.{problem-by}
use Rattle.problem_texts.proofs.pages.Pages.append_problem.Goals as goal

pub returns : goal.returns
returns c =
    let pages = c.args.self.now in
    let e = pages.encoding.now in
    let lower = c.lower_facts-lower.ensures ∙ ap (λ l. facts_with l e.slots) c.requires.pages.lower in
    let put = wrote-as (problem-by (range_of pages.written) pages.compiled.now e e.rule c.lower_facts-lower.result lower) c.put_problem.ensures.put in
    let one = c.new-sheet.ensures.same_text in
    let other = put.same_text in
    is-appended c.new-sheet.ensures.fresh put _ (search rules) c.answer.result (λ n e. (let counted = rw e at c.answer.type_inv in omega (arith, counted))) c.answer.ensures.ended
