use Rattle.std.proofs.Common.{ap, ◌∙◌, arith}
use Rattle.text_forms.proofs.sheets.Written.{wrote-as}
use Rattle.pddl_printer.specs.Measured.{range_of}
use Rattle.pddl_printer.specs.Texts.{action_text}
use Rattle.slot_encoder.specs.Encodings.{whole_in}
use Rattle.problem_texts.specs.LowerParts.{lowest_with}
use Rattle.problem_texts.proofs.LowerParts.{split-by}
use Rattle.problem_texts.proofs.Putting.{actions-next}
use Rattle.problem_texts.proofs.pages.Pages.put_actions.Goals as goal

pub loop-k-preserved : goal.loop-k-preserved
loop-k-preserved c =
    let a = c.in_ok-action.action in
    let pages = c.args.self.now in
    let e = pages.encoding.now in
    let lowest = c.in_ok-lowest.ensures ∙ (λ i. lowest_with (c.requires.pages.lower i) (c.len.ensures.length i)) in
    let same = split-by pages.compiled.now e.names e.slots e.style a c.as_slice.result.now c.as_slice-in-loop-k.result.now c.as_slice-in-loop-k-2.result.now c.in_ok-lowest.lowest c.as_slice.ensures.items c.as_slice-in-loop-k.ensures.items c.as_slice-in-loop-k-2.ensures.items e.rule lowest in
    let put = wrote-as (ap (action_text e.head (range_of pages.written)) same) c.put_split.ensures.put in
    actions-next pages c.loop-k.k (let k = c.loop-k-test.true in let e = c.count-k-end.ensures.count in omega (arith, k, e)) c.loop-k.invariant (whole_in pages.compiled.now e a, c.in_ok-action.ensures.action, put)
