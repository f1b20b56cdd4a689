use Rattle.std.proofs.Common.{◌≡◌, ◌<◌, length, get_or, ap, rules, ◌∙◌}
use Rattle.text_forms.specs.Lists.{nothing, part}
use Rattle.pddl_printer.specs.Scopes.{words_in_force}
use Rattle.pddl_printer.specs.Texts.{applied_text}
use Rattle.pddl_printer.proofs.Batches.{added-as, added-then, added-one, added-headed}
use Rattle.hddl_texts.specs.PrintedHddl.{head_word, called_part, subtask_word}
use Rattle.hddl_texts.specs.Texts.{hddl_of}
use Rattle.hddl_texts.proofs.Pieces.{subtasks-more}
use Rattle.hddl_texts.proofs.networks.add_subtasks.Goals as goal

pub loop-place-preserved : goal.loop-place-preserved
loop-place-preserved c =
    let p = c.args.p.now in
    let h = hddl_of p in
    let scope = words_in_force p.pddl c.args.scope.now in
    let cs = c.args.children.now in
    let place = c.loop-place.place in
    let child = c.index-children-place.result in
    let below : place < length cs = search rules in
    let read : child ≡ get_or cs place child = search rules in
    let word = head_word h child.head in
    let text = applied_text p.pddl c.args.scope.now in
    let call = added-as (ap (λ w. text w c.as_slice.result.now) c.head_word-word.ensures ∙ ap (text word) c.as_slice.ensures.items) c.add_applied.ensures in
    let called = called_part h scope word child.args in
    added-as (subtasks-more h scope cs place child below read)
    (added-then c.loop-place.invariant (added-headed (subtask_word place) (part called nothing) c.add_place.ensures (added-one called call) c.add.ensures))
