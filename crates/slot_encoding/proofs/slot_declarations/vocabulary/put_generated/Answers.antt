use Rattle.std.proofs.Common.{ℕ, List, Bor, ◌++◌, [], map, ap}
use Rattle.htn_base.specs.Escapes.{slot_word}
use Rattle.htn_base.specs.Words.{folded}
use Rattle.plan_model.specs.task_networks.Spelling.{numbers}
use Rattle.plan_model.specs.declared.schemas.MethodPlan.{MethodPlan}
use Rattle.text_forms.specs.Words.{Word}
use Rattle.slot_encoding.specs.EncodedNames.{joined, guard_types, guard_word}
use Rattle.slot_encoding.specs.slot_declarations.Vocabulary.{Gains, single_words, task_word, action_word, words_of_method, numbered_words}
use Rattle.slot_encoding.proofs.slot_declarations.Gained.{gains-none, gains-of, gains-join, gains-next_word, gains-all_words, ok-join}
use Rattle.slot_encoding.proofs.slot_declarations.vocabulary.put_generated.Goals as goal

abbrev put_as : Bor (List ℕ) → Word
put_as word = folded word.now

pub loop-word-init : goal.loop-word-init
loop-word-init c = gains-none c.args.names.now

pub loop-word-preserved : goal.loop-word-preserved
loop-word-preserved c = gains-next_word put_as _ c.loop-word.word-index _ c.loop-word-test.true c.loop-word.invariant c.in_ok-put.ensures

pub returns : goal.returns
returns c =
    let s = c.args.c.now in
    let own = s.hddl.names in
    let single : Gains single_words c.args.names.now c.loop-word.names = gains-all_words put_as _ c.loop-word.word-index c.loop-word-test.false c.loop-word.invariant in
    let tasks = gains-of (ap (map (task_word own)) c.as_slice.ensures.items) c.in_ok-put_tasks.ensures in
    let actions = gains-of (ap (map (action_word own)) c.as_slice-2.ensures.items) c.in_ok-put_actions.ensures in
    let methods = gains-of (ap (λ (xs : List MethodPlan). joined (map (words_of_method own) xs)) c.as_slice-3.ensures.items) c.in_ok-put_methods.ensures in
    let front = single_words ++ map slot_word (numbers 1 c.args.slots) ++ map (task_word own) s.hddl.tasks ++ map (action_word own) s.hddl.actions ++ joined (map (words_of_method own) s.methods)
    ++ map (guard_word s [] 0) (guard_types s) in
    let g = gains-join (gains-join (gains-join (gains-join (gains-join single c.in_ok-put_numbered.ensures) tasks) actions) methods) c.in_ok-put_guards.ensures in
    ok-join c.put_numbers.result front (numbered_words s) c.args.names.now c.put_guards.new.names c.put_numbers.new.names g c.put_numbers.ensures
