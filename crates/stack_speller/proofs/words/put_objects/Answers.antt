use Rattle.plan_model.specs.plan_meaning.SpelledPlan.{object_word}
use Rattle.text_forms.proofs.sheets.Written.{wrote-as}
use Rattle.slot_speller.proofs.PutWords.{word-next}
use Rattle.stack_speller.proofs.words.put_objects.Goals as goal

pub loop-number-preserved : goal.loop-number-preserved
loop-number-preserved c =
    word-next (object_word c.args.c.now) c.args.objects.now c.loop-number.number-index 0 c.loop-number-test.true c.loop-number.invariant
    c.put.ensures.wrote (wrote-as c.object.ensures c.put-in-loop-number.ensures.wrote)
