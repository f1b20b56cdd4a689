use Rattle.std.proofs.Common.{sym, ◌∙◌, arith}
use Rattle.std.proofs.lemmas.Grind.{common_steps}
use Rattle.plan_text.proofs.Scanned.{comes-word}
use Rattle.plan_text.proofs.tokens.token_at.Goals as goal

pub returns-in_default : goal.returns-in_default
returns-in_default c = record {
  token = comes-word c.args.text.now c.args.from c.loop-at.at c.word_end-end.result c.requires.folded c.loop-at.invariant.goes c.loop-at.invariant.later c.loop-at-test.true (sym c.is_letter.ensures ∙ c.if-is_letter.true)
      c.word_end-end.ensures.later c.word_end-end.ensures.within c.word_end-end.ensures.word c.word_end-end.ensures.clean;
}

pub loop-at-preserved-in-59-1 : goal.loop-at-preserved-in-59-1
loop-at-preserved-in-59-1 c = grind (arith, common_steps)

pub returns-in-40 : goal.returns-in-40
returns-in-40 c = grind (arith, common_steps)

pub returns-in-41 : goal.returns-in-41
returns-in-41 c = grind (arith, common_steps)

pub returns-in_default-2 : goal.returns-in_default-2
returns-in_default-2 c = grind (arith, common_steps)

pub loop-at-preserved : goal.loop-at-preserved
loop-at-preserved c = grind (arith, common_steps)

pub returns : goal.returns
returns c = grind (arith, common_steps)
