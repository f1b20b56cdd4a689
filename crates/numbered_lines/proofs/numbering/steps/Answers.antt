use Rattle.std.proofs.Common.{List, Option, length, refl, sym, subst}
use Rattle.std.proofs.lemmas.Option.{slice_get_read}
use Rattle.std.proofs.lemmas.Result.{IfOk-weaker}
use Rattle.hplan_text.specs.Printable.{IsPrintableLine}
use Rattle.hplan_text.specs.declared.values.HLine.{HLine}
use Rattle.plan_model.specs.declared.values.Compiled.{Compiled}
use Rattle.plan_model.specs.plan_meaning.Network.{action}
use Rattle.plan_encoder.proofs.CallsApart.{each_at}
use Rattle.plan_texts.specs.Types.{EachIs}
use Rattle.plan_texts.specs.Together.{Together}
use Rattle.numbered_lines.specs.Numbered.{AreSaid}
use Rattle.numbered_lines.specs.WordNumbers.{AreNumbersOf}
use Rattle.numbered_lines.specs.declared.lines.Said.{Said}
use Rattle.numbered_lines.proofs.Listed.{made_put, made_all}
use Rattle.numbered_lines.proofs.numbering.steps.Goals as goal

pub action-requires : goal.action-requires
action-requires c =
    let lines = c.as_slice-line-items.result.now in
    let i = c.loop-line.line-index in
    let line = c.line-item.result in
    record {
      printable = each_at IsPrintableLine lines i line
          (subst (EachIs IsPrintableLine) (sym c.as_slice-line-items.ensures.items) c.requires.printable)
          (slice_get_read lines (length lines) i line refl c.loop-line-test.true c.line-item.is);
    }

pub loop-line-preserved : goal.loop-line-preserved
loop-line-preserved c = λ p are.
    let lines = c.as_slice-line-items.result.now in
    let i = c.loop-line.line-index in
    let line = c.line-item.result in
    made_put (AreSaid p action) lines i line c.loop-line.steps c.put.new.self c.action.result
    (slice_get_read lines (length lines) i line refl c.loop-line-test.true c.line-item.is) c.in_ok-put.ensures.put
    (IfOk-weaker c.action.result (λ (found : Option Said). (q : Compiled) → AreNumbersOf q c.args.numbers.now → AreSaid q action line found)
    (AreSaid p action line) (λ found h. h p are) c.action.ensures.action)
    (c.loop-line.invariant p are)

pub returns : goal.returns
returns c = record {
  steps = λ p are.
      let lines = c.as_slice-line-items.result.now in
      subst (λ (z : List HLine). Together (AreSaid p action) z c.loop-line.steps) c.as_slice-line-items.ensures.items
      (made_all (AreSaid p action) lines c.loop-line.line-index c.loop-line.steps c.loop-line-test.false (c.loop-line.invariant p are));
}
