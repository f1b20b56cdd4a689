use Rattle.std.proofs.Common.{map, arith, length-drop}
use Rattle.hplan_text.specs.Scanning.{as_said}
use Rattle.hplan_text.proofs.Scanned.{words-next, last-word}
use Rattle.hplan_text.proofs.lines.words_of.Goals as goal

pub loop-i-preserved : goal.loop-i-preserved
loop-i-preserved c =
    words-next c.args.at c.loop-i.i c.word_end-end.result c.args.line.now (map as_said c.loop-i.words.items) (map as_said c.keep.new.words.items) c.loop-i.invariant c.word_end-end.ensures.gap c.in_ok-keep.ensures.kept

pub returns : goal.returns
returns c =
    let l = length-drop c.loop-i.i c.args.line.now in
    let t = c.loop-i-test.false in
    record { words = last-word c.args.at c.loop-i.i c.args.line.now (map as_said c.loop-i.words.items) c.loop-i.invariant (omega (arith, l, t)) }
