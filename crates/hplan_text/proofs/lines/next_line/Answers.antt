use Rattle.std.proofs.Common.{◌∙◌, ◌+◌, sym, ap, drop}
use Rattle.std.specs.List.{cons_option}
use Rattle.hplan_text.specs.Lines.{words_from, lines_from, some_line}
use Rattle.hplan_text.proofs.Scanned.{line-next}
use Rattle.hplan_text.proofs.lines.next_line.Goals as goal

pub returns-clause-lines : goal.returns-clause-lines
returns-clause-lines c =
    let end = c.line_end-end.result in
    let text = c.args.text.now in
    let words = c.in_ok-words_of.ensures.words ∙ ap (words_from c.args.at) c.without_return.ensures.line in
    line-next c.args.at end text c.line_end-end.ensures.gap ∙ ap (λ z. cons_option (some_line z) (lines_from (end + 1) (drop (end + 1) text))) (sym words)
