use Rattle.std.proofs.Common.{sym, ap, ◌∙◌}
use Rattle.text_forms.specs.Placed.{parts_at}
use Rattle.gd_reader.specs.Answers.{passed}
use Rattle.gd_reader.proofs.Passing.{passed_list}
use Rattle.gd_reader.proofs.cursor.pass.Goals as goal

pub loop-i-preserved : goal.loop-i-preserved
loop-i-preserved c =
    let s = c.in-List.ensures.shows in
    sym (ap passed s.parts ∙ passed_list c.in-List.field-0 (parts_at c.args.s.now c.in-List.field-1) (parts_at c.args.s.now c.in-List.behind) s.whole) ∙ c.loop-i.invariant
