use Rattle.std.proofs.Common.{◌∙◌, refl}
use Rattle.hplan_text.proofs.Marked.{mark-at}
use Rattle.hplan_text.proofs.ids.take.Goals as goal

pub returns-then-marks-place : goal.returns-then-marks-place
returns-then-marks-place c =
    let p = c.in-Some.ensures in
    record { taken = (mark-at c.args.ids.now c.args.marks.now c.args.id c.in-Some.place c.requires.rises c.requires.sized p.0 p.1 ∙ c.if-marks-place.true, refl) }

pub returns-else-marks-place : goal.returns-else-marks-place
returns-else-marks-place c =
    let p = c.in-Some.ensures in
    record { taken = (p.0, p.1, mark-at c.args.ids.now c.args.marks.now c.args.id c.in-Some.place c.requires.rises c.requires.sized p.0 p.1 ∙ c.if-marks-place.false, refl) }
