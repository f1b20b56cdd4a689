use Rattle.std.proofs.Common.{sym}
use Rattle.hplan_text.proofs.Marked.{chosen-sub, mark-at}
use Rattle.hplan_text.proofs.ids.is_marked.Goals as goal

pub returns-in-None : goal.returns-in-None
returns-in-None c = sym (chosen-sub c.args.id c.args.ids.now c.args.marks.now c.in-None.ensures)

pub returns-in-Some : goal.returns-in-Some
returns-in-Some c = let p = c.in-Some.ensures in sym (mark-at c.args.ids.now c.args.marks.now c.args.id c.in-Some.place c.requires.rises c.requires.sized p.0 p.1)
