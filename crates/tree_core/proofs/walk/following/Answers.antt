use Rattle.std.proofs.Common.{suc, sym, ◌∙◌}
use Rattle.tree_core.specs.Labels.{growths_of}
use Rattle.tree_core.proofs.Walking.{first_follows, ends_here}
use Rattle.tree_core.proofs.walk.following.Goals as goal

pub returns-in-Some-clause-next : goal.returns-in-Some-clause-next
returns-in-Some-clause-next c tree order s k placed = first_follows (growths_of c.args.steps.now) c.args.children.now c.requires.children tree order s c.args.place k c.in-Some.first (sym c.at.ensures.found ∙ c.in-Some.is) placed

pub returns-in-None-clause-next : goal.returns-in-None-clause-next
returns-in-None-clause-next c tree order s k placed =
    c.after_subtree.ensures.next tree order s (suc k) (ends_here (growths_of c.args.steps.now) c.args.children.now c.requires.children tree order s c.args.place k (sym c.at.ensures.found ∙ c.in-None.is) placed)
