use Rattle.std.proofs.Common.{subst}
use Rattle.hplan_text.specs.LeastOf.{IsLeastOf}
use Rattle.hplan_text.proofs.LeastFound.{least-left, least-right}
use Rattle.hplan_text.proofs.least.least.Goals as goal

pub returns-then-is_before : goal.returns-then-is_before
returns-then-is_before c = λ fs gs h k. least-left fs gs c.in-Some.x c.in-Some-b.y (subst (λ o. IsLeastOf o fs) c.in-Some.is h) (subst (λ o. IsLeastOf o gs) c.in-Some-b.is k) (rw c.if-is_before.true at c.is_before.ensures)

pub returns-else-is_before : goal.returns-else-is_before
returns-else-is_before c = λ fs gs h k. least-right fs gs c.in-Some.x c.in-Some-b.y (subst (λ o. IsLeastOf o fs) c.in-Some.is h) (subst (λ o. IsLeastOf o gs) c.in-Some-b.is k) (rw c.if-is_before.false at c.is_before.ensures)
