use Rattle.std.proofs.Common.{ℕ, ◌<◌, ◌+◌, sym, subst, arith}
use Rattle.tree_core.specs.Labels.{growths_of}
use Rattle.tree_core.specs.Growing.{IsLeast}
use Rattle.tree_core.proofs.DefectLaws.{least_of_both}
use Rattle.tree_core.proofs.defects.first_defect.Goals as goal

pub loop-place-preserved : goal.loop-place-preserved
loop-place-preserved c = subst (IsLeast (growths_of c.args.steps.now) (λ k. k < c.loop-place.place + 1)) (sym c.earlier-least.ensures)
    (least_of_both (growths_of c.args.steps.now) c.loop-place.place c.loop-place.least c.defect_at.result c.loop-place.invariant c.defect_at.ensures)

pub returns : goal.returns
returns c = subst (λ (n : ℕ). IsLeast (growths_of c.args.steps.now) (λ k. k < n) c.loop-place.least) (let e = c.loop-place-test.false in let b = c.loop-place.auto.place-end in omega arith) c.loop-place.invariant
