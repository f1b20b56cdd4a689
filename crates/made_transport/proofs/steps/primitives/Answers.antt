use Rattle.std.proofs.Common.{◌++◌, ◌∙◌, ap, sym}
use Rattle.made_transport.specs.Made.{primitives_for}
use Rattle.made_transport.proofs.Packages.{flat-more}
use Rattle.made_transport.proofs.steps.primitives.Goals as goal

pub loop-j-preserved : goal.loop-j-preserved
loop-j-preserved c =
    c.in_ok-put_primitives.ensures.put ∙ ap (λ xs. xs ++ primitives_for c.loop-j.j) c.loop-j.invariant
    ∙ sym (flat-more primitives_for c.loop-j.j)
