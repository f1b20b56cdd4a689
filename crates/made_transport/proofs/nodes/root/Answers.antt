use Rattle.std.proofs.Common.{[], ◌∷◌, ◌++◌, ◌∙◌, ap₂, sym}
use Rattle.made_transport.specs.Made.{deliver_id}
use Rattle.made_transport.proofs.Packages.{map-more}
use Rattle.made_transport.proofs.nodes.root.Goals as goal

pub loop-j-preserved : goal.loop-j-preserved
loop-j-preserved c =
    c.in_ok-push.ensures.pushed ∙ ap₂ (λ xs x. xs ++ x ∷ []) c.loop-j.invariant c.deliver_id.ensures
    ∙ sym (map-more (deliver_id c.args.n) c.loop-j.j)
