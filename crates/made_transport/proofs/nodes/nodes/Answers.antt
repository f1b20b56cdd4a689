use Rattle.std.proofs.Common.{◌++◌, ◌∙◌, ap, sym}
use Rattle.made_transport.specs.Made.{nodes_for}
use Rattle.made_transport.proofs.Packages.{flat-more}
use Rattle.made_transport.proofs.nodes.nodes.Goals as goal

pub loop-j-preserved : goal.loop-j-preserved
loop-j-preserved c =
    c.in_ok-put_nodes.ensures.put ∙ ap (λ xs. xs ++ nodes_for c.args.n c.loop-j.j) c.loop-j.invariant
    ∙ sym (flat-more (nodes_for c.args.n) c.loop-j.j)
