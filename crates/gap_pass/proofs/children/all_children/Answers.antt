use Rattle.std.proofs.Common.{ap, length, arith}
use Rattle.gap_pass.proofs.Listing.{one_more}
use Rattle.gap_pass.proofs.children.all_children.Goals as goal

pub loop-node-init : goal.loop-node-init
loop-node-init c = record { many = ap length c.new-all.ensures.empty; each = λ k l. absurd (omega arith) }

pub loop-node-preserved : goal.loop-node-preserved
loop-node-preserved c = one_more c.args.tree.now c.loop-node.all c.put.new.self c.loop-node.node c.children_of.result
    c.loop-node.invariant c.children_of.ensures c.in_ok-put.ensures.put

pub returns : goal.returns
returns c = λ k l. c.loop-node.invariant.each k (let e = c.size-node-end.ensures.size in let t = c.loop-node-test.false in omega arith)
