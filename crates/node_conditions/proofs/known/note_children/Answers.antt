use Rattle.std.proofs.Common.{◌++◌, take}
use Rattle.node_conditions.specs.Taken.{said_by}
use Rattle.node_conditions.proofs.Noting.{known_child, all_children}
use Rattle.node_conditions.proofs.known.note_children.Goals as goal

pub loop-child-preserved : goal.loop-child-preserved
loop-child-preserved c = λ done h. known_child c.args.values.now done c.args.children.now c.note_child.new.known c.loop-child.child-index
    c.child-item.result c.loop-child-test.true c.child-item.is
    (c.note_child.ensures (done ++ said_by (take c.loop-child.child-index c.args.children.now)) (c.loop-child.invariant done h))

pub returns : goal.returns
returns c = λ done h. all_children c.args.values.now done c.args.children.now c.loop-child.known c.loop-child.child-index
    c.loop-child-test.false (c.loop-child.invariant done h)
