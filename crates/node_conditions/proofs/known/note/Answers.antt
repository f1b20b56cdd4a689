use Rattle.std.proofs.Common.{◌++◌, take}
use Rattle.node_conditions.proofs.Noting.{known_term, all_terms}
use Rattle.node_conditions.proofs.known.note.Goals as goal

pub loop-term-preserved : goal.loop-term-preserved
loop-term-preserved c = λ done h. known_term c.args.values.now done c.args.terms.now c.note_one.new.known c.loop-term.term-index _
    c.loop-term-test.true
    (c.note_one.ensures (done ++ take c.loop-term.term-index c.args.terms.now) (c.loop-term.invariant done h))

pub returns : goal.returns
returns c = λ done h. all_terms c.args.values.now done c.args.terms.now c.loop-term.known c.loop-term.term-index c.loop-term-test.false
    (c.loop-term.invariant done h)
