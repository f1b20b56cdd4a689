use Rattle.std.proofs.Common.{arith, ◌∙◌}
use Rattle.slot_encoding.proofs.slot_declarations.SourceWords.{renamed-source, renamed-other}
use Rattle.slot_encoding.proofs.slot_declarations.words.renamed.Goals as goal

pub returns-then-name-len : goal.returns-then-name-len
returns-then-name-len c =
    let f = c.args.frame.now in
    renamed-source f.compiled.now.hddl.names f.printed.now c.requires.source c.args.name (omega (arith, c.if-name-len.true, c.len.ensures.length))

pub returns-else-name-len : goal.returns-else-name-len
returns-else-name-len c =
    let f = c.args.frame.now in
    c.named.ensures ∙ renamed-other f.compiled.now.hddl.names f.printed.now c.args.name (omega (arith, c.if-name-len.false, c.len.ensures.length))
