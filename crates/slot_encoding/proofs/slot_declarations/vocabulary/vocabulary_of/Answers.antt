use Rattle.slot_encoding.proofs.slot_declarations.AllWords.{has-encoded_words}
use Rattle.slot_encoding.proofs.slot_declarations.SourceWords.{source-kept}
use Rattle.slot_encoding.proofs.slot_declarations.vocabulary.vocabulary_of.Goals as goal

pub returns-clause-words : goal.returns-clause-words
returns-clause-words c =
    let g = c.in_ok-put_generated.ensures in
    has-encoded_words c.args.c.now c.args.slots c.put_generated.new.names (source-kept c.args.c.now.hddl.names g c.in_ok-names.ensures).words g.gained

pub returns-clause-source : goal.returns-clause-source
returns-clause-source c = source-kept c.args.c.now.hddl.names c.in_ok-put_generated.ensures c.in_ok-names.ensures
