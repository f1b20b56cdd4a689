use Rattle.htn_base.specs.Words.{folded}
use Rattle.slot_encoding.proofs.slot_declarations.Gained.{gains-word}
use Rattle.slot_encoding.proofs.slot_declarations.vocabulary.put.Goals as goal

pub returns : goal.returns
returns c = gains-word (folded c.args.word.now) c.args.names.now c.intern.new.self c.in_ok-intern.ensures.words c.in_ok-intern.ensures.sound.short
