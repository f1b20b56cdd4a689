use Rattle.std.proofs.Common.{subst, sym}
use Rattle.plan_model.specs.declared.options.Slots.{Slots}
use Rattle.slot_encoding.specs.FirstFree.{less_word, HasWordsBy}
use Rattle.slot_encoding.proofs.slot_declarations.Gained.{gains-word}
use Rattle.slot_encoding.proofs.slot_declarations.SourceWords.{source-kept}
use Rattle.slot_encoder.proofs.MoreWords.{first-words}
use Rattle.slot_encoder.proofs.lower_slots.words_of.Goals as goal

pub returns-in-Ok-clause-words : goal.returns-in-Ok-clause-words
returns-in-Ok-clause-words c =
    let old = c.in_ok-names.names in
    let new = c.intern.new.self in
    subst (λ (rule : Slots). HasWordsBy rule c.args.c.now c.args.slots new) (sym c.in-First.is)
    (first-words c.args.c.now c.args.slots old new (gains-word less_word old new c.in-Ok.ensures.words c.in-Ok.ensures.sound.short) c.in_ok-names.ensures.words)

pub returns-in-Ok-clause-source : goal.returns-in-Ok-clause-source
returns-in-Ok-clause-source c = source-kept c.args.c.now.hddl.names (gains-word less_word c.in_ok-names.names c.intern.new.self c.in-Ok.ensures.words c.in-Ok.ensures.sound.short) c.in_ok-names.ensures.source
