use Rattle.std.proofs.Common.{ℕ, List, Bor}
use Rattle.htn_base.specs.Words.{folded}
use Rattle.text_forms.specs.Words.{Word}
use Rattle.slot_encoding.specs.slot_declarations.Vocabulary.{Gains}
use Rattle.slot_encoding.proofs.slot_declarations.Gained.{gains-none, gains-word, gains-next_word, gains-all_words}
use Rattle.slot_encoding.proofs.slot_declarations.SourceWords.{source-kept}
use Rattle.stack_encoder.specs.Words.{more_words}
use Rattle.stack_encoder.proofs.MoreWords.{more-stack}
use Rattle.stack_encoder.proofs.words.words_of.Goals as goal

abbrev put_as : Bor (List ℕ) → Word
put_as word = folded word.now

pub loop-word-init : goal.loop-word-init
loop-word-init c = gains-none c.in_ok-names.names

pub loop-word-preserved : goal.loop-word-preserved
loop-word-preserved c = gains-next_word put_as _ c.loop-word.word-index _ c.loop-word-test.true c.loop-word.invariant (gains-word _ c.loop-word.names c.intern.new.self c.in_ok-intern.ensures.words c.in_ok-intern.ensures.sound.short)

pub returns : goal.returns
returns c =
    let more : Gains more_words c.in_ok-names.names c.loop-word.names = gains-all_words put_as _ c.loop-word.word-index c.loop-word-test.false c.loop-word.invariant in
    record {
      words = more-stack c.args.c.now c.args.cells c.in_ok-names.names c.loop-word.names more c.in_ok-names.ensures.words;
      source = source-kept c.args.c.now.hddl.names more c.in_ok-names.ensures.source;
    }
