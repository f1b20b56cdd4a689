use Rattle.std.proofs.Common.{Some, ap, sym, ◌∙◌}
use Rattle.htn_base.specs.Escapes.{slot_word}
use Rattle.slot_encoding.proofs.slot_declarations.TableNumbers.{name-at}
use Rattle.slot_encoding.proofs.slot_declarations.objects.is_name_of_slot.Goals as goal

pub returns-in-Some : goal.returns-in-Some
returns-in-Some c e =
    name-at c.args.printed.now c.args.name (slot_word c.args.k) c.text.ensures.sound.differ
    (sym c.in-Some.ensures.word ∙ ap Some (c.is_word_of_slot.ensures e))
