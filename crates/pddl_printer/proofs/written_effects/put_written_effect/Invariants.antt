use Rattle.std.proofs.Common.{take}
use Rattle.plan_texts.specs.SpellsPddl.{pddl_words}
use Rattle.pddl_printer.specs.WrittenOut.{effect_parts}
use Rattle.pddl_printer.specs.Literals.{effects_behind}
use Rattle.pddl_printer.specs.Scopes.{words_in_force}
use Rattle.text_forms.specs.sheets.Sheets.{Wrote}
use Rattle.pddl_printer.specs.Behind.{of_each}
use Rattle.pddl_printer.proofs.written_effects.put_written_effect.Given as goal

abbrev pub invariant-loop-part : goal.invariant-loop-part
invariant-loop-part l = Wrote (of_each (λ e. effects_behind (pddl_words l.p) (words_in_force l.p l.scope) (effect_parts l.of.written.range l.of.depth e)) (take l.part-index l.parts)) l.initial.sheet l.sheet
