use Rattle.std.proofs.Common.{take}
use Rattle.plan_texts.specs.SpellsPddl.{pddl_words}
use Rattle.pddl_printer.specs.WrittenOut.{condition_parts}
use Rattle.pddl_printer.specs.Literals.{conditions_behind}
use Rattle.pddl_printer.specs.Scopes.{words_in_force}
use Rattle.text_forms.specs.sheets.Sheets.{Wrote}
use Rattle.pddl_printer.specs.Behind.{of_each}
use Rattle.pddl_printer.proofs.written_conditions.put_condition_parts.Given as goal

abbrev pub invariant-loop-part : goal.invariant-loop-part
invariant-loop-part l = Wrote (of_each (λ f. conditions_behind (pddl_words l.p) (words_in_force l.p l.scope) (condition_parts l.of.written.range l.of.depth f)) (take l.part-index l.parts)) l.fn.sheet l.sheet
