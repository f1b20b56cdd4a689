use Rattle.std.proofs.Common.{take}
use Rattle.plan_texts.specs.SpellsPddl.{pddl_words}
use Rattle.plan_texts.specs.Printed.{effect_part}
use Rattle.pddl_printer.specs.Behind.{behind, of_each}
use Rattle.pddl_printer.specs.Scopes.{words_in_force}
use Rattle.pddl_printer.specs.Batches.{Added}
use Rattle.pddl_printer.proofs.effects.+effects.Given as goal

abbrev pub invariant-loop-part : goal.invariant-loop-part
invariant-loop-part l = Added (of_each (λ f. behind (effect_part (pddl_words l.p) f (words_in_force l.p l.scope))) (take l.part-index l.part-items)) l.initial.batch l.batch l.initial.sheet l.sheet
