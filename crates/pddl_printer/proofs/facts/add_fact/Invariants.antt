use Rattle.std.proofs.Common.{take, []}
use Rattle.plan_texts.specs.SpellsPddl.{pddl_words}
use Rattle.plan_texts.specs.Printed.{term_part}
use Rattle.plan_model.specs.declared.terms.Term.TheVariants.{Obj}
use Rattle.pddl_printer.specs.Behind.{behind, of_each}
use Rattle.pddl_printer.specs.Batches.{Added}
use Rattle.pddl_printer.proofs.facts.add_fact.Given as goal

abbrev pub invariant-loop-j : goal.invariant-loop-j
invariant-loop-j l =
    Added (of_each (λ o. behind (term_part (pddl_words l.p) [] (Obj o))) (take l.j l.objects)) l.initial.batch l.batch l.initial.sheet l.sheet
