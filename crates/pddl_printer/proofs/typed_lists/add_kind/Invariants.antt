use Rattle.std.proofs.Common.{take}
use Rattle.plan_texts.specs.SpellsPddl.{pddl_types}
use Rattle.text_forms.specs.Lists.{name}
use Rattle.text_forms.specs.Words.{word_at}
use Rattle.pddl_printer.specs.Behind.{behind, of_each}
use Rattle.pddl_printer.specs.Batches.{Added}
use Rattle.pddl_printer.proofs.typed_lists.add_kind.Given as goal

abbrev pub invariant-loop-ty : goal.invariant-loop-ty
invariant-loop-ty l = Added (of_each (λ t. behind (name (word_at (pddl_types l.p) t))) (take l.ty-index l.types)) l.initial.batch l.batch l.initial.sheet l.sheet
