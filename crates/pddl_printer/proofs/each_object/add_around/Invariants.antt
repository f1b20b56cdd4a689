use Rattle.std.proofs.Common.{ℕ, ◌≡◌, ◌++◌, List}
use Rattle.plan_model.specs.task_networks.Spelling.{numbers}
use Rattle.pddl_printer.specs.Batches.{Added}
use Rattle.pddl_printer.specs.Behind.{of_each}
use Rattle.pddl_printer.specs.InstanceTexts.{word_between}
use Rattle.pddl_printer.proofs.each_object.add_around.Given as goal

-- the words so far, the last without what is behind it
abbrev pub invariant-loop-k : goal.invariant-loop-k
invariant-loop-k l =
    (text : List ℕ) × (text ++ l.behind ≡ of_each (word_between l.p l.before l.behind) (numbers l.fn.range.first l.k)) × Added text l.fn.batch l.batch l.fn.sheet l.sheet
