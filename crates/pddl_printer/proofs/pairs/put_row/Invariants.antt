use Rattle.std.proofs.Common.{ℕ, ◌≡◌, ◌+◌, ◌++◌, List, codes, map}
use Rattle.plan_model.specs.task_networks.Spelling.{numbers}
use Rattle.plan_texts.specs.Declared.{variable}
use Rattle.plan_texts.specs.SpellsPddl.{pddl_words}
use Rattle.pddl_printer.specs.Behind.{behind, of_each}
use Rattle.pddl_printer.specs.Batches.{Added}
use Rattle.pddl_printer.proofs.PairBytes.{pair}
use Rattle.pddl_printer.proofs.pairs.put_row.Given as goal

-- the pairs so far, the last without its end
abbrev pub invariant-loop-k : goal.invariant-loop-k
invariant-loop-k l =
    (text : List ℕ) × (text ++ codes "))" ≡ of_each (λ u. behind (pair (pddl_words l.p) (map (variable (pddl_words l.p)) l.params) l.variable u)) (numbers (l.variable + 1) l.k)) × Added text l.initial.batch l.batch l.fn.sheet l.sheet
