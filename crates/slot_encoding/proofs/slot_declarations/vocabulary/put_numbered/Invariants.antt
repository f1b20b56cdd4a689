use Rattle.std.proofs.Common.{◌++◌, map, decimal}
use Rattle.plan_model.specs.task_networks.Spelling.{numbers}
use Rattle.slot_encoding.specs.slot_declarations.Vocabulary.{Gains}
use Rattle.slot_encoding.proofs.slot_declarations.vocabulary.put_numbered.Given as goal

abbrev pub invariant-loop-k : goal.invariant-loop-k
invariant-loop-k l = Gains (map (λ j. l.prefix ++ decimal j) (numbers 1 l.k)) l.initial.names l.names
