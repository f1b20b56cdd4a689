use Rattle.std.proofs.Common.{◌≡◌, map, take}
use Rattle.plan_model.specs.task_networks.Spelling.{numbers}
use Rattle.slot_encoding.specs.slot_declarations.Pieces.{checked_from, checks_before}
use Rattle.slot_encoding.proofs.slot_declarations.basis.checks_of.Given as goal

abbrev pub invariant-loop-plan : goal.invariant-loop-plan
invariant-loop-plan l = record {
  methods : l.checks.methods ≡ checked_from 0 (take l.plan-index l.methods);
  before : l.checks.before ≡ map (checks_before l.methods) (numbers 0 l.plan-index);
}
