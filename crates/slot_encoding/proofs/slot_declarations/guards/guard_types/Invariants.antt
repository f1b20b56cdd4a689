use Rattle.std.proofs.Common.{◌≡◌, [], drop}
use Rattle.slot_encoding.specs.slot_declarations.Guards.{with_types, with_all_types}
use Rattle.slot_encoding.proofs.slot_declarations.guards.guard_types.Given as goal

abbrev pub invariant-loop-plan : goal.invariant-loop-plan
invariant-loop-plan l = with_all_types l.types (drop l.plan-index l.methods) ≡ with_all_types [] l.methods

abbrev pub invariant-loop-guard : goal.invariant-loop-guard
invariant-loop-guard l = with_types l.types (drop l.guard-index l.guards) ≡ with_types l.initial.types l.guards
