use Rattle.std.proofs.Common.{◌≡◌, [], length, replicate}
use Rattle.problem_index.specs.Kinds.{AreFirstByType}
use Rattle.problem_index.proofs.by_type.by_type.Given as goal

abbrev pub invariant-loop : goal.invariant-loop
invariant-loop l = l.lists.items ≡ replicate l.counter []

abbrev pub invariant-loop-place : goal.invariant-loop-place
invariant-loop-place l = (length l.lists.items ≡ l.types) × AreFirstByType l.place l.objects l.lists.items
