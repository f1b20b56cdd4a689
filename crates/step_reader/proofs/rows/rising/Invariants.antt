use Rattle.std.proofs.Common.{◌≡◌, take}
use Rattle.plan_model.specs.task_networks.Spelling.{numbers}
use Rattle.step_reader.proofs.rows.rising.Given as goal

-- the cells so far lie one above the other
abbrev pub invariant-loop-k : goal.invariant-loop-k
invariant-loop-k l = take l.k l.cells ≡ numbers l.own l.k
