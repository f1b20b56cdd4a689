use Rattle.std.proofs.Common.{◌≡◌, drop, take}
use Rattle.gd_reader.specs.RawRows.{terms_coded}
use Rattle.gd_reader.proofs.raw_facts.RawFacts.read.Given as goal

abbrev pub invariant-loop-j : goal.invariant-loop-j
invariant-loop-j l = l.args.items ≡ take l.j (terms_coded l.row-inside.head (drop 1 l.row-inside.rest))
