use Rattle.std.proofs.Common.{◌≡◌, map, arith}
use Rattle.std.proofs.lemmas.Grind.{common_steps}
use Rattle.name_binding.specs.Listed.{name_of}
use Rattle.name_binding.proofs.listed.types_of.Goals as goal

pub loop-number-preserved : goal.loop-number-preserved
loop-number-preserved c = grind (arith, common_steps)

pub returns : goal.returns
returns c =
    let names : c.loop-number.names ≡ map name_of c.args.table.now.types = grind (arith, common_steps) in
    record { types = cc (names, c.in_ok-parents.ensures.pairs, c.in_ok-unions.ensures.unions) }
