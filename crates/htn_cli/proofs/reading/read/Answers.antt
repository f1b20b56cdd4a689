use Rattle.std.proofs.Common.{◌<◌, ◌≤◌, length, refl, arith}
use Rattle.htn_base.specs.Limits.{longest_input}
use Rattle.htn_cli.proofs.InputsRead.{input_of, large_of}
use Rattle.htn_cli.proofs.reading.read.Goals as goal

pub returns-then-len-gt-LONGEST_INPUT-clause-refused : goal.returns-then-len-gt-LONGEST_INPUT-clause-refused
returns-then-len-gt-LONGEST_INPUT-clause-refused g c =
    let past : longest_input < length c.in-Ok.bytes.items = omega (arith, c.len.ensures, c.if-len-gt-LONGEST_INPUT.true) in
    let large = large_of c.args.name.now (g.F.Files.state c.args.files.now) (g.F.Files.state c.get.new.self) c.in-Ok.bytes.items c.in-Ok.ensures.ok past in
    (refl, large.0, large.1)

pub returns-else-len-gt-LONGEST_INPUT-clause-read : goal.returns-else-len-gt-LONGEST_INPUT-clause-read
returns-else-len-gt-LONGEST_INPUT-clause-read g c =
    let short : length c.in-Ok.bytes.items ≤ longest_input = omega (arith, c.len.ensures, c.if-len-gt-LONGEST_INPUT.false) in
    input_of c.args.name.now (g.F.Files.state c.args.files.now) (g.F.Files.state c.get.new.self) c.in-Ok.bytes.items c.in-Ok.ensures.ok short
