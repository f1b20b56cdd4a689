use Rattle.std.proofs.Common.{length, ap, arith}
use Rattle.slot_encoding.proofs.slot_declarations.CheckedMethods.{checks-count}
use Rattle.stack_encoder.proofs.ActionPlaces.{actions-length}
use Rattle.stack_encoder.proofs.encoding.StackEncoding.count.Goals as goal

pub overflow_add-result : goal.overflow_add-result
overflow_add-result c =
    omega (arith, c.len.ensures.length, c.len-2.ensures.length, checks-count c.args.c.now.methods c.args.self.now.basis.checks c.requires.encoding.basis.checks, c.requires.encoding.basis.numbers.few)

pub overflow_add-result-2 : goal.overflow_add-result-2
overflow_add-result-2 c =
    omega (arith, c.len.ensures.length, c.len-2.ensures.length, c.len-3.ensures.length, checks-count c.args.c.now.methods c.args.self.now.basis.checks c.requires.encoding.basis.checks, c.requires.encoding.basis.numbers.few)

pub overflow_cast-result : goal.overflow_cast-result
overflow_cast-result c =
    omega (arith, c.len.ensures.length, c.len-2.ensures.length, c.len-3.ensures.length, checks-count c.args.c.now.methods c.args.self.now.basis.checks c.requires.encoding.basis.checks, c.requires.encoding.basis.numbers.few)

pub returns : goal.returns
returns c =
    let e = c.args.self.now in
    record {
      count = omega (arith, c.len.ensures.length, c.len-2.ensures.length, c.len-3.ensures.length, ap length c.requires.encoding.basis.checks.methods, actions-length c.args.c.now e.names e.cells);
    }
