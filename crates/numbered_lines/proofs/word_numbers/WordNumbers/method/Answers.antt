use Rattle.std.proofs.Common.{None, Some, ◌+◌, sym, subst, arith}
use Rattle.problem_index.specs.Printed.{other_names}
use Rattle.numbered_lines.specs.Numbered.{IsTheMethod}
use Rattle.numbered_lines.proofs.Worded.{found_by, no_method, method_behind, method_within}
use Rattle.numbered_lines.proofs.word_numbers.WordNumbers.method.Goals as goal

pub returns-in_err-place : goal.returns-in_err-place
returns-in_err-place c =
    let self = c.args.self.now in
    let p = c.args.c.now in
    let found = found_by self.words p.hddl.names self.methods.by_name.items c.as_slice.result.now c.args.word.now None (other_names p)
    c.requires.numbers.words c.as_slice.ensures.bytes c.in_err-place.ensures c.requires.numbers.methods in
    record {
      method = subst (IsTheMethod p c.args.word.now) (sym c.from_residual.ensures)
          (no_method p c.args.word.now c.requires.printable.some found);
    }

pub overflow_add-result : goal.overflow_add-result
overflow_add-result c =
    let k = c.in_ok-place.place in
    let self = c.args.self.now in
    let p = c.args.c.now in
    let found = found_by self.words p.hddl.names self.methods.by_name.items c.as_slice.result.now c.args.word.now (Some k) (other_names p)
    c.requires.numbers.words c.as_slice.ensures.bytes c.in_ok-place.ensures c.requires.numbers.methods in
    let within = method_within p c.args.word.now k c.requires.soundly found in
    omega arith

pub returns : goal.returns
returns c =
    let k = c.in_ok-place.place in
    let self = c.args.self.now in
    let p = c.args.c.now in
    let found = found_by self.words p.hddl.names self.methods.by_name.items c.as_slice.result.now c.args.word.now (Some k) (other_names p)
    c.requires.numbers.words c.as_slice.ensures.bytes c.in_ok-place.ensures c.requires.numbers.methods in
    record { method = method_behind p c.args.word.now k (k + 1) (omega arith) found }
