use Rattle.std.proofs.lemmas.Result.{err_from_is_err_and}
use Rattle.htn_cli.specs.Answer.{Text}
use Rattle.htn_cli.specs.declared.output.Written.{Written}
use Rattle.htn_cli.proofs.Results.{if_err_too}
use Rattle.htn_cli.proofs.Puts.{stops_first, stops_second}
use Rattle.htn_cli.proofs.delivery.put_both.Goals as goal

abbrev first_of : Written → Text
first_of written = record { name = written.od.now; bytes = written.texts.domain }

abbrev second_of : Written → Text
second_of written = record { name = written.op.now; bytes = written.texts.problem }

pub returns-in_err-put-clause-refused : goal.returns-in_err-put-clause-refused
returns-in_err-put-clause-refused g c =
    let p = err_from_is_err_and c.from_residual.result c.from_residual.ensures.1 in
    let w = c.args.written.now in
    rw (p.1, p.2) (stops_first (first_of w) (second_of w) (g.F.Files.state c.args.files.now) (g.F.Files.state c.put.new.files) _ c.in_err-put.ensures.refused)

pub returns-clause-refused : goal.returns-clause-refused
returns-clause-refused g c =
    let w = c.args.written.now in
    if_err_too c.put-2.result
    (stops_second (first_of w) (second_of w) (g.F.Files.state c.args.files.now) (g.F.Files.state c.put.new.files) (rw (c.as_slice.ensures.bytes) at c.in_ok-put.ensures.written) (g.F.Files.state c.put-2.new.files) c.requires.differ)
    c.put-2.ensures.refused
