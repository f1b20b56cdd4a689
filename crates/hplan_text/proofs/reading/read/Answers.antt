use Rattle.std.proofs.Common.{subst}
use Rattle.hplan_text.specs.Drafts.{Drafts}
use Rattle.hplan_text.specs.Lines.{marked}
use Rattle.hplan_text.proofs.Judged.{if-ok, if-err, plan-read, plan-refused}
use Rattle.hplan_text.proofs.reading.read.Goals as goal

pub returns-in-Ok-Some-clause-read : goal.returns-in-Ok-Some-clause-read
returns-in-Ok-Some-clause-read c =
    let text = c.args.bytes.now in
    let draft = c.drafted.new.draft in
    let t = subst (Drafts (marked text) draft) c.in-Ok-Some.field-0-is c.in-Ok-Some.ensures.lines in
    if-ok c.judged.result (λ plan f. plan-read text t.0 c.in-Ok-Some.end draft plan t.2 t.1 (f t.0 t.1).0 (f t.0 t.1).1) c.judged.ensures.read

pub returns-in-Ok-Some-clause-refused : goal.returns-in-Ok-Some-clause-refused
returns-in-Ok-Some-clause-refused c =
    let text = c.args.bytes.now in
    let t = subst (Drafts (marked text) c.drafted.new.draft) c.in-Ok-Some.field-0-is c.in-Ok-Some.ensures.lines in
    if-err c.judged.result (λ error f. plan-refused text t.0 c.in-Ok-Some.end c.args.file error t.2 (f t.0 t.1)) c.judged.ensures.refused
