use Rattle.std.proofs.Common.{[], ◌∷◌, refl}
use Rattle.std.proofs.lemmas.Result.{err_from_is_err_and}
use Rattle.htn_cli.proofs.InputsRead.{stops_next, nothing_read, one_read}
use Rattle.htn_cli.proofs.CallsMade.{no_calls, stops_next_get}
use Rattle.htn_cli.proofs.reading.read_two.Goals as goal

pub returns-in_err-domain-clause-refused : goal.returns-in_err-domain-clause-refused
returns-in_err-domain-clause-refused g c =
    let p = err_from_is_err_and c.from_residual.result c.from_residual.ensures.1 in
    let names = c.args.d.now ∷ c.args.p.now ∷ [] in
    let old = g.F.Files.state c.args.files.now in
    rw (p.1, p.2) (stops_next names [] c.args.d.now old old (g.F.Files.state c.read.new.files) (nothing_read names old) refl _ c.in_err-domain.ensures.refused)

pub returns-in_err-problem-clause-refused : goal.returns-in_err-problem-clause-refused
returns-in_err-problem-clause-refused g c =
    let p = err_from_is_err_and c.from_residual-in_err-problem.result c.from_residual-in_err-problem.ensures.1 in
    let names = c.args.d.now ∷ c.args.p.now ∷ [] in
    let old = g.F.Files.state c.args.files.now in
    let mid = g.F.Files.state c.read.new.files in
    let bytes = c.in_ok-domain.domain.items in
    rw (p.1, p.2)
    (stops_next names (bytes ∷ []) c.args.p.now old mid (g.F.Files.state c.read-2.new.files) (one_read c.args.d.now (c.args.p.now ∷ []) old mid bytes c.in_ok-domain.ensures.read) refl _ c.in_err-problem.ensures.refused)

pub returns-in_err-domain-clause-stopped : goal.returns-in_err-domain-clause-stopped
returns-in_err-domain-clause-stopped g c =
    let p = err_from_is_err_and c.from_residual.result c.from_residual.ensures.1 in
    let names = c.args.d.now ∷ c.args.p.now ∷ [] in
    let old = g.F.Files.passed c.args.files.now in
    rw (p.1, p.2) (stops_next_get names [] c.args.d.now old old (g.F.Files.passed c.read.new.files) (no_calls old) tt refl _ c.in_err-domain.ensures.stopped)

pub returns-in_err-problem-clause-stopped : goal.returns-in_err-problem-clause-stopped
returns-in_err-problem-clause-stopped g c =
    let p = err_from_is_err_and c.from_residual-in_err-problem.result c.from_residual-in_err-problem.ensures.1 in
    let names = c.args.d.now ∷ c.args.p.now ∷ [] in
    let old = g.F.Files.passed c.args.files.now in
    let mid = g.F.Files.passed c.read.new.files in
    let bytes = c.in_ok-domain.domain.items in
    rw (p.1, p.2)
    (stops_next_get names (bytes ∷ []) c.args.p.now old mid (g.F.Files.passed c.read-2.new.files) c.in_ok-domain.ensures.passed (c.in_ok-domain.ensures.read.short, tt) refl _ c.in_err-problem.ensures.stopped)
