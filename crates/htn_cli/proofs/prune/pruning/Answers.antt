use Rattle.std.proofs.Common.{[], ◌∷◌}
use Rattle.std.proofs.lemmas.Result.{err_from_is_err_and}
use Rattle.command_words.specs.Words.{prune_of, to_prune}
use Rattle.htn_cli.specs.Made.{output_of}
use Rattle.htn_cli.proofs.Results.{if_ok_too, if_ok_both, if_err_too}
use Rattle.htn_cli.proofs.Leavings.{unread, gives_made, stops_made}
use Rattle.htn_cli.proofs.Prunings.{prune_fits}
use Rattle.htn_cli.proofs.CallsMade.{stops_inputs, passes_output, passes_stop}
use Rattle.htn_cli.proofs.prune.pruning.Goals as goal

pub returns-in_err-sources-clause-refused : goal.returns-in_err-sources-clause-refused
returns-in_err-sources-clause-refused g c =
    let p = err_from_is_err_and c.from_residual.result c.from_residual.ensures.1 in
    rw (p.1, p.2) (unread (to_prune (prune_of c.args.asked.now)) (g.F.Files.state c.args.files.now) (g.F.Files.state c.read_two.new.files) tt _ c.in_err-sources.ensures.refused)

pub returns-clause-given : goal.returns-clause-given
returns-clause-given g c =
    let r = prune_of c.args.asked.now in
    let d = c.as_slice.result.now in
    let q = c.as_slice-2.result.now in
    let read = rw (← c.as_slice.ensures.value, ← c.as_slice-2.ensures.value) at c.in_ok-sources.ensures.read in
    if_ok_both c.pruned-output.result
    (λ made gives differ. gives_made (to_prune r) (g.F.Files.state c.args.files.now) (g.F.Files.state c.read_two.new.files) (d ∷ q ∷ []) read tt (read.short.0, (read.short.1.0, tt)) made gives (prune_fits r d q (output_of made) gives) differ)
    c.pruned-output.ensures.output c.pruned-output.ensures.differ

pub returns-clause-refused : goal.returns-clause-refused
returns-clause-refused g c =
    let r = prune_of c.args.asked.now in
    let d = c.as_slice.result.now in
    let q = c.as_slice-2.result.now in
    let read = rw (← c.as_slice.ensures.value, ← c.as_slice-2.ensures.value) at c.in_ok-sources.ensures.read in
    if_err_too c.pruned-output.result
    (stops_made (to_prune r) (g.F.Files.state c.args.files.now) (g.F.Files.state c.read_two.new.files) (d ∷ q ∷ []) read tt (read.short.0, (read.short.1.0, tt)))
    c.pruned-output.ensures.refused

pub returns-in_err-sources-clause-stopped : goal.returns-in_err-sources-clause-stopped
returns-in_err-sources-clause-stopped g c =
    let p = err_from_is_err_and c.from_residual.result c.from_residual.ensures.1 in
    let r = prune_of c.args.asked.now in
    rw (p.1, p.2) (stops_inputs (to_prune r) (g.F.Files.passed c.args.files.now) (g.F.Files.passed c.read_two.new.files) tt _ c.in_err-sources.ensures.stopped)

pub returns-clause-passed : goal.returns-clause-passed
returns-clause-passed g c =
    let r = prune_of c.args.asked.now in
    let d = c.as_slice.result.now in
    let q = c.as_slice-2.result.now in
    let read = rw (← c.as_slice.ensures.value, ← c.as_slice-2.ensures.value) at c.in_ok-sources.ensures.read in
    let calls = rw (← c.as_slice.ensures.value, ← c.as_slice-2.ensures.value) at c.in_ok-sources.ensures.passed in
    if_ok_too c.pruned-output.result
    (λ made gives. passes_output (to_prune r) (d ∷ q ∷ []) (g.F.Files.passed c.args.files.now) (g.F.Files.passed c.read_two.new.files) calls tt (read.short.0, (read.short.1.0, tt)) (output_of made) gives (prune_fits r d q (output_of made) gives))
    c.pruned-output.ensures.output

pub returns-clause-stopped : goal.returns-clause-stopped
returns-clause-stopped g c =
    let r = prune_of c.args.asked.now in
    let d = c.as_slice.result.now in
    let q = c.as_slice-2.result.now in
    let read = rw (← c.as_slice.ensures.value, ← c.as_slice-2.ensures.value) at c.in_ok-sources.ensures.read in
    let calls = rw (← c.as_slice.ensures.value, ← c.as_slice-2.ensures.value) at c.in_ok-sources.ensures.passed in
    if_err_too c.pruned-output.result
    (passes_stop (to_prune r) (d ∷ q ∷ []) (g.F.Files.passed c.args.files.now) (g.F.Files.passed c.read_two.new.files) calls tt (read.short.0, (read.short.1.0, tt)))
    c.pruned-output.ensures.refused
