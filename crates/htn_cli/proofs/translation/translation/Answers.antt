use Rattle.std.proofs.Common.{[], ◌∷◌}
use Rattle.std.proofs.lemmas.Result.{err_from_is_err_and}
use Rattle.command_words.specs.Words.{translation_of, to_translate}
use Rattle.htn_cli.specs.Made.{output_of}
use Rattle.htn_cli.proofs.Results.{if_ok_too, if_ok_both, if_err_too}
use Rattle.htn_cli.proofs.Leavings.{is_within, given_stops, unread, gives_made, stops_made, translation_fits}
use Rattle.htn_cli.proofs.CallsMade.{given_calls, stops_inputs, passes_output, passes_stop}
use Rattle.htn_cli.proofs.translation.translation.Goals as goal

pub returns-in_err-given-clause-refused : goal.returns-in_err-given-clause-refused
returns-in_err-given-clause-refused g c =
    let p = err_from_is_err_and c.from_residual.result c.from_residual.ensures.1 in
    rw (p.1, p.2) (given_stops (translation_of c.args.asked.now) (g.F.Files.state c.args.files.now) _ c.in_err-given.ensures.refused)

pub returns-in_err-sources-clause-refused : goal.returns-in_err-sources-clause-refused
returns-in_err-sources-clause-refused g c =
    let p = err_from_is_err_and c.from_residual-in_err-sources.result c.from_residual-in_err-sources.ensures.1 in
    let r = translation_of c.args.asked.now in
    rw (p.1, p.2)
    (unread (to_translate r) (g.F.Files.state c.args.files.now) (g.F.Files.state c.read_two.new.files) (is_within r c.in_ok-given.given c.in_ok-given.ensures.given) _ c.in_err-sources.ensures.refused)

pub returns-clause-given : goal.returns-clause-given
returns-clause-given g c =
    let r = translation_of c.args.asked.now in
    let d = c.as_slice.result.now in
    let q = c.as_slice-2.result.now in
    let read = rw (← c.as_slice.ensures.value, ← c.as_slice-2.ensures.value) at c.in_ok-sources.ensures.read in
    if_ok_both c.translated-output.result
    (λ made gives differ. gives_made (to_translate r) (g.F.Files.state c.args.files.now) (g.F.Files.state c.read_two.new.files) (d ∷ q ∷ []) read (is_within r c.in_ok-given.given c.in_ok-given.ensures.given) (read.short.0, (read.short.1.0, tt)) made gives (translation_fits r d q (output_of made) gives) differ)
    c.translated-output.ensures.output c.translated-output.ensures.differ

pub returns-clause-refused : goal.returns-clause-refused
returns-clause-refused g c =
    let r = translation_of c.args.asked.now in
    let d = c.as_slice.result.now in
    let q = c.as_slice-2.result.now in
    let read = rw (← c.as_slice.ensures.value, ← c.as_slice-2.ensures.value) at c.in_ok-sources.ensures.read in
    if_err_too c.translated-output.result
    (stops_made (to_translate r) (g.F.Files.state c.args.files.now) (g.F.Files.state c.read_two.new.files) (d ∷ q ∷ []) read (is_within r c.in_ok-given.given c.in_ok-given.ensures.given) (read.short.0, (read.short.1.0, tt)))
    c.translated-output.ensures.refused

pub returns-in_err-given-clause-stopped : goal.returns-in_err-given-clause-stopped
returns-in_err-given-clause-stopped g c =
    let p = err_from_is_err_and c.from_residual.result c.from_residual.ensures.1 in
    rw (p.1, p.2) (given_calls (translation_of c.args.asked.now) (g.F.Files.passed c.args.files.now) _ c.in_err-given.ensures.refused)

pub returns-in_err-sources-clause-stopped : goal.returns-in_err-sources-clause-stopped
returns-in_err-sources-clause-stopped g c =
    let p = err_from_is_err_and c.from_residual-in_err-sources.result c.from_residual-in_err-sources.ensures.1 in
    let r = translation_of c.args.asked.now in
    rw (p.1, p.2) (stops_inputs (to_translate r) (g.F.Files.passed c.args.files.now) (g.F.Files.passed c.read_two.new.files) (is_within r c.in_ok-given.given c.in_ok-given.ensures.given) _ c.in_err-sources.ensures.stopped)

pub returns-clause-passed : goal.returns-clause-passed
returns-clause-passed g c =
    let r = translation_of c.args.asked.now in
    let d = c.as_slice.result.now in
    let q = c.as_slice-2.result.now in
    let read = rw (← c.as_slice.ensures.value, ← c.as_slice-2.ensures.value) at c.in_ok-sources.ensures.read in
    let calls = rw (← c.as_slice.ensures.value, ← c.as_slice-2.ensures.value) at c.in_ok-sources.ensures.passed in
    if_ok_too c.translated-output.result
    (λ made gives. passes_output (to_translate r) (d ∷ q ∷ []) (g.F.Files.passed c.args.files.now) (g.F.Files.passed c.read_two.new.files) calls (is_within r c.in_ok-given.given c.in_ok-given.ensures.given) (read.short.0, (read.short.1.0, tt)) (output_of made) gives (translation_fits r d q (output_of made) gives))
    c.translated-output.ensures.output

pub returns-clause-stopped : goal.returns-clause-stopped
returns-clause-stopped g c =
    let r = translation_of c.args.asked.now in
    let d = c.as_slice.result.now in
    let q = c.as_slice-2.result.now in
    let read = rw (← c.as_slice.ensures.value, ← c.as_slice-2.ensures.value) at c.in_ok-sources.ensures.read in
    let calls = rw (← c.as_slice.ensures.value, ← c.as_slice-2.ensures.value) at c.in_ok-sources.ensures.passed in
    if_err_too c.translated-output.result
    (passes_stop (to_translate r) (d ∷ q ∷ []) (g.F.Files.passed c.args.files.now) (g.F.Files.passed c.read_two.new.files) calls (is_within r c.in_ok-given.given c.in_ok-given.ensures.given) (read.short.0, (read.short.1.0, tt)))
    c.translated-output.ensures.refused
