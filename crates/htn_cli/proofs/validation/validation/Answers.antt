use Rattle.std.proofs.Common.{[], ◌∷◌, refl}
use Rattle.std.proofs.lemmas.Result.{err_from_is_err_and}
use Rattle.command_words.specs.Words.{validation_of, to_validate}
use Rattle.htn_cli.proofs.Results.{if_ok_too, if_ok_both}
use Rattle.htn_cli.proofs.InputsRead.{stops_next, stops_longer, two_of_three, third_read}
use Rattle.htn_cli.proofs.Leavings.{unread, gives_made, stops_made, plan_stops, plan_fits}
use Rattle.outside_io.specs.Calls.{got}
use Rattle.htn_cli.specs.Made.{output_of}
use Rattle.htn_cli.specs.Passing.{asked_bytes, gets}
use Rattle.htn_cli.proofs.CallsMade.{calls_then, stops_next_get, stops_more_gets, stops_inputs, passes_output, passes_stop}
use Rattle.htn_cli.proofs.validation.validation.Goals as goal

pub returns-in_err-sources-clause-refused : goal.returns-in_err-sources-clause-refused
returns-in_err-sources-clause-refused g c =
    let p = err_from_is_err_and c.from_residual.result c.from_residual.ensures.1 in
    let r = validation_of c.args.asked.now in
    let old = g.F.Files.state c.args.files.now in
    let new = g.F.Files.state c.read_two.new.files in
    rw (p.1, p.2) (unread (to_validate r) old new tt _ (stops_longer (r.domain ∷ r.problem ∷ []) (r.plan ∷ []) old new _ c.in_err-sources.ensures.refused))

pub returns-in_err-plan-clause-refused : goal.returns-in_err-plan-clause-refused
returns-in_err-plan-clause-refused g c =
    let p = err_from_is_err_and c.from_residual-in_err-plan.result c.from_residual-in_err-plan.ensures.1 in
    let r = validation_of c.args.asked.now in
    let old = g.F.Files.state c.args.files.now in
    let mid = g.F.Files.state c.read_two.new.files in
    let new = g.F.Files.state c.read.new.files in
    let d = c.in_ok-sources.sources.domain.items in
    let q = c.in_ok-sources.sources.problem.items in
    rw (p.1, p.2)
    (unread (to_validate r) old new tt _
    (stops_next (r.domain ∷ r.problem ∷ r.plan ∷ []) (d ∷ q ∷ []) r.plan old mid new (two_of_three r.domain r.problem r.plan old mid d q c.in_ok-sources.ensures.read) refl _ c.in_err-plan.ensures.refused))

pub returns-in_err-confirmed-clause-refused : goal.returns-in_err-confirmed-clause-refused
returns-in_err-confirmed-clause-refused g c =
    let p = err_from_is_err_and c.from_residual-in_err-confirmed.result c.from_residual-in_err-confirmed.ensures.1 in
    let r = validation_of c.args.asked.now in
    let old = g.F.Files.state c.args.files.now in
    let mid = g.F.Files.state c.read_two.new.files in
    let new = g.F.Files.state c.read.new.files in
    let d = c.as_slice.result.now in
    let q = c.as_slice-2.result.now in
    let l = c.as_slice-3.result.now in
    let two = rw (← c.as_slice.ensures.value, ← c.as_slice-2.ensures.value) at c.in_ok-sources.ensures.read in
    let three = rw (← c.as_slice-3.ensures.value) at c.in_ok-plan.ensures.read in
    let read = third_read r.domain r.problem r.plan old mid new d q l two three in
    rw (p.1, p.2)
    (stops_made (to_validate r) old new (d ∷ q ∷ l ∷ []) read tt (read.short.0, (read.short.1.0, (read.short.1.1.0, tt))) _ (plan_stops r d q l _ c.in_err-confirmed.ensures.refused))

pub returns-clause-given : goal.returns-clause-given
returns-clause-given g c =
    let r = validation_of c.args.asked.now in
    let old = g.F.Files.state c.args.files.now in
    let mid = g.F.Files.state c.read_two.new.files in
    let new = g.F.Files.state c.read.new.files in
    let d = c.as_slice.result.now in
    let q = c.as_slice-2.result.now in
    let l = c.as_slice-3.result.now in
    let two = rw (← c.as_slice.ensures.value, ← c.as_slice-2.ensures.value) at c.in_ok-sources.ensures.read in
    let three = rw (← c.as_slice-3.ensures.value) at c.in_ok-plan.ensures.read in
    let read = third_read r.domain r.problem r.plan old mid new d q l two three in
    if_ok_both c.valid.result
    (λ made told differ. gives_made (to_validate r) old new (d ∷ q ∷ l ∷ []) read tt (read.short.0, (read.short.1.0, (read.short.1.1.0, tt))) made (c.in_ok-confirmed.ensures.plan, told) (plan_fits r d q l (output_of made) told) differ)
    c.valid.ensures.output c.valid.ensures.differ

pub returns-in_err-sources-clause-stopped : goal.returns-in_err-sources-clause-stopped
returns-in_err-sources-clause-stopped g c =
    let p = err_from_is_err_and c.from_residual.result c.from_residual.ensures.1 in
    let r = validation_of c.args.asked.now in
    let old = g.F.Files.passed c.args.files.now in
    let new = g.F.Files.passed c.read_two.new.files in
    rw (p.1, p.2) (stops_inputs (to_validate r) old new tt _ (stops_more_gets (r.domain ∷ r.problem ∷ []) (r.plan ∷ []) old new _ c.in_err-sources.ensures.stopped))

pub returns-in_err-plan-clause-stopped : goal.returns-in_err-plan-clause-stopped
returns-in_err-plan-clause-stopped g c =
    let p = err_from_is_err_and c.from_residual-in_err-plan.result c.from_residual-in_err-plan.ensures.1 in
    let r = validation_of c.args.asked.now in
    let old = g.F.Files.passed c.args.files.now in
    let mid = g.F.Files.passed c.read_two.new.files in
    let new = g.F.Files.passed c.read.new.files in
    let d = c.in_ok-sources.sources.domain.items in
    let q = c.in_ok-sources.sources.problem.items in
    rw (p.1, p.2)
    (stops_inputs (to_validate r) old new tt _ (stops_next_get (r.domain ∷ r.problem ∷ r.plan ∷ []) (d ∷ q ∷ []) r.plan old mid new c.in_ok-sources.ensures.passed c.in_ok-sources.ensures.read.short refl _ c.in_err-plan.ensures.stopped))

pub returns-in_err-confirmed-clause-stopped : goal.returns-in_err-confirmed-clause-stopped
returns-in_err-confirmed-clause-stopped g c =
    let p = err_from_is_err_and c.from_residual-in_err-confirmed.result c.from_residual-in_err-confirmed.ensures.1 in
    let r = validation_of c.args.asked.now in
    let old = g.F.Files.passed c.args.files.now in
    let mid = g.F.Files.passed c.read_two.new.files in
    let new = g.F.Files.passed c.read.new.files in
    let d = c.as_slice.result.now in
    let q = c.as_slice-2.result.now in
    let l = c.as_slice-3.result.now in
    let two = rw (← c.as_slice.ensures.value, ← c.as_slice-2.ensures.value) at c.in_ok-sources.ensures.read in
    let third = rw (← c.as_slice-3.ensures.value) at c.in_ok-plan.ensures.read in
    let calls_two = rw (← c.as_slice.ensures.value, ← c.as_slice-2.ensures.value) at c.in_ok-sources.ensures.passed in
    let call = rw (← c.as_slice-3.ensures.value) at c.in_ok-plan.ensures.passed in
    let calls = calls_then old mid new (gets (r.domain ∷ r.problem ∷ []) (d ∷ q ∷ [])) (got r.plan asked_bytes l ∷ []) calls_two call in
    rw (p.1, p.2)
    (passes_stop (to_validate r) (d ∷ q ∷ l ∷ []) old new calls tt (two.short.0, (two.short.1.0, (third.short, tt))) _ (plan_stops r d q l _ c.in_err-confirmed.ensures.refused))

pub returns-clause-passed : goal.returns-clause-passed
returns-clause-passed g c =
    let r = validation_of c.args.asked.now in
    let old = g.F.Files.passed c.args.files.now in
    let mid = g.F.Files.passed c.read_two.new.files in
    let new = g.F.Files.passed c.read.new.files in
    let d = c.as_slice.result.now in
    let q = c.as_slice-2.result.now in
    let l = c.as_slice-3.result.now in
    let two = rw (← c.as_slice.ensures.value, ← c.as_slice-2.ensures.value) at c.in_ok-sources.ensures.read in
    let third = rw (← c.as_slice-3.ensures.value) at c.in_ok-plan.ensures.read in
    let calls_two = rw (← c.as_slice.ensures.value, ← c.as_slice-2.ensures.value) at c.in_ok-sources.ensures.passed in
    let call = rw (← c.as_slice-3.ensures.value) at c.in_ok-plan.ensures.passed in
    let calls = calls_then old mid new (gets (r.domain ∷ r.problem ∷ []) (d ∷ q ∷ [])) (got r.plan asked_bytes l ∷ []) calls_two call in
    if_ok_too c.valid.result
    (λ made told. passes_output (to_validate r) (d ∷ q ∷ l ∷ []) old new calls tt (two.short.0, (two.short.1.0, (third.short, tt))) (output_of made) (c.in_ok-confirmed.ensures.plan, told) (plan_fits r d q l (output_of made) told))
    c.valid.ensures.output
