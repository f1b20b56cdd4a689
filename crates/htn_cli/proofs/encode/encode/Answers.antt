use Rattle.std.proofs.Common.{ℕ, ◌≡◌, [], ◌∷◌, List, Option, Some, None, option_map, refl}
use Rattle.std.proofs.lemmas.Result.{err_from_is_err_and}
use Rattle.htn_base.specs.Limits.{most_slots}
use Rattle.outside_io.specs.Calls.{Passed, got}
use Rattle.command_words.specs.Names.{Word}
use Rattle.command_words.specs.Words.{EncodeRequest, encode_of, to_encode, number_of}
use Rattle.htn_cli.specs.Answer.{told_alone}
use Rattle.htn_cli.specs.Calling.{StopsInputs}
use Rattle.htn_cli.specs.Passing.{asked_bytes, gets}
use Rattle.htn_cli.specs.Requests.{IsWithin, slots_given}
use Rattle.htn_cli.specs.Stops.{IsGiven, StopsGiven}
use Rattle.htn_cli.specs.declared.refusal.Refusal.{Refusal}
use Rattle.htn_cli.proofs.InputsRead.{stops_next, stops_longer, two_of_three, third_read}
use Rattle.htn_cli.proofs.Leavings.{given_within, given_refused, unread, gives_made, stops_made}
use Rattle.htn_cli.proofs.CallsMade.{stops_slots, calls_then, stops_next_get, stops_more_gets, stops_inputs, passes_output, passes_stop}
use Rattle.htn_cli.proofs.encode.encode.Goals as goal

within : (r : EncodeRequest) (g : Option ℕ) → IsGiven most_slots r.numeral g → IsWithin (to_encode r)
within r g is = given_within most_slots r.numeral g is

given_calls : (r : EncodeRequest) (numeral : Option Word) → slots_given (to_encode r) ≡ option_map number_of numeral → (old : Option (List Passed)) (refusal : Refusal) → StopsGiven most_slots numeral refusal
    → StopsInputs (to_encode r) old old refusal
given_calls r None e old refusal stops = absurd stops
given_calls r (Some word) e old refusal stops = stops_slots (to_encode r) (number_of word) e old refusal stops

pub returns-in_err-given-clause-refused : goal.returns-in_err-given-clause-refused
returns-in_err-given-clause-refused g c =
    let p = err_from_is_err_and c.from_residual.result c.from_residual.ensures.1 in
    let r = encode_of c.args.asked.now in
    rw (p.1, p.2) (given_refused (to_encode r) (g.F.Files.state c.args.files.now) r.numeral refl _ c.in_err-given.ensures.refused)

pub returns-in_err-sources-clause-refused : goal.returns-in_err-sources-clause-refused
returns-in_err-sources-clause-refused g c =
    let p = err_from_is_err_and c.from_residual-in_err-sources.result c.from_residual-in_err-sources.ensures.1 in
    let r = encode_of c.args.asked.now in
    let old = g.F.Files.state c.args.files.now in
    let new = g.F.Files.state c.read_two.new.files in
    rw (p.1, p.2)
    (unread (to_encode r) old new (within r c.in_ok-given.given c.in_ok-given.ensures.given) _ (stops_longer (r.domain ∷ r.problem ∷ []) (r.hplan ∷ []) old new _ c.in_err-sources.ensures.refused))

pub returns-in_err-hplan-clause-refused : goal.returns-in_err-hplan-clause-refused
returns-in_err-hplan-clause-refused g c =
    let p = err_from_is_err_and c.from_residual-in_err-hplan.result c.from_residual-in_err-hplan.ensures.1 in
    let r = encode_of c.args.asked.now in
    let old = g.F.Files.state c.args.files.now in
    let mid = g.F.Files.state c.read_two.new.files in
    let new = g.F.Files.state c.read.new.files in
    let d = c.in_ok-sources.sources.domain.items in
    let q = c.in_ok-sources.sources.problem.items in
    rw (p.1, p.2)
    (unread (to_encode r) old new (within r c.in_ok-given.given c.in_ok-given.ensures.given) _
    (stops_next (r.domain ∷ r.problem ∷ r.hplan ∷ []) (d ∷ q ∷ []) r.hplan old mid new (two_of_three r.domain r.problem r.hplan old mid d q c.in_ok-sources.ensures.read) refl _ c.in_err-hplan.ensures.refused))

pub returns-in_err-told-clause-refused : goal.returns-in_err-told-clause-refused
returns-in_err-told-clause-refused g c =
    let p = err_from_is_err_and c.from_residual-in_err-told.result c.from_residual-in_err-told.ensures.1 in
    let r = encode_of c.args.asked.now in
    let old = g.F.Files.state c.args.files.now in
    let mid = g.F.Files.state c.read_two.new.files in
    let new = g.F.Files.state c.read.new.files in
    let d = c.as_slice.result.now in
    let q = c.as_slice-2.result.now in
    let l = c.as_slice-3.result.now in
    let two = rw (← c.as_slice.ensures.value, ← c.as_slice-2.ensures.value) at c.in_ok-sources.ensures.read in
    let three = rw (← c.as_slice-3.ensures.value) at c.in_ok-hplan.ensures.read in
    let read = third_read r.domain r.problem r.hplan old mid new d q l two three in
    rw (p.1, p.2)
    (stops_made (to_encode r) old new (d ∷ q ∷ l ∷ []) read (within r c.in_ok-given.given c.in_ok-given.ensures.given) (read.short.0, (read.short.1.0, (read.short.1.1.0, tt))) _ c.in_err-told.ensures.refused)

pub returns-clause-given : goal.returns-clause-given
returns-clause-given g c =
    let r = encode_of c.args.asked.now in
    let old = g.F.Files.state c.args.files.now in
    let mid = g.F.Files.state c.read_two.new.files in
    let new = g.F.Files.state c.read.new.files in
    let d = c.as_slice.result.now in
    let q = c.as_slice-2.result.now in
    let l = c.as_slice-3.result.now in
    let two = rw (← c.as_slice.ensures.value, ← c.as_slice-2.ensures.value) at c.in_ok-sources.ensures.read in
    let three = rw (← c.as_slice-3.ensures.value) at c.in_ok-hplan.ensures.read in
    let read = third_read r.domain r.problem r.hplan old mid new d q l two three in
    gives_made (to_encode r) old new (d ∷ q ∷ l ∷ []) read (within r c.in_ok-given.given c.in_ok-given.ensures.given) (read.short.0, (read.short.1.0, (read.short.1.1.0, tt)))
    _ c.in_ok-told.ensures.told c.in_ok-told.ensures.short tt

pub returns-in_err-given-clause-stopped : goal.returns-in_err-given-clause-stopped
returns-in_err-given-clause-stopped g c =
    let p = err_from_is_err_and c.from_residual.result c.from_residual.ensures.1 in
    let r = encode_of c.args.asked.now in
    rw (p.1, p.2) (given_calls r r.numeral refl (g.F.Files.passed c.args.files.now) _ c.in_err-given.ensures.refused)

pub returns-in_err-sources-clause-stopped : goal.returns-in_err-sources-clause-stopped
returns-in_err-sources-clause-stopped g c =
    let p = err_from_is_err_and c.from_residual-in_err-sources.result c.from_residual-in_err-sources.ensures.1 in
    let r = encode_of c.args.asked.now in
    let old = g.F.Files.passed c.args.files.now in
    let new = g.F.Files.passed c.read_two.new.files in
    rw (p.1, p.2)
    (stops_inputs (to_encode r) old new (within r c.in_ok-given.given c.in_ok-given.ensures.given) _ (stops_more_gets (r.domain ∷ r.problem ∷ []) (r.hplan ∷ []) old new _ c.in_err-sources.ensures.stopped))

pub returns-in_err-hplan-clause-stopped : goal.returns-in_err-hplan-clause-stopped
returns-in_err-hplan-clause-stopped g c =
    let p = err_from_is_err_and c.from_residual-in_err-hplan.result c.from_residual-in_err-hplan.ensures.1 in
    let r = encode_of c.args.asked.now in
    let old = g.F.Files.passed c.args.files.now in
    let mid = g.F.Files.passed c.read_two.new.files in
    let new = g.F.Files.passed c.read.new.files in
    let d = c.in_ok-sources.sources.domain.items in
    let q = c.in_ok-sources.sources.problem.items in
    rw (p.1, p.2)
    (stops_inputs (to_encode r) old new (within r c.in_ok-given.given c.in_ok-given.ensures.given) _
    (stops_next_get (r.domain ∷ r.problem ∷ r.hplan ∷ []) (d ∷ q ∷ []) r.hplan old mid new c.in_ok-sources.ensures.passed c.in_ok-sources.ensures.read.short refl _ c.in_err-hplan.ensures.stopped))

pub returns-in_err-told-clause-stopped : goal.returns-in_err-told-clause-stopped
returns-in_err-told-clause-stopped g c =
    let p = err_from_is_err_and c.from_residual-in_err-told.result c.from_residual-in_err-told.ensures.1 in
    let r = encode_of c.args.asked.now in
    let old = g.F.Files.passed c.args.files.now in
    let mid = g.F.Files.passed c.read_two.new.files in
    let new = g.F.Files.passed c.read.new.files in
    let d = c.as_slice.result.now in
    let q = c.as_slice-2.result.now in
    let l = c.as_slice-3.result.now in
    let two = rw (← c.as_slice.ensures.value, ← c.as_slice-2.ensures.value) at c.in_ok-sources.ensures.read in
    let third = rw (← c.as_slice-3.ensures.value) at c.in_ok-hplan.ensures.read in
    let calls_two = rw (← c.as_slice.ensures.value, ← c.as_slice-2.ensures.value) at c.in_ok-sources.ensures.passed in
    let call = rw (← c.as_slice-3.ensures.value) at c.in_ok-hplan.ensures.passed in
    let calls = calls_then old mid new (gets (r.domain ∷ r.problem ∷ []) (d ∷ q ∷ [])) (got r.hplan asked_bytes l ∷ []) calls_two call in
    rw (p.1, p.2)
    (passes_stop (to_encode r) (d ∷ q ∷ l ∷ []) old new calls (within r c.in_ok-given.given c.in_ok-given.ensures.given) (two.short.0, (two.short.1.0, (third.short, tt))) _ c.in_err-told.ensures.refused)

pub returns-clause-passed : goal.returns-clause-passed
returns-clause-passed g c =
    let r = encode_of c.args.asked.now in
    let old = g.F.Files.passed c.args.files.now in
    let mid = g.F.Files.passed c.read_two.new.files in
    let new = g.F.Files.passed c.read.new.files in
    let d = c.as_slice.result.now in
    let q = c.as_slice-2.result.now in
    let l = c.as_slice-3.result.now in
    let two = rw (← c.as_slice.ensures.value, ← c.as_slice-2.ensures.value) at c.in_ok-sources.ensures.read in
    let third = rw (← c.as_slice-3.ensures.value) at c.in_ok-hplan.ensures.read in
    let calls_two = rw (← c.as_slice.ensures.value, ← c.as_slice-2.ensures.value) at c.in_ok-sources.ensures.passed in
    let call = rw (← c.as_slice-3.ensures.value) at c.in_ok-hplan.ensures.passed in
    let calls = calls_then old mid new (gets (r.domain ∷ r.problem ∷ []) (d ∷ q ∷ [])) (got r.hplan asked_bytes l ∷ []) calls_two call in
    passes_output (to_encode r) (d ∷ q ∷ l ∷ []) old new calls (within r c.in_ok-given.given c.in_ok-given.ensures.given) (two.short.0, (two.short.1.0, (third.short, tt))) (told_alone c.in_ok-told.told)
    c.in_ok-told.ensures.told c.in_ok-told.ensures.short
