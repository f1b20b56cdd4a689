use Rattle.std.proofs.Common.{sym, ◌∙◌, inl, inr, ⊎_elim}
use Rattle.command_words.specs.Names.{words_of}
use Rattle.htn_cli.proofs.Texts.{Told-nothing}
use Rattle.htn_cli.proofs.Headlines.{promise_done, promise_refused}
use Rattle.htn_cli.proofs.Endings.{never_done, answered_refused, answered_done, past_all, past_slots_too, too_many, past_not_done, stays_done, stays_refused, words_refused, refused_for, write_fault, read_fault, shows, calm}
use Rattle.htn_cli.proofs.CallsMade.{passes_finding}
use Rattle.htn_cli.proofs.program.run.Goals as goal

-- what was asked for was done

pub returns-in-Ok-clause-answer : goal.returns-in-Ok-clause-answer
returns-in-Ok-clause-answer g c = λ _ _ _. inr (answered_done _ _ _ _ _ _ _ c.in-Ok.ensures.done (Told-nothing _))

pub returns-in-Ok-clause-answered : goal.returns-in-Ok-clause-answered
returns-in-Ok-clause-answered g c = λ _. answered_done _ _ _ _ _ _ _ c.in-Ok.ensures.done (Told-nothing _)

pub returns-in-Ok-clause-past_all : goal.returns-in-Ok-clause-past_all
returns-in-Ok-clause-past_all g c = λ n asks past. absurd (past_not_done _ _ _ _ _ n c.in-Ok.ensures.done (too_many (words_of c.args.words.now) (g.F.Files.state c.args.files.now) (g.F.Files.state c.act.new.files) (g.O.Sink.state c.args.out.now) (g.O.Sink.state c.act.new.out) n asks past))

pub returns-in-Ok-clause-past_slots : goal.returns-in-Ok-clause-past_slots
returns-in-Ok-clause-past_slots g c = λ n asks few. absurd (past_not_done _ _ _ _ _ n c.in-Ok.ensures.done asks)

pub returns-in-Ok-clause-promise : goal.returns-in-Ok-clause-promise
returns-in-Ok-clause-promise g c =
    promise_done (record { decoded = c.values_are_decoded_alike.ensures; stack_decoded = c.values_are_stack_decoded_alike.ensures; encoded = c.values_are_encoded_alike.ensures; stacked = c.values_are_stacked_alike.ensures; within = c.no_width_is_past_the_bound.ensures; ground = c.values_have_one_ground_bound.ensures })
    _ _ _ _ _ _ c.in-Ok.ensures.done

-- it was refused

pub returns-in-Err-clause-promise : goal.returns-in-Err-clause-promise
returns-in-Err-clause-promise g c =
    promise_refused (record { decoded = c.values_are_decoded_alike.ensures; stack_decoded = c.values_are_stack_decoded_alike.ensures; encoded = c.values_are_encoded_alike.ensures; stacked = c.values_are_stacked_alike.ensures; within = c.no_width_is_past_the_bound.ensures; ground = c.values_have_one_ground_bound.ensures })
    (words_of c.args.words.now) (g.F.Files.state c.args.files.now) (g.F.Files.state c.act.new.files) (g.O.Sink.state c.args.out.now) (g.O.Sink.state c.act.new.out) _ _ _
    c.in-Err.refusal c.status-status.ensures c.in-Err.ensures.refused c.tell.ensures.told

pub returns-in-Err-clause-answer : goal.returns-in-Err-clause-answer
returns-in-Err-clause-answer g c =
    λ gets puts writes.
    ⊎_elim inl (λ of. inr (answered_refused (words_of c.args.words.now) (g.F.Files.state c.args.files.now) (g.F.Files.state c.act.new.files) (g.O.Sink.state c.args.out.now) (g.O.Sink.state c.act.new.out) _ c.in-Err.refusal _ _ c.status-status.ensures c.in-Err.ensures.refused c.tell.ensures.told of))
    (calm _
    (λ e. gets (read_fault (g.F.Files.state c.args.files.now) (g.F.Files.state c.act.new.files) (g.O.Sink.state c.args.out.now) (g.O.Sink.state c.act.new.out) (words_of c.args.words.now) c.in-Err.refusal c.in-Err.ensures.refused (sym c.status-status.ensures ∙ e)))
    (λ e. ⊎_elim puts writes (write_fault (g.F.Files.state c.args.files.now) (g.F.Files.state c.act.new.files) (g.O.Sink.state c.args.out.now) (g.O.Sink.state c.act.new.out) (words_of c.args.words.now) c.in-Err.refusal c.in-Err.ensures.refused (sym c.status-status.ensures ∙ e))))

pub returns-in-Err-clause-answered : goal.returns-in-Err-clause-answered
returns-in-Err-clause-answered g c =
    λ of. answered_refused (words_of c.args.words.now) (g.F.Files.state c.args.files.now) (g.F.Files.state c.act.new.files) (g.O.Sink.state c.args.out.now) (g.O.Sink.state c.act.new.out) _ c.in-Err.refusal _ _ c.status-status.ensures c.in-Err.ensures.refused c.tell.ensures.told of

pub returns-in-Err-clause-refused : goal.returns-in-Err-clause-refused
returns-in-Err-clause-refused g c = λ _. record { refusal = c.in-Err.refusal; status_is = c.status-status.ensures; left = c.in-Err.ensures.refused; told = c.tell.ensures.told }

pub returns-in-Err-clause-quiet : goal.returns-in-Err-clause-quiet
returns-in-Err-clause-quiet g c = λ e. absurd (never_done c.in-Err.refusal (sym c.status-status.ensures ∙ e))

pub returns-in-Err-clause-read_fault : goal.returns-in-Err-clause-read_fault
returns-in-Err-clause-read_fault g c =
    λ e. read_fault (g.F.Files.state c.args.files.now) (g.F.Files.state c.act.new.files) (g.O.Sink.state c.args.out.now) (g.O.Sink.state c.act.new.out) (words_of c.args.words.now) c.in-Err.refusal c.in-Err.ensures.refused (sym c.status-status.ensures ∙ e)

pub returns-in-Err-clause-past_all : goal.returns-in-Err-clause-past_all
returns-in-Err-clause-past_all g c =
    λ n asks past.
    let x = past_all (words_of c.args.words.now) (g.F.Files.state c.args.files.now) (g.F.Files.state c.act.new.files) (g.O.Sink.state c.args.out.now) (g.O.Sink.state c.act.new.out) n c.in-Err.refusal c.in-Err.ensures.refused asks past in
    refused_for _ _ _ _ _ _ _ _ _ c.status-status.ensures x.0 x.1 c.tell.ensures.told

pub returns-in-Err-clause-past_slots : goal.returns-in-Err-clause-past_slots
returns-in-Err-clause-past_slots g c =
    λ n asks few.
    let x = past_slots_too (words_of c.args.words.now) (g.F.Files.state c.args.files.now) (g.F.Files.state c.act.new.files) (g.O.Sink.state c.args.out.now) (g.O.Sink.state c.act.new.out) n c.in-Err.refusal c.in-Err.ensures.refused asks few in
    refused_for _ _ _ _ _ _ _ _ _ c.status-status.ensures x.0 x.1 c.tell.ensures.told

pub returns-in-Err-clause-write_fault : goal.returns-in-Err-clause-write_fault
returns-in-Err-clause-write_fault g c =
    λ e. write_fault (g.F.Files.state c.args.files.now) (g.F.Files.state c.act.new.files) (g.O.Sink.state c.args.out.now) (g.O.Sink.state c.act.new.out) (words_of c.args.words.now) c.in-Err.refusal c.in-Err.ensures.refused (sym c.status-status.ensures ∙ e)

pub returns-in-Err-clause-untouched : goal.returns-in-Err-clause-untouched
returns-in-Err-clause-untouched g c = (shows (g.F.Files.state c.args.files.now) (g.F.Files.state c.act.new.files) (g.O.Sink.state c.args.out.now) (g.O.Sink.state c.act.new.out) (words_of c.args.words.now) c.in-Err.refusal _ c.status-status.ensures c.in-Err.ensures.refused).untouched

pub returns-in-Err-clause-words : goal.returns-in-Err-clause-words
returns-in-Err-clause-words g c = words_refused (words_of c.args.words.now) (g.F.Files.state c.args.files.now) (g.F.Files.state c.act.new.files) (g.O.Sink.state c.args.out.now) (g.O.Sink.state c.act.new.out) _ c.in-Err.refusal c.status-status.ensures c.in-Err.ensures.refused

pub returns-in-Err-clause-failed_get : goal.returns-in-Err-clause-failed_get
returns-in-Err-clause-failed_get g c = (shows (g.F.Files.state c.args.files.now) (g.F.Files.state c.act.new.files) (g.O.Sink.state c.args.out.now) (g.O.Sink.state c.act.new.out) (words_of c.args.words.now) c.in-Err.refusal _ c.status-status.ensures c.in-Err.ensures.refused).get

pub returns-in-Err-clause-failed_put : goal.returns-in-Err-clause-failed_put
returns-in-Err-clause-failed_put g c = (shows (g.F.Files.state c.args.files.now) (g.F.Files.state c.act.new.files) (g.O.Sink.state c.args.out.now) (g.O.Sink.state c.act.new.out) (words_of c.args.words.now) c.in-Err.refusal _ c.status-status.ensures c.in-Err.ensures.refused).put

pub returns-in-Err-clause-failed_write : goal.returns-in-Err-clause-failed_write
returns-in-Err-clause-failed_write g c = (shows (g.F.Files.state c.args.files.now) (g.F.Files.state c.act.new.files) (g.O.Sink.state c.args.out.now) (g.O.Sink.state c.act.new.out) (words_of c.args.words.now) c.in-Err.refusal _ c.status-status.ensures c.in-Err.ensures.refused).write

pub returns-in-Ok-clause-inputs_stay : goal.returns-in-Ok-clause-inputs_stay
returns-in-Ok-clause-inputs_stay g c = λ asks. stays_done _ _ _ _ _ c.in-Ok.ensures.done asks

pub returns-in-Err-clause-inputs_stay : goal.returns-in-Err-clause-inputs_stay
returns-in-Err-clause-inputs_stay g c =
    λ asks. stays_refused (words_of c.args.words.now) (g.F.Files.state c.args.files.now) (g.F.Files.state c.act.new.files) (g.O.Sink.state c.args.out.now) (g.O.Sink.state c.act.new.out) c.in-Err.refusal c.in-Err.ensures.refused asks

pub returns-in-Err-clause-found : goal.returns-in-Err-clause-found
returns-in-Err-clause-found g c =
    λ e. passes_finding (words_of c.args.words.now) (g.F.Files.passed c.args.files.now) (g.F.Files.passed c.act.new.files)
    (record { decoded = c.values_are_decoded_alike.ensures; stack_decoded = c.values_are_stack_decoded_alike.ensures; encoded = c.values_are_encoded_alike.ensures; stacked = c.values_are_stacked_alike.ensures; within = c.no_width_is_past_the_bound.ensures; ground = c.values_have_one_ground_bound.ensures }) c.in-Err.refusal c.in-Err.ensures.stopped (sym c.status-status.ensures ∙ e) _ _ c.tell.ensures.told

pub returns-in-Err-clause-passed : goal.returns-in-Err-clause-passed
returns-in-Err-clause-passed g c = λ e. absurd (never_done c.in-Err.refusal (sym c.status-status.ensures ∙ e))

pub returns-in-Err-clause-stopped : goal.returns-in-Err-clause-stopped
returns-in-Err-clause-stopped g c = λ _. record { refusal = c.in-Err.refusal; status_is = c.status-status.ensures; told = c.tell.ensures.told; calls = c.in-Err.ensures.stopped }
