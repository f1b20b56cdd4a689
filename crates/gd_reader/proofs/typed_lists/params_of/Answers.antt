use Rattle.std.proofs.Common.{◌≡◌, ◌++◌, [], map, ap, sym, ◌∙◌, subst, true, false, Ok}
use Rattle.std.proofs.lemmas.Result.{err_from_is_err_and}
use Rattle.htn_base.specs.Words.{folded}
use Rattle.text_forms.specs.Placed.{parts_at, word}
use Rattle.gd_reader.specs.Answers.{Fails}
use Rattle.gd_reader.specs.Ends.{end_of}
use Rattle.gd_reader.specs.TypedLists.{listed, with_type}
use Rattle.gd_reader.proofs.Keeping.{keeps_then}
use Rattle.gd_reader.proofs.Listing.{Listing, continued}
use Rattle.gd_reader.proofs.ListSteps.{hyphen_due, word_is, end_behind, end_here, step_word, stop_word, step_type, stop_type, list_end, list_stuck, hyphen_of, no_hyphen}
use Rattle.gd_reader.proofs.Items.{no_word}
use Rattle.gd_reader.proofs.typed_lists.params_of.Goals as goal
use Rattle.gd_reader.proofs.typed_lists.params_of.Goals.{In-Word, else-len-gt0-via-then-len-gt0+else-is_hyphen, else-len-gt0-via-else-len-gt0}

-- the list at the front of the loop
abbrev here : In-Word → Listing
here c = record { seen = c.loop-pending.seen; done = c.loop-pending.done; pending = c.loop-pending.pending }

-- the word that was met
met : (c : In-Word) → continued c.args.kind (here c, c.loop-pending.names) (word c.in-Word.at (folded c.in-Word.word.now) (parts_at c.args.s.now c.in-Word.next.token)) ≡ listed c.args.kind c.args.names.now (parts_at c.args.s.now c.args.i)
met c =
    let is = c.in-Word.is in
    let gives = c.in_ok-at.ensures.gives in
    ap (continued c.args.kind (here c, c.loop-pending.names))
    (sym (word_is (parts_at c.args.s.now c.loop-pending.p.token) (c.in-Word.at, folded c.in-Word.word.now, parts_at c.args.s.now c.in-Word.next.token) (rw is at gives)))
    ∙ c.loop-pending.invariant.rest

-- the end of the list stays where it is
same_end : (c : In-Word) → end_of (parts_at c.args.s.now c.in-Word.next.token) ≡ end_of (parts_at c.args.s.now c.args.i)
same_end c =
    let is = c.in-Word.is in
    let gives = c.in_ok-at.ensures.gives in
    end_behind (parts_at c.args.s.now c.loop-pending.p.token) (c.in-Word.at, folded c.in-Word.word.now, parts_at c.args.s.now c.in-Word.next.token) (rw is at gives) ∙ c.loop-pending.invariant.closed

pub returns-in_err-at-clause-gives : goal.returns-in_err-at-clause-gives
returns-in_err-at-clause-gives c =
    let p = err_from_is_err_and c.from_residual.result c.from_residual.ensures.1 in
    let here : Listing = record { seen = c.loop-pending.seen; done = c.loop-pending.done; pending = c.loop-pending.pending } in
    rw (p.1, p.2) (subst (Fails c.in_err-at.field-0.0) c.loop-pending.invariant.rest (list_stuck c.in_err-at.field-0.0 c.args.kind (here, c.loop-pending.names) (parts_at c.args.s.now c.loop-pending.p.token) c.in_err-at.ensures.gives))

pub returns-in_err-types-clause-gives : goal.returns-in_err-types-clause-gives
returns-in_err-types-clause-gives c =
    let p = err_from_is_err_and c.from_residual-in_err-types.result c.from_residual-in_err-types.ensures.1 in
    let d = (goal.at.returns-in_err-types-clause-gives c).In-Word in
    let h : hyphen_due c.loop-pending.pending (folded c.in-Word.word.now) ≡ true = hyphen_of c.loop-pending.pending (folded c.in-Word.word.now) (rw c.len.ensures.length at c.if-len-gt0.true) ∙ sym c.is_hyphen.ensures.hyphen ∙ c.if-is_hyphen.true in
    rw (p.1, p.2) (subst (Fails c.in_err-types.field-0.0) (met d) (stop_type c.in_err-types.field-0.0 c.args.kind (here d) c.loop-pending.names c.in-Word.at (folded c.in-Word.word.now) (parts_at c.args.s.now c.in-Word.next.token) h c.in_err-types.ensures.gives))

pub loop-pending-preserved-then-is_hyphen : goal.loop-pending-preserved-then-is_hyphen
loop-pending-preserved-then-is_hyphen c =
    let d = (goal.at.loop-pending-preserved-then-is_hyphen c).In-Word in
    let h : hyphen_due c.loop-pending.pending (folded c.in-Word.word.now) ≡ true = hyphen_of c.loop-pending.pending (folded c.in-Word.word.now) (rw c.len.ensures.length at c.if-len-gt0.true) ∙ sym c.is_hyphen.ensures.hyphen ∙ c.if-is_hyphen.true in
    let place = c.position-p-then-is_hyphen.ensures.position in
    let done : c.in_ok-done.done ≡ c.loop-pending.done ++ map (with_type c.in_ok-types.types) c.loop-pending.pending =
    c.in_ok-done.ensures.words ∙ ap (λ types. c.loop-pending.done ++ map (with_type types) c.loop-pending.pending) c.in_ok-new.ensures.types in
    record {
      here = place.position;
      adds = λ all h old. c.in_ok-types.ensures.adds all h (c.loop-pending.invariant.adds all h old);
      keeps = keeps_then c.args.names.now c.loop-pending.names c.kind_of.new.names c.loop-pending.invariant.keeps c.in_ok-types.ensures.keeps;
      closed = ap (λ k. end_of (parts_at c.args.s.now k)) place.number ∙ c.in_ok-types.ensures.closed ∙ same_end d;
      rest = (λ i. continued c.args.kind (record { seen = c.loop-pending.seen; done = done i; pending = c.new-pending-then-is_hyphen.ensures.empty i }, c.kind_of.new.names) (parts_at c.args.s.now (place.number i)))
          ∙ step_type c.args.kind (here d) c.loop-pending.names c.in-Word.at (folded c.in-Word.word.now) (parts_at c.args.s.now c.in-Word.next.token) ((c.in_ok-types.types, parts_at c.args.s.now c.in_ok-types.behind), c.kind_of.new.names) h c.in_ok-types.ensures.gives
          ∙ met d;
    }

pub returns-in_err-param-clause-gives : goal.returns-in_err-param-clause-gives
returns-in_err-param-clause-gives c =
    let p = err_from_is_err_and c.from_residual-in_err-param.result c.from_residual-in_err-param.ensures.1 in
    let d = (goal.at.returns-in_err-param-clause-gives c).In-Word in
    let h : hyphen_due c.loop-pending.pending (folded c.in-Word.word.now) ≡ false = elim c.else-len-gt0.branch [
      | else-len-gt0-via-then-len-gt0+else-is_hyphen w ↦ hyphen_of c.loop-pending.pending (folded c.in-Word.word.now) (rw c.len.ensures.length at w.if-len-gt0.true) ∙ sym w.is_hyphen.ensures.hyphen ∙ w.if-is_hyphen.false
      | else-len-gt0-via-else-len-gt0 w ↦ no_hyphen c.loop-pending.pending (folded c.in-Word.word.now) (rw c.len.ensures.length at w.if-len-gt0.false)
    ] in
    rw (p.1, p.2) (subst (Fails c.in_err-param.field-0.0) (met d) (stop_word c.in_err-param.field-0.0 c.args.kind (here d) c.loop-pending.names c.in-Word.at (folded c.in-Word.word.now) (parts_at c.args.s.now c.in-Word.next.token) h c.in_err-param.ensures.gives))

pub loop-pending-preserved : goal.loop-pending-preserved
loop-pending-preserved c =
    let d = (goal.at.loop-pending-preserved c).In-Word in
    let h : hyphen_due c.loop-pending.pending (folded c.in-Word.word.now) ≡ false = elim c.else-len-gt0.branch [
      | else-len-gt0-via-then-len-gt0+else-is_hyphen w ↦ hyphen_of c.loop-pending.pending (folded c.in-Word.word.now) (rw c.len.ensures.length at w.if-len-gt0.true) ∙ sym w.is_hyphen.ensures.hyphen ∙ w.if-is_hyphen.false
      | else-len-gt0-via-else-len-gt0 w ↦ no_hyphen c.loop-pending.pending (folded c.in-Word.word.now) (rw c.len.ensures.length at w.if-len-gt0.false)
    ] in
    let is = c.in-Word.is in
    let said = c.in_ok-at.ensures.said in
    let says = rw is at said in
    let place = c.in_ok-at.ensures.position in
    record {
      here = rw is at place;
      adds = λ all h old. c.in_ok-param.ensures.adds all (says all h) (c.loop-pending.invariant.adds all h old);
      keeps = keeps_then c.args.names.now c.loop-pending.names c.param_of.new.names c.loop-pending.invariant.keeps c.in_ok-param.ensures.keeps;
      closed = same_end d;
      rest = (λ i. continued c.args.kind (record { seen = c.param_of.new.seen; done = c.loop-pending.done; pending = c.in_ok-push.ensures.pushed i }, c.param_of.new.names) (parts_at c.args.s.now c.in-Word.next.token))
          ∙ step_word c.args.kind (here d) c.loop-pending.names c.in-Word.at (folded c.in-Word.word.now) (parts_at c.args.s.now c.in-Word.next.token) (c.in_ok-param.param, (c.param_of.new.names, c.param_of.new.seen)) h c.in_ok-param.ensures.gives
          ∙ met d;
    }

pub returns-clause-gives : goal.returns-clause-gives
returns-clause-gives c =
    let gives = c.in_ok-at.ensures.gives in
    let never = c.in_default.not-Word in
    let here : Listing = record { seen = c.loop-pending.seen; done = c.loop-pending.done; pending = c.loop-pending.pending } in
    let all : c.in_ok-with_words.field-0 ≡ c.loop-pending.done ++ map (with_type []) c.loop-pending.pending =
    c.in_ok-with_words.ensures.words ∙ ap (λ types. c.loop-pending.done ++ map (with_type types) c.loop-pending.pending) c.none.ensures.none in
    sym c.loop-pending.invariant.rest ∙ list_end c.args.kind here c.loop-pending.names (parts_at c.args.s.now c.loop-pending.p.token) (rw (no_word c.args.s.now c.in_ok-at.field-0 never) at gives)
    ∙ (λ i. Ok (sym all i, c.loop-pending.names))

pub returns-clause-closed : goal.returns-clause-closed
returns-clause-closed c =
    let gives = c.in_ok-at.ensures.gives in
    let never = c.in_default.not-Word in
    end_here (parts_at c.args.s.now c.loop-pending.p.token) (rw (no_word c.args.s.now c.in_ok-at.field-0 never) at gives) ∙ c.loop-pending.invariant.closed

pub returns-in_err-types-clause-keeps : goal.returns-in_err-types-clause-keeps
returns-in_err-types-clause-keeps c = keeps_then c.args.names.now c.loop-pending.names c.kind_of.new.names c.loop-pending.invariant.keeps c.in_err-types.ensures.keeps

pub returns-in_err-types-clause-adds : goal.returns-in_err-types-clause-adds
returns-in_err-types-clause-adds c all h old = c.in_err-types.ensures.adds all h (c.loop-pending.invariant.adds all h old)

pub returns-in_err-new-clause-keeps : goal.returns-in_err-new-clause-keeps
returns-in_err-new-clause-keeps c = keeps_then c.args.names.now c.loop-pending.names c.kind_of.new.names c.loop-pending.invariant.keeps c.in_ok-types.ensures.keeps

pub returns-in_err-new-clause-adds : goal.returns-in_err-new-clause-adds
returns-in_err-new-clause-adds c all h old = c.in_ok-types.ensures.adds all h (c.loop-pending.invariant.adds all h old)

pub returns-in_err-done-clause-keeps : goal.returns-in_err-done-clause-keeps
returns-in_err-done-clause-keeps c = keeps_then c.args.names.now c.loop-pending.names c.kind_of.new.names c.loop-pending.invariant.keeps c.in_ok-types.ensures.keeps

pub returns-in_err-done-clause-adds : goal.returns-in_err-done-clause-adds
returns-in_err-done-clause-adds c all h old = c.in_ok-types.ensures.adds all h (c.loop-pending.invariant.adds all h old)

pub returns-in_err-param-clause-keeps : goal.returns-in_err-param-clause-keeps
returns-in_err-param-clause-keeps c = keeps_then c.args.names.now c.loop-pending.names c.param_of.new.names c.loop-pending.invariant.keeps c.in_err-param.ensures.keeps

pub returns-in_err-param-clause-adds : goal.returns-in_err-param-clause-adds
returns-in_err-param-clause-adds c all h old =
    let is = c.in-Word.is in
    let said = c.in_ok-at.ensures.said in
    let says = rw is at said in
    c.in_err-param.ensures.adds all (says all h) (c.loop-pending.invariant.adds all h old)

pub returns-in_err-push-clause-keeps : goal.returns-in_err-push-clause-keeps
returns-in_err-push-clause-keeps c = keeps_then c.args.names.now c.loop-pending.names c.param_of.new.names c.loop-pending.invariant.keeps c.in_ok-param.ensures.keeps

pub returns-in_err-push-clause-adds : goal.returns-in_err-push-clause-adds
returns-in_err-push-clause-adds c all h old =
    let is = c.in-Word.is in
    let said = c.in_ok-at.ensures.said in
    let says = rw is at said in
    c.in_ok-param.ensures.adds all (says all h) (c.loop-pending.invariant.adds all h old)
