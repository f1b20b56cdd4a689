use Rattle.std.proofs.Common.{◌≡◌, Bool, ◌++◌, [], ap, sym, ◌∙◌, arith}
use Rattle.std.proofs.lemmas.List.{append-nil}
use Rattle.std.proofs.lemmas.Result.{err_from_is_err_and}
use Rattle.htn_base.specs.Table.{with_word}
use Rattle.htn_base.specs.Words.{folded}
use Rattle.text_forms.specs.Placed.{parts_at}
use Rattle.text_forms.specs.Words.{is_among}
use Rattle.gd_reader.specs.Answers.{with_front}
use Rattle.gd_reader.specs.TypedLists.{more_names, unless}
use Rattle.gd_reader.proofs.Keeping.{keeps_same, keeps_then}
use Rattle.gd_reader.proofs.Steps.{is_none, some_names_is}
use Rattle.gd_reader.proofs.UnionSteps.{names_end, names_stuck, names_stop, names_next, names_start}
use Rattle.gd_reader.proofs.kind.some_names_of.Goals as goal

pub returns-in_err-at-clause-keeps : goal.returns-in_err-at-clause-keeps
returns-in_err-at-clause-keeps c = grind (arith, keeps_same, keeps_then, some_names_is)

pub returns-in_err-at-clause-adds : goal.returns-in_err-at-clause-adds
returns-in_err-at-clause-adds c = grind (arith, keeps_same, keeps_then, some_names_is)

pub returns-in_err-at-clause-gives : goal.returns-in_err-at-clause-gives
returns-in_err-at-clause-gives c = grind (arith, keeps_same, keeps_then, some_names_is)

pub returns-in_err-first-clause-keeps : goal.returns-in_err-first-clause-keeps
returns-in_err-first-clause-keeps c = grind (arith, keeps_same, keeps_then, some_names_is)

pub returns-in_err-first-clause-adds : goal.returns-in_err-first-clause-adds
returns-in_err-first-clause-adds c = grind (arith, keeps_same, keeps_then, some_names_is)

pub returns-in_err-first-clause-gives : goal.returns-in_err-first-clause-gives
returns-in_err-first-clause-gives c = grind (arith, keeps_same, keeps_then, some_names_is)

pub returns-in_err-types-clause-keeps : goal.returns-in_err-types-clause-keeps
returns-in_err-types-clause-keeps c = grind (arith, keeps_same, keeps_then, some_names_is)

pub returns-in_err-types-clause-adds : goal.returns-in_err-types-clause-adds
returns-in_err-types-clause-adds c = grind (arith, keeps_same, keeps_then, some_names_is)

pub returns-in_err-types-clause-gives : goal.returns-in_err-types-clause-gives
returns-in_err-types-clause-gives c = grind (arith, keeps_same, keeps_then, some_names_is)

pub returns-in_err-see-clause-keeps : goal.returns-in_err-see-clause-keeps
returns-in_err-see-clause-keeps c = grind (arith, keeps_same, keeps_then, some_names_is)

pub returns-in_err-see-clause-adds : goal.returns-in_err-see-clause-adds
returns-in_err-see-clause-adds c = grind (arith, keeps_same, keeps_then, some_names_is)

pub returns-in_err-see-clause-gives : goal.returns-in_err-see-clause-gives
returns-in_err-see-clause-gives c = grind (arith, keeps_same, keeps_then, some_names_is)

pub returns-clause-keeps : goal.returns-clause-keeps
returns-clause-keeps c = grind (arith, keeps_same, keeps_then, some_names_is)

pub returns-clause-adds : goal.returns-clause-adds
returns-clause-adds c = grind (arith, keeps_same, keeps_then, some_names_is)

pub returns-in_err-at-2-clause-gives : goal.returns-in_err-at-2-clause-gives
returns-in_err-at-2-clause-gives c =
    let begun = names_start c.args.names.now (parts_at c.args.s.now c.args.i) (c.in_ok-at.at, folded c.in_ok-at.word.now, parts_at c.args.s.now c.in_ok-at.i) c.in_ok-first.first c.used_of.new.names c.see.new.seen c.in_ok-types.types
    c.in_ok-at.ensures.gives c.in_ok-first.ensures.gives c.in_ok-types.ensures (c.in_ok-see.ensures.table ∙ ap (λ t. with_word t (folded c.in_ok-at.word.now)) c.new-seen.ensures.empty) in
    let p = err_from_is_err_and c.from_residual-in_err-at-2.result c.from_residual-in_err-at-2.ensures.1 in
    rw (p.1, p.2) (names_stuck c.loop-seen.types (c.loop-seen.names, c.loop-seen.seen) (parts_at c.args.s.now c.loop-seen.i) _ (c.loop-seen.invariant.rest ∙ begun) c.in_err-at-2.field-0.0 c.in_err-at-2.ensures.gives)

pub returns-in_err-ty-clause-gives : goal.returns-in_err-ty-clause-gives
returns-in_err-ty-clause-gives c =
    let begun = names_start c.args.names.now (parts_at c.args.s.now c.args.i) (c.in_ok-at.at, folded c.in_ok-at.word.now, parts_at c.args.s.now c.in_ok-at.i) c.in_ok-first.first c.used_of.new.names c.see.new.seen c.in_ok-types.types
    c.in_ok-at.ensures.gives c.in_ok-first.ensures.gives c.in_ok-types.ensures (c.in_ok-see.ensures.table ∙ ap (λ t. with_word t (folded c.in_ok-at.word.now)) c.new-seen.ensures.empty) in
    let p = err_from_is_err_and c.from_residual-in_err-ty.result c.from_residual-in_err-ty.ensures.1 in
    let is = c.in-Some.is in
    let gives = c.in_ok-at-2.ensures.gives in
    rw (p.1, p.2) (names_stop c.loop-seen.types (c.loop-seen.names, c.loop-seen.seen) (parts_at c.args.s.now c.loop-seen.i) _ (c.loop-seen.invariant.rest ∙ begun) c.in_err-ty.field-0.0 (c.in-Some.at, folded c.in-Some.word.now, parts_at c.args.s.now c.in-Some.behind) (rw is at gives) c.in_err-ty.ensures.gives)

pub returns-clause-gives : goal.returns-clause-gives
returns-clause-gives c =
    let begun = names_start c.args.names.now (parts_at c.args.s.now c.args.i) (c.in_ok-at.at, folded c.in_ok-at.word.now, parts_at c.args.s.now c.in_ok-at.i) c.in_ok-first.first c.used_of.new.names c.see.new.seen c.in_ok-types.types
    c.in_ok-at.ensures.gives c.in_ok-first.ensures.gives c.in_ok-types.ensures (c.in_ok-see.ensures.table ∙ ap (λ t. with_word t (folded c.in_ok-at.word.now)) c.new-seen.ensures.empty) in
    let gives = c.in_ok-at-2.ensures.gives in
    let never = c.in_default.not-Some in
    names_end c.loop-seen.types (c.loop-seen.names, c.loop-seen.seen) (parts_at c.args.s.now c.loop-seen.i) _ (c.loop-seen.invariant.rest ∙ begun) (rw (is_none c.in_ok-at-2.field-0 never) at gives)

pub loop-seen-preserved : goal.loop-seen-preserved
loop-seen-preserved c =
    let is = c.in-Some.is in
    let gives = c.in_ok-at-2.ensures.gives in
    let said = c.in_ok-at-2.ensures.said in
    let says = rw is at said in
    let known : is_among (folded c.in-Some.word.now) c.loop-seen.seen ≡ _ = sym c.in_ok-see-2.ensures.known ∙ c.if-not-branch.false in
    let types = sym (append-nil c.loop-seen.types) ∙ ap (λ (b : Bool). c.loop-seen.types ++ unless b c.in_ok-ty.ty []) (sym known) in
    record {
      keeps = keeps_then c.used_of.new.names c.loop-seen.names c.used_of-in-Some.new.names c.loop-seen.invariant.keeps c.in_ok-ty.ensures.keeps;
      adds = λ all h old. c.in_ok-ty.ensures.adds all (says all h) (c.loop-seen.invariant.adds all h old);
      rest = (λ i. with_front (types i) (more_names (c.used_of-in-Some.new.names, c.in_ok-see-2.ensures.table i) (parts_at c.args.s.now c.in-Some.behind)))
          ∙ names_next c.loop-seen.types (c.loop-seen.names, c.loop-seen.seen) (parts_at c.args.s.now c.loop-seen.i) _ c.loop-seen.invariant.rest (c.in-Some.at, folded c.in-Some.word.now, parts_at c.args.s.now c.in-Some.behind) c.in_ok-ty.ty c.used_of-in-Some.new.names (rw is at gives) c.in_ok-ty.ensures.gives;
    }

pub loop-seen-preserved-in_ok-push : goal.loop-seen-preserved-in_ok-push
loop-seen-preserved-in_ok-push c =
    let is = c.in-Some.is in
    let gives = c.in_ok-at-2.ensures.gives in
    let said = c.in_ok-at-2.ensures.said in
    let says = rw is at said in
    let known : is_among (folded c.in-Some.word.now) c.loop-seen.seen ≡ _ = sym c.in_ok-see-2.ensures.known ∙ c.if-not-branch.true in
    let types = c.in_ok-push.ensures.pushed ∙ ap (λ (b : Bool). c.loop-seen.types ++ unless b c.in_ok-ty.ty []) (sym known) in
    record {
      keeps = keeps_then c.used_of.new.names c.loop-seen.names c.used_of-in-Some.new.names c.loop-seen.invariant.keeps c.in_ok-ty.ensures.keeps;
      adds = λ all h old. c.in_ok-ty.ensures.adds all (says all h) (c.loop-seen.invariant.adds all h old);
      rest = (λ i. with_front (types i) (more_names (c.used_of-in-Some.new.names, c.in_ok-see-2.ensures.table i) (parts_at c.args.s.now c.in-Some.behind)))
          ∙ names_next c.loop-seen.types (c.loop-seen.names, c.loop-seen.seen) (parts_at c.args.s.now c.loop-seen.i) _ c.loop-seen.invariant.rest (c.in-Some.at, folded c.in-Some.word.now, parts_at c.args.s.now c.in-Some.behind) c.in_ok-ty.ty c.used_of-in-Some.new.names (rw is at gives) c.in_ok-ty.ensures.gives;
    }

pub returns-in_err-at-2-clause-keeps : goal.returns-in_err-at-2-clause-keeps
returns-in_err-at-2-clause-keeps c = keeps_then c.args.names.now c.used_of.new.names c.loop-seen.names c.in_ok-first.ensures.keeps c.loop-seen.invariant.keeps

pub returns-in_err-at-2-clause-adds : goal.returns-in_err-at-2-clause-adds
returns-in_err-at-2-clause-adds c all h old = c.loop-seen.invariant.adds all h (c.in_ok-first.ensures.adds all (c.in_ok-at.ensures.said all h) old)

pub returns-in_err-ty-clause-keeps : goal.returns-in_err-ty-clause-keeps
returns-in_err-ty-clause-keeps c = keeps_then c.args.names.now c.loop-seen.names c.used_of-in-Some.new.names (keeps_then c.args.names.now c.used_of.new.names c.loop-seen.names c.in_ok-first.ensures.keeps c.loop-seen.invariant.keeps) c.in_err-ty.ensures.keeps

pub returns-in_err-ty-clause-adds : goal.returns-in_err-ty-clause-adds
returns-in_err-ty-clause-adds c all h old =
    let is = c.in-Some.is in
    let said = c.in_ok-at-2.ensures.said in
    let says = rw is at said in
    c.in_err-ty.ensures.adds all (says all h) (c.loop-seen.invariant.adds all h (c.in_ok-first.ensures.adds all (c.in_ok-at.ensures.said all h) old))

pub returns-in_err-see-2-clause-keeps : goal.returns-in_err-see-2-clause-keeps
returns-in_err-see-2-clause-keeps c = keeps_then c.args.names.now c.loop-seen.names c.used_of-in-Some.new.names (keeps_then c.args.names.now c.used_of.new.names c.loop-seen.names c.in_ok-first.ensures.keeps c.loop-seen.invariant.keeps) c.in_ok-ty.ensures.keeps

pub returns-in_err-see-2-clause-adds : goal.returns-in_err-see-2-clause-adds
returns-in_err-see-2-clause-adds c all h old =
    let is = c.in-Some.is in
    let said = c.in_ok-at-2.ensures.said in
    let says = rw is at said in
    c.in_ok-ty.ensures.adds all (says all h) (c.loop-seen.invariant.adds all h (c.in_ok-first.ensures.adds all (c.in_ok-at.ensures.said all h) old))

pub returns-in_err-push-clause-keeps : goal.returns-in_err-push-clause-keeps
returns-in_err-push-clause-keeps c = keeps_then c.args.names.now c.loop-seen.names c.used_of-in-Some.new.names (keeps_then c.args.names.now c.used_of.new.names c.loop-seen.names c.in_ok-first.ensures.keeps c.loop-seen.invariant.keeps) c.in_ok-ty.ensures.keeps

pub returns-in_err-push-clause-adds : goal.returns-in_err-push-clause-adds
returns-in_err-push-clause-adds c all h old =
    let is = c.in-Some.is in
    let said = c.in_ok-at-2.ensures.said in
    let says = rw is at said in
    c.in_ok-ty.ensures.adds all (says all h) (c.loop-seen.invariant.adds all h (c.in_ok-first.ensures.adds all (c.in_ok-at.ensures.said all h) old))
