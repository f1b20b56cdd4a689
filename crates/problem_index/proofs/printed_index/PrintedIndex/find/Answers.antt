use Rattle.std.proofs.Common.{sym, subst, ◌∙◌, true≢false, codes}
use Rattle.std.proofs.lemmas.Slice.Eq.{bytes_eq-Decides}
use Rattle.problem_index.specs.Printed.{in_print, StandsFor}
use Rattle.problem_index.proofs.PrintedNames as laws
use Rattle.problem_index.proofs.printed_index.PrintedIndex.find.Goals as goal

pub returns-then-is_start : goal.returns-then-is_start
returns-then-is_start c =
    let top = laws.first_of c.args.compiled.now.methods (λ e. c.if-len-eq0.false (c.len.ensures.length ∙ e)) in
    laws.start_found c.args.compiled.now c.requires.names c.args.word.now ((bytes_eq-Decides c.args.word.now (codes "htn_start")).0 (sym c.is_start.ensures ∙ c.if-is_start.true)) top.0 top.1

pub returns-in_err-place : goal.returns-in_err-place
returns-in_err-place c =
    subst (StandsFor c.args.compiled.now c.args.word.now) (sym c.from_residual.ensures)
    (laws.method_none c.args.compiled.now c.requires.names c.args.word.now c.in-Some.name.now c.in-Some.ensures c.in_err-place.ensures)

pub returns-in-Some : goal.returns-in-Some
returns-in-Some c = laws.method_found c.args.compiled.now c.requires.names c.args.word.now c.in-Some.name.now c.in-Some.ensures c.in_ok-place.place c.in_ok-place.ensures

pub returns-in_err-place-2 : goal.returns-in_err-place-2
returns-in_err-place-2 c =
    subst (StandsFor c.args.compiled.now c.args.word.now) (sym c.from_residual-in_err-place-2.ensures)
    (laws.check_none c.args.compiled.now c.requires.names c.args.word.now c.in-Some-behind.name.now c.in-Some-behind.ensures c.in_err-place-2.ensures)

pub returns-in_err-plan : goal.returns-in_err-plan
returns-in_err-plan c =
    subst (StandsFor c.args.compiled.now c.args.word.now) (sym c.from_residual-in_err-plan.ensures)
    (laws.check_gone c.args.compiled.now c.requires.names c.args.word.now c.in-Some-behind.name.now c.in-Some-behind.ensures c.in_ok-place-2.place c.in_ok-place-2.ensures (sym c.in_err-plan.ensures.item))

pub returns-then-plan : goal.returns-then-plan
returns-then-plan c =
    laws.check_found c.args.compiled.now c.requires.names c.args.word.now c.in-Some-behind.name.now c.in-Some-behind.ensures c.in_ok-place-2.place c.in_ok-plan.plan.now c.in_ok-place-2.ensures (sym c.in_ok-plan.ensures.item) c.if-plan.true

pub returns-in-Some-behind : goal.returns-in-Some-behind
returns-in-Some-behind c =
    laws.check_unchecked c.args.compiled.now c.requires.names c.args.word.now c.in-Some-behind.name.now c.in-Some-behind.ensures c.in_ok-place-2.place c.in_ok-plan.plan.now c.in_ok-place-2.ensures (sym c.in_ok-plan.ensures.item)
    (λ t. true≢false (sym t ∙ c.if-plan.false))

pub returns-in_err-place-3 : goal.returns-in_err-place-3
returns-in_err-place-3 c =
    subst (StandsFor c.args.compiled.now c.args.word.now) (sym c.from_residual-in_err-place-3.ensures)
    (laws.action_none c.args.compiled.now c.requires.names c.args.word.now
    (λ e. true≢false (sym ((bytes_eq-Decides c.args.word.now (codes "htn_start")).1 e) ∙ (sym c.is_start.ensures ∙ c.if-is_start.false)))
    c.in_default.ensures c.in_default-behind.ensures (c.in_err-place-3.ensures (in_print c.args.compiled.now.hddl) c.requires.index.indexed))

pub returns : goal.returns
returns c = laws.action_found c.args.compiled.now c.requires.names c.args.word.now c.in_ok-place-3.place (c.in_ok-place-3.ensures (in_print c.args.compiled.now.hddl) c.requires.index.indexed)
