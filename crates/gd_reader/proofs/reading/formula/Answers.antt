use Rattle.std.proofs.Common.{sym, ◌∙◌, ap, subst}
use Rattle.text_forms.specs.Placed.{parts_at}
use Rattle.gd_reader.specs.Answers.{◌>>=◌, Fails, list_due}
use Rattle.gd_reader.specs.Formulas.{inside, formula_read}
use Rattle.gd_reader.specs.Grammar.{formula_form}
use Rattle.gd_reader.specs.Reading.{Refuses}
use Rattle.gd_reader.proofs.FirstToken.{is_read, refuses, not_ended}
use Rattle.gd_reader.proofs.FormulaExact.{formula_exact, inside_exact}
use Rattle.gd_reader.proofs.Steps.{fails_bind}
use Rattle.gd_reader.proofs.reading.formula.Goals as goal

pub returns-in-Ok-inside_of-clause-read : goal.returns-in-Ok-inside_of-clause-read
unfolding formula_read
returns-in-Ok-inside_of-clause-read c =
    let read = ap (λ r. r >>= (λ g. inside c.args.names.now g.0)) c.in-Ok.ensures.gives ∙ c.in-Ok-inside_of.ensures.gives in
    is_read formula_form (formula_read c.args.names.now) (λ p. formula_exact p c.args.names.now) c.args.s.now c.args.at (c.in-Ok-inside_of.value, c.inside_of.new.names) read

pub returns-in-Err-inside_of-clause-refused : goal.returns-in-Err-inside_of-clause-refused
unfolding formula_read
returns-in-Err-inside_of-clause-refused c =
    let first = parts_at c.args.s.now c.in-Ok.found.0 in
    let failure = c.in-Err-inside_of.failure in
    let gives = c.in-Err-inside_of.ensures.gives in
    let read = subst (λ r. Fails failure (r >>= (λ g. inside c.args.names.now g.0))) (sym c.in-Ok.ensures.gives) gives in
    let on = not_ended (inside c.args.names.now first) failure gives ((inside_exact first c.args.names.now).goes_on c.in-Ok.ensures.closed.1.whole) in
    subst (Refuses formula_form (formula_read c.args.names.now) c.args.s.now c.args.at c.args.file) (sym c.refusal-in-Err-inside_of.ensures.refusal)
    (refuses formula_form (formula_read c.args.names.now) (λ p. formula_exact p c.args.names.now) c.args.s.now c.args.at c.args.file c.text_len-in-Err-inside_of.result failure read on)

pub returns-in-Err-clause-refused : goal.returns-in-Err-clause-refused
unfolding formula_read
returns-in-Err-clause-refused c =
    let failure = c.in-Err.failure in
    let read = fails_bind failure (list_due (parts_at c.args.s.now c.args.at)) (λ g. inside c.args.names.now g.0) c.in-Err.ensures.gives in
    subst (Refuses formula_form (formula_read c.args.names.now) c.args.s.now c.args.at c.args.file) (sym c.refusal.ensures.refusal)
    (refuses formula_form (formula_read c.args.names.now) (λ p. formula_exact p c.args.names.now) c.args.s.now c.args.at c.args.file c.text_len.result failure read (c.in-Err.ensures.goes_on c.requires.token))
