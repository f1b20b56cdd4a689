use Rattle.std.proofs.Common.{sym, ◌∙◌, ap, subst}
use Rattle.text_forms.specs.Placed.{parts_at}
use Rattle.gd_reader.specs.Answers.{◌>>=◌, Fails, list_due}
use Rattle.gd_reader.specs.Effects.{effect_inside, effect_read}
use Rattle.gd_reader.specs.Grammar.{effect_form}
use Rattle.gd_reader.specs.Reading.{Refuses}
use Rattle.gd_reader.proofs.FirstToken.{is_read, refuses, not_ended}
use Rattle.gd_reader.proofs.EffectExact.{effect_exact, effect_inside_exact}
use Rattle.gd_reader.proofs.Steps.{fails_bind}
use Rattle.gd_reader.proofs.reading.effect.Goals as goal

pub returns-in-Ok-effect_inside_of-clause-read : goal.returns-in-Ok-effect_inside_of-clause-read
unfolding effect_read
returns-in-Ok-effect_inside_of-clause-read c =
    let read = ap (λ r. r >>= (λ g. effect_inside c.args.names.now g.0)) c.in-Ok.ensures.gives ∙ c.in-Ok-effect_inside_of.ensures.gives in
    is_read effect_form (effect_read c.args.names.now) (λ p. effect_exact p c.args.names.now) c.args.s.now c.args.at (c.in-Ok-effect_inside_of.value, c.effect_inside_of.new.names) read

pub returns-in-Err-effect_inside_of-clause-refused : goal.returns-in-Err-effect_inside_of-clause-refused
unfolding effect_read
returns-in-Err-effect_inside_of-clause-refused c =
    let first = parts_at c.args.s.now c.in-Ok.found.0 in
    let failure = c.in-Err-effect_inside_of.failure in
    let gives = c.in-Err-effect_inside_of.ensures.gives in
    let read = subst (λ r. Fails failure (r >>= (λ g. effect_inside c.args.names.now g.0))) (sym c.in-Ok.ensures.gives) gives in
    let on = not_ended (effect_inside c.args.names.now first) failure gives ((effect_inside_exact first c.args.names.now).goes_on c.in-Ok.ensures.closed.1.whole) in
    subst (Refuses effect_form (effect_read c.args.names.now) c.args.s.now c.args.at c.args.file) (sym c.refusal-in-Err-effect_inside_of.ensures.refusal)
    (refuses effect_form (effect_read c.args.names.now) (λ p. effect_exact p c.args.names.now) c.args.s.now c.args.at c.args.file c.text_len-in-Err-effect_inside_of.result failure read on)

pub returns-in-Err-clause-refused : goal.returns-in-Err-clause-refused
unfolding effect_read
returns-in-Err-clause-refused c =
    let failure = c.in-Err.failure in
    let read = fails_bind failure (list_due (parts_at c.args.s.now c.args.at)) (λ g. effect_inside c.args.names.now g.0) c.in-Err.ensures.gives in
    subst (Refuses effect_form (effect_read c.args.names.now) c.args.s.now c.args.at c.args.file) (sym c.refusal.ensures.refusal)
    (refuses effect_form (effect_read c.args.names.now) (λ p. effect_exact p c.args.names.now) c.args.s.now c.args.at c.args.file c.text_len.result failure read (c.in-Err.ensures.goes_on c.requires.token))
