use Rattle.std.proofs.Common.{ℕ, List, ◌≡◌, ◌∙◌, subst}
use Rattle.plan_model.specs.declared.options.Checks.TheVariants.{Leaf}
use Rattle.plan_model.specs.declared.values.Compiled.{Compiled}
use Rattle.made_transport.specs.Made.{made_domain}
use Rattle.command_words.specs.Words.{make_of}
use Rattle.htn_cli.specs.Making.{problem_of}
use Rattle.htn_cli.specs.MakeStops.{IsMadeAtBound, StopsAtBound}
use Rattle.htn_cli.specs.Problem.{SpellProblem}
use Rattle.htn_cli.proofs.Results.{if_ok_too, if_err_too}
use Rattle.htn_cli.proofs.Leavings.{soundly}
use Rattle.htn_cli.proofs.Makings.{gives_make, make_stops}
use Rattle.htn_cli.proofs.make.translated.Goals as goal

-- the compiled problem is of the made texts
made_too : (d q p : List ℕ) (c : Compiled) → d ≡ made_domain → q ≡ p → SpellProblem d q Leaf c → SpellProblem made_domain p Leaf c
made_too d q p c e f s = subst (λ z. SpellProblem made_domain z Leaf c) f (subst (λ z. SpellProblem z q Leaf c) e s)

pub output_at_bound-output-requires-clause-soundly : goal.output_at_bound-output-requires-clause-soundly
output_at_bound-output-requires-clause-soundly c =
    soundly c.as_slice.result.now c.as_slice-2.result.now Leaf c.in_ok-compiled.compiled c.in_ok-compiled.ensures.compiled

pub returns-clause-output : goal.returns-clause-output
returns-clause-output c =
    let r = make_of c.args.asked.now in
    let made = c.requires.made in
    let k = c.in_ok-compiled.compiled in
    let spelled = made_too c.as_slice.result.now c.as_slice-2.result.now (problem_of r) k (c.as_slice.ensures.bytes ∙ made.domain) (c.as_slice-2.ensures.bytes ∙ made.problem) c.in_ok-compiled.ensures.compiled in
    if_ok_too c.output_at_bound-output.result
    (λ output is. gives_make r k spelled output (subst (λ z. IsMadeAtBound r k z output) made.plan is))
    c.output_at_bound-output.ensures.output

pub returns-clause-refused : goal.returns-clause-refused
returns-clause-refused c =
    let r = make_of c.args.asked.now in
    let made = c.requires.made in
    let k = c.in_ok-compiled.compiled in
    let spelled = made_too c.as_slice.result.now c.as_slice-2.result.now (problem_of r) k (c.as_slice.ensures.bytes ∙ made.domain) (c.as_slice-2.ensures.bytes ∙ made.problem) c.in_ok-compiled.ensures.compiled in
    if_err_too c.output_at_bound-output.result
    (λ refusal is. make_stops r k spelled refusal (subst (λ z. StopsAtBound r k z refusal) made.plan is))
    c.output_at_bound-output.ensures.refused
