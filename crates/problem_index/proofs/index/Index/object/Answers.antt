use Rattle.std.proofs.Common.{sym, subst, ◌∙◌, true≢false, Some, None}
use Rattle.problem_index.specs.Index.{IsTheArgument}
use Rattle.problem_index.proofs.IndexLaws.{object_found, argument_none, argument_some, argument_other, in_problem, in_world}
use Rattle.problem_index.proofs.index.Index.object.Goals as goal

pub returns-in_err-object : goal.returns-in_err-object
returns-in_err-object c p are =
    subst (IsTheArgument p c.args.word.now c.args.ty) (sym c.from_residual.ensures)
    (argument_none p c.args.word.now c.args.ty (object_found p c.args.self.now c.args.word.now None are.indexed c.in_err-object.ensures))

pub returns-then-has : goal.returns-then-has
returns-then-has c p are =
    let x = c.in_ok-object.object in
    let found = object_found p c.args.self.now c.args.word.now (Some x) are.indexed c.in_ok-object.ensures in
    argument_some p are.apart c.args.word.now c.args.ty x found (in_problem p c.args.self.now c.args.world.now are x c.args.ty (c.has.ensures.0 c.if-has.true))

pub returns : goal.returns
returns c p are =
    let x = c.in_ok-object.object in
    let found = object_found p c.args.self.now c.args.word.now (Some x) are.indexed c.in_ok-object.ensures in
    argument_other p are.apart c.args.word.now c.args.ty x found
    (λ t. true≢false (sym (c.has.ensures.1 (in_world p c.args.self.now c.args.world.now are x c.args.ty t)) ∙ c.if-has.false))
