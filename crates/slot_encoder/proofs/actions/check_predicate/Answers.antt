use Rattle.std.proofs.Common.{ℕ, List, IfOk, ◌≡◌, ◌+◌, length, get_or, ap, subst, ◌∙◌, arith}
use Rattle.std.proofs.lemmas.List.{length-map}
use Rattle.plan_model.specs.task_networks.Spelling.{numbers}
use Rattle.plan_model.proofs.task_networks.Numbers.{length-numbers}
use Rattle.slot_encoding.specs.EncodedNames as names
use Rattle.slot_encoding.specs.slot_declarations.Pieces.{checks_before}
use Rattle.slot_encoder.proofs.ActionPlaces.{map_numbers-at}
use Rattle.slot_encoder.proofs.actions.check_predicate.Goals as goal

pub bounds-as_slice-m : goal.bounds-as_slice-m
bounds-as_slice-m c =
    let plans = c.args.frame.now.compiled.now.methods in
    let e = ap length (c.as_slice.ensures.items ∙ c.requires.frame.checks.before) ∙ length-map (numbers 0 (length plans)) (checks_before plans) ∙ length-numbers 0 (length plans) in
    omega (arith, e, c.requires.some)

pub returns : goal.returns
returns c =
    let m = c.args.m in
    let own = c.args.frame.now.compiled.now in
    let same : 0 + m ≡ m = omega arith in
    let read = ap (λ (xs : List ℕ). get_or xs m 0) (c.as_slice.ensures.items ∙ c.requires.frame.checks.before) ∙ map_numbers-at (checks_before own.methods) 0 (length own.methods) m c.requires.some ∙ ap (checks_before own.methods) same in
    subst (λ (p : ℕ). IfOk c.plus.result (λ q. q ≡ p)) (ap (λ n. n + get_or c.as_slice.result.now m 0) c.requires.frame.numbers.first_check ∙ ap (λ k. names.first_check own + k) read) c.plus.ensures
