use Rattle.std.proofs.Common.{◌≡◌, ◌<◌, ◌+◌, ◌-◌, List, length, get_or, Some, ap, sym, ◌∙◌, arith}
use Rattle.plan_model.specs.declared.options.Slots.{Slots}
use Rattle.plan_model.specs.declared.options.Slots.TheVariants.{Any}
use Rattle.plan_model.specs.declared.schemas.ActionSchema.{ActionSchema}
use Rattle.slot_encoder.specs.Made as made
use Rattle.slot_encoder.specs.Rules as rules
use Rattle.slot_encoding.proofs.slot_declarations.CheckedMethods.{checks-count}
use Rattle.slot_encoder.proofs.ActionPlaces.{actions-length, source-at, at-method, at-check, at-source, placed, placed_among}
use Rattle.slot_encoder.proofs.actions.action_at.Goals as goal

pub overflow_cast-checks : goal.overflow_cast-checks
overflow_cast-checks c =
    let f = c.args.frame.now in
    omega (arith, c.len-checks.ensures.length, checks-count f.compiled.now.methods f.basis.now.checks c.requires.frame.checks, c.requires.frame.numbers.few)

pub bounds-as_slice-a : goal.bounds-as_slice-a
bounds-as_slice-a c =
    let f = c.args.frame.now in
    omega (arith, c.requires.some, actions-length f.compiled.now f.printed.now f.slots f.style Any, ap length c.requires.frame.checks.methods, c.len-methods.ensures.length, c.len-checks.ensures.length, ap length c.as_slice.ensures.items, c.if-k-methods.false, c.if-k-methods-2.false)

pub returns-then-k-methods : goal.returns-then-k-methods
returns-then-k-methods c =
    let f = c.args.frame.now in
    let all = λ (rule : Slots). rules.actions rule f.compiled.now f.printed.now f.slots f.style in
    let methods = λ (rule : Slots). rules.methods rule f.compiled.now f.printed.now f.slots f.style in
    placed_among c.encoded_method.result f.compiled.now f.printed.now f.slots f.style all methods c.args.k c.args.k
    (λ rule. at-method f.compiled.now f.printed.now f.slots f.style rule c.args.k (omega (arith, c.len-methods.ensures.length, c.if-k-methods.true)))
    c.encoded_method.ensures

pub returns-then-k-methods-2 : goal.returns-then-k-methods-2
returns-then-k-methods-2 c =
    let f = c.args.frame.now in
    let j = c.args.k - c.len-methods.result in
    let e : c.args.k ≡ length f.compiled.now.methods + j = omega (arith, c.len-methods.ensures.length, c.if-k-methods.false) in
    let all = λ (rule : Slots). rules.actions rule f.compiled.now f.printed.now f.slots f.style in
    placed_among c.encoded_check.result f.compiled.now f.printed.now f.slots f.style all (λ rule. made.check_actions f f.compiled.now.methods) c.args.k j
    (λ rule. at-check f.compiled.now f.printed.now f.slots f.style rule j c.args.k e (omega (arith, c.if-k-methods-2.true, c.len-checks.ensures.length, ap length c.requires.frame.checks.methods)))
    c.encoded_check.ensures

pub returns-else-k-methods-2 : goal.returns-else-k-methods-2
returns-else-k-methods-2 c =
    let f = c.args.frame.now in
    let sources = f.compiled.now.hddl.actions in
    let a = c.args.k - c.len-methods.result - c.len-checks.result in
    let s = c.index-as_slice-a.result in
    let some : a < length sources = omega (arith, c.requires.some, actions-length f.compiled.now f.printed.now f.slots f.style Any, ap length c.requires.frame.checks.methods, c.len-methods.ensures.length, c.len-checks.ensures.length, c.if-k-methods.false, c.if-k-methods-2.false) in
    let is = ap (λ (xs : List ActionSchema). get_or xs a s) (sym c.as_slice.ensures.items) ∙ sym c.index-as_slice-a.is in
    let at = source-at f.compiled.now f.printed.now f.slots f.style a s some ∙ ap (λ (t : ActionSchema). Some (made.source_action f a t)) is in
    let all = λ (rule : Slots). rules.actions rule f.compiled.now f.printed.now f.slots f.style in
    placed_among c.encoded_action.result f.compiled.now f.printed.now f.slots f.style all (λ rule. made.source_actions f sources) c.args.k a
    (λ rule. at-source f.compiled.now f.printed.now f.slots f.style rule a c.args.k (omega (arith, ap length c.requires.frame.checks.methods, c.len-methods.ensures.length, c.len-checks.ensures.length, c.if-k-methods.false, c.if-k-methods-2.false)))
    (placed c.encoded_action.result f.compiled.now f.printed.now f.slots f.style (λ rule. made.source_actions f sources) a (made.source_action f a s) (λ rule. at) c.encoded_action.ensures)
