use Rattle.std.proofs.Common.{◌≡◌, ◌<◌, ◌+◌, ◌-◌, List, length, get_or, slice_get, Some, ap, sym, ◌∙◌, arith}
use Rattle.std.proofs.lemmas.Result.{IfOk-weaker}
use Rattle.plan_model.specs.declared.schemas.ActionSchema.{ActionSchema}
use Rattle.slot_encoding.proofs.slot_declarations.CheckedMethods.{checks-count}
use Rattle.stack_encoding.specs.StackActions as actions
use Rattle.stack_encoding.specs.StackValue.{stack_methods, stack_checks}
use Rattle.stack_encoder.specs.Heads.{all_actions}
use Rattle.stack_encoder.proofs.ActionPlaces.{actions-length, source-at, at-method, at-check, at-source}
use Rattle.stack_encoder.proofs.encoding.StackEncoding.action.Goals as goal

pub overflow_cast-checks : goal.overflow_cast-checks
overflow_cast-checks c =
    let is = c.requires.encoding.basis in
    omega (arith, c.len-checks.ensures.length, checks-count c.args.c.now.methods c.args.self.now.basis.checks is.checks, is.numbers.few)

pub bounds-as_slice-a : goal.bounds-as_slice-a
bounds-as_slice-a c =
    let e = c.args.self.now in
    let is = c.requires.encoding.basis in
    omega (arith, c.requires.some, actions-length c.args.c.now e.names e.cells, ap length is.checks.methods, c.len-methods.ensures.length, c.len-checks.ensures.length, ap length c.as_slice.ensures.items, c.if-k-methods.false, c.if-k-methods-2.false)

pub returns-then-k-methods : goal.returns-then-k-methods
returns-then-k-methods c =
    let e = c.args.self.now in
    let at = at-method c.args.c.now e.names e.cells c.args.k (omega (arith, c.len-methods.ensures.length, c.if-k-methods.true)) in
    record {
      action = IfOk-weaker c.stack_method.result (λ (a : ActionSchema). slice_get (stack_methods c.args.c.now e.names e.cells 0 c.args.c.now.methods) c.args.k ≡ Some a) (λ (a : ActionSchema). slice_get (all_actions c.args.c.now e) c.args.k ≡ Some a) (λ a is. at ∙ is)
          c.stack_method.ensures;
    }

pub returns-then-k-methods-2 : goal.returns-then-k-methods-2
returns-then-k-methods-2 c =
    let e = c.args.self.now in
    let j = c.args.k - c.len-methods.result in
    let from : c.args.k ≡ length c.args.c.now.methods + j = omega (arith, c.len-methods.ensures.length, c.if-k-methods.false) in
    let at = at-check c.args.c.now e.names e.cells j c.args.k from (omega (arith, c.if-k-methods-2.true, c.len-checks.ensures.length, ap length c.requires.encoding.basis.checks.methods)) in
    record {
      action = IfOk-weaker c.stack_check.result (λ (a : ActionSchema). slice_get (stack_checks c.args.c.now e.names e.cells 0 c.args.c.now.methods) j ≡ Some a) (λ (a : ActionSchema). slice_get (all_actions c.args.c.now e) c.args.k ≡ Some a) (λ a is. at ∙ is)
          c.stack_check.ensures;
    }

pub returns-else-k-methods-2 : goal.returns-else-k-methods-2
returns-else-k-methods-2 c =
    let e = c.args.self.now in
    let sources = c.args.c.now.hddl.actions in
    let is = c.requires.encoding.basis in
    let a = c.args.k - c.len-methods.result - c.len-checks.result in
    let s = c.index-as_slice-a.result in
    let some : a < length sources = omega (arith, c.requires.some, actions-length c.args.c.now e.names e.cells, ap length is.checks.methods, c.len-methods.ensures.length, c.len-checks.ensures.length, c.if-k-methods.false, c.if-k-methods-2.false) in
    let same = ap (λ (xs : List ActionSchema). get_or xs a s) (sym c.as_slice.ensures.items) ∙ sym c.index-as_slice-a.is in
    let at =
    at-source c.args.c.now e.names e.cells a c.args.k (omega (arith, ap length is.checks.methods, c.len-methods.ensures.length, c.len-checks.ensures.length, c.if-k-methods.false, c.if-k-methods-2.false))
    ∙ source-at c.args.c.now e.names e.cells a s some ∙ ap (λ (t : ActionSchema). Some (actions.stack_action c.args.c.now e.names e.cells a t)) same in
    record {
      action = IfOk-weaker c.stack_action.result (λ (t : ActionSchema). t ≡ actions.stack_action c.args.c.now e.names e.cells a s) (λ (t : ActionSchema). slice_get (all_actions c.args.c.now e) c.args.k ≡ Some t) (λ t same. at ∙ ap Some (sym same)) c.stack_action.ensures;
    }
