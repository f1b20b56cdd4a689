use Rattle.std.proofs.Common.{ℕ, [], ◌∷◌, ◌++◌, ap, ◌∙◌}
use Rattle.name_binding.specs.declared.heads.Head.{Head}
use Rattle.hddl_bind.proofs.Steps.{map_step}
use Rattle.hddl_bind.specs.DeclaredNames.{head_declared}
use Rattle.hddl_bind.proofs.declared.predicates_declared.Goals as goal

pub loop-head-preserved : goal.loop-head-preserved
loop-head-preserved c =
    let xs = c.args.heads.now in
    let i = c.loop-head.head-index in
    let x = c.head-item.result in
    let made : ℕ → Head = λ arity. record { name = x.name.name; arity = arity } in
    record {
      declared = map_step xs i x x c.loop-head-test.true c.head-item.is head_declared _ _ c.loop-head.invariant.declared (c.in_ok-declare.ensures.declared ∙ ap (λ arity. c.loop-head.predicates ++ made arity ∷ []) (c.in_ok-arity.ensures.same ∙ c.len.ensures.length));
    }
