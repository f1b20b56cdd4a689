use Rattle.std.proofs.Common.{ℕ, Contains, ◌<◌, ◌↔◌, ◌≡◌, ◌+◌, sym, subst, ◌∙◌, arith}
use Rattle.std.proofs.lemmas.Bool.{false≢true}
use Rattle.plan_model.specs.net_order.Answers.{maximal}
use Rattle.plan_model.proofs.Numbers.{AreFound, found_more, found_less}
use Rattle.bound_calc.specs.method_precs.Ordered.{IsCopier}
use Rattle.bound_calc.proofs.Options.{other}
use Rattle.bound_calc.proofs.method_precs.orders.Ordered.of.Goals as goal
use Rattle.bound_calc.proofs.method_precs.orders.Ordered.of.Goals.{then-ne+then-maximal+in_ok-push, else-ne, else-ne-via-then-ne+else-maximal, else-ne-via-else-ne}

pub loop-child-preserved : goal.loop-child-preserved
loop-child-preserved c =
    let P : ℕ → Type 0 = IsCopier (maximal c.args.order.now) c.heir-heir.result in
    let i = c.loop-child.child in
    let told = other c.heir-heir.result c.loop-child.child in
    elim c.if-ne.branch [
      | then-ne+then-maximal+in_ok-push w ↦
          subst (AreFound P (i + 1)) (sym (w.copiers-is ∙ w.in_ok-push.ensures.pushed)) (found_more P i c.loop-child.copiers c.loop-child.invariant (sym w.maximal.ensures ∙ w.if-maximal.true, told.0 (sym c.ne.ensures ∙ w.if-ne.true)))
      | else-ne w ↦
          subst (AreFound P (i + 1)) (sym w.copiers-is) (found_less P i c.loop-child.copiers c.loop-child.invariant (λ t. elim w.else-ne.branch [
            | else-ne-via-then-ne+else-maximal v ↦ false≢true (sym v.if-maximal.false ∙ (v.maximal.ensures ∙ t.0))
            | else-ne-via-else-ne v ↦ false≢true (sym v.if-ne.false ∙ (c.ne.ensures ∙ told.1 t.1))
          ]))
    ]

pub returns : goal.returns
returns c =
    let end : c.loop-child.child ≡ c.args.count = let a = c.loop-child.auto.child-end in let b = c.loop-child-test.false in omega arith in
    record {
      ordered = record {
        line = c.in_ok-copy.ensures.equal ∙ c.line.ensures;
        heir = c.heir-heir.ensures;
        copiers = record {
          each = λ i. subst (λ n. Contains c.loop-child.copiers i ↔ ((i < n) × IsCopier (maximal c.args.order.now) c.heir-heir.result i)) end (c.loop-child.invariant.each i);
          in_order = c.loop-child.invariant.rising;
        };
      };
    }
