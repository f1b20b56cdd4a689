use Rattle.std.proofs.Common.{◌≡◌, ◌+◌, ◌-◌, ◌++◌, ◌∷◌, [], Bool, ap, sym, ◌∙◌, arith}
use Rattle.plan_model.specs.Pairs.{pair}
use Rattle.plan_texts.specs.Networks.{chain_if}
use Rattle.hddl_bind.proofs.ChainPairs.{chain_more, chain_all}
use Rattle.hddl_bind.proofs.pairs.chain_of.Goals as goal
use Rattle.hddl_bind.proofs.pairs.chain_of.Goals.{then-ordered+in_ok-number+else-loop-first-test, else-ordered}

pub loop-first-preserved : goal.loop-first-preserved
loop-first-preserved c =
    c.in_ok-push.ensures.pushed ∙ ap (λ ps. ps ++ pair c.loop-first.first (c.loop-first.first + 1) ∷ []) c.loop-first.invariant ∙ sym (chain_more c.loop-first.first)

pub returns : goal.returns
returns c = elim c.if-ordered.branch [
  | then-ordered+in_ok-number+else-loop-first-test w ↦
      let whole : w.loop-first.first ≡ c.args.count - 1 = omega (arith, w.in_ok-number.ensures.same) in
      w.pairs-is ∙ w.loop-first.invariant ∙ chain_all c.args.count w.loop-first.first whole ∙ ap (λ (b : Bool). chain_if b c.args.count) (sym w.if-ordered.true)
  | else-ordered w ↦ w.pairs-is ∙ c.new-pairs.ensures.empty ∙ ap (λ (b : Bool). chain_if b c.args.count) (sym w.if-ordered.false)
]
