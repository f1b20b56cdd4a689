use Rattle.std.proofs.Common.{◌≡◌, None, refl, sym, ap, ◌∙◌, arith, true≢false}
use Rattle.std.specs.Option.{is_some}
use Rattle.kept_front.specs.Leaves.{leaf_at}
use Rattle.tree_decoder.proofs.Lists.{next_below, none_of}
use Rattle.tree_decoder.proofs.decoder.holds_some.Goals as goal

pub loop-slot-preserved : goal.loop-slot-preserved
loop-slot-preserved c =
    next_below (λ x. leaf_at c.args.front.now.leaves x ≡ None) c.loop-slot.slot c.loop-slot.invariant
    (sym c.leaf.ensures ∙ none_of c.leaf.result (sym c.is_some.ensures ∙ c.if-is_some.false))

pub returns-then-is_some : goal.returns-then-is_some
returns-then-is_some c = (
  λ t. (c.loop-slot.slot, c.loop-slot.auto.slot, omega arith, ap is_some (sym c.leaf.ensures) ∙ sym c.is_some.ensures ∙ c.if-is_some.true),
  λ h. refl,
)

pub returns : goal.returns
returns c = (
  λ t. absurd (true≢false (sym t)),
  λ h. (
      let (x, l, m, some) = h in
      absurd (true≢false (sym some ∙ ap is_some (c.loop-slot.invariant x l (omega arith))))),
)
