use Rattle.std.proofs.Common.{◌∙◌, ap, sym, arith}
use Rattle.std.specs.Option.{option_copied}
use Rattle.kept_front.proofs.Walking.{parent_before, walk_over, walk_with, none_missing}
use Rattle.kept_front.proofs.front.Front.walk.Goals as goal

pub lower-requires : goal.lower-requires
lower-requires c =
    let (b, acts, a, w) = c.loop-parent.invariant.some in
    let s = walk_with c.args.c.now c.requires.lawful b acts a c.loop-parent.self c.loop-parent.whole w c.args.later.now c.requires.later c.in-Some.parent (sym c.parent.ensures ∙ c.in-Some.is)
    c.in-Some-later.later.now (sym c.later.ensures ∙ ap option_copied c.in-Some-later.is) c.child-child.result c.child-child.ensures c.after.result.now c.after.ensures in
    record { may = s.may }

pub loop-parent-smaller : goal.loop-parent-smaller
loop-parent-smaller c =
    let (b, acts, a, w) = c.loop-parent.invariant.some in
    parent_before c.args.c.now c.requires.lawful b acts a c.loop-parent.self c.loop-parent.whole w c.in-Some.parent (sym c.parent.ensures ∙ c.in-Some.is)

pub returns-in_default-later-clause-front : goal.returns-in_default-later-clause-front
returns-in_default-later-clause-front c = λ b acts a w0.
    let w = c.loop-parent.invariant.all b acts a w0 in
    absurd (none_missing c.args.c.now c.requires.lawful b acts a c.loop-parent.self c.loop-parent.whole w c.args.later.now c.requires.later c.in-Some.parent (sym c.parent.ensures ∙ c.in-Some.is)
    (sym c.later.ensures ∙ ap option_copied c.in_default-later.is))

pub returns-then-unfinished-gt0-clause-front : goal.returns-then-unfinished-gt0-clause-front
returns-then-unfinished-gt0-clause-front c = λ b acts a w0.
    let w = c.loop-parent.invariant.all b acts a w0 in
    let s = walk_with c.args.c.now c.requires.lawful b acts a c.loop-parent.self c.loop-parent.whole w c.args.later.now c.requires.later c.in-Some.parent (sym c.parent.ensures ∙ c.in-Some.is)
    c.in-Some-later.later.now (sym c.later.ensures ∙ ap option_copied c.in-Some-later.is) c.child-child.result c.child-child.ensures c.after.result.now c.after.ensures in
    s.done c.lower.new.self c.lower.ensures.lowered (let e = c.unfinished.ensures in let t = c.if-unfinished-gt0.true in omega arith)

pub loop-parent-preserved : goal.loop-parent-preserved
loop-parent-preserved c = record {
  growths = c.lower.ensures.lowered.growths ∙ c.loop-parent.invariant.growths;
  sized = λ b s. c.lower.ensures.sized b (c.loop-parent.invariant.sized b s);
  some = (
      let (b, acts, a, w) = c.loop-parent.invariant.some in
      let s = walk_with c.args.c.now c.requires.lawful b acts a c.loop-parent.self c.loop-parent.whole w c.args.later.now c.requires.later c.in-Some.parent (sym c.parent.ensures ∙ c.in-Some.is)
      c.in-Some-later.later.now (sym c.later.ensures ∙ ap option_copied c.in-Some-later.is) c.child-child.result c.child-child.ensures c.after.result.now c.after.ensures in
      (b, acts, a, s.whole c.lower.new.self c.lower.ensures.lowered (let e = c.unfinished.ensures in let t = c.if-unfinished-gt0.false in omega arith)));
  all = λ b acts a w0. (
      let s = walk_with c.args.c.now c.requires.lawful b acts a c.loop-parent.self c.loop-parent.whole (c.loop-parent.invariant.all b acts a w0) c.args.later.now c.requires.later c.in-Some.parent (sym c.parent.ensures ∙ c.in-Some.is)
      c.in-Some-later.later.now (sym c.later.ensures ∙ ap option_copied c.in-Some-later.is) c.child-child.result c.child-child.ensures c.after.result.now c.after.ensures in
      s.whole c.lower.new.self c.lower.ensures.lowered (let e = c.unfinished.ensures in let t = c.if-unfinished-gt0.false in omega arith));
}

pub returns-clause-front : goal.returns-clause-front
returns-clause-front c = λ b acts a w0.
    walk_over c.args.c.now c.requires.lawful b acts a c.loop-parent.self c.loop-parent.whole (c.loop-parent.invariant.all b acts a w0) (sym c.parent.ensures ∙ c.in_default.is)
