use Rattle.std.proofs.Common.{◌-◌, ◌<◌, ◌≤◌, length, get_or, refl, ap, sym, ◌∙◌, arith}
use Rattle.std.proofs.Math.ListN.{set}
use Rattle.std.proofs.lemmas.List.{drop_all}
use Rattle.stack_encoder.proofs.ChildCells.{cells, cells-none, cells-more, cells-same}
use Rattle.stack_encoder.proofs.methods.cells_of.Goals as goal

pub loop-k-init : goal.loop-k-init
loop-k-init c =
    let line = c.args.line.now in
    let n = c.args.count in
    c.in_ok-cells.ensures.items_if_clones_equal (λ y e. e) ∙ cells-none n ∙ ap (cells n) (sym (drop_all (length line) line (omega arith)))

pub loop-k-preserved-then-child-len : goal.loop-k-preserved-then-child-len
loop-k-preserved-then-child-len c =
    let line = c.args.line.now in
    let k = c.loop-k.k in
    let now = c.loop-k.cells.items in
    let v = c.in_ok-cells-2.field-0 in
    let some : 0 < k = let t = c.loop-k-test.true in omega arith in
    let within : k ≤ length line = let a = c.loop-k.auto.k in omega (arith, a) in
    let there : get_or line (k - 1) 0 < length now = let t = c.if-child-len.true in let e = c.len.ensures in omega (arith, t, e) in
    cells-more c.args.count line k some within now (set now (get_or line (k - 1) 0) v) c.loop-k.invariant v c.in_ok-cells-2.ensures.same there refl

pub loop-k-preserved : goal.loop-k-preserved
loop-k-preserved c =
    let line = c.args.line.now in
    let k = c.loop-k.k in
    let now = c.loop-k.cells.items in
    let some : 0 < k = let t = c.loop-k-test.true in omega arith in
    let within : k ≤ length line = let a = c.loop-k.auto.k in omega (arith, a) in
    let past : length now ≤ get_or line (k - 1) 0 = let t = c.if-child-len.false in let e = c.len.ensures in omega (arith, t, e) in
    cells-same c.args.count line k some within now now c.loop-k.invariant past refl
