use Rattle.std.proofs.Common.{◌≡◌, ◌<◌, ◌≤◌, Bor, Some, None, slice_get, length, take_all, ap, sym, ◌∙◌, arith}
use Rattle.std.specs.Option.{option_map}
use Rattle.htn_base.specs.Packed.{row_of}
use Rattle.plan_model.proofs.plan_meaning.BoundParts.{there_at}
use Rattle.reached_parts.specs.Rows as Rows
use Rattle.reached_parts.specs.declared.row_set.Numbered.{Numbered}
use Rattle.ground_bound.proofs.ReachedRows.{are_ground}
use Rattle.ground_bound.proofs.RowsInOrder.{sorted_in_order, different_rows, copied_next}
use Rattle.ground_bound.proofs.in_order.in_order.Goals as goal

pub returns : goal.returns
returns c = record {
  order = λ of tasks actions soundly the.
      let rows = c.args.methods.now in
      let made = c.loop-k.rows.items in
      let sorted = c.sort_unstable.new.self.items in
      let all : length rows ≤ c.loop-k.k = let e = c.len-k-end.ensures.length in let t = c.loop-k-test.false in omega arith in
      sorted_in_order rows made sorted (c.loop-k.invariant ∙ take_all c.loop-k.k rows all) c.sort_unstable.ensures.permutation c.sort_unstable.ensures.sorted of soundly
      (are_ground of soundly tasks actions rows the) (different_rows rows the.methods_different);
}

pub loop-k-preserved : goal.loop-k-preserved
loop-k-preserved c =
    let rows = c.args.methods.now in
    let k = c.loop-k.k in
    let it = c.in-Some.it.now in
    let at : slice_get rows k ≡ Some (Rows.row it) = sym c.get.ensures.row ∙ ap (option_map (λ (x : Bor Numbered). Rows.row x.now)) c.in-Some.is in
    let same : c.in_ok-objects-in-Some.objects.items ≡ it.objects.items = c.in_ok-objects-in-Some.ensures.items ∙ c.as_slice.ensures.value in
    copied_next rows c.loop-k.rows.items c.push.new.self.items k (Rows.row it) (record { number = it.number; objects = c.in_ok-objects-in-Some.objects }) c.loop-k.invariant at
    (ap (row_of it.number) same) c.in_ok-push-in-Some.ensures.items

pub unreachable-requires : goal.unreachable-requires
unreachable-requires c =
    let rows = c.args.methods.now in
    let l : c.loop-k.k < length rows = let e = c.len-k-end.ensures.length in let t = c.loop-k-test.true in omega arith in
    let (r, e) = there_at rows c.loop-k.k l in
    let none : None ≡ Some r = sym (ap (option_map (λ (x : Bor Numbered). Rows.row x.now)) c.in-None.is) ∙ c.get.ensures.row ∙ e in
    absurd cc
