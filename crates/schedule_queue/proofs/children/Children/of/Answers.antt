use Rattle.std.proofs.Common.{◌+◌, [], length, get_or, ap, sym, subst, ◌∙◌, arith}
use Rattle.std.proofs.lemmas.List.{length_push}
use Rattle.tree_core.specs.Labels.{labelled}
use Rattle.schedule_queue.proofs.Listing.{AreBelow, none_below, more_none, listed_more, same_room, all_listed}
use Rattle.schedule_queue.proofs.children.Children.of.Goals as goal

pub loop-address-preserved : goal.loop-address-preserved
loop-address-preserved c = record {
  room = ap length c.in_ok-push.ensures.items ∙ length_push c.loop-address.by_parent.items c.new.result
      ∙ ap (λ z. z + 1) c.loop-address.invariant.room;
  none = λ k. ap (λ z. get_or z k []) c.in_ok-push.ensures.items
      ∙ more_none c.loop-address.by_parent.items c.new.result c.new.ensures.empty c.loop-address.invariant.none k;
}

pub loop-address-2-init : goal.loop-address-2-init
loop-address-2-init c = record {
  room = (let a = c.loop-address.invariant.room in let b = c.size-address-end.ensures.size in let d = c.loop-address-test.false in let e =
      c.loop-address.auto in omega arith);
  lists = λ d T e k. subst (AreBelow (labelled d T) 0 k) (sym (c.loop-address.invariant.none k)) (none_below (labelled d T) k);
}

pub loop-address-2-preserved : goal.loop-address-2-preserved
loop-address-2-preserved c = record {
  room = ap length c.in_ok-put.ensures ∙ same_room c.loop-address-2.by_parent.items c.parent.result c.loop-address-2.address
      ∙ c.loop-address-2.invariant.room;
  lists = λ d T e k. subst (λ z. AreBelow (labelled d T) (c.loop-address-2.address + 1) k (get_or z k [])) (sym c.in_ok-put.ensures)
      (listed_more d T c.args.tree.now e c.loop-address-2.address c.parent.result c.parent.ensures.parent c.loop-address-2.by_parent.items
      c.loop-address-2.invariant.room
      (c.loop-address-2.invariant.lists d T e) k);
}

pub returns : goal.returns
returns c = λ d T e.
    all_listed d T c.args.tree.now e c.loop-address-2.address
    (let a = c.size-address-end-2.ensures.size in let b = c.loop-address-2-test.false in omega arith)
    c.loop-address-2.by_parent.items (c.loop-address-2.invariant.lists d T e)
