use Rattle.std.proofs.Common.{◌≡◌, ◌<◌, length, Some, get_or, slice_get, sym, ap, subst, ◌∙◌, arith}
use Rattle.std.proofs.lemmas.Option.{slice_get-get_or}
use Rattle.bound_calc.specs.declared.stratifier.edge.Edge.{Edge}
use Rattle.bound_calc.specs.stratifier.NamedSearch.{HasEnds}
use Rattle.bound_calc.proofs.stratifier.NamedEnds.{has_ends, ends_more, ends_all}
use Rattle.bound_calc.proofs.stratifier.named.all_ends.Goals as goal

abbrev none : Edge
none = record { method = 0; child = 0 }

pub ends_of-requires : goal.ends_of-requires
ends_of-requires c = record {
  there = subst (λ s. HasEnds c.as_slice-methods.result.now (get_or s c.loop-edge.edge-index none)) (sym c.as_slice-edge-items.ensures.items)
      (has_ends c.args.c.now c.args.edges.now c.requires.edges c.as_slice-methods.result.now c.as_slice-methods.ensures.items c.loop-edge.edge-index none (subst (λ s. c.loop-edge.edge-index < length s) c.as_slice-edge-items.ensures.items c.loop-edge-test.true));
}

pub loop-edge-preserved : goal.loop-edge-preserved
loop-edge-preserved c =
    let items = c.as_slice-edge-items.result.now in
    let k = c.loop-edge.edge-index in
    let edge = get_or items k none in
    let is : slice_get c.args.edges.now k ≡ Some edge = ap (λ s. slice_get s k) (sym c.as_slice-edge-items.ensures.items) ∙ slice_get-get_or items k none c.loop-edge-test.true in
    ends_more c.args.c.now c.args.edges.now k c.loop-edge.ends.items c.push.new.self.items edge c.ends_of.result c.as_slice-methods.result.now c.as_slice-methods.ensures.items is c.ends_of.ensures.ends c.loop-edge.invariant c.in_ok-push.ensures.items

pub returns : goal.returns
returns c = record {
  ends = ends_all c.args.c.now c.args.edges.now c.requires.small c.loop-edge.edge-index c.loop-edge.ends.items
      (let m = ap length c.as_slice-edge-items.ensures.items in let l = c.loop-edge-test.false in let e = c.loop-edge.auto.edge-index-end in omega arith) c.loop-edge.invariant;
}
