use Rattle.std.proofs.Common.{List, length, refl, sym, subst}
use Rattle.std.proofs.lemmas.Option.{slice_get_read}
use Rattle.hplan_text.specs.Printable.{IsPrintableNode}
use Rattle.hplan_text.specs.declared.values.HNode.{HNode}
use Rattle.plan_encoder.proofs.CallsApart.{each_at}
use Rattle.plan_texts.specs.Types.{Has, EachIs}
use Rattle.plan_texts.specs.Together.{Together}
use Rattle.numbered_lines.specs.Numbered.{IsSplitOf}
use Rattle.numbered_lines.proofs.Listed.{made_put, made_all}
use Rattle.numbered_lines.proofs.numbering.splits.Goals as goal

pub split-requires : goal.split-requires
split-requires c =
    let nodes = c.as_slice-node-items.result.now in
    let i = c.loop-node.node-index in
    let node = c.node-item.result in
    let at = slice_get_read nodes (length nodes) i node refl c.loop-node-test.true c.node-item.is in
    let items = sym c.as_slice-node-items.ensures.items in
    let Known = λ (n : HNode). EachIs (Has c.args.places.now.ids) n.ids in
    record {
      soundly = c.requires.soundly;
      printable = each_at IsPrintableNode nodes i node (subst (EachIs IsPrintableNode) items c.requires.printable) at;
      numbers = c.requires.numbers;
      places = c.requires.places;
      few = c.requires.few;
      known = each_at Known nodes i node (subst (EachIs Known) items c.requires.known) at;
    }

pub loop-node-preserved : goal.loop-node-preserved
loop-node-preserved c =
    let nodes = c.as_slice-node-items.result.now in
    let i = c.loop-node.node-index in
    let node = c.node-item.result in
    made_put (IsSplitOf c.args.c.now c.args.places.now.ids) nodes i node c.loop-node.splits c.put.new.self c.split.result
    (slice_get_read nodes (length nodes) i node refl c.loop-node-test.true c.node-item.is) c.in_ok-put.ensures.put c.split.ensures.split
    c.loop-node.invariant

pub returns : goal.returns
returns c =
    let nodes = c.as_slice-node-items.result.now in
    let R = IsSplitOf c.args.c.now c.args.places.now.ids in
    record {
      splits = subst (λ (z : List HNode). Together R z c.loop-node.splits) c.as_slice-node-items.ensures.items
          (made_all R nodes c.loop-node.node-index c.loop-node.splits c.loop-node-test.false c.loop-node.invariant);
    }
