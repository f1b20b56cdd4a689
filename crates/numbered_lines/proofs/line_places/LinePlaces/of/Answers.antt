use Rattle.std.proofs.Common.{ℕ, List, ◌∷◌, ◌++◌, [], map, take, length, refl, sym, subst, ◌∙◌, ap, append_assoc, arith}
use Rattle.std.proofs.lemmas.Option.{slice_get_read}
use Rattle.std.proofs.lemmas.List.{length-map, length-append, length-take-le, take_all, append-nil}
use Rattle.hplan_text.specs.declared.values.HNode.{HNode}
use Rattle.hplan_text.specs.Printable.{line_id, node_id}
use Rattle.numbered_lines.specs.LinePlaces.{ArePlacesOf}
use Rattle.numbered_lines.proofs.Listed.{map_one_more}
use Rattle.numbered_lines.proofs.Placed.{none_placed, same_count}
use Rattle.numbered_lines.proofs.line_places.LinePlaces.of.Goals as goal

pub loop-line-init : goal.loop-line-init
loop-line-init c = none_placed _ c.new.ensures.empty c.new-2.ensures.empty

pub push-requires : goal.push-requires
push-requires c =
    let lines = c.as_slice-line-items.result.now in
    let i = c.loop-line.line-index in
    let a = same_count (map line_id (take i lines)) c.loop-line.places c.loop-line.invariant in
    let d = length-map (take i lines) line_id in
    let e = length-take-le i lines c.loop-line.auto.line-index-end in
    let f = ap length c.as_slice-line-items.ensures.items in
    let g = c.loop-line.auto.line-index-end in
    let h = c.requires.few in
    record { few = omega arith }

pub loop-line-preserved : goal.loop-line-preserved
loop-line-preserved c =
    let lines = c.as_slice-line-items.result.now in
    let i = c.loop-line.line-index in
    let line = c.line-item.result in
    subst (λ (z : List ℕ). ArePlacesOf z c.push.new.self)
    (map_one_more line_id lines i line (slice_get_read lines (length lines) i line refl c.loop-line-test.true c.line-item.is))
    (c.in_ok-push.ensures (map line_id (take i lines)) c.loop-line.invariant)

pub loop-node-init : goal.loop-node-init
loop-node-init c =
    let lines = c.as_slice-line-items.result.now in
    subst (λ (z : List ℕ). ArePlacesOf z c.loop-line.places)
    (ap (map line_id) (take_all c.loop-line.line-index lines c.loop-line-test.false ∙ c.as_slice-line-items.ensures.items)
    ∙ sym (append-nil (map line_id c.args.plan.now.primitives)))
    c.loop-line.invariant

pub push-requires-in-loop-node : goal.push-requires-in-loop-node
push-requires-in-loop-node c =
    let lines = c.args.plan.now.primitives in
    let nodes = c.as_slice-node-items.result.now in
    let i = c.loop-node.node-index in
    let a = same_count (map line_id lines ++ map node_id (take i nodes)) c.loop-node.places c.loop-node.invariant in
    let b = length-append (map line_id lines) (map node_id (take i nodes)) in
    let d = length-map lines line_id in
    let e = length-map (take i nodes) node_id in
    let f = length-take-le i nodes c.loop-node.auto.node-index-end in
    let g = ap length c.as_slice-node-items.ensures.items in
    let h = c.loop-node.auto.node-index-end in
    let k = c.requires.few in
    record { few = omega arith }

pub loop-node-preserved : goal.loop-node-preserved
loop-node-preserved c =
    let ids = map line_id c.args.plan.now.primitives in
    let nodes = c.as_slice-node-items.result.now in
    let i = c.loop-node.node-index in
    let node = c.node-item.result in
    subst (λ (z : List ℕ). ArePlacesOf z c.push-in-loop-node.new.self)
    (append_assoc ids (map node_id (take i nodes)) (node_id node ∷ [])
    ∙ ap (λ (z : List ℕ). ids ++ z)
    (map_one_more node_id nodes i node (slice_get_read nodes (length nodes) i node refl c.loop-node-test.true c.node-item.is)))
    (c.in_ok-push-2.ensures (ids ++ map node_id (take i nodes)) c.loop-node.invariant)

pub returns : goal.returns
returns c =
    let nodes = c.as_slice-node-items.result.now in
    record {
      places = subst (λ (z : List HNode). ArePlacesOf (map line_id c.args.plan.now.primitives ++ map node_id z) c.loop-node.places)
          (take_all c.loop-node.node-index nodes c.loop-node-test.false ∙ c.as_slice-node-items.ensures.items) c.loop-node.invariant;
    }
