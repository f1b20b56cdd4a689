use Rattle.std.proofs.Common.{◌∙◌, ◌++◌, length, drop, ap, subst}
use Rattle.hplan_text.specs.Showing.{primitives_among, lower_among, HaveNumbers, ListsChildren, lines_at, AreNodesAt}
use Rattle.hplan_text.proofs.ShownWhole.{whole}
use Rattle.hplan_text.proofs.showing.show.Goals as goal

pub returns : goal.returns
returns c =
    let rows = c.args.run.now.tree in
    let one = c.put_primitives.new.places.items in
    let ids = c.in_ok-ids.ids.items in
    record {
      shown = λ tree order f s. whole c.args.c.now c.args.run.now tree order f s one c.put_lower.new.places.items
          (c.in_ok-put_primitives.ensures.put ∙ ap (λ z. z ++ primitives_among rows c.as_slice.result.now) c.new-places.ensures.items ∙ ap (primitives_among rows) c.as_slice.ensures.items)
          (c.in_ok-put_lower.ensures.put ∙ ap (λ z. one ++ lower_among rows z) c.as_slice-3.ensures.items)
          ids c.in_ok-root.root c.size.result c.size.ensures.size
          (subst (λ z. HaveNumbers c.size.result (length z) z ids) c.as_slice-4.ensures.value c.in_ok-ids.ensures.numbers)
          (subst (λ z. ListsChildren rows z 0 c.in_ok-root.root) c.as_slice-7.ensures.value c.in_ok-root.ensures)
          c.in_ok-primitives.primitives (c.in_ok-primitives.ensures ∙ ap (lines_at c.args.c.now rows 0) c.as_slice-2.ensures.value)
          c.len-first.result (c.len-first.ensures ∙ c.put_primitives.new.places.ok.0) c.in_ok-nodes.nodes
          (subst (λ z. AreNodesAt c.args.c.now rows ids c.len-first.result (drop c.len-first.result z) c.in_ok-nodes.nodes) c.as_slice-6.ensures.value
          (subst (λ z. AreNodesAt c.args.c.now rows z c.len-first.result (drop c.len-first.result c.as_slice-6.result.now) c.in_ok-nodes.nodes) c.as_slice-5.ensures.value c.in_ok-nodes.ensures));
    }
