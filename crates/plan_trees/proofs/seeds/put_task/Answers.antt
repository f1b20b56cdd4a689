use Rattle.std.proofs.Common.{◌-◌, ◌≡◌, ◌++◌, ◌∙◌, Bool, cond, List, [], ◌∷◌, length, map, ap, sym}
use Rattle.std.proofs.lemmas.Result.{on_ok_weaker}
use Rattle.plan_trees.specs.declared.seed.Source.{Source}
use Rattle.plan_trees.specs.declared.seed.Source.TheVariants.{Check}
use Rattle.plan_trees.specs.Sources.{source_at, lines_below, with_children}
use Rattle.plan_trees.proofs.SeedLists.{no_children, two_parts}
use Rattle.plan_trees.proofs.seeds.put_task.Goals as goal
use Rattle.plan_trees.proofs.seeds.put_task.Goals.{then-is_checked+in_ok-put, else-is_checked}

pub returns-clause-put : goal.returns-clause-put
returns-clause-put c = on_ok_weaker c.put_lines.result (λ e.
    let old = c.args.seeds.now in
    let lines = c.args.lines.now in
    let parent = c.args.parent in
    let start = c.len-start.result in
    let same = c.len-start.ensures.length in
    let rest = lines_below lines c.args.task in
    let check : List Source = Check c.args.task ∷ [] in
    let items : map (source_at c.len.result) c.listed.result.now ≡ rest =
    (λ i. map (source_at (c.len.ensures.length i)) (c.listed.ensures i)) in
    let made = e ∙ ap (with_children c.if-is_checked.seeds parent (length c.if-is_checked.seeds - start)) items in
    elim c.if-is_checked.branch [
      | then-is_checked+in_ok-put w ↦ (
          let is = sym c.is_checked.ensures ∙ w.if-is_checked.true in
          two_parts old c.if-is_checked.seeds c.put_lines.new.seeds start parent check rest same c.requires.few
          (w.seeds-is ∙ w.in_ok-put.ensures.put) made
          ∙ ap (λ (b : Bool). with_children old parent 0 (cond b check [] ++ rest)) (sym is))
      | else-is_checked w ↦ (
          let is = sym c.is_checked.ensures ∙ w.if-is_checked.false in
          two_parts old c.if-is_checked.seeds c.put_lines.new.seeds start parent [] rest same c.requires.few
          (w.seeds-is ∙ sym (no_children old parent (length old - start))) made
          ∙ ap (λ (b : Bool). with_children old parent 0 (cond b check [] ++ rest)) (sym is))
    ]) c.put_lines.ensures.put
