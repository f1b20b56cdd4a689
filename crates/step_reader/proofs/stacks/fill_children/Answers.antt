use Rattle.std.proofs.Common.{List, ℕ, ◌≡◌, ◌<◌, All, length, ap, sym, subst, ◌∙◌, arith}
use Rattle.std.proofs.lemmas.Result.{on_ok_weaker}
use Rattle.plan_model.specs.Pairs.{Pairs}
use Rattle.step_reader.specs.Cells.{ArePlaced, AreOnce, others_in}
use Rattle.step_reader.proofs.LineCells.{once, long, all_within, others_by}
use Rattle.step_reader.proofs.stacks.fill_children.Goals as goal

pub place-requires : goal.place-requires
place-requires c =
    let plan = c.args.plan.now in
    let e = sym c.as_slice.ensures.items in
    let n = long (Pairs plan.schema.pairs) (length plan.schema.children) plan.line c.requires.line in
    let f = ap length c.as_slice.ensures.items in
    let room = c.requires.room in
    let size = c.requires.long in
    record {
      long = omega (n, f, size, arith);
      within = subst (λ (z : List ℕ). All (λ i. i < length z) z) e (all_within (Pairs plan.schema.pairs) (length plan.schema.children) plan.line c.requires.line);
      once = subst AreOnce e (once (Pairs plan.schema.pairs) (length plan.schema.children) plan.line c.requires.line);
      room = omega (n, f, room, arith);
    }

pub fill_others-requires : goal.fill_others-requires
fill_others-requires c =
    let plan = c.args.plan.now in
    let n = long (Pairs plan.schema.pairs) (length plan.schema.children) plan.line c.requires.line in
    let f = ap length c.as_slice.ensures.items in
    let g = c.place.ensures.long in
    let h = ap length c.as_slice-2.ensures.value in
    let few = c.requires.few in
    record { few = omega (n, f, g, h, few, arith) }

pub returns : goal.returns
returns c =
    let plan = c.args.plan.now in
    let e = c.as_slice.ensures.items in
    let size : length c.place.new.cells.items ≡ length plan.line = c.place.ensures.long ∙ ap length e in
    let placed = subst (λ (z : List ℕ). ArePlaced z c.args.cell (length z) c.place.new.cells.items) e c.place.ensures.placed in
    let by = others_by (Pairs plan.schema.pairs) (length plan.schema.children) plan.line c.requires.line plan.heir c.args.cell c.place.new.cells.items size placed in
    on_ok_weaker c.fill_others.result (λ x. x ∙ ap (others_in plan.heir) c.as_slice-2.ensures.value ∙ by) c.fill_others.ensures
