use Rattle.std.proofs.Common.{ℕ, ◌∷◌, ◌++◌, [], cond, Some, ap, ◌∙◌}
use Rattle.std.proofs.lemmas.Result.{on_ok_weaker}
use Rattle.std.specs.Ordering.{nat_cmp, eq_by_cmp}
use Rattle.std.specs.BTreeMap.{get}
use Rattle.numbered_lines.specs.declared.line_places.LinePlaces.{LinePlaces}
use Rattle.numbered_lines.proofs.Placed.{placed_there, placed_beside}
use Rattle.numbered_lines.proofs.line_places.LinePlaces.push.Goals as goal
use Rattle.numbered_lines.proofs.line_places.LinePlaces.push.Goals.{then-id-place+in_ok-insert, else-id-place}

pub returns : goal.returns
returns c =
    let old = c.args.self.now in
    let id = c.args.id in
    let new : LinePlaces = record { ids = c.push.new.self; others = c.if-id-place.self.others } in
    on_ok_weaker c.push.result
    (λ e ids is. elim c.if-id-place.branch [
      | then-id-place+in_ok-insert w ↦ placed_beside ids id old new is (e ∙ ap (λ (z : LinePlaces). z.ids ++ id ∷ []) w.self-is)
          (λ n. ap (λ (z : LinePlaces). get nat_cmp z.others n) w.self-is ∙ w.in_ok-insert.ensures.updates.0 n
          ∙ ap (λ (k : ℕ). cond (eq_by_cmp nat_cmp id n) (Some k) (get nat_cmp old.others n)) c.len-place.ensures.length)
      | else-id-place w ↦ placed_there ids id old new is (e ∙ ap (λ (z : LinePlaces). z.ids ++ id ∷ []) w.self-is)
          (ap (λ (z : LinePlaces). z.others) w.self-is) (w.if-id-place.false ∙ c.len-place.ensures.length)
    ])
    c.push.ensures.pushed
