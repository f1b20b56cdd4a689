use Rattle.std.proofs.Common.{Some, None, ◌≡◌, ◌∙◌}
use Rattle.numbered_lines.proofs.Placed.{kept_beside}
use Rattle.numbered_lines.proofs.line_places.LinePlaces.find.Goals as goal
use Rattle.numbered_lines.proofs.line_places.LinePlaces.find.Goals.{in_default-via-in-Some+else-own-id, in_default-via-in_default}

pub index-requires : goal.index-requires
index-requires c =
    kept_beside c.args.self.now.ids c.args.id c.args.self.now c.requires.places c.requires.known
    (λ e. elim c.in_default.branch [
      | in_default-via-in-Some+else-own-id w ↦ w.if-own-id.false
          (let f : Some w.in-Some.own.now ≡ Some c.args.id = w.in-Some.ensures.item ∙ e in cc)
      | in_default-via-in_default w ↦ (let f : None ≡ Some c.args.id = w.in_default.ensures.item ∙ e in cc)
    ])
