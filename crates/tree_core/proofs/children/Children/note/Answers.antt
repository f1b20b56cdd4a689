use Rattle.std.proofs.Common.{◌≡◌, Some, None, not, get_or, refl, ap, sym, ◌∙◌}
use Rattle.std.specs.BTreeMap.{get}
use Rattle.std.specs.Vec.{with_item}
use Rattle.tree_core.specs.declared.children.Children.{Children}
use Rattle.tree_core.specs.Rooms.{pair_cmp, room, found, found_by}
use Rattle.tree_core.proofs.Pairs.{pair_put}
use Rattle.tree_core.proofs.Rooms.{near_put, far_put}
use Rattle.tree_core.proofs.DefectLaws.{none_of}
use Rattle.tree_core.proofs.children.Children.note.Goals as goal

pub returns-then-is_none-clause-noted : goal.returns-then-is_none-clause-noted
returns-then-is_none-clause-noted c =
    let old = c.args.self.now in
    let x = c.args.parent in
    let i = c.args.child in
    let r = c.in-Some.room in
    let e : room old.starts.items x i ≡ Some r = sym c.in-Some.ensures in
    let new : Children = record { starts = old.starts; near = with_item old.near r (Some c.args.place); far = old.far } in
    let free = none_of c.index.result.now (c.is_none.ensures ∙ ap not c.if-is_none.true) in
    let none : None ≡ get_or old.near.items r None = sym free ∙ c.index.ensures ∙ ap (get_or old.near.items r) free in
    record {
      fresh = λ _ y j. near_put old new x i c.args.place r c.requires.rooms e refl refl refl y j;
      again = λ k f. absurd (let g : found old x i ≡ None = ap (found_by old x i) e ∙ sym none in cc);
    }

pub returns-in_ok-insert-in-None-clause-noted : goal.returns-in_ok-insert-in-None-clause-noted
returns-in_ok-insert-in-None-clause-noted c =
    let old = c.args.self.now in
    let x = c.args.parent in
    let i = c.args.child in
    let e : room old.starts.items x i ≡ None = sym c.in-None.ensures in
    let new : Children = record { starts = old.starts; near = old.near; far = c.insert.new.self } in
    let none = none_of (get pair_cmp old.far (x, i)) (sym c.contains_key.ensures ∙ c.if-not-contains_key.true) in
    record {
      fresh = λ _ y j. far_put old new x i c.args.place e refl refl (λ y j. pair_put x i y j c.args.place _ _ (c.in_ok-insert-in-None.ensures.updates.0 (y, j))) y j;
      again = λ k f. absurd (let g : found old x i ≡ None = ap (found_by old x i) e ∙ none in cc);
    }
