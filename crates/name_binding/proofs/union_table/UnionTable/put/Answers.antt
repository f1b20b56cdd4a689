use Rattle.std.specs.BTreeMap as tree
use Rattle.std.proofs.Common.{◌≡◌, ◌++◌, [], ◌∷◌, ℕ, List, Some, None, sym, ap, subst, ◌∙◌}
use Rattle.std.specs.Prelude.{is_some, position}
use Rattle.std.specs.Str.{bytes_eq}
use Rattle.htn_base.specs.Table.{with_word}
use Rattle.htn_base.proofs.OrderedLemmas.{key_order, list_order}
use Rattle.name_binding.specs.UnionPlaces.{ArePlacesOf}
use Rattle.name_binding.proofs.UnionPlaceLemmas.{with-there, with-new, not-there, places-put, places-back, copy-put}
use Rattle.name_binding.proofs.union_table.UnionTable.put.Goals as goal
use Rattle.name_binding.proofs.union_table.UnionTable.put.Goals.{In-Ok}

module _ (c : In-Ok) where
  new : position (bytes_eq c.args.members.now) c.self.inside.unions ≡ None
  new = not-there c.self.inside.unions c.args.members.now (ap is_some (sym (c.self.invariant c.args.members.now)) ∙ sym c.contains_key.ensures ∙ c.if-contains_key.false)

  put : c.put.new.self ≡ c.self.inside.unions ++ c.args.members.now ∷ []
  put = copy-put c.listed.result c.args.members.now c.self.inside.unions c.put.new.self c.listed.ensures.same c.in-Ok.ensures.put

pub returns-then-contains_key-clause-put : goal.returns-then-contains_key-clause-put
returns-then-contains_key-clause-put c =
    let members = c.args.members.now in
    let there = ap is_some (sym (c.self.invariant members)) ∙ sym c.contains_key.ensures ∙ c.if-contains_key.true in
    subst (λ unions. unions ≡ with_word unions members) c.self.view_is (sym (with-there c.self.inside.unions members there))

pub invariant_of-self-in-Ok : goal.invariant_of-self-in-Ok
invariant_of-self-in-Ok c =
    let members = c.args.members.now in
    let unions = c.self.inside.unions in
    let updates =
    subst (λ (k : ℕ). tree.UpdatesBy key_order (list_order members) c.self.inside.places c.insert.new.self (Some k)) (c.in_ok-place.ensures.same ∙ c.len.ensures.length)
    (subst (λ (list : List ℕ). tree.UpdatesBy key_order (list_order list) c.self.inside.places c.insert.new.self (Some c.in_ok-place.place)) c.in_ok-key.ensures.items c.in_ok-insert.ensures.updates) in
    subst (ArePlacesOf c.insert.new.self) (sym (put c)) (places-put unions members (new c) c.self.inside.places c.self.invariant c.insert.new.self updates)

pub invariant_of-self-in-Err : goal.invariant_of-self-in-Err
invariant_of-self-in-Err c =
    let members = c.args.members.now in
    let unions = c.self.inside.unions in
    let new = not-there unions members (ap is_some (sym (c.self.invariant members)) ∙ sym c.contains_key.ensures ∙ c.if-contains_key.false) in
    let updates =
    subst (λ (list : List ℕ). tree.UpdatesBy key_order (list_order list) c.self.inside.places c.insert.new.self (Some c.in_ok-place.place)) c.in_ok-key.ensures.items c.in_ok-insert.ensures.updates in
    subst (ArePlacesOf c.remove.new.self) (sym c.in-Err.ensures.unchanged)
    (places-back unions members new c.self.inside.places c.self.invariant c.insert.new.self c.remove.new.self (Some c.in_ok-place.place) updates c.remove.ensures.updates)

pub returns-in-Ok-clause-put : goal.returns-in-Ok-clause-put
returns-in-Ok-clause-put c =
    let members = c.args.members.now in
    put c ∙ sym (with-new c.self.inside.unions members (new c)) ∙ ap (λ unions. with_word unions members) c.self.view_is
