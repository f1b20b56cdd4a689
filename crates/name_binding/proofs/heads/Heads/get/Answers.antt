use Rattle.std.proofs.Common.{◌<◌, ◌∙◌, ap, sym, subst}
use Rattle.name_binding.specs.declared.heads.Head.{Head}
use Rattle.name_binding.specs.Heads.{declared}
use Rattle.name_binding.specs.Places.{first_place}
use Rattle.name_binding.proofs.HeadPlaces.{declared_some, declared_none, declared_within}
use Rattle.name_binding.proofs.heads.Heads.get.Goals as goal

abbrev none : Head
none = record { name = record { number = 0 }; arity = 0 }

pub returns-in_err-place : goal.returns-in_err-place
returns-in_err-place c = record {
  declared =
      c.from_residual.ensures ∙ (declared_none c.args.name.number c.self.inside.heads.items none (c.in_err-place.ensures.place ∙ ap (first_place c.args.name.number) c.self.invariant) ∙ ap (declared c.args.name.number) c.self.view_is);
}

pub index-requires : goal.index-requires
index-requires c =
    subst (λ m. c.in_ok-place.place < m) (sym c.self.inside.heads.ok.0) (declared_within c.args.name.number c.self.inside.heads.items c.in_ok-place.place (c.in_ok-place.ensures.place ∙ ap (first_place c.args.name.number) c.self.invariant))

pub returns : goal.returns
returns c = record {
  declared =
      let is = c.in_ok-place.ensures.place ∙ ap (first_place c.args.name.number) c.self.invariant in
      let some = declared_some c.args.name.number c.self.inside.heads.items c.index.result.now c.in_ok-place.place is in
      rw (← c.index.ensures) at some ∙ ap (declared c.args.name.number) c.self.view_is;
}
