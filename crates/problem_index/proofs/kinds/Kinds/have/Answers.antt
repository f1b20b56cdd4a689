use Rattle.std.proofs.Common.{◌≡◌, List, Some, slice_get, refl, sym, subst, ◌∙◌}
use Rattle.std.proofs.lemmas.Option.{slice_get_read}
use Rattle.problem_index.specs.declared.kinds.Kind.{Kind}
use Rattle.problem_index.proofs.KindLaws.{in_type_at}
use Rattle.problem_index.proofs.kinds.Kinds.have.Goals as goal

pub returns-in-Some-get : goal.returns-in-Some-get
returns-in-Some-get c =
    let is = slice_get_read c.deref.result.now _ c.args.ty c.in-Some.kind.now refl c.in-Some.ensures.lookup.3.0 c.in-Some.ensures.lookup.1 in
    let here = subst (λ (xs : List Kind). slice_get xs c.args.ty ≡ Some c.in-Some.kind.now) c.deref.ensures.value is in
    let same = in_type_at c.args.types.now c.args.objects.now c.in-Some.kind.now.parts c.args.object c.args.ty c.in-Some-get.declared.now (c.requires.kinds c.args.ty c.in-Some.kind.now here).0 (sym c.in-Some-get.ensures.item) in
    (λ t. same.0 (sym c.have.ensures ∙ t), λ t. c.have.ensures ∙ same.1 t)
