use Rattle.std.proofs.Common.{◌≡◌, ◌↔◌, ℕ, List, Some, Option, Vec, Global, IfSome, Contains, slice_get, refl, sym, subst}
use Rattle.std.proofs.lemmas.Option.{slice_get_read}
use Rattle.problem_index.specs.declared.kinds.Kind.{Kind}
use Rattle.problem_index.specs.Kinds.{IsOfParts}
use Rattle.problem_index.proofs.KindLaws.{among_at, listed_at, of_parts}
use Rattle.problem_index.proofs.kinds.Kinds.domain.Goals as goal

pub returns-in-Some-listed : goal.returns-in-Some-listed
returns-in-Some-listed c x =
    let is = slice_get_read c.deref.result.now _ c.args.ty c.in-Some.kind.now refl c.in-Some.ensures.lookup.3.0 c.in-Some.ensures.lookup.1 in
    let here = subst (λ (xs : List Kind). slice_get xs c.args.ty ≡ Some c.in-Some.kind.now) c.deref.ensures.value is in
    let known = c.requires.kinds c.args.ty c.in-Some.kind.now here in
    let all : (x : ℕ) → Contains c.in-Some-listed.listed.items x ↔ IsOfParts c.args.objects.now c.in-Some.kind.now.parts x = subst (λ (o : Option (Vec ℕ Global)). IfSome o (λ listed. (x : ℕ) → Contains listed.items x ↔ IsOfParts c.args.objects.now c.in-Some.kind.now.parts x)) c.in-Some-listed.is known.1.listed in
    let one = listed_at c.as_slice.result.now x in
    let two = all x in
    let of = of_parts c.args.types.now c.args.objects.now c.args.ty c.in-Some.kind.now.parts known.0 x in
    (λ t. of.0 (two.0 (subst (λ l. Contains l x) c.as_slice.ensures.value (one.0 t))), λ t. one.1 (subst (λ l. Contains l x) (sym c.as_slice.ensures.value) (two.1 (of.1 t))))

pub returns-in-None-listed : goal.returns-in-None-listed
returns-in-None-listed c x =
    let is = slice_get_read c.deref.result.now _ c.args.ty c.in-Some.kind.now refl c.in-Some.ensures.lookup.3.0 c.in-Some.ensures.lookup.1 in
    let here = subst (λ (xs : List Kind). slice_get xs c.args.ty ≡ Some c.in-Some.kind.now) c.deref.ensures.value is in
    let one = among_at c.args.objects.now c.in-Some.kind.now.parts x c.requires.few in
    let of = of_parts c.args.types.now c.args.objects.now c.args.ty c.in-Some.kind.now.parts (c.requires.kinds c.args.ty c.in-Some.kind.now here).0 x in
    (λ t. of.0 (one.0 t), λ t. one.1 (of.1 t))
