use Rattle.std.proofs.Common.{◌≡◌, ◌+◌, ◌<◌, ◌≤◌, length, List, ℕ, get_or, false, sym, subst, ap, ◌∙◌, arith}
use Rattle.std.proofs.lemmas.Bool.{false≢true}
use Rattle.plan_model.specs.declared.types.Object.{Object}
use Rattle.plan_model.specs.Typing.{InType}
use Rattle.plan_model.specs.Parts.{has}
use Rattle.plan_model.proofs.Numbers.{AreFound, found_more, found_less}
use Rattle.plan_model.proofs.PartsOf.{in_type_at, in_type_within}
use Rattle.plan_model.proofs.membership.members.Goals as goal
use Rattle.plan_model.proofs.membership.members.Goals.{then-have+in_ok-push, else-have}

pub loop-i-preserved : goal.loop-i-preserved
loop-i-preserved c =
    let i = c.loop-i.i in
    let d : Object = record { name = record { number = 0 }; ty = 0; constant = false } in
    let P : ℕ → Type 0 = λ x. InType c.args.types.now c.args.objects.now x c.args.ty in
    let l : c.loop-i.i < length c.args.objects.now = subst (λ os. c.loop-i.i < length os) c.loop-i.invariant.items c.loop-i-test.true in
    let at = in_type_at c.args.types.now c.args.objects.now c.args.ty i d l in
    let is : c.have.result ≡ has c.new-parts.result (get_or c.args.objects.now i d).ty =
    c.have.ensures ∙ ap (λ (os : List Object). has c.new-parts.result (get_or os i d).ty) c.loop-i.invariant.items in
    let part = c.new-parts.ensures (get_or c.args.objects.now i d).ty in
    record {
      items = c.loop-i.invariant.items;
      found = elim c.if-have.branch [
        | then-have+in_ok-push w ↦ subst (AreFound P (i + 1)) (sym (w.members-is ∙ w.in_ok-push.ensures.pushed)) (found_more P i c.loop-i.members c.loop-i.invariant.found (at.1 (part.0 (sym is ∙ w.if-have.true))))
        | else-have w ↦ subst (AreFound P (i + 1)) (sym w.members-is) (found_less P i c.loop-i.members c.loop-i.invariant.found (λ t. false≢true (sym w.if-have.false ∙ (is ∙ part.1 (at.0 t)))))
      ];
    }

pub returns-clause-members : goal.returns-clause-members
returns-clause-members c x =
    let found = c.loop-i.invariant.found in
    let end : length c.args.objects.now ≤ c.loop-i.i = subst (λ (os : List Object). length os ≤ c.loop-i.i) c.loop-i.invariant.items c.loop-i-test.false in (
      λ t. ((found.each x).0 t).1,
      λ t. (found.each x).1 (let l = in_type_within c.args.types.now c.args.objects.now c.args.ty x t in omega arith, t),
    )
