use Rattle.std.proofs.Common.{sym, subst, arith}
use Rattle.plan_model.specs.declared.parts.Parts.{Parts}
use Rattle.problem_index.specs.Domains.{ArePartsOf}
use Rattle.problem_index.specs.Kinds.{AreInOrder, IsKind}
use Rattle.problem_index.proofs.KindLaws.{kinds_more}
use Rattle.problem_index.proofs.kinds.Kinds.of.Goals as goal

pub loop-ty-preserved : goal.loop-ty-preserved
loop-ty-preserved c =
    let kind = c.in_ok-kind.kind in
    let known = c.in_ok-kind.ensures c.args.objects.now c.requires.lists in
    let parts : ArePartsOf c.args.types.now c.loop-ty.ty c.in_ok-kind.kind.parts = subst (ArePartsOf c.args.types.now c.loop-ty.ty) (sym known.parts) c.new-parts.ensures in
    let is : IsKind c.args.objects.now c.in_ok-kind.kind.parts c.in_ok-kind.kind = subst (λ (p : Parts). IsKind c.args.objects.now p c.in_ok-kind.kind) (sym known.parts) known in (
      (let l = c.in_ok-push.ensures.len in let i = c.loop-ty.invariant.0 in let a = c.push.new.self.ok.0 in let b = c.loop-ty.kinds.ok.0 in omega (arith, l, i, a, b)),
      subst (AreInOrder c.args.types.now c.args.objects.now) (sym c.in_ok-push.ensures.items)
          (kinds_more c.args.types.now c.args.objects.now c.loop-ty.kinds.items c.loop-ty.ty kind c.loop-ty.invariant.0 parts is c.loop-ty.invariant.1),
    )
