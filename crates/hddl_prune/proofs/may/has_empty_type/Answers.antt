use Rattle.std.proofs.Common.{◌≡◌, true, false, get_or, refl}
use Rattle.plan_model.specs.declared.terms.Param.{Param}
use Rattle.hddl_prune.specs.Search.{HasObject}
use Rattle.hddl_prune.proofs.Each.{each_start, each_next, each_end}
use Rattle.hddl_prune.proofs.MayCases.{empty_at, none_empty}
use Rattle.hddl_prune.proofs.may.has_empty_type.Goals as goal

-- what a place past the end has
abbrev unread : Param
unread = record { name = record { number = 0 }; ty = 0 }

pub loop-param-init : goal.loop-param-init
loop-param-init c = each_start (λ (p : Param). HasObject c.args.h.now p.ty) c.args.params.now

pub loop-param-preserved : goal.loop-param-preserved
loop-param-preserved c =
    let ps = c.args.params.now in
    let i = c.loop-param.param-index in
    each_next (λ (p : Param). HasObject c.args.h.now p.ty) ps i unread (get_or ps i unread) c.loop-param-test.true refl c.loop-param.invariant (c.has_object.ensures.0 c.if-not-has_object.false)

pub returns-then-not-has_object : goal.returns-then-not-has_object
returns-then-not-has_object c =
    let ps = c.args.params.now in
    let i = c.loop-param.param-index in (
      λ t. empty_at c.args.h.now ps i unread (get_or ps i unread) c.loop-param-test.true refl (λ o. (let z = c.has_object.ensures.1 o in let y = c.if-not-has_object.true in let x : true ≡ false = cc in absurd cc)),
      λ e. refl,
    )

pub returns : goal.returns
returns c = (
  λ t. absurd (let z : false ≡ true = t in cc),
  λ e. absurd (none_empty c.args.h.now c.args.params.now (each_end (λ (p : Param). HasObject c.args.h.now p.ty) c.args.params.now c.loop-param.param-index c.loop-param-test.false c.loop-param.invariant) e),
)
