use Rattle.std.proofs.Common.{Some, None, sym, subst}
use Rattle.htn_base.specs.Words.{IsFolded}
use Rattle.htn_base.proofs.TableLemmas.{IsFolded-folded}
use Rattle.plan_text.specs.Coming.{TellsCount}
use Rattle.plan_text.proofs.LookedThrough.{looked-through, plan-is-read, no-plan}
use Rattle.plan_text.proofs.plan.looked_through.Goals as goal

pub count-requires : goal.count-requires
count-requires c = record { folded = subst IsFolded (sym c.lower_text.ensures.lower) (IsFolded-folded c.args.text.now) }

pub invariant_of-result : goal.invariant_of-result
invariant_of-result c =
    looked-through c.args.text.now c.in_ok-lower.lower c.in-Ok-Some.count c.in_ok-lower.ensures.lower
    (subst (λ text. TellsCount text (Some c.in-Ok-Some.count)) c.lower_text.ensures.lower (subst (TellsCount c.lower_text.result.now) c.in-Ok-Some.field-0-is c.in-Ok-Some.ensures.count))

pub returns-in-Ok-Some : goal.returns-in-Ok-Some
returns-in-Ok-Some c = record {
  plan = plan-is-read c.args.text.now c.in-Ok-Some.count
      (subst (λ text. TellsCount text (Some c.in-Ok-Some.count)) c.lower_text.ensures.lower (subst (TellsCount c.lower_text.result.now) c.in-Ok-Some.field-0-is c.in-Ok-Some.ensures.count));
}

pub returns-in-Ok-None : goal.returns-in-Ok-None
returns-in-Ok-None c = record {
  plan = no-plan c.args.text.now (subst (λ text. TellsCount text None) c.lower_text.ensures.lower (subst (TellsCount c.lower_text.result.now) c.in-Ok-None.field-0-is c.in-Ok-None.ensures.count));
}
