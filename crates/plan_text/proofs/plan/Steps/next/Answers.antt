use Rattle.std.proofs.Common.{map, sym, ◌∙◌}
use Rattle.plan_text.proofs.Counted.{goes-behind, view-goes, nothing-left}
use Rattle.plan_text.proofs.plan.Steps.next.Goals as goal

pub invariant_of-self : goal.invariant_of-self
invariant_of-self c =
    let n = c.in_ok-behind.ensures.next in
    goes-behind c.self.inside.text.now c.self.inside.at c.in-Step.behind _ c.self.invariant (rw c.in-Step.is at n)

pub returns-in-Step-clause-next : goal.returns-in-Step-clause-next
returns-in-Step-clause-next c =
    let n = c.in_ok-behind.ensures.next in
    sym c.self.view_is ∙ view-goes c.self.inside.text.now c.self.inside.at c.in-Step.behind _ c.self.invariant (rw c.in-Step.is at n)

pub returns : goal.returns
returns c = record {
  next = sym c.self.view_is ∙ nothing-left c.self.inside.text.now c.self.inside.at (map (λ word. word.now) c.next_step.new.words.items) c.in_ok-behind.field-0 c.self.invariant c.in_ok-behind.ensures.next c.in_default.not-Step;
  unchanged = tt;
}
