-- A text spells one hierarchical plan at most.
use Rattle.std.proofs.Common.{ℕ, ◌≡◌, ◌∙◌, Some, List, sym, ap}
use Rattle.hplan_text.specs.Lines.{Marked}
use Rattle.hplan_text.specs.SpellsHPlan.{rows, plan_of}
use Rattle.hplan_text.specs.Reading.{SpellsOneHPlan}

pub one-hplan : (text : List ℕ) → SpellsOneHPlan text
one-hplan text plan other s t =
    let e : Some s.between ≡ Some t.between = sym s.is_between ∙ t.is_between in
    let b : s.between ≡ t.between = cc in
    s.plan_is ∙ ap (λ (m : Marked). plan_of (rows m)) b ∙ sym t.plan_is
