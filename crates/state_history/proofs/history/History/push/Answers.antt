use Rattle.std.proofs.Common.{List, ℕ, Bool, true, false, [], Contains, subst, ◌∙◌, arith}
use Rattle.std.proofs.lemmas.Result.{on_ok_weaker}
use Rattle.plan_model.specs.declared.terms.GroundAtom.{GroundAtom}
use Rattle.ground_state.specs.Clauses.{IsInType}
use Rattle.ground_state.specs.Search.{Gathers, Touches}
use Rattle.state_history.specs.Flips.{states, AreSet}
use Rattle.state_history.specs.Gathered.{side, Gets}
use Rattle.state_history.proofs.FlipLaws.{truth-as}
use Rattle.state_history.proofs.GatherLaws.{from-empty}
use Rattle.state_history.proofs.HistoryLaws.{pushed}
use Rattle.state_history.proofs.history.History.push.Goals as goal

pub returns-clause-last : goal.returns-clause-last
returns-clause-last c = on_ok_weaker c.set_each-2.result (λ s. s.last ∙ c.in_ok-set_each.ensures.last ∙ c.in_ok-next.ensures.last) c.set_each-2.ensures

pub returns-clause-before : goal.returns-clause-before
returns-clause-before c =
    let next = c.in_ok-next.ensures in
    let first = c.in_ok-set_each.ensures in
    let l = next.last in
    let k = first.last in
    on_ok_weaker c.set_each-2.result (λ s j m g. truth-as (s.before j g (omega (arith, m, l, k)) ∙ first.before j g (omega (arith, m, l)) ∙ next.same j g)) c.set_each-2.ensures

pub returns-clause-after : goal.returns-clause-after
returns-clause-after c =
    let I = IsInType c.args.world.now in
    let old = c.args.self.now.flips in
    let v = c.args.values.now in
    let lists = c.gather.new.into in
    let gets = subst (λ (v : List ℕ). Gets c.args.world.now c.args.self.now.flips v c.new-touched.result c.gather.new.into c.args.eff.now) c.in_ok-begin.ensures.values c.in_ok-gather.ensures.gathered in
    let touched : (adds : Bool) → Gathers (Touches (IsInType c.args.world.now) (states c.args.self.now.flips c.args.self.now.flips.last) adds c.args.eff.now c.args.values.now) [] (side adds c.gather.new.into) =
    from-empty (λ adds. Touches (IsInType c.args.world.now) (states c.args.self.now.flips c.args.self.now.flips.last) adds c.args.eff.now c.args.values.now) c.new-touched.result lists c.new-touched.ensures.adds c.new-touched.ensures.deletes gets in
    on_ok_weaker c.set_each-2.result (λ s.
    pushed I old c.next.new.self c.set_each.new.self c.set_each-2.new.self c.args.eff.now v lists.adds lists.deletes c.in_ok-next.ensures.last c.in_ok-next.ensures.same
    (subst (λ (xs : List GroundAtom). AreSet c.next.new.self (Contains xs) false c.set_each.new.self) c.as_slice.ensures.items c.in_ok-set_each.ensures)
    (subst (λ (xs : List GroundAtom). AreSet c.set_each.new.self (Contains xs) true c.set_each-2.new.self) c.as_slice-2.ensures.items s)
    (touched true) (touched false)
    ) c.set_each-2.ensures
