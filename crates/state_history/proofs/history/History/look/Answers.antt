use Rattle.std.proofs.Common.{List, ℕ, ◌≤◌, ◌↔◌, IsTrue, subst, arith}
use Rattle.plan_model.specs.plan_meaning.Truth.{IsTrueIn}
use Rattle.ground_state.specs.Clauses.{IsInType}
use Rattle.state_history.specs.Flips.{states}
use Rattle.state_history.proofs.history.History.look.Goals as goal

pub returns-clause-truth : goal.returns-clause-truth
returns-clause-truth c =
    let looked = c.in_ok-truth.ensures in
    let none = c.in_ok-begin.ensures.since in
    subst (λ (v : List ℕ). IsTrue c.in_ok-truth.truth ↔ IsTrueIn (IsInType c.args.world.now) (states c.args.self.now.flips c.args.gap) c.args.f.now v) c.in_ok-begin.ensures.values
    (looked.truth c.args.gap (looked.kept.within (omega (arith, none))) (omega arith))

pub returns-clause-since : goal.returns-clause-since
returns-clause-since c = let none = c.in_ok-begin.ensures.since in c.in_ok-truth.ensures.kept.within (omega (arith, none))

pub returns-clause-same : goal.returns-clause-same
returns-clause-same c j since before =
    let looked = c.in_ok-truth.ensures in
    let none = c.in_ok-begin.ensures.since in
    let told : (i : ℕ) → c.holds_in.new.desk.since ≤ i → i ≤ c.args.gap → IsTrue c.in_ok-truth.truth ↔ IsTrueIn (IsInType c.args.world.now) (states c.args.self.now.flips i) c.args.f.now c.args.values.now =
    λ i l m. subst (λ (v : List ℕ). IsTrue c.in_ok-truth.truth ↔ IsTrueIn (IsInType c.args.world.now) (states c.args.self.now.flips i) c.args.f.now v) c.in_ok-begin.ensures.values (looked.truth i l m) in
    let here = told j since before in
    let there = told c.args.gap (looked.kept.within (omega (arith, none))) (omega arith) in
    (λ x. there.0 (here.1 x), λ x. here.0 (there.1 x))
