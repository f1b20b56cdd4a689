-- At or above the bound no schedule of any solution is lost.
use Rattle.std.proofs.Common.{ℕ, ◌≤◌, List, arith}
use Rattle.plan_model.specs.declared.options.Checks.{Checks}
use Rattle.plan_model.specs.declared.values.Hddl.{Hddl}
use Rattle.plan_model.specs.declared.values.Compiled.{Compiled}
use Rattle.plan_model.specs.plan_meaning.Compilation.{IsCompiled}
use Rattle.plan_model.specs.plan_meaning.Bound.{IsBound}
use Rattle.slot_machine.proofs.bound_laws.EveryFront.{every_front_is_within}
use Rattle.plan_proof.specs.Headline.{SpellingForm, IsFaithfulBy, LosesNothingBy}

module _ (h : Hddl) (mode : Checks) (c : Compiled) (compiled : IsCompiled h mode c) (n : ℕ) (bound : IsBound c n) where
  pub loses_nothing : (Spelling : SpellingForm) (b : ℕ) (domain problem : List ℕ) → n ≤ b → IsFaithfulBy Spelling c b domain problem → LosesNothingBy Spelling c b domain problem
  loses_nothing Spelling b domain problem l f tree order solution =
      let front = solution.finished.front in
      let w = every_front_is_within h mode c compiled n bound tree order front in
      let (steps, slot, s) = f.spelled tree order front (λ taken rest nodes e a. (let k = w taken rest nodes e a in omega arith)) in
      (steps, slot, s, (f.plans steps).1 (tree, order, slot, s, solution))
