-- The children of a method: how many there are, and that they are known.
use Rattle.std.proofs.Common.{ℕ, ◌≡◌, ◌-◌, List, length, slice_get, Option, Some, None, refl, ap, sym, subst, ◌∙◌, Contains, arith}
use Rattle.std.specs.Prelude.{IsTrue}
use Rattle.std.proofs.Math.Decide.{ℕ_discrete}
use Rattle.std.proofs.lemmas.List.{length-map}
use Rattle.std.proofs.lemmas.Option.{slice_get_within}
use Rattle.plan_model.specs.declared.networks.Head.{Head}
use Rattle.plan_model.specs.declared.networks.Head.TheVariants.{Task, Action, Check}
use Rattle.plan_model.specs.declared.networks.Child.{Child}
use Rattle.plan_model.specs.declared.schemas.MethodPlan.{MethodPlan}
use Rattle.plan_model.specs.declared.values.Compiled.{Compiled}
use Rattle.plan_model.specs.task_networks.Net.{Net, count}
use Rattle.plan_model.specs.task_networks.Lawful.{IsLawful}
use Rattle.plan_model.specs.task_networks.Spelling.{others}
use Rattle.plan_model.proofs.task_networks.OtherChildren.{rest_of}
use Rattle.slot_machine.proofs.OtherChildren.{length-rest}
use Rattle.plan_model.specs.plan_meaning.Truth.{values_of, AreTyped}
use Rattle.plan_model.specs.plan_meaning.Network.{Work, GroundMethod, network, InTypeOf, IsDeclared, ground_work, child_of}
use Rattle.plan_model.proofs.plan_meaning.MethodParts.{head_by, works_by}
use Rattle.plan_proof.proofs.machine.Reading.{IsKnown}
use Rattle.plan_proof.proofs.machine.Facts.{FitsTogether}
use Rattle.slot_encoding.proofs.places.ListPlaces.{get_map_cases, get_contains}

-- a method has one child more than others than the heir, or none
pub others_long : (N : Net) → IsLawful N → (m : N.Method) → length (others N m) ≡ count N m - 1
others_long N law m = go (N.heir m) refl
  where
    without : count N m ≡ 0 → length (rest_of None (count N m)) ≡ count N m - 1
    without e = ap (λ n. length (rest_of None n)) e ∙ (let z : 0 ≡ count N m - 1 = omega arith in z)

    go : (o : Option ℕ) → N.heir m ≡ o → length (rest_of o (count N m)) ≡ count N m - 1
    go None e = elim (ℕ_discrete (count N m) 0) [ yes z ↦ without z | no z ↦ absurd (let x = (law.has_heir m (omega arith)).1 in cc) ]
    go (Some k) e = let l = length-rest k (count N m) (law.heir_is_child m k e) in omega arith

module _ (c : Compiled) (fits : FitsTogether c) (g : GroundMethod) (plan : MethodPlan) (is : slice_get c.methods g.number ≡ Some plan) where
  pub count_is : count (network c) g ≡ length plan.schema.children
  count_is = ap (λ o. length (works_by g o)) is ∙ length-map plan.schema.children (child_of g)

  pub known_head : IsKnown c ((network c).head g)
  known_head = subst (IsKnown c) (sym (ap (head_by g) is)) (fits.tasks g.number plan is)

  module _ (typed : AreTyped (InTypeOf c) plan.schema.params g.values) (declared : (child : Child) → Contains plan.schema.children child → IsDeclared c (child_of g child)) where
    known_work : (hd : Head) (args : List ℕ) → (hd ≡ Check → IsTrue plan.checked) → IsDeclared c (ground_work g hd args) → IsKnown c (ground_work g hd args)
    known_work (Task n) args checked d = let (ps, (s, e, f), ty) = d in let l = slice_get_within c.hddl.tasks n s e in omega arith
    known_work (Action n) args checked d = d
    known_work Check args checked d = (plan, is, checked refl, typed)

    pub known_children : (i : ℕ) (w : Work) → slice_get ((network c).works g) i ≡ Some w → IsKnown c w
    known_children i w e =
        let (child, f, q) = get_map_cases (child_of g) plan.schema.children i w (sym (ap (λ o. slice_get (works_by g o) i) is) ∙ e) in
        let k = get_contains plan.schema.children i child f in
        subst (IsKnown c) q (known_work child.head (values_of g.values child.args) (fits.checks g.number plan child is k) (declared child k))
