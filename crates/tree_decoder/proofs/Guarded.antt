-- What a method asks is met where its constraints are true and its guards are kept.
use Rattle.std.proofs.Common.{ℕ, ◌≡◌, ◌+◌, ◌<◌, ◌≤◌, ◌↔◌, Bool, true, false, IsTrue, List, length, take, get_or, All, Some, slice_get, Contains, refl, ap, sym, subst, ◌∙◌, true≢false}
use Rattle.std.proofs.lemmas.List.{take_all, get_or_default}
use Rattle.std.proofs.lemmas.List.Elements.{All-contains, All-push, Contains-get_or}
use Rattle.plan_model.specs.declared.terms.Param.{Param}
use Rattle.plan_model.specs.declared.networks.Child.{Child}
use Rattle.plan_model.specs.declared.networks.Guard.{Guard}
use Rattle.plan_model.specs.declared.schemas.MethodPlan.{MethodPlan}
use Rattle.plan_model.specs.declared.values.Compiled.{Compiled}
use Rattle.plan_model.specs.plan_meaning.Truth.{value_of, AreTyped}
use Rattle.plan_model.specs.Typing.{InType}
use Rattle.plan_model.specs.plan_meaning.Network.{GroundMethod, Meets, child_of, InTypeOf, IsDeclared, IsMet, IsGroundMethod}
use Rattle.plan_model.specs.plan_meaning.Compilation.{IsCompiled}
use Rattle.plan_texts.specs.SoundValue.{IsSoundHddl}
use Rattle.plan_texts.specs.SoundlyCompiled.{IsSoundlyCompiled}
use Rattle.problem_index.specs.declared.printed_index.PrintedName.{PrintedName}
use Rattle.problem_index.specs.declared.printed_index.PrintedName.TheVariants.{Action, Check, Method}
use Rattle.problem_index.specs.declared.world.World.{World}
use Rattle.ground_state.proofs.Lists.{take_next}
use Rattle.slot_encoding.proofs.places.Guards.{guards_declare}
use Rattle.decoding.proofs.SoundSteps.{read_is_ground}
use Rattle.tree_decoder.specs.Acts.{IsNamedWith, IsMetWith, IsWorldOf, AreMet, AreKept}
use Rattle.tree_decoder.proofs.Allowed.{one_at, in_world}

all_of : {A : Type 0} (P : A → Type 0) (xs : List A) → ((x : A) → Contains xs x → P x) → All P xs
all_of P xs each k d l = each (get_or xs k d) (Contains-get_or xs k d l)

-- of an action and a check nothing is asked
pub others_met : (c : Compiled) (name : PrintedName) (objects : List ℕ) → ((m : ℕ) → name ≡ Method m → ⊥) → IsMetWith c name objects
others_met c (Action a) objects not = tt
others_met c (Check m) objects not = tt
others_met c (Method m) objects not = absurd (not m refl)

module _ (c : Compiled) (is : IsSoundlyCompiled c) (world : World) (of : IsWorldOf c world) (name : PrintedName) (objects : List ℕ)
    (named : IsNamedWith c name objects) (m : ℕ) (plan : MethodPlan) (e : name ≡ Method m) (at : slice_get c.methods m ≡ Some plan) where
  abbrev g : GroundMethod
  g = record { number = m; values = objects }

  compiled : IsCompiled c.hddl is.checks c
  compiled = subst (λ z. IsCompiled z is.checks c) (sym is.compiled.hddl) is.compiled

  sound : IsSoundHddl c.hddl
  sound = subst IsSoundHddl (sym is.compiled.hddl) is.sound.value

  read : IsNamedWith c (Method m) objects
  read = subst (λ n. IsNamedWith c n objects) e named

  typed : AreTyped (InTypeOf c) plan.schema.params objects
  typed = go read
    where
      go : IsNamedWith c (Method m) objects → AreTyped (InTypeOf c) plan.schema.params objects
      go (slot, new, (b, step, r)) =
          let (other, at_other, own) = r.has in
          let same = ap (λ (z : MethodPlan). z.schema.params) (one_at c.methods m plan other at at_other) in
          subst (λ (ps : List Param). AreTyped (InTypeOf c) ps objects) (sym (same ∙ own)) r.typed

  ground : IsGroundMethod c g ↔ IsMet c g plan
  ground = go read
    where
      go : IsNamedWith c (Method m) objects → IsGroundMethod c g ↔ IsMet c g plan
      go (slot, new, (b, step, r)) = read_is_ground c b step slot new g plan r at

  abbrev Kept : Guard → Type 0
  Kept k = InType world.types.now world.objects.now (value_of objects k.term) k.ty

  declared : ((k : Guard) → Contains plan.guards k → Kept k) ↔ ((child : Child) → Contains plan.schema.children child → IsDeclared c (child_of g child))
  declared = in_world c world of
      (λ T. ((k : Guard) → Contains plan.guards k → T (value_of objects k.term) k.ty)
      ↔ ((child : Child) → Contains plan.schema.children child → IsDeclared c (child_of g child)))
      (guards_declare is.checks c compiled sound g plan at typed)

  met : IsMetWith c (Method m) objects ↔ (AreMet objects plan.schema.constraints × AreKept world objects plan.guards)
  met = (
    λ x. (all_of (Meets objects) plan.schema.constraints (ground.0 x).constraints, all_of Kept plan.guards (declared.1 (ground.0 x).declared)),
    λ h. ground.1 (record {
      constraints = λ one k. All-contains (Meets objects) plan.schema.constraints one h.0 k;
      declared = declared.0 (λ k i. All-contains Kept plan.guards k h.1 i);
    }),
  )

  named_met : IsMetWith c name objects ↔ (AreMet objects plan.schema.constraints × AreKept world objects plan.guards)
  named_met = subst (λ n. IsMetWith c n objects ↔ (AreMet objects plan.schema.constraints × AreKept world objects plan.guards)) (sym e) met

  -- where the constraints are true, the guards tell; where one is false, nothing is met
  pub guards_tell : (kept : Bool) → AreMet objects plan.schema.constraints → IsTrue kept ↔ AreKept world objects plan.guards
      → IsTrue kept ↔ IsMetWith c name objects
  guards_tell kept true_ones k = (λ t. named_met.1 (true_ones, k.0 t), λ x. k.1 (named_met.0 x).1)

  pub unmet : (AreMet objects plan.schema.constraints → ⊥) → IsTrue false ↔ IsMetWith c name objects
  unmet not = (λ t. absurd (true≢false (sym t)), λ x. absurd (not (named_met.0 x).0))

-- terms that are looked at one after another: those so far are kept
module _ (world : World) (objects : List ℕ) (guards : List Guard) where
  abbrev IsOfType : ℕ → Guard → Type 0
  IsOfType object k = InType world.types.now world.objects.now object k.ty

  abbrev IsKept : Guard → Type 0
  IsKept k = IsOfType (value_of objects k.term) k

  pub one_not_kept : (i : ℕ) (d : Guard) → i < length guards → (object : ℕ) → object ≡ value_of objects (get_or guards i d).term
      → (t : Bool) → IsTrue t ↔ IsOfType object (get_or guards i d) → t ≡ false → IsTrue false ↔ AreKept world objects guards
  one_not_kept i d l object is t tells e = (λ f. absurd (true≢false (sym f)), λ all. absurd (true≢false (sym (kept all) ∙ e)))
    where
      kept : AreKept world objects guards → IsTrue t
      kept all = tells.1 (subst (λ o. IsOfType o (get_or guards i d)) (sym is) (all i d l))

  pub one_more_kept : (i : ℕ) (d : Guard) → i < length guards → (object : ℕ) → object ≡ value_of objects (get_or guards i d).term
      → (t : Bool) → IsTrue t ↔ IsOfType object (get_or guards i d) → t ≡ true → AreKept world objects (take i guards)
      → AreKept world objects (take (i + 1) guards)
  one_more_kept i d l object is t tells e before =
      let k = get_or guards i d in
      subst (All IsKept) (sym (take_next guards i k l (get_or_default guards i d k l)))
      (All-push IsKept (take i guards) k before (subst (λ o. IsOfType o k) is (tells.0 e)))

  pub all_kept : (i : ℕ) → length guards ≤ i → AreKept world objects (take i guards) → IsTrue true ↔ AreKept world objects guards
  all_kept i l before = (λ t. subst (All IsKept) (take_all i guards l) before, λ h. refl)
