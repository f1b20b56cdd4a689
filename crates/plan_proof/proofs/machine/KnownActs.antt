-- The acts of a run name slots and what the problem declares, so each is that of a printed action.
use Rattle.std.proofs.Common.{ℕ, ◌≡◌, ◌-◌, ◌≤◌, inl, inr, List, [], ◌∷◌, length, slice_get, Option, Some, None, refl, ap, sym, subst, ◌∙◌, arith, map, ◌++◌}
use Rattle.plan_model.specs.declared.options.Style.{Style}
use Rattle.plan_model.specs.declared.schemas.ActionSchema.{ActionSchema}
use Rattle.plan_model.specs.declared.values.Compiled.{Compiled}
use Rattle.plan_model.specs.declared.values.Pddl.{Pddl}
use Rattle.plan_model.specs.task_networks.Net.{Net}
use Rattle.plan_model.specs.task_networks.Spelling.{Act, run, apply, others}
use Rattle.slot_machine.specs.Machine as Machine
use Rattle.slot_machine.specs.Machine.{May, Runs, start, with_heir}
use Rattle.slot_machine.proofs.Inserts.{insert_cases}
use Rattle.plan_model.specs.plan_meaning.Truth.{AreTyped}
use Rattle.plan_model.specs.plan_meaning.Network.{Work, action, check, task, IsGroundMethod, network, InTypeOf}
use Rattle.plan_model.specs.plan_meaning.Solution.{top_work}
use Rattle.slot_encoding.specs.EncodedActions.{encoded_method, encoded_check, encoded_action}
use Rattle.slot_encoding.proofs.Pieces.{slot_object, IsSlot, IsActBy}
use Rattle.plan_proof.proofs.machine.Reading.{IsKnown}
use Rattle.plan_proof.proofs.machine.Facts.{PiecesMean}
use Rattle.slot_encoding.proofs.places.ListPlaces.{get_contains}
use Rattle.plan_proof.proofs.machine.Methods.{each_contains}
use Rattle.plan_proof.proofs.machine.MethodChildren.{others_long, count_is, known_children}

module _ (c : Compiled) (b : ℕ) (style : Style) (p : Pddl) where
  -- each act of the list is that of some printed action
  abbrev pub AreActs : List (Act (network c)) → Type 0
  AreActs [] = Unit {0}
  AreActs (act ∷ acts) = ((a : ActionSchema) × (os : List ℕ) × IsActBy c b style p act a os) × AreActs acts

module _ (c : Compiled) (b : ℕ) (style : Style) (p : Pddl) (means : PiecesMean c b style p) where
  abbrev N : Net
  N = network c

  -- what is held is known, and what is held or free is a slot
  pub record IsSane (t : Machine.SlotState N) : Type 0 where
    pub holds : (x : ℕ) (w : Work) → t.holds x w → IsKnown c w × IsSlot c b style p x
    pub free : (x : ℕ) → t.free x → IsSlot c b style p x

  sane_start : 1 ≤ b → IsSane (start N b (top_work c))
  sane_start positive = record {
    holds = λ x w k. (subst (IsKnown c) (sym k.1) known, subst (IsSlot c b style p) (sym k.0) (let l : 1 ≤ 1 = omega arith in (l, positive)));
    free = λ x k. (let l = k.0 in (omega arith, k.1));
  }
    where
      known : IsKnown c (top_work c)
      known = let e : length c.hddl.tasks ≤ length c.hddl.tasks = omega arith in e

  sane_after : (t : Machine.SlotState N) (act : Act N) → IsSane t → May N t act → IsSane (Machine.after_act N t act)
  sane_after t (run h w) s may = record {
    holds = λ x v k. s.holds x v k.0;
    free = λ x k. elim k [ inl y ↦ s.free x y | inr e ↦ subst (IsSlot c b style p) (sym e) (s.holds h w may.holds).1 ];
  }
  sane_after t (apply h new g) s may = record {
    holds = λ x v k. elim k [ inl y ↦ s.holds x v y.0 | inr y ↦ (known_children c means.fits g may.ground.plan may.ground.is may.ground.typed may.ground.met.declared y.0 v y.2, child_slot y.0 x y.1) ];
    free = λ x k. elim k [ inl y ↦ s.free x y.0 | inr y ↦ subst (IsSlot c b style p) (sym y.1) slot ];
  }
    where
      slot : IsSlot c b style p h
      slot = (s.holds h (N.head g) may.holds).1

      child_slot : (i x : ℕ) → Machine.IsSlotOf N h new g i x → IsSlot c b style p x
      child_slot i x = go (N.heir g)
        where
          go : (o : Option ℕ) → slice_get (with_heir o h new) i ≡ Some x → IsSlot c b style p x
          go None e = s.free x (may.free x (get_contains new i x e))
          go (Some k) e = elim (insert_cases k h new x (get_contains (Machine.insert_at k h new) i x e)) [ inl f ↦ subst (IsSlot c b style p) f slot | inr d ↦ s.free x (may.free x d) ]

  act_is : (t : Machine.SlotState N) (act : Act N) → IsSane t → May N t act → (a : ActionSchema) × (os : List ℕ) × IsActBy c b style p act a os
  act_is t (run h (action n args)) s may =
      let (known, slot) = s.holds h (action n args) may.holds in
      let (ps, (x, is, e), ty) = known in (
        encoded_action c p.names b style n x,
        slot_object c b style p h ∷ args,
        record { schema = x; is = is; action = refl; slot = slot; typed = subst (λ z. AreTyped (InTypeOf c) z args) (sym e) ty; objects = refl },
      )
  act_is t (run h (check n values)) s may =
      let (known, slot) = s.holds h (check n values) may.holds in
      let (plan, is, checked, typed) = known in (
        encoded_check c p.names b style n plan,
        slot_object c b style p h ∷ values,
        record { plan = plan; is = is; checked = checked; action = refl; slot = slot; typed = typed; objects = refl },
      )
  act_is t (run h (task n args)) s may = absurd may.simple
  act_is t (apply h new g) s may = (
    encoded_method c p.names b style g.number ground.plan,
    slot_object c b style p h ∷ (map (slot_object c b style p) new ++ g.values),
    record {
      plan = ground.plan;
      is = ground.is;
      action = refl;
      slot = (s.holds h (N.head g) may.holds).1;
      new_slots = (each_contains (IsSlot c b style p) new).1 (λ x d. s.free x (may.free x d));
      count = may.enough ∙ long;
      typed = ground.typed;
      objects = refl;
    },
  )
    where
      ground : IsGroundMethod c g
      ground = may.ground

      long : length (others N g) ≡ length ground.plan.schema.children - 1
      long = others_long N means.lawful g ∙ ap (λ n. n - 1) (count_is c means.fits g ground.plan ground.is)

  acts_from : (t : Machine.SlotState N) (acts : List (Act N)) → IsSane t → Runs N t acts → AreActs c b style p acts
  acts_from t [] s r = tt
  acts_from t (act ∷ acts) s r = (act_is t act s r.0, acts_from (Machine.after_act N t act) acts (sane_after t act s r.0) r.1)

  pub acts_are : 1 ≤ b → (acts : List (Act N)) → Runs N (start N b (top_work c)) acts → AreActs c b style p acts
  acts_are positive acts r = acts_from (start N b (top_work c)) acts (sane_start positive) r
