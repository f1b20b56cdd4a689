-- The value of the smallest problem is printable, so nothing that is asked contradicts itself.
use Rattle.std.proofs.Common.{ℕ, zero, suc, ◌≡◌, ◌<◌, ◌≤◌, ◌⊎◌, inl, inr, List, [], ◌∷◌, map, codes, refl, sym, subst, arith}
use Rattle.std.specs.Prelude.{Contains}
use Rattle.text_forms.specs.Words.{Word}
use Rattle.htn_base.proofs.DifferentLemmas.{different-one}
use Rattle.plan_texts.specs.Declared.{named}
use Rattle.plan_texts.specs.SpellsPddl.{pddl_words}
use Rattle.plan_texts.specs.Printable.{IsSoundParam, AreSoundParams, sound_step, IsSound, sound_effect_step, IsSoundEffect, IsSoundAtom}
use Rattle.plan_texts.specs.PrintableValue.{arities_of, IsPrintable}
use Rattle.plan_model.specs.Typing.{Leads, stay, climb}
use Rattle.plan_model.specs.declared.schemas.ActionSchema.{ActionSchema}
use Rattle.plan_model.specs.declared.types.Parent.{Parent}
use Rattle.plan_model.specs.declared.terms.Term.TheVariants.{Var}
use Rattle.plan_model.specs.declared.formulas.Formula.{Formula, roll-Formula}
use Rattle.plan_model.specs.declared.formulas.Formula.TheOpen.{Formula-F}
use Rattle.plan_model.specs.declared.formulas.Formula.TheVariants.{Holds, Not, rolls-Holds, rolls-Not, rolls-And, rolls-Forall}
use Rattle.plan_model.specs.declared.effects.Effect.{Effect, roll-Effect}
use Rattle.plan_model.specs.declared.effects.Effect.TheOpen.{Effect-F}
use Rattle.plan_model.specs.declared.effects.Effect.TheVariants.{Add, Delete, rolls-Add, rolls-Delete, rolls-And as rolls-Both, rolls-Forall as rolls-Each_one}
use Rattle.plan_texts.proofs.DifferentWords.{different_by}
use Rattle.plan_texts.proofs.Members.{each-has, contains-has, has-contains}
use Rattle.plan_texts.proofs.Spelled.{sound_roll}
use Rattle.plan_texts.proofs.SpelledEffects.{sound_roll as effect-sound_roll}
use Rattle.plan_texts.proofs.examples.SmallestRow.{h, x, held, wait, turned, freed, clear, all_free, smallest}

-- where each parent stands before its child, chains lead down
leads_down : (parents : List Parent) → ((p : Parent) → Contains parents p → p.parent < p.child) → (s t : ℕ) → Leads parents s t → t ≤ s
leads_down parents e s t stay = omega arith
leads_down parents e s t (climb {parent = u} c l) = let a = e (record { child = s; parent = u }) c in let b = leads_down parents e u t l in omega arith

sound : (f : Formula) (l : Formula-F Formula) (scope : List Word) → roll-Formula l ≡ f → sound_step (pddl_words smallest) (arities_of smallest) (IsSound (pddl_words smallest) (arities_of smallest)) l scope → IsSound (pddl_words smallest) (arities_of smallest) f scope
sound f l scope e s = subst (λ g. IsSound (pddl_words smallest) (arities_of smallest) g scope) e (subst (λ (z : List Word → Type 0). z scope) (sym (sound_roll (pddl_words smallest) (arities_of smallest) l)) s)

sound-effect : (f : Effect) (l : Effect-F Effect) (scope : List Word) → roll-Effect l ≡ f → sound_effect_step (pddl_words smallest) (arities_of smallest) (IsSoundEffect (pddl_words smallest) (arities_of smallest)) l scope → IsSoundEffect (pddl_words smallest) (arities_of smallest) f scope
sound-effect f l scope e s = subst (λ g. IsSoundEffect (pddl_words smallest) (arities_of smallest) g scope) e (subst (λ (z : List Word → Type 0). z scope) (sym (effect-sound_roll (pddl_words smallest) (arities_of smallest) l)) s)

abbrev scope : List Word
scope = codes "htn_h" ∷ []

abbrev both : List Word
both = codes "htn_h" ∷ codes "htn_x" ∷ []

one : (ty : ℕ) → ty ≡ 1 → IsSoundParam (pddl_words smallest) (arities_of smallest) h
one ty e = ((refl, refl), omega arith)

other : IsSoundParam (pddl_words smallest) (arities_of smallest) x
other = ((refl, refl), omega arith)

sound-params : AreSoundParams (pddl_words smallest) (arities_of smallest) (h ∷ [])
sound-params = ((one 1 refl, tt), different-one _)

sound-wait : IsSound (pddl_words smallest) (arities_of smallest) wait scope
sound-wait = sound _ (Formula-F.Forall (x ∷ []) (Not (Holds (record { predicate = 2; args = Var 1 ∷ Var 0 ∷ [] })))) scope (rolls-Forall _ _) (
  ((other, tt), different-one _),
  sound _ (Formula-F.Not (Holds (record { predicate = 2; args = Var 1 ∷ Var 0 ∷ [] }))) both (rolls-Not _) (sound _ (Formula-F.Holds (record { predicate = 2; args = Var 1 ∷ Var 0 ∷ [] })) both (rolls-Holds _) (omega arith, refl, (refl, (refl, tt)))),
)

sound-held : (k : ℕ) → IsSoundAtom (pddl_words smallest) (arities_of smallest) scope k (Var 0 ∷ []) → IsSound (pddl_words smallest) (arities_of smallest) (held k) scope
sound-held k a = sound (held k) (Formula-F.And _) scope (rolls-And _) (sound _ (Formula-F.Holds (record { predicate = k; args = Var 0 ∷ [] })) scope (rolls-Holds (record { predicate = k; args = Var 0 ∷ [] })) a, (sound-wait, tt))

sound-add : (k : ℕ) → IsSoundAtom (pddl_words smallest) (arities_of smallest) scope k (Var 0 ∷ []) → IsSoundEffect (pddl_words smallest) (arities_of smallest) (Add (record { predicate = k; args = Var 0 ∷ [] })) scope
sound-add k a = sound-effect _ (Effect-F.Add (record { predicate = k; args = Var 0 ∷ [] })) scope (rolls-Add (record { predicate = k; args = Var 0 ∷ [] })) a

sound-delete : (k : ℕ) → IsSoundAtom (pddl_words smallest) (arities_of smallest) scope k (Var 0 ∷ []) → IsSoundEffect (pddl_words smallest) (arities_of smallest) (Delete (record { predicate = k; args = Var 0 ∷ [] })) scope
sound-delete k a = sound-effect _ (Effect-F.Delete (record { predicate = k; args = Var 0 ∷ [] })) scope (rolls-Delete (record { predicate = k; args = Var 0 ∷ [] })) a

sound-turned : (k l : ℕ) → IsSoundAtom (pddl_words smallest) (arities_of smallest) scope k (Var 0 ∷ []) → IsSoundAtom (pddl_words smallest) (arities_of smallest) scope l (Var 0 ∷ []) → IsSoundEffect (pddl_words smallest) (arities_of smallest) (turned k l) scope
sound-turned k l a b = sound-effect (turned k l) (Effect-F.And _) scope (rolls-Both _) (sound-delete k a, (sound-add l b, tt))

sound-freed : IsSoundEffect (pddl_words smallest) (arities_of smallest) freed scope
sound-freed = sound-effect freed (Effect-F.And _) scope (rolls-Both _) (
  sound-delete 4 (omega arith, refl, (refl, tt)),
  (
    sound-add 1 (omega arith, refl, (refl, tt)),
    (
      sound-effect clear (Effect-F.Forall (x ∷ []) (Delete (record { predicate = 2; args = Var 0 ∷ Var 1 ∷ [] }))) scope (rolls-Each_one _ _) (
        ((other, tt), different-one _),
        sound-effect _ (Effect-F.Delete (record { predicate = 2; args = Var 0 ∷ Var 1 ∷ [] })) both (rolls-Delete _) (omega arith, refl, (refl, (refl, tt))),
      ),
      tt,
    ),
  ),
)

sound-goal : IsSound (pddl_words smallest) (arities_of smallest) all_free []
sound-goal = sound all_free (Formula-F.And _) [] (rolls-And _) (
  sound _ (Formula-F.Forall (x ∷ []) (Holds (record { predicate = 1; args = Var 0 ∷ [] }))) [] (rolls-Forall _ _) (
    ((other, tt), different-one _),
    sound _ (Formula-F.Holds (record { predicate = 1; args = Var 0 ∷ [] })) (codes "htn_x" ∷ []) (rolls-Holds _) (omega arith, refl, (refl, tt)),
  ),
  tt,
)

-- each parent of the smallest value stands before its child
below : (p : Parent) → Contains smallest.types.parents p → p.parent < p.child
below p c = each-has (λ (q : Parent). q.parent < q.child) smallest.types.parents p (omega arith, (omega arith, tt)) (contains-has smallest.types.parents p c)

has-parent : (k : ℕ) → 0 < k → k < 3 → (x : Parent) × ((record { child = 1; parent = 0 } ≡ x) ⊎ ((record { child = 2; parent = 0 } ≡ x) ⊎ ⊥)) × (x.child ≡ k)
has-parent zero z l = absurd (omega arith)
has-parent (suc zero) z l = (record { child = 1; parent = 0 }, inl refl, refl)
has-parent (suc (suc zero)) z l = (record { child = 2; parent = 0 }, inr (inl refl), refl)
has-parent (suc (suc (suc k))) z l = absurd (omega arith)

pub smallest_printable : IsPrintable smallest
smallest_printable = record {
  domain = (refl, refl);
  problem = (refl, refl);
  words = record {
    types = ((refl, refl), ((refl, refl), ((refl, refl), tt)));
    types_differ = different_by (pddl_words smallest).types refl;
    unions = tt;
    objects = ((refl, refl), tt);
    predicates = ((refl, refl), ((refl, refl), ((refl, refl), ((refl, refl), ((refl, refl), tt)))));
    objects_differ = different-one _;
    predicates_differ = different_by (pddl_words smallest).predicates refl;
  };
  first = refl;
  parents = ((omega arith, omega arith, omega arith), ((omega arith, omega arith, omega arith), tt));
  has_parent = has-parent;
  no_cycle = λ p m l. (let a = below p (has-contains smallest.types.parents p m) in let b = leads_down smallest.types.parents below p.parent p.child l in omega arith);
  objects = ((omega arith, refl), tt);
  predicates = ((one 1 refl, tt), ((one 1 refl, tt), ((other, (one 1 refl, tt)), ((one 1 refl, tt), ((one 1 refl, tt), tt)))));
  actions_named = ((refl, refl), ((refl, refl), ((refl, refl), tt)));
  actions_differ = different_by (map (λ (a : ActionSchema). named smallest.names a.name) smallest.actions) refl;
  params = (sound-params, (sound-params, (sound-params, tt)));
  pre = (sound-held 0 (omega arith, refl, (refl, tt)), (sound-held 3 (omega arith, refl, (refl, tt)), (sound-held 4 (omega arith, refl, (refl, tt)), tt)));
  eff = (sound-turned 0 3 (omega arith, refl, (refl, tt)) (omega arith, refl, (refl, tt)), (sound-turned 3 4 (omega arith, refl, (refl, tt)) (omega arith, refl, (refl, tt)), (sound-freed, tt)));
  init = ((omega arith, refl, (omega arith, tt)), tt);
  goal = sound-goal;
}
