-- Source conditions and effects as they stand in the printed actions, where an empty conjunction is left out.
-- Source: this project's.
use Rattle.std.proofs.Common.{ℕ, ◌≡◌, ◌↔◌, ◌<◌, inl, inr, ◌++◌, Bool, true, false, cond, List, [], ◌∷◌, length, refl, sym, subst, ◌∙◌}
use Rattle.std.proofs.lemmas.List.{length-map}
use Rattle.plan_model.specs.declared.options.Style.TheVariants.{Adl}
use Rattle.plan_model.specs.declared.options.Checks.{Checks}
use Rattle.plan_model.specs.declared.terms.GroundAtom.{GroundAtom}
use Rattle.plan_model.specs.declared.schemas.Predicate.{Predicate}
use Rattle.plan_model.specs.declared.formulas.Formula.{Formula, roll-Formula}
use Rattle.plan_model.specs.declared.formulas.Formula.TheFolds.{fold-roll-Formula, map-Formula, ind-Formula}
use Rattle.plan_model.specs.declared.formulas.Formula.TheOpen.{Formula-F}
use Rattle.plan_model.specs.declared.formulas.Formula.TheVariants as F
use Rattle.plan_model.specs.declared.effects.Effect.{Effect, roll-Effect}
use Rattle.plan_model.specs.declared.effects.Effect.TheFolds.{fold-roll-Effect, map-Effect, ind-Effect}
use Rattle.plan_model.specs.declared.effects.Effect.TheOpen.{Effect-F}
use Rattle.plan_model.specs.declared.effects.Effect.TheVariants as E
use Rattle.plan_model.specs.declared.values.Hddl.{Hddl}
use Rattle.plan_model.specs.declared.values.Compiled.{Compiled}
use Rattle.plan_model.specs.declared.values.Pddl.{Pddl}
use Rattle.plan_texts.specs.Declared.{Declared, named}
use Rattle.plan_texts.specs.SpellsHddl.{hddl_words}
use Rattle.plan_texts.specs.SoundValue.{arities}
use Rattle.plan_model.specs.plan_meaning.Truth.{State, EachTrue, OneTrue, IsTrueIn, Adds, Deletes}
use Rattle.slot_encoding.specs.SourceParts.{source_formula, source_effect}
use Rattle.slot_encoding.specs.EncodedActions.{no_part, no_effect, is_empty, is_empty_effect, source_condition, source_change}
use Rattle.plan_model.specs.plan_meaning.Network as Source
use Rattle.plan_model.specs.plan_meaning.ClassicalPlan as Printed
use Rattle.plan_model.proofs.plan_meaning.TruthEquations.{truth-And}
use Rattle.plan_model.proofs.plan_meaning.EffectEquations.{adds-And, deletes-And}
use Rattle.slot_encoding.proofs.Pieces.{AreAgreed, IsSoundCondition, IsSoundChange, SourceMeaning, SourceAgrees}
use Rattle.stack_encoding.proofs.places.StackWorded.{IsStackWorded}
use Rattle.stack_encoding.proofs.places.StackTypes.{stack_types_agree}
use Rattle.slot_encoding.proofs.places.SourceFormulas.{truth-source}
use Rattle.plan_proof.proofs.machine.SourceEffects.{adds-source, deletes-source}

-- what is left out is an empty conjunction
empty_condition : (f : Formula) → is_empty f ≡ true → f ≡ F.And []
empty_condition = ind-Formula Empty (λ x y is. subst (λ z. Empty (roll-Formula z)) is (of_layer (map-Formula ((f : Formula) × Empty f) Formula (λ e. e.0) y)))
  where
    Empty : Formula → Type 0
    Empty f = is_empty f ≡ true → f ≡ F.And []

    by : (x : Formula-F Formula) → no_part (map-Formula Formula Bool is_empty x) ≡ true → roll-Formula x ≡ F.And []
    by (Formula-F.Holds a) e = absurd cc
    by (Formula-F.Equal s t) e = absurd cc
    by (Formula-F.Not f) e = absurd cc
    by (Formula-F.And []) e = F.rolls-And []
    by (Formula-F.And (f ∷ fs)) e = absurd cc
    by (Formula-F.Or fs) e = absurd cc
    by (Formula-F.Imply f g) e = absurd cc
    by (Formula-F.Forall ps f) e = absurd cc
    by (Formula-F.Exists ps f) e = absurd cc

    of_layer : (x : Formula-F Formula) → is_empty (roll-Formula x) ≡ true → roll-Formula x ≡ F.And []
    of_layer x e = by x (sym (fold-roll-Formula Bool no_part x) ∙ e)

empty_change : (e : Effect) → is_empty_effect e ≡ true → e ≡ E.And []
empty_change = ind-Effect Empty (λ x y is. subst (λ z. Empty (roll-Effect z)) is (of_layer (map-Effect ((e : Effect) × Empty e) Effect (λ e. e.0) y)))
  where
    Empty : Effect → Type 0
    Empty e = is_empty_effect e ≡ true → e ≡ E.And []

    by : (x : Effect-F Effect) → no_effect (map-Effect Effect Bool is_empty_effect x) ≡ true → roll-Effect x ≡ E.And []
    by (Effect-F.Add a) e = absurd cc
    by (Effect-F.Delete a) e = absurd cc
    by (Effect-F.And []) e = E.rolls-And []
    by (Effect-F.And (f ∷ fs)) e = absurd cc
    by (Effect-F.Forall ps f) e = absurd cc
    by (Effect-F.When f g) e = absurd cc

    of_layer : (x : Effect-F Effect) → is_empty_effect (roll-Effect x) ≡ true → roll-Effect x ≡ E.And []
    of_layer x e = by x (sym (fold-roll-Effect Bool no_effect x) ∙ e)

module _ (InType : ℕ → ℕ → Type 0) (S : State) (values : List ℕ) where
  empty_holds : (f : Formula) → is_empty f ≡ true → IsTrueIn InType S f values
  empty_holds f e = subst (λ z. IsTrueIn InType S z values) (sym (empty_condition f e)) (subst (λ z. z values) (sym (truth-And InType S [])) tt)

  empty_adds : (e : Effect) (g : GroundAtom) → is_empty_effect e ≡ true → Adds InType S e values g → ⊥
  empty_adds e g h a = subst (λ z. z values g) (adds-And InType S []) (subst (λ z. Adds InType S z values g) (empty_change e h) a)

  empty_deletes : (e : Effect) (g : GroundAtom) → is_empty_effect e ≡ true → Deletes InType S e values g → ⊥
  empty_deletes e g h a = subst (λ z. z values g) (deletes-And InType S []) (subst (λ z. Deletes InType S z values g) (empty_change e h) a)

module _ (h : Hddl) (mode : Checks) (c : Compiled) (b : ℕ) (p : Pddl) (is : IsStackWorded h mode c b p) where
  abbrev words : Declared
  words = hddl_words c.hddl

  module _ (S S' : State) (agreed : AreAgreed c S S') (front : List ℕ) where
    abbrev InP : ℕ → ℕ → Type 0
    InP = Printed.InTypeOf p

    abbrev InC : ℕ → ℕ → Type 0
    InC = Source.InTypeOf c

    agree : (g : GroundAtom) → g.predicate < length words.predicates → S' g ↔ S g
    agree g l = agreed g (subst (λ z. g.predicate < z) (length-map c.hddl.predicates (λ (d : Predicate). named c.hddl.names d.name)) l)

    truth : (f : Formula) (values : List ℕ) → IsSoundCondition c f → IsTrueIn InP S' (source_formula p.names c.hddl.names (length front) f) (front ++ values) ↔ IsTrueIn InC S f values
    truth f values s = truth-source p.names c.hddl.names InC InP (stack_types_agree h mode c b p is).source words (arities c.hddl) S S' agree front f s.0 values s.1

    condition : (f : Formula) (values : List ℕ) → IsSoundCondition c f → EachTrue (IsTrueIn InP S') (source_condition c p.names b Adl (length front) f) (front ++ values) ↔ IsTrueIn InC S f values
    condition f values s = go (is_empty f) refl
      where
        go : (e : Bool) → is_empty f ≡ e → EachTrue (IsTrueIn InP S') (cond e [] (source_formula p.names c.hddl.names (length front) f ∷ [])) (front ++ values) ↔ IsTrueIn InC S f values
        go true e = (λ x. empty_holds InC S values f e, λ x. tt)
        go false e = let r = truth f values s in (λ x. r.0 x.0, λ x. (r.1 x, tt))

    below : (g : GroundAtom) → g.predicate < length words.predicates → g.predicate < length c.hddl.predicates
    below g l = subst (λ z. g.predicate < z) (length-map c.hddl.predicates (λ (d : Predicate). named c.hddl.names d.name)) l

    adds : (e : Effect) (values : List ℕ) (g : GroundAtom) → IsSoundChange c e → OneTrue (λ x v. Adds InP S' x v g) (source_change c p.names b Adl (length front) e) (front ++ values) ↔ Adds InC S e values g
    adds e values g s = go (is_empty_effect e) refl
      where
        go : (t : Bool) → is_empty_effect e ≡ t → OneTrue (λ x v. Adds InP S' x v g) (cond t [] (source_effect p.names c.hddl.names (length front) e ∷ [])) (front ++ values) ↔ Adds InC S e values g
        go true f = (λ x. absurd x, λ x. empty_adds InC S values e g f x)
        go false f =
            let r = (adds-source p.names c.hddl.names InC InP (stack_types_agree h mode c b p is).source words (arities c.hddl) S S' agree front e).same s.0 values g s.1 in
            (λ x. elim x [ inl y ↦ r.0 y | inr y ↦ absurd y ], λ x. inl (r.1 x))

    deletes : (e : Effect) (values : List ℕ) (g : GroundAtom) → IsSoundChange c e → OneTrue (λ x v. Deletes InP S' x v g) (source_change c p.names b Adl (length front) e) (front ++ values) ↔ Deletes InC S e values g
    deletes e values g s = go (is_empty_effect e) refl
      where
        go : (t : Bool) → is_empty_effect e ≡ t → OneTrue (λ x v. Deletes InP S' x v g) (cond t [] (source_effect p.names c.hddl.names (length front) e ∷ [])) (front ++ values) ↔ Deletes InC S e values g
        go true f = (λ x. absurd x, λ x. empty_deletes InC S values e g f x)
        go false f =
            let r = (deletes-source p.names c.hddl.names InC InP (stack_types_agree h mode c b p is).source words (arities c.hddl) S S' agree front e).same s.0 values g s.1 in
            (λ x. elim x [ inl y ↦ r.0 y | inr y ↦ absurd y ], λ x. inl (r.1 x))

    source_meaning : SourceMeaning c b Adl p S S' front
    source_meaning = record {
      truth = truth;
      condition = condition;
      adds = adds;
      deletes = deletes;
      adds_source = λ e values g s a. below g ((adds-source p.names c.hddl.names InC InP (stack_types_agree h mode c b p is).source words (arities c.hddl) S S' agree front e).below s.0 values g s.1 a);
      deletes_source = λ e values g s a. below g ((deletes-source p.names c.hddl.names InC InP (stack_types_agree h mode c b p is).source words (arities c.hddl) S S' agree front e).below s.0 values g s.1 a);
    }

  pub source_agrees : SourceAgrees c b Adl p
  source_agrees = λ S S' front agreed. source_meaning S S' agreed front
