-- Alike values have the same failing step of a list, with the same cause, and so have all values that two texts spell.
use Rattle.std.proofs.Common.{ℕ, ◌≡◌, ◌↔◌, inl, inr, List, [], ◌∷◌, ap, sym, subst}
use Rattle.std.specs.Prelude.{Contains}
use Rattle.plan_texts.specs.Types.{Has}
use Rattle.plan_texts.specs.SpellsPddl.{pddl_words, SpellsPddl}
use Rattle.plan_texts.specs.Alike.{action_said, AreAlikePddl}
use Rattle.plan_model.specs.declared.terms.GroundAtom.{GroundAtom}
use Rattle.plan_model.specs.declared.causes.FailWhy.{FailWhy}
use Rattle.plan_model.specs.declared.causes.FailWhy.TheVariants.{UnknownAction, Arguments, Condition, GoalFalse}
use Rattle.plan_model.specs.declared.schemas.ActionSchema.{ActionSchema}
use Rattle.plan_model.specs.declared.steps.GroundAction.{GroundAction}
use Rattle.plan_model.specs.declared.values.Pddl.{Pddl}
use Rattle.plan_model.specs.plan_meaning.Truth.{State, IsTrueIn}
use Rattle.plan_model.specs.plan_meaning.ClassicalPlan.{InTypeOf}
use Rattle.plan_model.specs.plan_meaning.FailingStep.{IsNamed, NamesAction, HasArguments, IsAllowed, FailsIn, Fails}
use Rattle.plan_texts.proofs.AlikeLaws.{pddl_symmetric}
use Rattle.plan_texts.proofs.Members.{each-has, has-to_map, has-of_map, contains-has, has-contains}
use Rattle.plan_texts.proofs.UniquePddl.{spelled_alike}
use Rattle.plan_proof.specs.SoundWords.{HasSoundWords}
use Rattle.plan_proof.proofs.texts.SamePlans.{same-name, same-truth, same-typed, same-objects, same-leads}
use Rattle.plan_proof.proofs.texts.SpelledSound.{spelled-sound}

module _ (c d : Pddl) (hc : HasSoundWords c) (hd : HasSoundWords d) (alike : AreAlikePddl c d) where
  -- the action that says the same
  other_action : (a : ActionSchema) → Contains c.actions a → (b : ActionSchema) × Has d.actions b × (action_said (pddl_words d) b ≡ action_said (pddl_words c) a)
  other_action a there =
      has-of_map (action_said (pddl_words d)) d.actions (action_said (pddl_words c) a)
      (subst (λ l. Has l (action_said (pddl_words c) a)) alike.actions (has-to_map (action_said (pddl_words c)) c.actions a (contains-has c.actions a there)))

  other_named : (step : GroundAction) (a : ActionSchema) → IsNamed c step a → (b : ActionSchema) × IsNamed d step b × (action_said (pddl_words d) b ≡ action_said (pddl_words c) a)
  other_named step a named =
      let b = other_action a named.action in (
        b.0,
        record {
          action = has-contains d.actions b.0 b.1;
          name = same-name c.names d.names a.name b.0.name step.name (ap (λ t. t.0) (sym b.2)) (each-has _ d.actions b.0 hd.actions_named b.1) named.name;
        },
        b.2,
      )

  names_too : (step : GroundAction) → NamesAction c step → NamesAction d step
  names_too step (a, named) = let b = other_named step a named in (b.0, b.1)

  has_too : (step : GroundAction) → HasArguments c step → HasArguments d step
  has_too step (a, objects, is) =
      let b = other_named step a is.named in (
        b.0,
        objects,
        record {
          named = b.1;
          objects_are = same-objects c d hc hd alike objects step.args is.objects_are;
          typed = same-typed c d hc hd alike (Contains c.init) (Contains c.init) (λ g. (λ x. x, λ x. x)) a.params b.0.params (ap (λ t. t.1) (sym b.2)) objects is.typed;
        },
      )

  allowed_too : (S S' : State) → ((g : GroundAtom) → S g ↔ S' g) → (step : GroundAction) → IsAllowed c S step → IsAllowed d S' step
  allowed_too S S' same step (a, objects, is) =
      let r = same-leads c d hc hd alike (λ S. Unit {0}) (λ S. Unit {0}) (λ S S' same x. x) (step ∷ []) S S' same (a, objects, is, tt) in (r.0, r.1, r.2)

module _ (c d : Pddl) (hc : HasSoundWords c) (hd : HasSoundWords d) (alike : AreAlikePddl c d) where
  abbrev back : AreAlikePddl d c
  back = pddl_symmetric c d alike

  turned : (S S' : State) → ((g : GroundAtom) → S g ↔ S' g) → (g : GroundAtom) → S' g ↔ S g
  turned S S' same g = let s = same g in (s.1, s.0)

  fails_there : (step : GroundAction) (why : FailWhy) (S S' : State) → ((g : GroundAtom) → S g ↔ S' g) → FailsIn c step why S → FailsIn d step why S'
  fails_there step UnknownAction S S' same f = λ named. f (names_too d c hd hc back step named)
  fails_there step Arguments S S' same f = (names_too c d hc hd alike step f.0, λ has. f.1 (has_too d c hd hc back step has))
  fails_there step Condition S S' same f = (has_too c d hc hd alike step f.0, λ allowed. f.1 (allowed_too d c hd hc back S' S (turned S S' same) step allowed))
  fails_there step GoalFalse S S' same f = f

  first_facts : (g : GroundAtom) → Contains c.init g ↔ Contains d.init g
  first_facts g = (subst (λ l. Contains l g) alike.init, subst (λ l. Contains l g) (sym alike.init))

  pub same-fails : (steps : List GroundAction) (n : ℕ) (why : FailWhy) → Fails c steps n why → Fails d steps n why
  same-fails steps n why (inl (before, rest, step, is, at, f)) =
      inl (before, rest, step, is, at, same-leads c d hc hd alike (FailsIn c step why) (FailsIn d step why) (fails_there step why) before (Contains c.init) (Contains d.init) first_facts f)
  same-fails steps n why (inr (at, is, f)) =
      inr (
        at,
        is,
        same-leads c d hc hd alike (λ S. IsTrueIn (InTypeOf c) S c.goal [] → ⊥) (λ S. IsTrueIn (InTypeOf d) S d.goal [] → ⊥)
            (λ S S' same no truth. no (same-truth d c hd hc back S' S (turned S S' same) d.goal c.goal (sym alike.goal) [] truth))
            steps (Contains c.init) (Contains d.init) first_facts f,
      )

pub spelled-fails : (c d : Pddl) (domain problem : List ℕ) → SpellsPddl domain problem c → SpellsPddl domain problem d → (steps : List GroundAction) (n : ℕ) (why : FailWhy) → Fails c steps n why → Fails d steps n why
spelled-fails c d domain problem e f = same-fails c d (spelled-sound c domain problem e) (spelled-sound d domain problem f) (spelled_alike c d domain problem e f)
