-- Alike values have the same plans, and so have all values that two texts spell.
use Rattle.std.proofs.Common.{ℕ, ◌≡◌, ◌↔◌, inl, inr, List, [], ◌∷◌, map, slice_get, Some, true, ap, sym, subst, ◌∙◌}
use Rattle.std.specs.Prelude.{Contains}
use Rattle.text_forms.specs.Words.{Word, is_name}
use Rattle.plan_texts.specs.Declared.{Declared, kind_at, named}
use Rattle.plan_texts.specs.Types.{Has}
use Rattle.plan_texts.specs.Said.{typed, said, done}
use Rattle.plan_texts.specs.SpellsPddl.{pddl_words, SpellsPddl}
use Rattle.plan_texts.specs.Alike.{object_said, action_said, AreAlikePddl}
use Rattle.plan_model.specs.declared.terms.GroundAtom.{GroundAtom}
use Rattle.plan_model.specs.declared.terms.Param.{Param}
use Rattle.plan_model.specs.declared.formulas.Formula.{Formula}
use Rattle.plan_model.specs.declared.effects.Effect.{Effect}
use Rattle.plan_model.specs.declared.steps.GroundAction.{GroundAction}
use Rattle.plan_model.specs.declared.values.Pddl.{Pddl}
use Rattle.htn_base.specs.declared.name.Name.{Name}
use Rattle.plan_model.specs.plan_meaning.Truth.{State, AreTyped, IsTrueIn, Adds, Deletes, after}
use Rattle.plan_model.specs.plan_meaning.ClassicalPlan.{HasWord, AreObjects, InTypeOf, EndsIn, IsExecutable, IsPlan}
use Rattle.plan_texts.proofs.AlikeLaws.{pddl_symmetric}
use Rattle.plan_texts.proofs.Members.{each-has, has-to_map, has-of_map}
use Rattle.plan_texts.proofs.UniquePddl.{spelled_alike}
use Rattle.plan_proof.specs.SoundWords.{HasSoundWords}
use Rattle.plan_texts.proofs.Members.{contains-has, has-contains}
use Rattle.slot_encoding.proofs.places.Places.{in_range, get-word, word-get, each-at-some, same-at}
use Rattle.plan_proof.proofs.texts.Truths.{AreTypedSaid, TrueSaid, typed-said, truth-said}
use Rattle.plan_proof.proofs.texts.Changes.{AddsSaid, DeletesSaid, adds-said, deletes-said}
use Rattle.plan_proof.proofs.texts.TypeWords.{InWords, by_words, words-alike}
use Rattle.plan_proof.proofs.texts.SpelledSound.{spelled-sound}

-- a name of one table is that of the same word in another
pub same-name : (ns ms : List Word) (n m : Name) (w : Word) → named ns n ≡ named ms m → is_name (named ms m) ≡ true → slice_get ns n.number ≡ Some w → slice_get ms m.number ≡ Some w
same-name ns ms n m w e i f = word-get ms m.number (in_range ms m.number i) ∙ ap Some (sym e ∙ get-word ns n.number w f)

module _ (c d : Pddl) (hc : HasSoundWords c) (hd : HasSoundWords d) (alike : AreAlikePddl c d) where
  abbrev v : Declared
  v = pddl_words c

  abbrev w : Declared
  w = pddl_words d

  in-words : (o t : ℕ) → InTypeOf d o t ↔ InWords c o (kind_at w t)
  in-words o t =
      let e = by_words d hd o t in
      (λ x. words-alike d c hd hc (pddl_symmetric c d alike) o _ (e.0 x), λ x. e.1 (words-alike c d hc hd alike o _ x))

  module _ (S S' : State) (same : (g : GroundAtom) → S g ↔ S' g) where
    pub same-truth : (f f' : Formula) → said v f ≡ said w f' → (values : List ℕ) → IsTrueIn (InTypeOf c) S f values → IsTrueIn (InTypeOf d) S' f' values
    same-truth f f' e values x =
        (truth-said w (InTypeOf d) (InWords c) in-words S' S' (λ g. (λ y. y, λ y. y)) f' values).1
        (subst (λ s. TrueSaid (InWords c) S' s values) e ((truth-said v (InTypeOf c) (InWords c) (by_words c hc) S S' same f values).0 x))

    pub same-typed : (xs ys : List Param) → map (typed v) xs ≡ map (typed w) ys → (os : List ℕ) → AreTyped (InTypeOf c) xs os → AreTyped (InTypeOf d) ys os
    same-typed xs ys e os x =
        (typed-said w (InTypeOf d) (InWords c) in-words S' S' (λ g. (λ y. y, λ y. y)) ys os).1
        (subst (λ s. AreTypedSaid (InWords c) S' s os) e ((typed-said v (InTypeOf c) (InWords c) (by_words c hc) S S' same xs os).0 x))

    same-adds : (e e' : Effect) → done v e ≡ done w e' → (values : List ℕ) (g : GroundAtom) → Adds (InTypeOf c) S e values g ↔ Adds (InTypeOf d) S' e' values g
    same-adds e e' i values g =
        let a = adds-said v (InTypeOf c) (InWords c) (by_words c hc) S S' same e values g in
        let b = adds-said w (InTypeOf d) (InWords c) in-words S' S' (λ h. (λ y. y, λ y. y)) e' values g in
        (λ x. b.1 (subst (λ s. AddsSaid (InWords c) S' s values g) i (a.0 x)), λ x. a.1 (subst (λ s. AddsSaid (InWords c) S' s values g) (sym i) (b.0 x)))

    same-deletes : (e e' : Effect) → done v e ≡ done w e' → (values : List ℕ) (g : GroundAtom) → Deletes (InTypeOf c) S e values g ↔ Deletes (InTypeOf d) S' e' values g
    same-deletes e e' i values g =
        let a = deletes-said v (InTypeOf c) (InWords c) (by_words c hc) S S' same e values g in
        let b = deletes-said w (InTypeOf d) (InWords c) in-words S' S' (λ h. (λ y. y, λ y. y)) e' values g in
        (λ x. b.1 (subst (λ s. DeletesSaid (InWords c) S' s values g) i (a.0 x)), λ x. a.1 (subst (λ s. DeletesSaid (InWords c) S' s values g) (sym i) (b.0 x)))

    same-after : (e e' : Effect) → done v e ≡ done w e' → (values : List ℕ) (g : GroundAtom) → after (InTypeOf c) S e values g ↔ after (InTypeOf d) S' e' values g
    same-after e e' i values g =
        let a = same-adds e e' i values g in let b = same-deletes e e' i values g in let s = same g in
        (λ x. elim x [ inl y ↦ inl (s.0 y.0, λ z. y.1 (b.1 z)) | inr y ↦ inr (a.0 y) ], λ x. elim x [ inl y ↦ inl (s.1 y.0, λ z. y.1 (b.0 z)) | inr y ↦ inr (a.1 y) ])

  same-object : (o : ℕ) (u : Word) → HasWord c o u → HasWord d o u
  same-object o u e =
      let s = same-at (object_said v) (object_said w) c.objects d.objects o e.0 alike.objects e.1 in
      (s.0, s.1, same-name c.names d.names e.0.name s.0.name u (ap (λ z. z.0) s.2) (each-at-some _ d.objects o s.0 hd.objects_named s.1) e.2)

  pub same-objects : (os : List ℕ) (us : List Word) → AreObjects c os us → AreObjects d os us
  same-objects [] [] e = tt
  same-objects [] (u ∷ us) e = absurd e
  same-objects (o ∷ os) [] e = absurd e
  same-objects (o ∷ os) (u ∷ us) e = (same-object o u e.0, same-objects os us e.1)

  pub same-leads : (P P' : State → Type 0) → ((S S' : State) → ((g : GroundAtom) → S g ↔ S' g) → P S → P' S') → (ss : List GroundAction) (S S' : State) → ((g : GroundAtom) → S g ↔ S' g) → EndsIn c P S ss → EndsIn d P' S' ss
  same-leads P P' goal [] S S' same e = goal S S' same e
  same-leads P P' goal (s ∷ ss) S S' same e =
      let a = e.2 in
      let b = has-of_map (action_said w) d.actions (action_said v e.0) (subst (λ l. Has l (action_said v e.0)) alike.actions (has-to_map (action_said v) c.actions e.0 (contains-has c.actions e.0 a.action))) in (
        b.0,
        e.1,
        record {
          action = has-contains d.actions b.0 b.1;
          name = same-name c.names d.names e.0.name b.0.name s.name (ap (λ t. t.0) (sym b.2)) (each-has _ d.actions b.0 hd.actions_named b.1) a.name;
          objects_are = same-objects e.1 s.args a.objects_are;
          typed = same-typed S S' same e.0.params b.0.params (ap (λ t. t.1) (sym b.2)) e.1 a.typed;
          condition = same-truth S S' same e.0.pre b.0.pre (ap (λ t. t.2) (sym b.2)) e.1 a.condition;
        },
        same-leads P P' goal ss (after (InTypeOf c) S e.0.eff e.1) (after (InTypeOf d) S' b.0.eff e.1) (same-after S S' same e.0.eff b.0.eff (ap (λ t. t.3) (sym b.2)) e.1) e.3,
      )

  pub same-plan : (ss : List GroundAction) → IsPlan c ss → IsPlan d ss
  same-plan ss e =
      same-leads (λ S. IsTrueIn (InTypeOf c) S c.goal []) (λ S. IsTrueIn (InTypeOf d) S d.goal []) (λ S S' same x. same-truth S S' same c.goal d.goal alike.goal [] x) ss (Contains c.init) (Contains d.init)
      (λ g. (subst (λ l. Contains l g) alike.init, subst (λ l. Contains l g) (sym alike.init))) e

  pub same-executable : (ss : List GroundAction) → IsExecutable c ss → IsExecutable d ss
  same-executable ss e =
      same-leads (λ S. Unit {0}) (λ S. Unit {0}) (λ S S' same x. x) ss (Contains c.init) (Contains d.init)
      (λ g. (subst (λ l. Contains l g) alike.init, subst (λ l. Contains l g) (sym alike.init))) e

pub alike-plans : (c d : Pddl) → HasSoundWords c → HasSoundWords d → AreAlikePddl c d → (ss : List GroundAction) → IsPlan c ss ↔ IsPlan d ss
alike-plans c d hc hd a ss = (same-plan c d hc hd a ss, same-plan d c hd hc (pddl_symmetric c d a) ss)

pub spelled-plans : (c d : Pddl) (domain problem : List ℕ) → SpellsPddl domain problem c → SpellsPddl domain problem d → (ss : List GroundAction) → IsPlan c ss ↔ IsPlan d ss
spelled-plans c d domain problem e f = alike-plans c d (spelled-sound c domain problem e) (spelled-sound d domain problem f) (spelled_alike c d domain problem e f)

pub spelled-executables : (c d : Pddl) (domain problem : List ℕ) → SpellsPddl domain problem c → SpellsPddl domain problem d → (ss : List GroundAction) → IsExecutable c ss → IsExecutable d ss
spelled-executables c d domain problem e f ss = same-executable c d (spelled-sound c domain problem e) (spelled-sound d domain problem f) (spelled_alike c d domain problem e f) ss
