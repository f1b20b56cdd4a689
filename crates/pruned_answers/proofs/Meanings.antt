-- What is in a type, what a condition means and what an effect changes go by the words: they are the same of alike values.
use Rattle.std.proofs.Common.{ℕ, ◌≡◌, ◌↔◌, inl, inr, List, map, sym, subst}
use Rattle.plan_texts.specs.Declared.{Declared, kind_at}
use Rattle.plan_texts.specs.Said.{typed, said, done}
use Rattle.plan_texts.specs.Alike.{AreAlikePddl, AreAlikeHddl}
use Rattle.plan_texts.specs.SpellsHddl.{hddl_words}
use Rattle.plan_texts.proofs.AlikeLaws.{hddl_symmetric}
use Rattle.plan_model.specs.Typing.{InType}
use Rattle.plan_model.specs.declared.terms.GroundAtom.{GroundAtom}
use Rattle.plan_model.specs.declared.terms.Param.{Param}
use Rattle.plan_model.specs.declared.formulas.Formula.{Formula}
use Rattle.plan_model.specs.declared.effects.Effect.{Effect}
use Rattle.plan_model.specs.declared.values.Hddl.{Hddl}
use Rattle.plan_model.specs.declared.values.Pddl.{Pddl}
use Rattle.plan_model.specs.plan_meaning.Truth.{State, AreTyped, IsTrueIn, Adds, Deletes, after}
use Rattle.plan_proof.specs.SoundWords.{HasSoundWords}
use Rattle.plan_proof.proofs.texts.Changes.{AddsSaid, DeletesSaid, adds-said, deletes-said}
use Rattle.plan_proof.proofs.texts.SamePlans.{same-truth, same-typed}
use Rattle.plan_proof.proofs.texts.TypeWords.{InWords, by_words, words-alike}

-- the problem without its tasks and methods
abbrev pub source : Hddl → Pddl
source h = record { names = h.names; domain = h.domain; problem = h.problem; types = h.types; objects = h.objects; predicates = h.predicates; actions = h.actions; init = h.init; goal = h.goal }

pub source_alike : (c d : Hddl) → AreAlikeHddl c d → AreAlikePddl (source c) (source d)
source_alike c d alike = record {
  domains = alike.domains;
  problems = alike.problems;
  declared = record { types = alike.types; pairs = alike.pairs; objects = alike.objects; predicates = alike.predicates; actions = alike.actions };
  init = alike.init;
  goal = alike.goal;
}

module _ (c d : Hddl) (hc : HasSoundWords (source c)) (hd : HasSoundWords (source d)) (alike : AreAlikeHddl c d) where
  abbrev v : Declared
  v = hddl_words c

  abbrev w : Declared
  w = hddl_words d

  abbrev pub InC : ℕ → ℕ → Type 0
  InC = InType c.types c.objects

  abbrev pub InD : ℕ → ℕ → Type 0
  InD = InType d.types d.objects

  there : AreAlikePddl (source c) (source d)
  there = source_alike c d alike

  back : AreAlikePddl (source d) (source c)
  back = source_alike d c (hddl_symmetric c d alike)

  pub in_here : (o t : ℕ) → InC o t ↔ InWords (source c) o (kind_at v t)
  in_here = by_words (source c) hc

  pub in_there : (o t : ℕ) → InD o t ↔ InWords (source c) o (kind_at w t)
  in_there o t =
      let e = by_words (source d) hd o t in
      (λ x. words-alike (source d) (source c) hd hc back o _ (e.0 x), λ x. e.1 (words-alike (source c) (source d) hc hd there o _ x))

  pub same_types : (ps qs : List Param) → map (typed v) ps ≡ map (typed w) qs → (os : List ℕ) → AreTyped InC ps os ↔ AreTyped InD qs os
  same_types ps qs e os = (
    same-typed (source c) (source d) hc hd there (λ g. ⊥) (λ g. ⊥) (λ g. (λ x. x, λ x. x)) ps qs e os,
    same-typed (source d) (source c) hd hc back (λ g. ⊥) (λ g. ⊥) (λ g. (λ x. x, λ x. x)) qs ps (sym e) os,
  )

  module _ (S S' : State) (states : (g : GroundAtom) → S g ↔ S' g) where
    pub same_truth : (f g : Formula) → said v f ≡ said w g → (values : List ℕ) → IsTrueIn InC S f values ↔ IsTrueIn InD S' g values
    same_truth f g e values = (
      same-truth (source c) (source d) hc hd there S S' states f g e values,
      same-truth (source d) (source c) hd hc back S' S (λ a. (let s = states a in (s.1, s.0))) g f (sym e) values,
    )

    module _ (e f : Effect) (i : done v e ≡ done w f) (values : List ℕ) (g : GroundAtom) where
      same_adds : Adds InC S e values g ↔ Adds InD S' f values g
      same_adds =
          let a = adds-said v InC (InWords (source c)) in_here S S' states e values g in
          let b = adds-said w InD (InWords (source c)) in_there S' S' (λ h. (λ y. y, λ y. y)) f values g in
          (λ x. b.1 (subst (λ s. AddsSaid (InWords (source c)) S' s values g) i (a.0 x)), λ x. a.1 (subst (λ s. AddsSaid (InWords (source c)) S' s values g) (sym i) (b.0 x)))

      same_deletes : Deletes InC S e values g ↔ Deletes InD S' f values g
      same_deletes =
          let a = deletes-said v InC (InWords (source c)) in_here S S' states e values g in
          let b = deletes-said w InD (InWords (source c)) in_there S' S' (λ h. (λ y. y, λ y. y)) f values g in
          (λ x. b.1 (subst (λ s. DeletesSaid (InWords (source c)) S' s values g) i (a.0 x)), λ x. a.1 (subst (λ s. DeletesSaid (InWords (source c)) S' s values g) (sym i) (b.0 x)))

      pub same_after : after InC S e values g ↔ after InD S' f values g
      same_after =
          let a = same_adds in let b = same_deletes in let s = states g in (
            λ x. elim x [ inl y ↦ inl (s.0 y.0, λ z. y.1 (b.1 z)) | inr y ↦ inr (a.0 y) ],
            λ x. elim x [ inl y ↦ inl (s.1 y.0, λ z. y.1 (b.0 z)) | inr y ↦ inr (a.1 y) ],
          )
