-- Effects are read alike.
use Rattle.std.proofs.Common.{◌≡◌, ℕ, Ok, List, [], ◌∷◌, refl, sym, subst, ◌∙◌}
use Rattle.text_forms.specs.Placed.{Placed, cut, close, word, list}
use Rattle.text_forms.specs.Words.{Word}
use Rattle.gd_reader.specs.declared.effects.RawEffect.{RawEffect}
use Rattle.gd_reader.specs.declared.effects.RawEffect.TheVariants as raw
use Rattle.gd_reader.specs.declared.formulas.RawFormula.{RawFormula}
use Rattle.gd_reader.specs.declared.typed_lists.ListKind.TheVariants.{Parameters}
use Rattle.gd_reader.specs.declared.typed_lists.RawParam.{RawParam}
use Rattle.gd_reader.specs.declared.words.EffectHead.{EffectHead}
use Rattle.gd_reader.specs.declared.words.EffectHead.TheVariants as head
use Rattle.gd_reader.specs.Answers.{◌>>=◌, word_or_end, end_due, passed}
use Rattle.gd_reader.specs.Effects.{effect_inside, effects, one_effect, guarded, bound_effect, deleted, effect_headed}
use Rattle.gd_reader.specs.Formulas.{inside}
use Rattle.gd_reader.specs.Terms.{Names, atom, applied}
use Rattle.gd_reader.specs.TypedLists.{listed}
use Rattle.gd_reader.specs.Words.{effect_head_of}
use Rattle.gd_reader.proofs.EffectSteps.{effect_inside_is}
use Rattle.text_values.proofs.Alike.{AlikeFormula, AlikeEffect, AlikeEffects, AlikeParams, adds, deletes, all_of, for_every, when, no_more, and_more}
use Rattle.text_values.proofs.Pairs.{Tie, Tied, after, built, behind_same, here}
use Rattle.text_values.proofs.TermPairs.{AtomTie, ended, atom_tied, applied_tied}
use Rattle.text_values.proofs.ListPairs.{ParamsTie, listed_tied}
use Rattle.text_values.proofs.FormulaPairs.{FormulaTie, inside_tied}

inside_word : (names : Names) (at : ℕ) (w : Word) (p : Placed) → effect_inside names (word at w p) ≡ effect_headed (effect_head_of w) names at w p
inside_word names at w p = effect_inside_is names (word at w p) ∙ (unfold word_or_end in refl)

abbrev pub EffectTie : Tie RawEffect
EffectTie e f t u = AlikeEffect t u e f

abbrev EffectsTie : Tie (List RawEffect)
EffectsTie es fs t u = AlikeEffects t u es fs

abbrev GuardedTie : Tie (RawFormula × RawEffect)
GuardedTie x y t u = AlikeFormula t u x.0 y.0 × AlikeEffect t u x.1 y.1

abbrev BoundTie : Tie (List RawParam × RawEffect)
BoundTie x y t u = AlikeParams t u x.0 y.0 × AlikeEffect t u x.1 y.1

deleted_tied : (p : Placed) (n m : Names) → Tied n m (deleted n p) (deleted m p) AtomTie
unfolding deleted
deleted_tied cut n m = tt
deleted_tied (close at) n m = tt
deleted_tied (word at w p) n m = tt
deleted_tied (list at p q) n m =
    after AtomTie AtomTie n m (applied n p) (applied m p) (λ a. end_due q >>= (λ _. Ok a)) (λ a. end_due q >>= (λ _. Ok a)) (applied_tied p n m) (λ a b. ended (λ c d t u. AtomTie a.0 b.0 t u → AtomTie c d t u) q a b (λ t u is. is))

pub nothing_alike : (t u : Names) → AlikeEffect t u (raw.And []) (raw.And [])
nothing_alike t u = all_of [] [] no_more

headed_tied : (h : EffectHead) (n m : Names) (at : ℕ) (w : Word) (p : Placed) → Tied n m (effects n p) (effects m p) EffectsTie → Tied n m (guarded n p) (guarded m p) GuardedTie
    → Tied n m (bound_effect n p) (bound_effect m p) BoundTie → Tied n m (effect_headed h n at w p) (effect_headed h m at w p) EffectTie
unfolding effect_headed
headed_tied head.And n m at w p a b c = built EffectsTie EffectTie n m (effects n p) (effects m p) raw.And raw.And a (λ es fs t u is. all_of es fs is)
headed_tied head.Forall n m at w p a b c = built BoundTie EffectTie n m (bound_effect n p) (bound_effect m p) (λ x. raw.Forall x.0 x.1) (λ x. raw.Forall x.0 x.1) c (λ x y t u is. for_every x.0 y.0 x.1 y.1 is.0 is.1)
headed_tied head.When n m at w p a b c = built GuardedTie EffectTie n m (guarded n p) (guarded m p) (λ x. raw.When x.0 x.1) (λ x. raw.When x.0 x.1) b (λ x y t u is. when x.0 y.0 x.1 y.1 is.0 is.1)
headed_tied head.Not n m at w p a b c = built AtomTie EffectTie n m (deleted n p) (deleted m p) raw.Delete raw.Delete (deleted_tied p n m) (λ x y t u is. deletes x y is)
headed_tied head.Increase n m at w p a b c = behind_same EffectTie n m (passed p) (λ _. Ok (raw.And [], n)) (λ _. Ok (raw.And [], m)) (λ _. here EffectTie n m (raw.And []) (raw.And []) nothing_alike)
headed_tied head.Plain n m at w p a b c = built AtomTie EffectTie n m (atom n at w p) (atom m at w p) raw.Add raw.Add (atom_tied p n m at w) (λ x y t u is. adds x y is)
headed_tied head.Wrong n m at w p a b c = tt

mutual
  unfolding effect_inside effects one_effect guarded bound_effect

  pub effect_tied : (p : Placed) (n m : Names) → Tied n m (effect_inside n p) (effect_inside m p) EffectTie
  effect_tied cut n m = tt
  effect_tied (close at) n m = here EffectTie n m (raw.And []) (raw.And []) nothing_alike
  effect_tied (list at p q) n m = tt
  effect_tied (word at w p) n m =
      subst (λ (z : Type 0). z) (λ i. Tied n m (sym (inside_word n at w p) i) (sym (inside_word m at w p) i) EffectTie)
      (headed_tied (effect_head_of w) n m at w p (effects_tied p n m) (guarded_tied p n m) (bound_tied p n m))

  effects_tied : (p : Placed) (n m : Names) → Tied n m (effects n p) (effects m p) EffectsTie
  effects_tied cut n m = tt
  effects_tied (close at) n m = here EffectsTie n m [] [] (λ t u. no_more)
  effects_tied (word at w p) n m = tt
  effects_tied (list at p q) n m =
      after EffectTie EffectsTie n m (effect_inside n p) (effect_inside m p) (λ e. effects e.1 q >>= (λ es. Ok (e.0 ∷ es.0, es.1))) (λ e. effects e.1 q >>= (λ es. Ok (e.0 ∷ es.0, es.1))) (effect_tied p n m)
      (λ e f. built EffectsTie (λ es fs t u. EffectTie e.0 f.0 t u → EffectsTie es fs t u) e.1 f.1 (effects e.1 q) (effects f.1 q) (λ es. e.0 ∷ es) (λ fs. f.0 ∷ fs) (effects_tied q e.1 f.1) (λ es fs t u is one. and_more e.0 f.0 es fs one is))

  one_tied : (p : Placed) (n m : Names) → Tied n m (one_effect n p) (one_effect m p) EffectTie
  one_tied cut n m = tt
  one_tied (close at) n m = tt
  one_tied (word at w p) n m = tt
  one_tied (list at p q) n m =
      after EffectTie EffectTie n m (effect_inside n p) (effect_inside m p) (λ e. end_due q >>= (λ _. Ok e)) (λ e. end_due q >>= (λ _. Ok e)) (effect_tied p n m)
      (λ e f. ended (λ h k t u. EffectTie e.0 f.0 t u → EffectTie h k t u) q e f (λ t u is. is))

  guarded_tied : (p : Placed) (n m : Names) → Tied n m (guarded n p) (guarded m p) GuardedTie
  guarded_tied cut n m = tt
  guarded_tied (close at) n m = tt
  guarded_tied (word at w p) n m = tt
  guarded_tied (list at p q) n m =
      after FormulaTie GuardedTie n m (inside n p) (inside m p) (λ f. one_effect f.1 q >>= (λ e. Ok ((f.0, e.0), e.1))) (λ f. one_effect f.1 q >>= (λ e. Ok ((f.0, e.0), e.1))) (inside_tied p n m)
      (λ f g. built EffectTie (λ x y t u. FormulaTie f.0 g.0 t u → GuardedTie x y t u) f.1 g.1 (one_effect f.1 q) (one_effect g.1 q) (λ e. (f.0, e)) (λ e. (g.0, e)) (one_tied q f.1 g.1) (λ e h t u is one. (one, is)))

  bound_tied : (p : Placed) (n m : Names) → Tied n m (bound_effect n p) (bound_effect m p) BoundTie
  bound_tied cut n m = tt
  bound_tied (close at) n m = tt
  bound_tied (word at w p) n m = tt
  bound_tied (list at p q) n m =
      after ParamsTie BoundTie n m (listed Parameters n p) (listed Parameters m p) (λ vs. one_effect vs.1 q >>= (λ e. Ok ((vs.0, e.0), e.1))) (λ vs. one_effect vs.1 q >>= (λ e. Ok ((vs.0, e.0), e.1))) (listed_tied p Parameters n m)
      (λ v w. built EffectTie (λ x y t u. ParamsTie v.0 w.0 t u → BoundTie x y t u) v.1 w.1 (one_effect v.1 q) (one_effect w.1 q) (λ e. (v.0, e)) (λ e. (w.0, e)) (one_tied q v.1 w.1) (λ e f t u is one. (one, is)))
