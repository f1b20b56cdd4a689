-- What holds of the names of effects.
use Rattle.std.proofs.Common.{◌≡◌, ℕ, Bool, true, Ok, Err, Result, List, [], ◌∷◌, refl, sym, subst, ◌∙◌}
use Rattle.htn_base.specs.declared.name.Name.{Name as Numbered}
use Rattle.text_forms.specs.Placed.{Placed, cut, close, word, list}
use Rattle.text_forms.specs.Words.{Word}
use Rattle.plan_texts.specs.Types.{EachIs}
use Rattle.plan_texts.proofs.Spelled.{each_is-map}
use Rattle.gd_reader.specs.declared.effects.RawEffect.{RawEffect, roll-RawEffect}
use Rattle.gd_reader.specs.declared.effects.RawEffect.TheFolds.{rec-roll-RawEffect, map-RawEffect}
use Rattle.gd_reader.specs.declared.effects.RawEffect.TheOpen.{RawEffect-F}
use Rattle.gd_reader.specs.declared.effects.RawEffect.TheVariants as raw
use Rattle.gd_reader.specs.declared.effects.RawEffect.TheVariants.{rolls-Add, rolls-Delete, rolls-And, rolls-Forall, rolls-When}
use Rattle.gd_reader.specs.declared.formulas.RawFormula.{RawFormula}
use Rattle.gd_reader.specs.declared.stop.Stop.{Stop}
use Rattle.gd_reader.specs.declared.typed_lists.ListKind.TheVariants.{Parameters}
use Rattle.gd_reader.specs.declared.typed_lists.RawParam.{RawParam}
use Rattle.gd_reader.specs.declared.words.EffectHead.{EffectHead}
use Rattle.gd_reader.specs.declared.words.EffectHead.TheVariants as head
use Rattle.gd_reader.specs.Answers.{◌>>=◌, word_or_end, list_due, end_due, passed}
use Rattle.gd_reader.specs.Effects.{effect_inside, effects, one_effect, guarded, bound_effect, deleted, effect_headed, effect_read}
use Rattle.gd_reader.specs.Formulas.{inside}
use Rattle.gd_reader.specs.Terms.{Names, atom, applied}
use Rattle.gd_reader.specs.TypedLists.{listed}
use Rattle.gd_reader.specs.Words.{effect_head_of}
use Rattle.gd_reader.proofs.EffectSteps.{effect_inside_is}
use Rattle.gd_reader.proofs.Keeping.{keeps_same}
use Rattle.text_values.specs.form_spellings.EachName.{effect_of_step, OfFormula, OfEffect}
use Rattle.text_values.proofs.form_spellings.Facts.{Facts, AllSeen}
use Rattle.text_values.proofs.form_spellings.KeptWords.{Reads, reads_then, reads_map, reads_end}
use Rattle.text_values.proofs.form_spellings.TermsIn.{AtomIn, same, atom_in, applied_in}
use Rattle.text_values.proofs.form_spellings.ListsIn.{ParamsIn, listed_in}
use Rattle.text_values.proofs.form_spellings.FormulasIn.{FormulaIn, inside_in}

natural : (Is : Bool → ℕ → Numbered → Type 0) (X : Type 0) (u : X → RawEffect) (k : RawEffect → Type 0) (x : RawEffect-F X) → effect_of_step Is (λ p. k (u p)) x ≡ effect_of_step Is k (map-RawEffect X RawEffect u x)
natural Is X u k (RawEffect-F.Add a) = refl
natural Is X u k (RawEffect-F.Delete a) = refl
natural Is X u k (RawEffect-F.And es) = each_is-map u k es
natural Is X u k (RawEffect-F.Forall xs e) = refl
natural Is X u k (RawEffect-F.When f e) = refl

-- one level
in_roll : (Is : Bool → ℕ → Numbered → Type 0) (x : RawEffect-F RawEffect) (e : RawEffect) → roll-RawEffect x ≡ e → effect_of_step Is (OfEffect Is) x → OfEffect Is e
in_roll Is x e is h = subst (OfEffect Is) is (subst (λ (z : Type 0). z) (sym (rec-roll-RawEffect (Type 0) (λ X u k layer. effect_of_step Is k layer) (natural Is) x)) h)

pub inside_word : (names : Names) (at : ℕ) (w : Word) (p : Placed) → effect_inside names (word at w p) ≡ effect_headed (effect_head_of w) names at w p
inside_word names at w p = effect_inside_is names (word at w p) ∙ (unfold word_or_end in refl)

module _ (F : Facts) where
  abbrev pub EffectIn : RawEffect → Names → Type 0
  EffectIn e table = OfEffect (F.Is table) e

  abbrev EffectsIn : List RawEffect → Names → Type 0
  EffectsIn es table = EachIs (OfEffect (F.Is table)) es

  abbrev GuardedIn : RawFormula × RawEffect → Names → Type 0
  GuardedIn x table = OfFormula (F.Is table) x.0 × OfEffect (F.Is table) x.1

  abbrev BoundIn : List RawParam × RawEffect → Names → Type 0
  BoundIn x table = ParamsIn F true x.0 table × OfEffect (F.Is table) x.1

  deleted_in : (p : Placed) (names : Names) → AllSeen F p → Reads names (deleted names p) (AtomIn F)
  unfolding deleted
  deleted_in cut names s = tt
  deleted_in (close at) names s = tt
  deleted_in (word at w p) names s = tt
  deleted_in (list at p q) names s =
      reads_then same (AtomIn F) (AtomIn F) names (applied names p) (λ a. end_due q >>= (λ _. Ok a)) (applied_in F p names s.1) (λ a. reads_end (λ b table. (AtomIn F) a.0 table → (AtomIn F) b table) q a (λ _ table is. is))

  pub no_effect_in : (table : Names) → OfEffect (F.Is table) (raw.And [])
  no_effect_in table = in_roll (F.Is table) (RawEffect-F.And []) (raw.And []) (rolls-And []) tt

  -- behind the word at the front
  headed_in : (h : EffectHead) (names : Names) (at : ℕ) (w : Word) (p : Placed) → F.Seen at w → AllSeen F p → Reads names (effects names p) EffectsIn → Reads names (guarded names p) GuardedIn → Reads names (bound_effect names p) BoundIn → Reads names (effect_headed h names at w p) EffectIn
  unfolding effect_headed
  headed_in head.And names at w p seen s a b c = reads_map EffectsIn EffectIn names (effects names p) raw.And a (λ es table is. in_roll (F.Is table) (RawEffect-F.And es) (raw.And es) (rolls-And es) is)
  headed_in head.Forall names at w p seen s a b c = reads_map BoundIn EffectIn names (bound_effect names p) (λ x. raw.Forall x.0 x.1) c (λ x table is. in_roll (F.Is table) (RawEffect-F.Forall x.0 x.1) (raw.Forall x.0 x.1) (rolls-Forall x.0 x.1) is)
  headed_in head.When names at w p seen s a b c = reads_map GuardedIn EffectIn names (guarded names p) (λ x. raw.When x.0 x.1) b (λ x table is. in_roll (F.Is table) (RawEffect-F.When x.0 x.1) (raw.When x.0 x.1) (rolls-When x.0 x.1) is)
  headed_in head.Not names at w p seen s a b c = reads_map (AtomIn F) EffectIn names (deleted names p) raw.Delete (deleted_in p names s) (λ x table is. in_roll (F.Is table) (RawEffect-F.Delete x) (raw.Delete x) (rolls-Delete x) is)
  headed_in head.Increase names at w p seen s a b c = go (passed p)
    where
      go : (r : Result (Unit {0}) Stop) → Reads names (r >>= (λ _. Ok (raw.And [], names))) EffectIn
      go (Ok x) = (keeps_same names, λ table k. no_effect_in table)
      go (Err e) = tt
  headed_in head.Plain names at w p seen s a b c = reads_map (AtomIn F) EffectIn names (atom names at w p) raw.Add (atom_in F p names at w seen s) (λ x table is. in_roll (F.Is table) (RawEffect-F.Add x) (raw.Add x) (rolls-Add x) is)
  headed_in head.Wrong names at w p seen s a b c = tt

  mutual
    unfolding effect_inside effects one_effect guarded bound_effect

    pub effect_inside_in : (p : Placed) (names : Names) → AllSeen F p → Reads names (effect_inside names p) EffectIn
    effect_inside_in cut names s = tt
    effect_inside_in (close at) names s = (keeps_same names, λ table k. no_effect_in table)
    effect_inside_in (list at p q) names s = tt
    effect_inside_in (word at w p) names s =
        subst (λ r. Reads names r EffectIn) (sym (inside_word names at w p)) (headed_in (effect_head_of w) names at w p s.0 s.1 (effects_in p names s.1) (guarded_in p names s.1) (bound_in p names s.1))

    effects_in : (p : Placed) (names : Names) → AllSeen F p → Reads names (effects names p) EffectsIn
    effects_in cut names s = tt
    effects_in (close at) names s = (keeps_same names, λ table k. tt)
    effects_in (word at w p) names s = tt
    effects_in (list at p q) names s =
        reads_then same EffectIn EffectsIn names (effect_inside names p) (λ e. effects e.1 q >>= (λ es. Ok (e.0 ∷ es.0, es.1))) (effect_inside_in p names s.1)
        (λ e. reads_map EffectsIn (λ es table. EffectIn e.0 table → EffectsIn es table) e.1 (effects e.1 q) (λ es. e.0 ∷ es) (effects_in q e.1 s.2) (λ es table is one. (one, is)))

    one_in : (p : Placed) (names : Names) → AllSeen F p → Reads names (one_effect names p) EffectIn
    one_in cut names s = tt
    one_in (close at) names s = tt
    one_in (word at w p) names s = tt
    one_in (list at p q) names s =
        reads_then same EffectIn EffectIn names (effect_inside names p) (λ e. end_due q >>= (λ _. Ok e)) (effect_inside_in p names s.1) (λ e. reads_end (λ g table. EffectIn e.0 table → EffectIn g table) q e (λ _ table is. is))

    guarded_in : (p : Placed) (names : Names) → AllSeen F p → Reads names (guarded names p) GuardedIn
    guarded_in cut names s = tt
    guarded_in (close at) names s = tt
    guarded_in (word at w p) names s = tt
    guarded_in (list at p q) names s =
        reads_then same (FormulaIn F) GuardedIn names (inside names p) (λ f. one_effect f.1 q >>= (λ e. Ok ((f.0, e.0), e.1))) (inside_in F p names s.1)
        (λ f. reads_map EffectIn (λ x table. (FormulaIn F) f.0 table → GuardedIn x table) f.1 (one_effect f.1 q) (λ e. (f.0, e)) (one_in q f.1 s.2) (λ e table is one. (one, is)))

    bound_in : (p : Placed) (names : Names) → AllSeen F p → Reads names (bound_effect names p) BoundIn
    bound_in cut names s = tt
    bound_in (close at) names s = tt
    bound_in (word at w p) names s = tt
    bound_in (list at p q) names s =
        reads_then same (ParamsIn F true) BoundIn names (listed Parameters names p) (λ vs. one_effect vs.1 q >>= (λ e. Ok ((vs.0, e.0), e.1))) (listed_in F p Parameters names s.1)
        (λ vs. reads_map EffectIn (λ x table. ParamsIn F true vs.0 table → BoundIn x table) vs.1 (one_effect vs.1 q) (λ e. (vs.0, e)) (one_in q vs.1 s.2) (λ e table is one. (one, is)))

  pub effect_in : (p : Placed) (names : Names) → AllSeen F p → Reads names (effect_read names p) EffectIn
  unfolding effect_read list_due
  effect_in cut names s = tt
  effect_in (close at) names s = tt
  effect_in (word at w p) names s = tt
  effect_in (list at p q) names s = effect_inside_in p names s.1
