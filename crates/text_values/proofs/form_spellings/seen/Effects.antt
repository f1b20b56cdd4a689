-- The unions of an effect that was read are those that its parts write.
use Rattle.std.proofs.Common.{◌≡◌, ◌∙◌, ℕ, Ok, Err, Result, List, [], ◌∷◌, ◌++◌, map, sym, ap, subst}
use Rattle.text_forms.specs.Placed.{Placed, cut, close, word, list}
use Rattle.text_forms.specs.Words.{Word}
use Rattle.gd_reader.specs.declared.effects.RawEffect.{RawEffect, roll-RawEffect}
use Rattle.gd_reader.specs.declared.effects.RawEffect.TheFolds.{fold-roll-RawEffect, map-RawEffect}
use Rattle.gd_reader.specs.declared.effects.RawEffect.TheOpen.{RawEffect-F}
use Rattle.gd_reader.specs.declared.effects.RawEffect.TheVariants as raw
use Rattle.gd_reader.specs.declared.effects.RawEffect.TheVariants.{rolls-Add, rolls-Delete, rolls-And, rolls-Forall, rolls-When}
use Rattle.gd_reader.specs.declared.formulas.RawFormula.{RawFormula}
use Rattle.gd_reader.specs.declared.stop.Stop.{Stop}
use Rattle.gd_reader.specs.declared.typed_lists.ListKind.TheVariants.{Parameters}
use Rattle.gd_reader.specs.declared.typed_lists.RawParam.{RawParam}
use Rattle.gd_reader.specs.declared.words.EffectHead.{EffectHead}
use Rattle.gd_reader.specs.declared.words.EffectHead.TheVariants as head
use Rattle.gd_reader.specs.Answers.{◌>>=◌, end_due, passed}
use Rattle.gd_reader.specs.Effects.{effect_inside, effects, one_effect, guarded, bound_effect, deleted, effect_headed}
use Rattle.gd_reader.specs.Formulas.{inside}
use Rattle.gd_reader.specs.Terms.{Names, atom, applied}
use Rattle.gd_reader.specs.TypedLists.{listed}
use Rattle.gd_reader.specs.Words.{effect_head_of}
use Rattle.gd_reader.proofs.Keeping.{keeps_same}
use Rattle.text_values.specs.form_spellings.Written.{Union, joined, params_unions, formula_unions, effect_step, effect_unions}
use Rattle.text_values.proofs.form_spellings.EffectsIn.{inside_word}
use Rattle.text_values.proofs.form_spellings.KeptWords.{Reads, reads_then, reads_map, reads_end}
use Rattle.text_values.proofs.form_spellings.TermsIn.{same}
use Rattle.text_values.proofs.form_spellings.WordTests.{EffectWord, effect_word}
use Rattle.text_values.proofs.form_spellings.seen.Adding.{Same, same_refl, same_join, same_by}
use Rattle.text_values.proofs.form_spellings.seen.Erased.{unions_at, inside_at, named_inside}
use Rattle.text_values.proofs.form_spellings.seen.Formulas.{FormulaSeen, inside_seen, alone_at}
use Rattle.text_values.proofs.form_spellings.seen.Lists.{InsideSeen, parameters_seen}
use Rattle.text_values.proofs.form_spellings.seen.Terms.{NoUnions, NoneInside, none_at_end, atom_none, applied_none}

module _ (table : Names) where
  -- one level
  effect_level : (x : RawEffect-F RawEffect) (e : RawEffect) → roll-RawEffect x ≡ e → effect_unions table e ≡ effect_step table (map-RawEffect RawEffect (List Union) (effect_unions table) x)
  effect_level x e is = ap (effect_unions table) (sym is) ∙ fold-roll-RawEffect (List Union) (effect_step table) x

  abbrev pub all_unions : List RawEffect → List Union
  all_unions es = joined (map (effect_unions table) es)

  pub no_effect_unions : effect_unions table (raw.And []) ≡ []
  no_effect_unions = effect_level (RawEffect-F.And []) (raw.And []) (rolls-And [])

  by_level : (x : RawEffect-F RawEffect) (e : RawEffect) → roll-RawEffect x ≡ e → (us vs : List Union) → us ≡ vs → Same (effect_step table (map-RawEffect RawEffect (List Union) (effect_unions table) x)) us → Same (effect_unions table e) vs
  by_level x e i us vs same is = subst (Same (effect_unions table e)) same (subst (λ ws. Same ws us) (sym (effect_level x e i)) is)

abbrev pub EffectSeen : List Union → RawEffect → Names → Type 0
EffectSeen us e table = Same (effect_unions table e) us

abbrev EffectsSeen : List Union → List RawEffect → Names → Type 0
EffectsSeen us es table = Same (all_unions table es) us

abbrev GuardedSeen : List Union → RawFormula × RawEffect → Names → Type 0
GuardedSeen us x table = Same (formula_unions table x.0 ++ effect_unions table x.1) us

abbrev BoundSeen : List Union → List RawParam × RawEffect → Names → Type 0
BoundSeen us x table = Same (params_unions table x.0 ++ effect_unions table x.1) us

deleted_none : (p : Placed) (names : Names) → Reads names (deleted names p) (NoUnions p)
unfolding deleted
deleted_none cut names = tt
deleted_none (close at) names = tt
deleted_none (word at w p) names = tt
deleted_none (list at p q) names =
    reads_then same (NoneInside p) (NoUnions (list at p q)) names (applied names p) (λ a. end_due q >>= (λ _. Ok a)) (applied_none p names)
    (λ a. reads_end (λ b table. NoneInside p a.0 table → NoUnions (list at p q) b table) q a (λ e table is. sym (alone_at p q (none_at_end q e)) ∙ is))

-- behind the word at the front
headed_seen : (h : EffectHead) (names : Names) (at : ℕ) (w : Word) (p : Placed) → EffectWord h w → Reads names (effects names p) (EffectsSeen (unions_at p)) → Reads names (guarded names p) (GuardedSeen (unions_at p)) → Reads names (bound_effect names p) (BoundSeen (unions_at p))
    → Reads names (effect_headed h names at w p) (EffectSeen (inside_at (word at w p)))
unfolding effect_headed
headed_seen head.And names at w p k a b c = reads_map (EffectsSeen (unions_at p)) (EffectSeen (inside_at (word at w p))) names (effects names p) raw.And a
    (λ es table is. by_level table (RawEffect-F.And es) (raw.And es) (rolls-And es) (unions_at p) (inside_at (word at w p)) (ap (λ w. inside_at (word at w p)) (sym k)) is)
headed_seen head.Forall names at w p k a b c = reads_map (BoundSeen (unions_at p)) (EffectSeen (inside_at (word at w p))) names (bound_effect names p) (λ x. raw.Forall x.0 x.1) c
    (λ x table is. by_level table (RawEffect-F.Forall x.0 x.1) (raw.Forall x.0 x.1) (rolls-Forall x.0 x.1) (unions_at p) (inside_at (word at w p)) (ap (λ w. inside_at (word at w p)) (sym k)) is)
headed_seen head.When names at w p k a b c = reads_map (GuardedSeen (unions_at p)) (EffectSeen (inside_at (word at w p))) names (guarded names p) (λ x. raw.When x.0 x.1) b
    (λ x table is. by_level table (RawEffect-F.When x.0 x.1) (raw.When x.0 x.1) (rolls-When x.0 x.1) (unions_at p) (inside_at (word at w p)) (ap (λ w. inside_at (word at w p)) (sym k)) is)
headed_seen head.Not names at w p k a b c = reads_map (NoUnions p) (EffectSeen (inside_at (word at w p))) names (deleted names p) raw.Delete (deleted_none p names)
    (λ x table is. by_level table (RawEffect-F.Delete x) (raw.Delete x) (rolls-Delete x) [] (inside_at (word at w p)) (sym is ∙ ap (λ w. inside_at (word at w p)) (sym k)) (same_refl []))
headed_seen head.Increase names at w p k a b c = go (passed p)
  where
    none : (table : Names) → EffectSeen (inside_at (word at w p)) (raw.And []) table
    none table = by_level table (RawEffect-F.And []) (raw.And []) (rolls-And []) [] (inside_at (word at w p)) (ap (λ w. inside_at (word at w p)) (sym k)) (same_refl [])

    go : (r : Result (Unit {0}) Stop) → Reads names (r >>= (λ _. Ok (raw.And [], names))) (EffectSeen (inside_at (word at w p)))
    go (Ok x) = (keeps_same names, λ table k. none table)
    go (Err e) = tt
headed_seen head.Plain names at w p k a b c = reads_map (NoUnions p) (EffectSeen (inside_at (word at w p))) names (atom names at w p) raw.Add (atom_none p names at w)
    (λ x table is. by_level table (RawEffect-F.Add x) (raw.Add x) (rolls-Add x) [] (inside_at (word at w p)) (sym is ∙ sym (named_inside at w p k)) (same_refl []))
headed_seen head.Wrong names at w p k a b c = tt

mutual
  unfolding effect_inside effects one_effect guarded bound_effect

  pub effect_inside_seen : (p : Placed) (names : Names) → Reads names (effect_inside names p) (EffectSeen (inside_at p))
  effect_inside_seen cut names = tt
  effect_inside_seen (close at) names = (keeps_same names, λ table k. same_by (effect_unions table (raw.And [])) [] (no_effect_unions table))
  effect_inside_seen (list at p q) names = tt
  effect_inside_seen (word at w p) names =
      subst (λ r. Reads names r (EffectSeen (inside_at (word at w p)))) (sym (inside_word names at w p)) (headed_seen (effect_head_of w) names at w p (effect_word w) (effects_seen p names) (guarded_seen p names) (bound_seen p names))

  effects_seen : (p : Placed) (names : Names) → Reads names (effects names p) (EffectsSeen (unions_at p))
  effects_seen cut names = tt
  effects_seen (close at) names = (keeps_same names, λ table k. same_refl [])
  effects_seen (word at w p) names = tt
  effects_seen (list at p q) names =
      reads_then same (EffectSeen (inside_at p)) (EffectsSeen (unions_at (list at p q))) names (effect_inside names p) (λ e. effects e.1 q >>= (λ es. Ok (e.0 ∷ es.0, es.1))) (effect_inside_seen p names)
      (λ e. reads_map (EffectsSeen (unions_at q)) (λ es table. EffectSeen (inside_at p) e.0 table → EffectsSeen (unions_at (list at p q)) es table) e.1 (effects e.1 q) (λ es. e.0 ∷ es) (effects_seen q e.1)
      (λ es table is one. same_join (effect_unions table e.0) (inside_at p) (all_unions table es) (unions_at q) one is))

  one_seen : (p : Placed) (names : Names) → Reads names (one_effect names p) (EffectSeen (unions_at p))
  one_seen cut names = tt
  one_seen (close at) names = tt
  one_seen (word at w p) names = tt
  one_seen (list at p q) names =
      reads_then same (EffectSeen (inside_at p)) (EffectSeen (unions_at (list at p q))) names (effect_inside names p) (λ e. end_due q >>= (λ _. Ok e)) (effect_inside_seen p names)
      (λ e. reads_end (λ g table. EffectSeen (inside_at p) e.0 table → EffectSeen (unions_at (list at p q)) g table) q e (λ n table is. subst (Same (effect_unions table e.0)) (alone_at p q (none_at_end q n)) is))

  guarded_seen : (p : Placed) (names : Names) → Reads names (guarded names p) (GuardedSeen (unions_at p))
  guarded_seen cut names = tt
  guarded_seen (close at) names = tt
  guarded_seen (word at w p) names = tt
  guarded_seen (list at p q) names =
      reads_then same (FormulaSeen (inside_at p)) (GuardedSeen (unions_at (list at p q))) names (inside names p) (λ f. one_effect f.1 q >>= (λ e. Ok ((f.0, e.0), e.1))) (inside_seen p names)
      (λ f. reads_map (EffectSeen (unions_at q)) (λ x table. FormulaSeen (inside_at p) f.0 table → GuardedSeen (unions_at (list at p q)) x table) f.1 (one_effect f.1 q) (λ e. (f.0, e)) (one_seen q f.1)
      (λ e table is one. same_join (formula_unions table f.0) (inside_at p) (effect_unions table e) (unions_at q) one is))

  bound_seen : (p : Placed) (names : Names) → Reads names (bound_effect names p) (BoundSeen (unions_at p))
  bound_seen cut names = tt
  bound_seen (close at) names = tt
  bound_seen (word at w p) names = tt
  bound_seen (list at p q) names =
      reads_then same (InsideSeen p) (BoundSeen (unions_at (list at p q))) names (listed Parameters names p) (λ vs. one_effect vs.1 q >>= (λ e. Ok ((vs.0, e.0), e.1))) (parameters_seen p names)
      (λ vs. reads_map (EffectSeen (unions_at q)) (λ x table. InsideSeen p vs.0 table → BoundSeen (unions_at (list at p q)) x table) vs.1 (one_effect vs.1 q) (λ e. (vs.0, e)) (one_seen q vs.1)
      (λ e table is one. same_join (params_unions table vs.0) (inside_at p) (effect_unions table e) (unions_at q) one is))
