-- The lists of variables of effects, and the terms of their atoms, are read in the order of the text.
use Rattle.std.proofs.Common.{◌≡◌, ℕ, Ok, Err, Result, List, [], ◌∷◌, refl, sym, subst}
use Rattle.text_forms.specs.Placed.{Placed, cut, close, word, list}
use Rattle.text_forms.specs.Words.{Word}
use Rattle.plan_texts.specs.Types.{EachIs}
use Rattle.plan_texts.proofs.Spelled.{each_is-map}
use Rattle.gd_reader.specs.declared.effects.RawEffect.{RawEffect, roll-RawEffect}
use Rattle.gd_reader.specs.declared.effects.RawEffect.TheFolds.{rec-roll-RawEffect, map-RawEffect}
use Rattle.gd_reader.specs.declared.effects.RawEffect.TheOpen.{RawEffect-F}
use Rattle.gd_reader.specs.declared.effects.RawEffect.TheVariants as raw
use Rattle.gd_reader.specs.declared.effects.RawEffect.TheVariants.{rolls-Add, rolls-Delete, rolls-And, rolls-Forall, rolls-When}
use Rattle.gd_reader.specs.declared.formulas.RawFormula.{RawFormula}
use Rattle.gd_reader.specs.declared.stop.Stop.{Stop}
use Rattle.gd_reader.specs.declared.typed_lists.ListKind.TheVariants.{Parameters}
use Rattle.gd_reader.specs.declared.typed_lists.RawParam.{RawParam}
use Rattle.gd_reader.specs.declared.words.EffectHead.{EffectHead}
use Rattle.gd_reader.specs.declared.words.EffectHead.TheVariants as head
use Rattle.gd_reader.specs.Answers.{◌>>=◌, list_due, end_due, passed}
use Rattle.gd_reader.specs.Effects.{effect_inside, effects, one_effect, guarded, bound_effect, deleted, effect_headed, effect_read}
use Rattle.gd_reader.specs.Formulas.{inside}
use Rattle.gd_reader.specs.Terms.{Names, atom, applied}
use Rattle.gd_reader.specs.TypedLists.{listed}
use Rattle.gd_reader.specs.Words.{effect_head_of}
use Rattle.gd_reader.proofs.Keeping.{keeps_same}
use Rattle.text_values.specs.form_spellings.Arguments.{effect_ordered_step, IsEffectInOrder}
use Rattle.text_values.specs.form_spellings.EachList.{effect_listed_step, OfEachListOfEffect}
use Rattle.text_values.specs.form_spellings.InOrder.{AreParameters}
use Rattle.text_values.proofs.form_spellings.EffectsIn.{inside_word}
use Rattle.text_values.proofs.form_spellings.KeptWords.{Reads, reads_then, reads_map, reads_weaken, reads_end}
use Rattle.text_values.proofs.form_spellings.TermsIn.{same}
use Rattle.text_values.proofs.form_spellings.order.Formulas.{FormulaInOrder, AtomInOrder, atom_rises, inside_in_order}
use Rattle.text_values.proofs.form_spellings.order.Lists.{ListInOrder, parameters_are, listed_in_order}
use Rattle.text_values.proofs.form_spellings.order.Spans.{Rising, behind_word, inside_list, behind_list}
use Rattle.text_values.proofs.form_spellings.order.Terms.{AtomClimbs, atom_climbs, applied_climbs}

natural : (table : Names) (X : Type 0) (u : X → RawEffect) (k : RawEffect → Type 0) (x : RawEffect-F X) → effect_listed_step (AreParameters table) (λ p. k (u p)) x ≡ effect_listed_step (AreParameters table) k (map-RawEffect X RawEffect u x)
natural table X u k (RawEffect-F.Add a) = refl
natural table X u k (RawEffect-F.Delete a) = refl
natural table X u k (RawEffect-F.And es) = each_is-map u k es
natural table X u k (RawEffect-F.Forall xs e) = refl
natural table X u k (RawEffect-F.When f e) = refl

natural_order : (X : Type 0) (u : X → RawEffect) (k : RawEffect → Type 0) (x : RawEffect-F X) → effect_ordered_step (λ p. k (u p)) x ≡ effect_ordered_step k (map-RawEffect X RawEffect u x)
natural_order X u k (RawEffect-F.Add a) = refl
natural_order X u k (RawEffect-F.Delete a) = refl
natural_order X u k (RawEffect-F.And es) = each_is-map u k es
natural_order X u k (RawEffect-F.Forall xs e) = refl
natural_order X u k (RawEffect-F.When f e) = refl

-- its lists of variables, and the terms of its atoms
pub record EffectInOrder (e : RawEffect) (table : Names) : Type 0 where
  pub lists : OfEachListOfEffect (AreParameters table) e
  pub terms : IsEffectInOrder e

-- one level
in_roll : (table : Names) (x : RawEffect-F RawEffect) (e : RawEffect) → roll-RawEffect x ≡ e → effect_listed_step (AreParameters table) (OfEachListOfEffect (AreParameters table)) x → effect_ordered_step IsEffectInOrder x → EffectInOrder e table
in_roll table x e is h g = record {
  lists = subst (OfEachListOfEffect (AreParameters table)) is (subst (λ (z : Type 0). z) (sym (rec-roll-RawEffect (Type 0) (λ X u k layer. effect_listed_step (AreParameters table) k layer) (natural table) x)) h);
  terms = subst IsEffectInOrder is (subst (λ (z : Type 0). z) (sym (rec-roll-RawEffect (Type 0) (λ X u k layer. effect_ordered_step k layer) natural_order x)) g);
}

abbrev EffectsInOrder : List RawEffect → Names → Type 0
EffectsInOrder es table = EachIs (OfEachListOfEffect (AreParameters table)) es × EachIs IsEffectInOrder es

abbrev GuardedInOrder : RawFormula × RawEffect → Names → Type 0
GuardedInOrder x table = FormulaInOrder x.0 table × EffectInOrder x.1 table

abbrev BoundInOrder : List RawParam × RawEffect → Names → Type 0
BoundInOrder x table = AreParameters table x.0 × EffectInOrder x.1 table

pub applied_in_order : (p : Placed) (names : Names) → Rising p → Reads names (applied names p) AtomInOrder
applied_in_order p names s = reads_weaken (AtomClimbs s.0 s.1) AtomInOrder names (applied names p) (applied_climbs p names s.0 s.1 s.2) (λ a table c. atom_rises s.0 s.1 a table c)

deleted_in : (p : Placed) (names : Names) → Rising p → Reads names (deleted names p) AtomInOrder
unfolding deleted
deleted_in cut names s = tt
deleted_in (close at) names s = tt
deleted_in (word at w p) names s = tt
deleted_in (list at p q) names s =
    reads_then same AtomInOrder AtomInOrder names (applied names p) (λ a. end_due q >>= (λ _. Ok a)) (applied_in_order p names (inside_list at p q s)) (λ a. reads_end (λ b table. AtomInOrder a.0 table → AtomInOrder b table) q a (λ _ table is. is))

pub no_effect_in_order : (table : Names) → EffectInOrder (raw.And []) table
no_effect_in_order table = in_roll table (RawEffect-F.And []) (raw.And []) (rolls-And []) tt tt

-- behind the word at the front
headed_in : (h : EffectHead) (names : Names) (at : ℕ) (w : Word) (p : Placed) → Rising (word at w p) → Reads names (effects names p) EffectsInOrder → Reads names (guarded names p) GuardedInOrder → Reads names (bound_effect names p) BoundInOrder → Reads names (effect_headed h names at w p) EffectInOrder
unfolding effect_headed
headed_in head.And names at w p s a b c = reads_map EffectsInOrder EffectInOrder names (effects names p) raw.And a (λ es table is. in_roll table (RawEffect-F.And es) (raw.And es) (rolls-And es) is.0 is.1)
headed_in head.Forall names at w p s a b c = reads_map BoundInOrder EffectInOrder names (bound_effect names p) (λ x. raw.Forall x.0 x.1) c (λ x table is. in_roll table (RawEffect-F.Forall x.0 x.1) (raw.Forall x.0 x.1) (rolls-Forall x.0 x.1) (is.0, is.1.lists) is.1.terms)
headed_in head.When names at w p s a b c = reads_map GuardedInOrder EffectInOrder names (guarded names p) (λ x. raw.When x.0 x.1) b (λ x table is. in_roll table (RawEffect-F.When x.0 x.1) (raw.When x.0 x.1) (rolls-When x.0 x.1) (is.0.lists, is.1.lists) (is.0.terms, is.1.terms))
headed_in head.Not names at w p s a b c = reads_map AtomInOrder EffectInOrder names (deleted names p) raw.Delete (deleted_in p names (behind_word at w p s)) (λ x table is. in_roll table (RawEffect-F.Delete x) (raw.Delete x) (rolls-Delete x) tt is)
headed_in head.Increase names at w p s a b c = go (passed p)
  where
    go : (r : Result (Unit {0}) Stop) → Reads names (r >>= (λ _. Ok (raw.And [], names))) EffectInOrder
    go (Ok x) = (keeps_same names, λ table k. no_effect_in_order table)
    go (Err e) = tt
headed_in head.Plain names at w p s a b c = reads_map (AtomClimbs s.0 s.1) EffectInOrder names (atom names at w p) raw.Add (atom_climbs p names at w s.0 s.1 s.2.0 s.2.1) (λ x table is. in_roll table (RawEffect-F.Add x) (raw.Add x) (rolls-Add x) tt (atom_rises s.0 s.1 x table is))
headed_in head.Wrong names at w p s a b c = tt

mutual
  unfolding effect_inside effects one_effect guarded bound_effect

  pub effect_inside_in_order : (p : Placed) (names : Names) → Rising p → Reads names (effect_inside names p) EffectInOrder
  effect_inside_in_order cut names s = tt
  effect_inside_in_order (close at) names s = (keeps_same names, λ table k. no_effect_in_order table)
  effect_inside_in_order (list at p q) names s = tt
  effect_inside_in_order (word at w p) names s =
      let t = behind_word at w p s in
      subst (λ r. Reads names r EffectInOrder) (sym (inside_word names at w p)) (headed_in (effect_head_of w) names at w p s (effects_in p names t) (guarded_in p names t) (bound_in p names t))

  effects_in : (p : Placed) (names : Names) → Rising p → Reads names (effects names p) EffectsInOrder
  effects_in cut names s = tt
  effects_in (close at) names s = (keeps_same names, λ table k. (tt, tt))
  effects_in (word at w p) names s = tt
  effects_in (list at p q) names s =
      reads_then same EffectInOrder EffectsInOrder names (effect_inside names p) (λ e. effects e.1 q >>= (λ es. Ok (e.0 ∷ es.0, es.1))) (effect_inside_in_order p names (inside_list at p q s))
      (λ e. reads_map EffectsInOrder (λ es table. EffectInOrder e.0 table → EffectsInOrder es table) e.1 (effects e.1 q) (λ es. e.0 ∷ es) (effects_in q e.1 (behind_list at p q s)) (λ es table is one. ((one.lists, is.0), (one.terms, is.1))))

  one_in : (p : Placed) (names : Names) → Rising p → Reads names (one_effect names p) EffectInOrder
  one_in cut names s = tt
  one_in (close at) names s = tt
  one_in (word at w p) names s = tt
  one_in (list at p q) names s =
      reads_then same EffectInOrder EffectInOrder names (effect_inside names p) (λ e. end_due q >>= (λ _. Ok e)) (effect_inside_in_order p names (inside_list at p q s)) (λ e. reads_end (λ g table. EffectInOrder e.0 table → EffectInOrder g table) q e (λ _ table is. is))

  guarded_in : (p : Placed) (names : Names) → Rising p → Reads names (guarded names p) GuardedInOrder
  guarded_in cut names s = tt
  guarded_in (close at) names s = tt
  guarded_in (word at w p) names s = tt
  guarded_in (list at p q) names s =
      reads_then same FormulaInOrder GuardedInOrder names (inside names p) (λ f. one_effect f.1 q >>= (λ e. Ok ((f.0, e.0), e.1))) (inside_in_order p names (inside_list at p q s))
      (λ f. reads_map EffectInOrder (λ x table. FormulaInOrder f.0 table → GuardedInOrder x table) f.1 (one_effect f.1 q) (λ e. (f.0, e)) (one_in q f.1 (behind_list at p q s)) (λ e table is one. (one, is)))

  bound_in : (p : Placed) (names : Names) → Rising p → Reads names (bound_effect names p) BoundInOrder
  bound_in cut names s = tt
  bound_in (close at) names s = tt
  bound_in (word at w p) names s = tt
  bound_in (list at p q) names s =
      reads_then same (ListInOrder Parameters) BoundInOrder names (listed Parameters names p) (λ vs. one_effect vs.1 q >>= (λ e. Ok ((vs.0, e.0), e.1))) (listed_in_order p Parameters names (inside_list at p q s))
      (λ vs. reads_map EffectInOrder (λ x table. ListInOrder Parameters vs.0 table → BoundInOrder x table) vs.1 (one_effect vs.1 q) (λ e. (vs.0, e)) (one_in q vs.1 (behind_list at p q s)) (λ e table is one. (parameters_are table vs.0 one, is)))

pub effect_in_order : (p : Placed) (names : Names) → Rising p → Reads names (effect_read names p) EffectInOrder
unfolding effect_read list_due
effect_in_order cut names s = tt
effect_in_order (close at) names s = tt
effect_in_order (word at w p) names s = tt
effect_in_order (list at p q) names s = effect_inside_in_order p names (inside_list at p q s)
