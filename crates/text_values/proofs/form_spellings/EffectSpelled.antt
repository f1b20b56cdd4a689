-- A whole form spells an effect, where all its words are declared.
use Rattle.std.proofs.Common.{ℕ, ◌≡◌, inl, inr, List, [], ◌∷◌, ◌++◌, map, refl, sym, ap, subst}
use Rattle.text_forms.specs.Lists.{Part, Parts, name, group, nothing, part}
use Rattle.text_forms.specs.Placed.{Placed, cut, close, word, list, parts_of, IsWhole}
use Rattle.text_forms.specs.Words.{Word}
use Rattle.plan_texts.specs.Declared.{Declared, variable}
use Rattle.plan_texts.specs.Formulas.{IsApplied, IsParam, effect_step, IsEffect}
use Rattle.plan_texts.specs.TypedLists.{Each, EachTyped}
use Rattle.htn_base.specs.Different.{AreDifferent}
use Rattle.plan_texts.specs.Types.{EachIs}
use Rattle.plan_texts.proofs.Effects.{effect_roll}
use Rattle.plan_model.specs.declared.terms.Term.{Term}
use Rattle.plan_model.specs.declared.terms.Param.{Param}
use Rattle.plan_model.specs.declared.effects.Effect.{Effect, roll-Effect}
use Rattle.plan_model.specs.declared.effects.Effect.TheOpen.{Effect-F}
use Rattle.gd_reader.specs.declared.typed_lists.ListKind.TheVariants.{Parameters}
use Rattle.gd_reader.specs.declared.words.EffectHead.{EffectHead}
use Rattle.gd_reader.specs.declared.words.EffectHead.TheVariants as head
use Rattle.gd_reader.specs.Grammar.{deleted_form, effect_inside_form, effects_form, one_effect_form, guarded_form, bound_effect_form}
use Rattle.gd_reader.specs.TermGrammar.{applied_form, passed_form}
use Rattle.gd_reader.specs.Words.{effect_head_of}
use Rattle.text_values.specs.form_spellings.Fresh.{fresh_effect_step, AreFreshEffects}
use Rattle.text_values.proofs.form_spellings.EffectWhole.{headed_form, fresh_roll}
use Rattle.text_values.proofs.form_spellings.FormulaSpelled.{end_closed, terms_written, Written as WrittenFormula, inside_written}
use Rattle.text_values.proofs.form_spellings.Known.{KnowsWord, Knows, KnowsObject, first_of, knows_more}
use Rattle.text_values.proofs.form_spellings.ListsSpelled.{params_listed}
use Rattle.text_values.proofs.form_spellings.ListValues.{make_parameter}
use Rattle.text_values.proofs.form_spellings.WordTests.{EffectWord, effect_word, name_whole}

passed_ends : (p : Placed) → (passed_form p).Whole → IsWhole p
passed_ends cut h = h
passed_ends (close at) h = tt
passed_ends (word at u p) h = passed_ends p h
passed_ends (list at p q) h = (passed_ends p h.0, passed_ends q h.1)

module _ (v : Declared) where
  abbrev pub Applied : List Word → Part → Type 0
  Applied scope q = (n : ℕ) × (ts : List Term) × IsApplied v scope n ts q

  pub applied_written : (p : Placed) (scope : List Word) → Knows v scope p → (applied_form p).Whole → IsWhole p × Applied scope (group (parts_of p))
  applied_written cut scope k h = absurd h
  applied_written (close at) scope k h = absurd h
  applied_written (list at p q) scope k h = absurd h
  applied_written (word at u p) scope k h =
      let ts = terms_written v p scope k.1 h.1 in let n = first_of v.predicates u k.0.0.3 in
      (ts.0, (n.0, ts.1.0, (u, parts_of p, refl, name_whole u h.0, n.1, ts.1.1)))

  deleted_written : (p : Placed) (scope : List Word) → Knows v scope p → (deleted_form p).Whole → IsWhole p × ((q : Part) × (parts_of p ≡ part q nothing) × Applied scope q)
  deleted_written cut scope k h = absurd h
  deleted_written (close at) scope k h = absurd h
  deleted_written (word at u p) scope k h = absurd h
  deleted_written (list at p q) scope k h =
      let a = applied_written p scope k.1 h.0 in let e = end_closed q h.1 in
      ((a.0, e.0), (group (parts_of p), ap (part (group (parts_of p))) e.1, a.1))

  -- an effect that a part spells
  abbrev pub Written : List Word → Part → Type 0
  Written scope q = (e : Effect) × AreFreshEffects v e × IsEffect v e scope q

  wrote : (x : Effect-F Effect) (scope : List Word) (q : Part) → fresh_effect_step v (AreFreshEffects v) x → effect_step v (IsEffect v) x scope q → Written scope q
  wrote x scope q n e = (roll-Effect x, subst (λ (z : Type 0). z) (sym (fresh_roll v x)) n, subst (λ (z : List Word → Part → Type 0). z scope q) (sym (effect_roll v x)) e)

  abbrev Many : List Word → Placed → Type 0
  Many scope p = IsWhole p × ((es : List Effect) × EachIs (AreFreshEffects v) es × Each (λ e. IsEffect v e scope) es (parts_of p))

  abbrev One : List Word → Placed → Type 0
  One scope p = IsWhole p × ((q : Part) × (parts_of p ≡ part q nothing) × Written scope q)

  abbrev Guarded : List Word → Placed → Type 0
  Guarded scope p = IsWhole p × ((q : Part) × (r : Part) × (parts_of p ≡ part q (part r nothing)) × WrittenFormula v scope q × Written scope r)

  abbrev Bound : List Word → Placed → Type 0
  Bound scope p = IsWhole p × ((ps : Parts) × (q : Part) × (xs : List Param) × (parts_of p ≡ part (group ps) (part q nothing)) × AreDifferent (map (variable v) xs) × EachTyped (IsParam v) xs ps × Written (scope ++ map (variable v) xs) q)

  -- behind the word at the front, where what stands there is spelled
  behind_word : (h : EffectHead) (scope : List Word) (w : Word) (p : Placed) → KnowsWord v scope w → Knows v scope p → EffectWord h w
      → ((effects_form p).Whole → Many scope p) → ((guarded_form p).Whole → Guarded scope p) → ((bound_effect_form p).Whole → Bound scope p)
      → (headed_form h p).Whole → IsWhole p × Written scope (group (part (name w) (parts_of p)))
  behind_word head.And scope w p k ks e many guarded bound h =
      let g = many h in (g.0, wrote (Effect-F.And g.1.0) scope _ g.1.1 (inl (parts_of p, ap (λ w. group (part (name w) (parts_of p))) e, g.1.2)))
  behind_word head.Forall scope w p k ks e many guarded bound h =
      let g = bound h in
      (g.0, wrote (Effect-F.Forall g.1.2 g.1.6.0) scope _ (g.1.4, g.1.6.1) (g.1.0, g.1.1, (λ i. group (part (name (e i)) (g.1.3 i))), g.1.5, g.1.6.2))
  behind_word head.When scope w p k ks e many guarded bound h =
      let g = guarded h in
      (g.0, wrote (Effect-F.When g.1.3.0 g.1.4.0) scope _ (g.1.3.1, g.1.4.1) (g.1.0, g.1.1, (λ i. group (part (name (e i)) (g.1.2 i))), g.1.3.2, g.1.4.2))
  behind_word head.Not scope w p k ks e many guarded bound h =
      let g = deleted_written p scope ks h in
      (g.0, wrote (Effect-F.Delete (record { predicate = g.1.2.0; args = g.1.2.1 })) scope _ tt (g.1.0, (λ i. group (part (name (e i)) (g.1.1 i))), g.1.2.2))
  behind_word head.Increase scope w p k ks e many guarded bound h =
      (passed_ends p h, wrote (Effect-F.And []) scope _ tt (inr (tt, inr (parts_of p, ap (λ w. group (part (name w) (parts_of p))) e))))
  behind_word head.Plain scope w p k ks e many guarded bound h =
      let g = terms_written v p scope ks h in
      let n = first_of v.predicates w k.0.3 in
      (g.0, wrote (Effect-F.Add (record { predicate = n.0; args = g.1.0 })) scope _ tt (w, parts_of p, refl, e, n.1, g.1.1))
  behind_word head.Wrong scope w p k ks e many guarded bound h = absurd h

  module _ (object : KnowsObject v) where
    mutual
      pub effect_written : (p : Placed) (scope : List Word) → Knows v scope p → (effect_inside_form p).Whole → IsWhole p × Written scope (group (parts_of p))
      effect_written cut scope k h = absurd h
      effect_written (close at) scope k h = (tt, wrote (Effect-F.And []) scope (group nothing) tt (inr (tt, inl refl)))
      effect_written (list at p q) scope k h = absurd h
      effect_written (word at w p) scope k h =
          behind_word (effect_head_of w) scope w p k.0 k.1 (effect_word w) (λ h. effects_written p scope k.1 h) (λ h. guarded_written p scope k.1 h) (λ h. bound_written p scope k.1 h) h

      effects_written : (p : Placed) (scope : List Word) → Knows v scope p → (effects_form p).Whole → Many scope p
      effects_written cut scope k h = absurd h
      effects_written (close at) scope k h = (tt, ([], tt, tt))
      effects_written (word at w p) scope k h = absurd h
      effects_written (list at p q) scope k h =
          let f = effect_written p scope k.1 h.0 in let fs = effects_written q scope k.2 h.1 in
          ((f.0, fs.0), (f.1.0 ∷ fs.1.0, (f.1.1, fs.1.1), (f.1.2, fs.1.2)))

      one_written : (p : Placed) (scope : List Word) → Knows v scope p → (one_effect_form p).Whole → One scope p
      one_written cut scope k h = absurd h
      one_written (close at) scope k h = absurd h
      one_written (word at w p) scope k h = absurd h
      one_written (list at p q) scope k h =
          let f = effect_written p scope k.1 h.0 in let e = end_closed q h.1 in
          ((f.0, e.0), (group (parts_of p), ap (part (group (parts_of p))) e.1, f.1))

      guarded_written : (p : Placed) (scope : List Word) → Knows v scope p → (guarded_form p).Whole → Guarded scope p
      guarded_written cut scope k h = absurd h
      guarded_written (close at) scope k h = absurd h
      guarded_written (word at w p) scope k h = absurd h
      guarded_written (list at p q) scope k h =
          let f = inside_written v object p scope k.1 h.0 in let g = one_written q scope k.2 h.1 in
          ((f.0, g.0), (group (parts_of p), g.1.0, ap (part (group (parts_of p))) g.1.1, f.1, g.1.2))

      bound_written : (p : Placed) (scope : List Word) → Knows v scope p → (bound_effect_form p).Whole → Bound scope p
      bound_written cut scope k h = absurd h
      bound_written (close at) scope k h = absurd h
      bound_written (word at w p) scope k h = absurd h
      bound_written (list at p q) scope k h =
          let xs = params_listed v scope (IsParam v) Parameters (variable v) (make_parameter v scope) object p [] k.1 h.0 in
          let g = one_written q (scope ++ map (variable v) xs.1.0) (knows_more v scope (map (variable v) xs.1.0) q k.2) h.1 in
          ((xs.0, g.0), (parts_of p, g.1.0, xs.1.0, ap (part (group (parts_of p))) g.1.1, xs.1.2.1, xs.1.1, g.1.2))
