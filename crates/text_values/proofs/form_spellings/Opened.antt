-- A formula that a list spells, by the word at its front.
use Rattle.std.proofs.Common.{◌≡◌, ℕ, inl, inr, List, [], ◌∷◌, ◌++◌, map, codes, ap, sym, subst, ◌∙◌}
use Rattle.text_forms.specs.Lists.{Part, Parts, name, group, nothing, part}
use Rattle.text_forms.specs.Words.{Word}
use Rattle.text_forms.specs.Printing.{headed}
use Rattle.plan_texts.specs.Declared.{Declared, variable}
use Rattle.plan_texts.specs.Formulas.{IsTerm, IsApplied, IsParam, formula_step, IsFormula, effect_step, IsEffect}
use Rattle.plan_texts.specs.TypedLists.{Each, EachTyped}
use Rattle.plan_texts.proofs.Readings.{formula_roll}
use Rattle.plan_texts.proofs.Effects.{effect_roll}
use Rattle.plan_model.specs.declared.terms.Term.{Term}
use Rattle.plan_model.specs.declared.terms.Param.{Param}
use Rattle.plan_model.specs.declared.formulas.Formula.{Formula, roll-Formula}
use Rattle.plan_model.specs.declared.formulas.Formula.TheFolds.{ind-Formula}
use Rattle.plan_model.specs.declared.formulas.Formula.TheOpen.{Formula-F}
use Rattle.plan_model.specs.declared.formulas.Formula.TheVariants as formula
use Rattle.plan_model.specs.declared.formulas.Formula.TheVariants.{rolls-Holds, rolls-Equal, rolls-Not, rolls-And, rolls-Or, rolls-Imply, rolls-Forall, rolls-Exists}
use Rattle.plan_model.specs.declared.effects.Effect.{Effect, roll-Effect}
use Rattle.plan_model.specs.declared.effects.Effect.TheFolds.{ind-Effect}
use Rattle.plan_model.specs.declared.effects.Effect.TheOpen.{Effect-F}
use Rattle.plan_model.specs.declared.effects.Effect.TheVariants as effect
use Rattle.plan_model.specs.declared.effects.Effect.TheVariants.{rolls-Add, rolls-Delete, rolls-And as rolls-Both, rolls-Forall as rolls-Each_one, rolls-When}
use Rattle.gd_reader.specs.declared.words.Head.{Head}
use Rattle.gd_reader.specs.declared.words.Head.TheVariants as head
use Rattle.gd_reader.specs.declared.words.EffectHead.{EffectHead}
use Rattle.gd_reader.specs.declared.words.EffectHead.TheVariants as effect_head
use Rattle.gd_reader.specs.Words.{head_of, effect_head_of}
use Rattle.text_values.proofs.form_spellings.ListsWhole.{name_is}
use Rattle.text_values.proofs.form_spellings.PartsWhole.{front_is, back_is, within_is, no_part, no_nothing}
use Rattle.text_values.proofs.form_spellings.WordTests.{key_heads, effect_keys, name_head, name_effect_head}

module _ (v : Declared) (scope : List Word) where
  -- by what the word begins; ps stands behind the word
  abbrev pub Opened : Head → Word → Parts → Formula → Type 0
  Opened head.And w ps f = (gs : List Formula) × (f ≡ formula.And gs) × Each (λ g. IsFormula v g scope) gs ps
  Opened head.Or w ps f = (gs : List Formula) × (f ≡ formula.Or gs) × Each (λ g. IsFormula v g scope) gs ps
  Opened head.Not w ps f = (g : Formula) × (f ≡ formula.Not g) × ((q : Part) × (ps ≡ part q nothing) × IsFormula v g scope q)
  Opened head.Imply w ps f = (g : Formula) × (h : Formula) × (f ≡ formula.Imply g h) × ((q : Part) × (r : Part) × (ps ≡ part q (part r nothing)) × IsFormula v g scope q × IsFormula v h scope r)
  Opened head.Forall w ps f = (xs : List Param) × (g : Formula) × (f ≡ formula.Forall xs g) × ((rs : Parts) × (q : Part) × (ps ≡ part (group rs) (part q nothing)) × EachTyped (IsParam v) xs rs × IsFormula v g (scope ++ map (variable v) xs) q)
  Opened head.Exists w ps f = (xs : List Param) × (g : Formula) × (f ≡ formula.Exists xs g) × ((rs : Parts) × (q : Part) × (ps ≡ part (group rs) (part q nothing)) × EachTyped (IsParam v) xs rs × IsFormula v g (scope ++ map (variable v) xs) q)
  Opened head.Equal w ps f = (s : Term) × (t : Term) × (f ≡ formula.Equal s t) × ((q : Part) × (r : Part) × (ps ≡ part q (part r nothing)) × IsTerm v scope s q × IsTerm v scope t r)
  Opened head.Plain w ps f = (n : ℕ) × (ts : List Term) × (f ≡ formula.Holds (record { predicate = n; args = ts })) × IsApplied v scope n ts (group (part (name w) ps))
  Opened head.Wrong w ps f = Unit {0}

  at_key : (h : Head) (k w : Word) (ps qs : Parts) (f : Formula) → head_of k ≡ h → group (part (name w) ps) ≡ headed k qs → Opened h w ps f → Opened (head_of w) w ps f
  at_key h k w ps qs f e is o = subst (λ h. Opened h w ps f) (sym (ap head_of (name_is (front_is (within_is is))) ∙ e)) o

  behind_key : (k w : Word) (ps qs : Parts) → group (part (name w) ps) ≡ headed k qs → ps ≡ qs
  behind_key k w ps qs is = back_is (within_is is)

  level : (x : Formula-F Formula) (w : Word) (ps : Parts) → formula_step v (IsFormula v) x scope (group (part (name w) ps)) → Opened (head_of w) w ps (roll-Formula x)
  level (Formula-F.Holds a) w ps e =
      at_key head.Plain e.0 w ps e.1 _ (name_head e.0 e.3) e.2 (a.predicate, a.args, rolls-Holds a, e)
  level (Formula-F.Equal s t) w ps e = at_key head.Equal (codes "=") w ps _ _ key_heads.6 e.2 (s, t, rolls-Equal s t, (e.0, e.1, behind_key (codes "=") w ps _ e.2, e.3, e.4))
  level (Formula-F.Not g) w ps e = at_key head.Not (codes "not") w ps _ _ key_heads.2 e.1 (g, rolls-Not g, (e.0, behind_key (codes "not") w ps _ e.1, e.2))
  level (Formula-F.And gs) w ps (inl e) = at_key head.And (codes "and") w ps _ _ key_heads.0 e.1 (gs, rolls-And gs, subst (Each (λ g. IsFormula v g scope) gs) (sym (behind_key (codes "and") w ps _ e.1)) e.2)
  level (Formula-F.And gs) w ps (inr e) = no_nothing (within_is e.1)
  level (Formula-F.Or gs) w ps e = at_key head.Or (codes "or") w ps _ _ key_heads.1 e.1 (gs, rolls-Or gs, subst (Each (λ g. IsFormula v g scope) gs) (sym (behind_key (codes "or") w ps _ e.1)) e.2)
  level (Formula-F.Imply g h) w ps e = at_key head.Imply (codes "imply") w ps _ _ key_heads.3 e.2 (g, h, rolls-Imply g h, (e.0, e.1, behind_key (codes "imply") w ps _ e.2, e.3, e.4))
  level (Formula-F.Forall xs g) w ps e = at_key head.Forall (codes "forall") w ps _ _ key_heads.4 e.2 (xs, g, rolls-Forall xs g, (e.0, e.1, behind_key (codes "forall") w ps _ e.2, e.3, e.4))
  level (Formula-F.Exists xs g) w ps e = at_key head.Exists (codes "exists") w ps _ _ key_heads.5 e.2 (xs, g, rolls-Exists xs g, (e.0, e.1, behind_key (codes "exists") w ps _ e.2, e.3, e.4))

  pub opened : (f : Formula) (w : Word) (ps : Parts) → IsFormula v f scope (group (part (name w) ps)) → Opened (head_of w) w ps f
  opened = ind-Formula (λ f. (w : Word) (ps : Parts) → IsFormula v f scope (group (part (name w) ps)) → Opened (head_of w) w ps f)
      (λ x y is w ps e. level x w ps (subst (λ (z : List Word → Part → Type 0). z scope (group (part (name w) ps))) (formula_roll v x) e))

  -- the empty list spells the empty conjunction alone
  empty_level : (x : Formula-F Formula) → formula_step v (IsFormula v) x scope (group nothing) → roll-Formula x ≡ formula.And []
  empty_level (Formula-F.Holds a) e = no_part (within_is e.2)
  empty_level (Formula-F.Equal s t) e = no_part (within_is e.2)
  empty_level (Formula-F.Not g) e = no_part (within_is e.1)
  empty_level (Formula-F.And gs) (inl e) = no_part (within_is e.1)
  empty_level (Formula-F.And []) (inr e) = rolls-And []
  empty_level (Formula-F.And (g ∷ gs)) (inr e) = absurd e.0
  empty_level (Formula-F.Or gs) e = no_part (within_is e.1)
  empty_level (Formula-F.Imply g h) e = no_part (within_is e.2)
  empty_level (Formula-F.Forall xs g) e = no_part (within_is e.2)
  empty_level (Formula-F.Exists xs g) e = no_part (within_is e.2)

  pub empty : (f : Formula) → IsFormula v f scope (group nothing) → f ≡ formula.And []
  empty = ind-Formula (λ f. IsFormula v f scope (group nothing) → f ≡ formula.And []) (λ x y is e. empty_level x (subst (λ (z : List Word → Part → Type 0). z scope (group nothing)) (formula_roll v x) e))

  -- the same of effects
  abbrev pub OpenedEffect : EffectHead → Word → Parts → Effect → Type 0
  OpenedEffect effect_head.And w ps f = (gs : List Effect) × (f ≡ effect.And gs) × Each (λ g. IsEffect v g scope) gs ps
  OpenedEffect effect_head.Forall w ps f = (xs : List Param) × (g : Effect) × (f ≡ effect.Forall xs g) × ((rs : Parts) × (q : Part) × (ps ≡ part (group rs) (part q nothing)) × EachTyped (IsParam v) xs rs × IsEffect v g (scope ++ map (variable v) xs) q)
  OpenedEffect effect_head.When w ps f = (g : Formula) × (h : Effect) × (f ≡ effect.When g h) × ((q : Part) × (r : Part) × (ps ≡ part q (part r nothing)) × IsFormula v g scope q × IsEffect v h scope r)
  OpenedEffect effect_head.Not w ps f = (n : ℕ) × (ts : List Term) × (f ≡ effect.Delete (record { predicate = n; args = ts })) × ((q : Part) × (ps ≡ part q nothing) × IsApplied v scope n ts q)
  OpenedEffect effect_head.Increase w ps f = f ≡ effect.And []
  OpenedEffect effect_head.Plain w ps f = (n : ℕ) × (ts : List Term) × (f ≡ effect.Add (record { predicate = n; args = ts })) × IsApplied v scope n ts (group (part (name w) ps))
  OpenedEffect effect_head.Wrong w ps f = Unit {0}

  at_effect_key : (h : EffectHead) (k w : Word) (ps qs : Parts) (f : Effect) → effect_head_of k ≡ h → group (part (name w) ps) ≡ headed k qs → OpenedEffect h w ps f → OpenedEffect (effect_head_of w) w ps f
  at_effect_key h k w ps qs f e is o = subst (λ h. OpenedEffect h w ps f) (sym (ap effect_head_of (name_is (front_is (within_is is))) ∙ e)) o

  effect_level : (x : Effect-F Effect) (w : Word) (ps : Parts) → effect_step v (IsEffect v) x scope (group (part (name w) ps)) → OpenedEffect (effect_head_of w) w ps (roll-Effect x)
  effect_level (Effect-F.Add a) w ps e = at_effect_key effect_head.Plain e.0 w ps e.1 _ (name_effect_head e.0 e.3) e.2 (a.predicate, a.args, rolls-Add a, e)
  effect_level (Effect-F.Delete a) w ps e = at_effect_key effect_head.Not (codes "not") w ps _ _ effect_keys.3 e.1 (a.predicate, a.args, rolls-Delete a, (e.0, behind_key (codes "not") w ps _ e.1, e.2))
  effect_level (Effect-F.And gs) w ps (inl e) = at_effect_key effect_head.And (codes "and") w ps _ _ effect_keys.0 e.1 (gs, rolls-Both gs, subst (Each (λ g. IsEffect v g scope) gs) (sym (behind_key (codes "and") w ps _ e.1)) e.2)
  effect_level (Effect-F.And []) w ps (inr e) = elim e.1 [
    | inl g ↦ no_nothing (within_is g)
    | inr g ↦ at_effect_key effect_head.Increase (codes "increase") w ps _ _ effect_keys.4 g.1 (rolls-Both [])
  ]
  effect_level (Effect-F.And (g ∷ gs)) w ps (inr e) = absurd e.0
  effect_level (Effect-F.Forall xs g) w ps e = at_effect_key effect_head.Forall (codes "forall") w ps _ _ effect_keys.1 e.2 (xs, g, rolls-Each_one xs g, (e.0, e.1, behind_key (codes "forall") w ps _ e.2, e.3, e.4))
  effect_level (Effect-F.When g h) w ps e = at_effect_key effect_head.When (codes "when") w ps _ _ effect_keys.2 e.2 (g, h, rolls-When g h, (e.0, e.1, behind_key (codes "when") w ps _ e.2, e.3, e.4))

  pub opened_effect : (f : Effect) (w : Word) (ps : Parts) → IsEffect v f scope (group (part (name w) ps)) → OpenedEffect (effect_head_of w) w ps f
  opened_effect = ind-Effect (λ f. (w : Word) (ps : Parts) → IsEffect v f scope (group (part (name w) ps)) → OpenedEffect (effect_head_of w) w ps f)
      (λ x y is w ps e. effect_level x w ps (subst (λ (z : List Word → Part → Type 0). z scope (group (part (name w) ps))) (effect_roll v x) e))

  empty_effect_level : (x : Effect-F Effect) → effect_step v (IsEffect v) x scope (group nothing) → roll-Effect x ≡ effect.And []
  empty_effect_level (Effect-F.Add a) e = no_part (within_is e.2)
  empty_effect_level (Effect-F.Delete a) e = no_part (within_is e.1)
  empty_effect_level (Effect-F.And gs) (inl e) = no_part (within_is e.1)
  empty_effect_level (Effect-F.And []) (inr e) = rolls-Both []
  empty_effect_level (Effect-F.And (g ∷ gs)) (inr e) = absurd e.0
  empty_effect_level (Effect-F.Forall xs g) e = no_part (within_is e.2)
  empty_effect_level (Effect-F.When g h) e = no_part (within_is e.2)

  pub empty_effect : (f : Effect) → IsEffect v f scope (group nothing) → f ≡ effect.And []
  empty_effect = ind-Effect (λ f. IsEffect v f scope (group nothing) → f ≡ effect.And []) (λ x y is e. empty_effect_level x (subst (λ (z : List Word → Part → Type 0). z scope (group nothing)) (effect_roll v x) e))
