-- A form that spells an effect is whole.
use Rattle.std.proofs.Common.{ℕ, ◌≡◌, inl, inr, List, [], ◌∷◌, ◌++◌, map, codes, refl, sym, subst}
use Rattle.gd_reader.specs.Forms.{Form, wrong}
use Rattle.text_forms.specs.Lists.{Part, Parts, name, group, nothing, part}
use Rattle.text_forms.specs.Placed.{Placed, cut, close, word, list, parts_of, IsWhole}
use Rattle.text_forms.specs.Words.{Word}
use Rattle.plan_texts.specs.Declared.{Declared, variable}
use Rattle.plan_texts.specs.Formulas.{IsParam, effect_step, IsEffect}
use Rattle.plan_texts.specs.TypedLists.{Each, EachTyped}
use Rattle.htn_base.specs.Different.{AreDifferent}
use Rattle.plan_texts.specs.Types.{EachIs}
use Rattle.plan_texts.proofs.Effects.{effect_roll}
use Rattle.plan_texts.proofs.Places.{each-append}
use Rattle.plan_texts.proofs.Spelled.{each_is-map}
use Rattle.plan_model.specs.declared.terms.Param.{Param}
use Rattle.plan_model.specs.declared.effects.Effect.{Effect, roll-Effect}
use Rattle.plan_model.specs.declared.effects.Effect.TheFolds.{rec-roll-Effect, map-Effect, ind-Effect}
use Rattle.plan_model.specs.declared.effects.Effect.TheOpen.{Effect-F}
use Rattle.gd_reader.specs.declared.typed_lists.ListKind.TheVariants.{Parameters}
use Rattle.gd_reader.specs.declared.words.EffectHead.{EffectHead}
use Rattle.gd_reader.specs.declared.words.EffectHead.TheVariants as head
use Rattle.gd_reader.specs.Grammar.{inside_form, deleted_form, effect_inside_form, effects_form, one_effect_form, guarded_form, bound_effect_form}
use Rattle.gd_reader.specs.ListGrammar.{params_form}
use Rattle.gd_reader.specs.TermGrammar.{terms_form, end_form, applied_form, passed_form}
use Rattle.gd_reader.specs.Words.{effect_head_of}
use Rattle.text_values.specs.form_spellings.Fresh.{fresh_effect_step, AreFreshEffects}
use Rattle.text_values.specs.form_spellings.SpellsSome.{HaveLetters}
use Rattle.text_values.proofs.form_spellings.FormulaWhole.{bound_letters, params_good, formula_good}
use Rattle.text_values.proofs.form_spellings.PartsWhole.{no_nothing, end_whole, passed_whole, Good, part_whole, headed_whole, terms_whole, applied_whole}
use Rattle.text_values.proofs.form_spellings.WordTests.{name_effect_head, effect_keys}

-- the form behind a word at the front
abbrev pub headed_form : EffectHead → Placed → Form
headed_form h p = elim h [
  | head.And ↦ effects_form p
  | head.Forall ↦ bound_effect_form p
  | head.When ↦ guarded_form p
  | head.Not ↦ deleted_form p
  | head.Increase ↦ passed_form p
  | head.Plain ↦ terms_form p
  | head.Wrong ↦ wrong
]

keyed : (h : EffectHead) (k : Word) (at : ℕ) (R : Placed) → effect_head_of k ≡ h → (headed_form h R).Whole → (effect_inside_form (word at k R)).Whole
keyed h k at R e g = subst (λ h. (headed_form h R).Whole) (sym e) g

one_whole : (R : Placed) (q : Part) → IsWhole R → parts_of R ≡ part q nothing → Good effect_inside_form q → (one_effect_form R).Whole
one_whole R q w e g = part_whole effect_inside_form one_effect_form end_form (λ at S T a b. (a, b)) R q nothing w e g (λ T w e. end_whole T w e)

guarded_whole : (R : Placed) (q r : Part) → IsWhole R → parts_of R ≡ part q (part r nothing) → Good inside_form q → Good effect_inside_form r → (guarded_form R).Whole
guarded_whole R q r w e g h = part_whole inside_form guarded_form one_effect_form (λ at S T a b. (a, b)) R q (part r nothing) w e g (λ T w e. one_whole T r w e h)

deleted_whole : (R : Placed) (q : Part) → IsWhole R → parts_of R ≡ part q nothing → Good applied_form q → (deleted_form R).Whole
deleted_whole R q w e g = part_whole applied_form deleted_form end_form (λ at S T a b. (a, b)) R q nothing w e g (λ T w e. end_whole T w e)

module _ (v : Declared) where
  natural : (X : Type 0) (u : X → Effect) (k : Effect → Type 0) (x : Effect-F X) → fresh_effect_step v (λ p. k (u p)) x ≡ fresh_effect_step v k (map-Effect X Effect u x)
  natural X u k (Effect-F.Add a) = refl
  natural X u k (Effect-F.Delete a) = refl
  natural X u k (Effect-F.And es) = each_is-map u k es
  natural X u k (Effect-F.Forall xs e) = refl
  natural X u k (Effect-F.When f e) = refl

  pub fresh_roll : (x : Effect-F Effect) → AreFreshEffects v (roll-Effect x) ≡ fresh_effect_step v (AreFreshEffects v) x
  fresh_roll x = rec-roll-Effect (Type 0) (λ X u k layer. fresh_effect_step v k layer) natural x

  bound_whole : (xs : List Param) (R : Placed) (ps : Parts) (q : Part) → AreDifferent (map (variable v) xs) → EachTyped (IsParam v) xs ps → IsWhole R → parts_of R ≡ part (group ps) (part q nothing) → Good effect_inside_form q → (bound_effect_form R).Whole
  bound_whole xs R ps q d i w e g =
      part_whole (params_form Parameters []) bound_effect_form one_effect_form (λ at S T a b. (a, b)) R (group ps) (part q nothing) w e
      (λ S w e. params_good v xs d S w (subst (EachTyped (IsParam v) xs) (sym e) i)) (λ T w e. one_whole T q w e g)

  abbrev pub Claim : Effect → Type 0
  Claim f = (scope : List Word) (q : Part) → HaveLetters scope → IsEffect v f scope q → AreFreshEffects v f → Good effect_inside_form q

  each_whole : (fs : List ((f : Effect) × Claim f)) (scope : List Word) (R : Placed) → HaveLetters scope → IsWhole R → Each (λ f. IsEffect v f scope) (map (λ e. e.0) fs) (parts_of R) → EachIs (AreFreshEffects v) (map (λ e. e.0) fs) → (effects_form R).Whole
  each_whole fs scope cut s w e f = w
  each_whole fs scope (close at) s w e f = tt
  each_whole [] scope (word at u R) s w e f = absurd e
  each_whole (g ∷ fs) scope (word at u R) s w e f = absurd (g.1 scope (name u) s e.0 f.0)
  each_whole [] scope (list at S R) s w e f = absurd e
  each_whole (g ∷ fs) scope (list at S R) s w e f = (g.1 scope (group (parts_of S)) s e.0 f.0 S w.0 refl, each_whole fs scope R s w.1 e.1 f.1)

  empty : (S : Placed) → IsWhole S → parts_of S ≡ nothing → (effect_inside_form S).Whole
  empty cut w d = w
  empty (close at) w d = tt
  empty (word at u R) w d = no_nothing d
  empty (list at S R) w d = no_nothing d

  level : (y : Effect-F ((f : Effect) × Claim f)) (scope : List Word) (q : Part) → HaveLetters scope
      → effect_step v (IsEffect v) (map-Effect ((f : Effect) × Claim f) Effect (λ e. e.0) y) scope q → fresh_effect_step v (AreFreshEffects v) (map-Effect ((f : Effect) × Claim f) Effect (λ e. e.0) y) → Good effect_inside_form q
  level (Effect-F.Add a) scope q s e n =
      headed_whole effect_inside_form e.0 q e.1 e.2 (λ at R w d. keyed head.Plain e.0 at R (name_effect_head e.0 e.3) (terms_whole v scope s R a.args w (subst (Each _ a.args) (sym d) e.5)))
  level (Effect-F.Delete a) scope q s e n =
      headed_whole effect_inside_form (codes "not") q _ e.1 (λ at R w d. keyed head.Not (codes "not") at R effect_keys.3 (deleted_whole R e.0 w d (applied_whole v scope s a.predicate a.args e.0 e.2)))
  level (Effect-F.And fs) scope q s (inl e) n =
      headed_whole effect_inside_form (codes "and") q e.0 e.1 (λ at R w d. keyed head.And (codes "and") at R effect_keys.0 (each_whole fs scope R s w (subst (Each _ _) (sym d) e.2) n))
  level (Effect-F.And fs) scope q s (inr e) n = elim e.1 [
    | inl g ↦ subst (Good effect_inside_form) (sym g) empty
    | inr g ↦ headed_whole effect_inside_form (codes "increase") q g.0 g.1 (λ at R w d. keyed head.Increase (codes "increase") at R effect_keys.4 (passed_whole R w))
  ]
  level (Effect-F.Forall xs f) scope q s e n =
      let more = each-append _ scope (map (variable v) xs) s (bound_letters v xs e.0 e.3) in
      headed_whole effect_inside_form (codes "forall") q _ e.2 (λ at R w d. keyed head.Forall (codes "forall") at R effect_keys.1 (bound_whole xs R e.0 e.1 n.0 e.3 w d (f.1 (scope ++ map (variable v) xs) e.1 more e.4 n.1)))
  level (Effect-F.When f g) scope q s e n =
      headed_whole effect_inside_form (codes "when") q _ e.2 (λ at R w d. keyed head.When (codes "when") at R effect_keys.2 (guarded_whole R e.0 e.1 w d (formula_good v f scope e.0 s e.3 n.0) (g.1 scope e.1 s e.4 n.1)))

  pub effect_good : (f : Effect) → Claim f
  effect_good = ind-Effect Claim (λ x y is. subst (λ z. Claim (roll-Effect z)) is (claim (map-Effect ((f : Effect) × Claim f) Effect (λ e. e.0) y) (level y)))
    where
      claim : (x : Effect-F Effect) → ((scope : List Word) (q : Part) → HaveLetters scope → effect_step v (IsEffect v) x scope q → fresh_effect_step v (AreFreshEffects v) x → Good effect_inside_form q) → Claim (roll-Effect x)
      claim x h scope q s e n = h scope q s (subst (λ (z : List Word → Part → Type 0). z scope q) (effect_roll v x) e) (subst (λ (z : Type 0). z) (fresh_roll x) n)
