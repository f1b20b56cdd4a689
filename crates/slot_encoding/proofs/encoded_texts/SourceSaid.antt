-- What is encoded of a source formula, and of an effect, over two tables that have its words says the same.
use Rattle.std.proofs.Common.{ℕ, ◌≡◌, List, [], ◌∷◌, ◌++◌, map, get_or, refl, ap, ap₂, sym, subst, ◌∙◌}
use Rattle.text_forms.specs.Words.{Word}
use Rattle.plan_texts.specs.Declared.{Declared, kinds, named}
use Rattle.plan_texts.specs.Types.{Has, EachIs}
use Rattle.plan_texts.specs.Said.{typed, Said, no, all, any, imply, every, some, more, saids, said_step, said, Done, both, for_every, when, and_more, dones, done_step, done}
use Rattle.plan_texts.specs.Together.{Together}
use Rattle.plan_texts.proofs.Readings.{said_roll}
use Rattle.plan_texts.proofs.Effects.{done_roll}
use Rattle.plan_model.specs.declared.terms.Param.{Param}
use Rattle.plan_model.specs.declared.formulas.Formula.{Formula, roll-Formula}
use Rattle.plan_model.specs.declared.formulas.Formula.TheFolds.{fold-roll-Formula, map-Formula, ind-Formula}
use Rattle.plan_model.specs.declared.formulas.Formula.TheOpen.{Formula-F}
use Rattle.plan_model.specs.declared.effects.Effect.{Effect, roll-Effect}
use Rattle.plan_model.specs.declared.effects.Effect.TheFolds.{fold-roll-Effect, map-Effect, ind-Effect}
use Rattle.plan_model.specs.declared.effects.Effect.TheOpen.{Effect-F}
use Rattle.slot_encoding.specs.SourceParts.{name, source_word, source_param, formula_layer, source_formula, effect_layer, source_effect}
use Rattle.slot_encoding.specs.EncodedNames.{joined}
use Rattle.slot_encoding.specs.EncodedWords.{param_words, formula_words_step, formula_words, effect_words_step, effect_words}
use Rattle.slot_encoding.proofs.words.Lists.{each-left, each-right}
use Rattle.slot_encoding.proofs.words.TableWords.{named-name}
use Rattle.slot_encoding.proofs.encoded_texts.SaidAlike.{SameParam, params-same}

-- v and w have types in one order; each has its own table of names
module _ (v w : Declared) (same_kinds : kinds v ≡ kinds w) where
  abbrev pub Known : List Word → Type 0
  Known ws = EachIs (Has v.names) ws × EachIs (Has w.names) ws

  pub known-left : (ws us : List Word) → Known (ws ++ us) → Known ws
  known-left ws us k = (each-left (Has v.names) ws us k.0, each-left (Has w.names) ws us k.1)

  pub known-right : (ws us : List Word) → Known (ws ++ us) → Known us
  known-right ws us k = (each-right (Has v.names) ws us k.0, each-right (Has w.names) ws us k.1)

  pub word-same : (word : Word) → Has v.names word → Has w.names word → named v.names (name v.names word) ≡ named w.names (name w.names word)
  word-same word h k = named-name word v.names h ∙ sym (named-name word w.names k)

  pub param-same : (word : Word) (ty : ℕ) → Has v.names word → Has w.names word → typed v (record { name = name v.names word; ty = ty }) ≡ typed w (record { name = name w.names word; ty = ty })
  param-same word ty h k = let e = word-same word h k in λ i. (e i, get_or (same_kinds i) ty [])

  module _ (source : List Word) where
    pub source_params-same : (xs : List Param) → Known (param_words source xs) → Together (SameParam v w) (map (source_param v.names source) xs) (map (source_param w.names source) xs)
    source_params-same [] k = tt
    source_params-same (x ∷ xs) k = (param-same (source_word source x.name) _ k.0.0 k.1.0, source_params-same xs (k.0.1, k.1.1))

    params_said : (xs : List Param) → Known (param_words source xs) → map (typed v) (map (source_param v.names source) xs) ≡ map (typed w) (map (source_param w.names source) xs)
    params_said xs k = params-same v w _ _ (source_params-same xs k)

    module _ (front : ℕ) where
      abbrev left : Formula → Formula
      left = source_formula v.names source front

      abbrev right : Formula → Formula
      right = source_formula w.names source front

      abbrev Claim : Formula → Type 0
      Claim f = Known (formula_words source f) → said v (left f) ≡ said w (right f)

      each : (fs : List ((f : Formula) × Claim f)) → Known (joined (map (formula_words source) (map (λ e. e.0) fs)))
          → saids (map (said v) (map left (map (λ e. e.0) fs))) ≡ saids (map (said w) (map right (map (λ e. e.0) fs)))
      each [] k = refl
      each (f ∷ fs) k =
          let ws = formula_words source f.0 in let us = joined (map (formula_words source) (map (λ e. e.0) fs)) in
          ap₂ more (f.1 (known-left ws us k)) (each fs (known-right ws us k))

      abbrev Layer : Formula-F Formula → Type 0
      Layer x = Known (formula_words_step source (map-Formula Formula (List Word) (formula_words source) x))
          → said_step v (map-Formula Formula Said (said v) (formula_layer v.names source front (map-Formula Formula Formula left x)))
          ≡ said_step w (map-Formula Formula Said (said w) (formula_layer w.names source front (map-Formula Formula Formula right x)))

      level : (y : Formula-F ((f : Formula) × Claim f)) → Layer (map-Formula ((f : Formula) × Claim f) Formula (λ e. e.0) y)
      level (Formula-F.Holds a) k = refl
      level (Formula-F.Equal s t) k = refl
      level (Formula-F.Not f) k = ap no (f.1 k)
      level (Formula-F.And fs) k = ap all (each fs k)
      level (Formula-F.Or fs) k = ap any (each fs k)
      level (Formula-F.Imply f g) k =
          let ws = formula_words source f.0 in let us = formula_words source g.0 in
          ap₂ imply (f.1 (known-left ws us k)) (g.1 (known-right ws us k))
      level (Formula-F.Forall xs f) k =
          let ws = param_words source xs in let us = formula_words source f.0 in
          ap₂ every (params_said xs (known-left ws us k)) (f.1 (known-right ws us k))
      level (Formula-F.Exists xs f) k =
          let ws = param_words source xs in let us = formula_words source f.0 in
          ap₂ some (params_said xs (known-left ws us k)) (f.1 (known-right ws us k))

      pub formula-same : (f : Formula) → Claim f
      formula-same = ind-Formula Claim (λ x y is. subst (λ z. Claim (roll-Formula z)) is (claim (map-Formula ((f : Formula) × Claim f) Formula (λ e. e.0) y) (level y)))
        where
          claim : (x : Formula-F Formula) → Layer x → Claim (roll-Formula x)
          claim x h k =
              ap (said v) (fold-roll-Formula Formula (λ layer. roll-Formula (formula_layer v.names source front layer)) x)
              ∙ said_roll v (formula_layer v.names source front (map-Formula Formula Formula left x))
              ∙ h (subst Known (fold-roll-Formula (List Word) (formula_words_step source) x) k)
              ∙ sym (said_roll w (formula_layer w.names source front (map-Formula Formula Formula right x)))
              ∙ ap (said w) (sym (fold-roll-Formula Formula (λ layer. roll-Formula (formula_layer w.names source front layer)) x))

      abbrev left_effect : Effect → Effect
      left_effect = source_effect v.names source front

      abbrev right_effect : Effect → Effect
      right_effect = source_effect w.names source front

      abbrev DoneClaim : Effect → Type 0
      DoneClaim e = Known (effect_words source e) → done v (left_effect e) ≡ done w (right_effect e)

      each_done : (es : List ((e : Effect) × DoneClaim e)) → Known (joined (map (effect_words source) (map (λ e. e.0) es)))
          → dones (map (done v) (map left_effect (map (λ e. e.0) es))) ≡ dones (map (done w) (map right_effect (map (λ e. e.0) es)))
      each_done [] k = refl
      each_done (e ∷ es) k =
          let ws = effect_words source e.0 in let us = joined (map (effect_words source) (map (λ e. e.0) es)) in
          ap₂ and_more (e.1 (known-left ws us k)) (each_done es (known-right ws us k))

      abbrev DoneLayer : Effect-F Effect → Type 0
      DoneLayer x = Known (effect_words_step source (map-Effect Effect (List Word) (effect_words source) x))
          → done_step v (map-Effect Effect Done (done v) (effect_layer v.names source front (map-Effect Effect Effect left_effect x)))
          ≡ done_step w (map-Effect Effect Done (done w) (effect_layer w.names source front (map-Effect Effect Effect right_effect x)))

      done_level : (y : Effect-F ((e : Effect) × DoneClaim e)) → DoneLayer (map-Effect ((e : Effect) × DoneClaim e) Effect (λ e. e.0) y)
      done_level (Effect-F.Add a) k = refl
      done_level (Effect-F.Delete a) k = refl
      done_level (Effect-F.And es) k = ap both (each_done es k)
      done_level (Effect-F.Forall xs e) k =
          let ws = param_words source xs in let us = effect_words source e.0 in
          ap₂ for_every (params_said xs (known-left ws us k)) (e.1 (known-right ws us k))
      done_level (Effect-F.When f e) k =
          let ws = formula_words source f in let us = effect_words source e.0 in
          ap₂ when (formula-same f (known-left ws us k)) (e.1 (known-right ws us k))

      pub effect-same : (e : Effect) → DoneClaim e
      effect-same = ind-Effect DoneClaim (λ x y is. subst (λ z. DoneClaim (roll-Effect z)) is (claim (map-Effect ((e : Effect) × DoneClaim e) Effect (λ e. e.0) y) (done_level y)))
        where
          claim : (x : Effect-F Effect) → DoneLayer x → DoneClaim (roll-Effect x)
          claim x h k =
              ap (done v) (fold-roll-Effect Effect (λ layer. roll-Effect (effect_layer v.names source front layer)) x)
              ∙ done_roll v (effect_layer v.names source front (map-Effect Effect Effect left_effect x))
              ∙ h (subst Known (fold-roll-Effect (List Word) (effect_words_step source) x) k)
              ∙ sym (done_roll w (effect_layer w.names source front (map-Effect Effect Effect right_effect x)))
              ∙ ap (done w) (sym (fold-roll-Effect Effect (λ layer. roll-Effect (effect_layer w.names source front layer)) x))
