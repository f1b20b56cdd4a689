-- Each union that is found in a domain or a problem has two or more different types, which there are.
use Rattle.std.proofs.Common.{ℕ, ◌≡◌, ◌<◌, Bool, true, false, cond, List, [], ◌∷◌, ◌++◌, map, length, Option, Some, None, refl, sym, subst, arith}
use Rattle.std.specs.Prelude.{flat_map, unwrap_or}
use Rattle.std.specs.List.{fold, list_any}
use Rattle.std.specs.Str.{bytes_eq}
use Rattle.std.proofs.lemmas.List.Sorted.{Contains-permutation, IsPermutation-sym}
use Rattle.htn_base.specs.Different.{AreDifferent}
use Rattle.htn_base.specs.Table.{with_word}
use Rattle.gd_reader.specs.declared.effects.RawEffect.{RawEffect, roll-RawEffect}
use Rattle.gd_reader.specs.declared.effects.RawEffect.TheFolds.{fold-roll-RawEffect, map-RawEffect, ind-RawEffect}
use Rattle.gd_reader.specs.declared.effects.RawEffect.TheOpen.{RawEffect-F}
use Rattle.gd_reader.specs.declared.formulas.RawFormula.{RawFormula, roll-RawFormula}
use Rattle.gd_reader.specs.declared.formulas.RawFormula.TheFolds.{fold-roll-RawFormula, map-RawFormula, ind-RawFormula}
use Rattle.gd_reader.specs.declared.formulas.RawFormula.TheOpen.{RawFormula-F}
use Rattle.gd_reader.specs.declared.term.RawTerm.{RawTerm}
use Rattle.gd_reader.specs.declared.typed_lists.RawParam.{RawParam}
use Rattle.hddl_reader.specs.declared.sections.RawAction.{RawAction}
use Rattle.hddl_reader.specs.declared.sections.RawDomain.{RawDomain}
use Rattle.hddl_reader.specs.declared.sections.RawHead.{RawHead}
use Rattle.hddl_reader.specs.declared.sections.RawMethod.{RawMethod}
use Rattle.hddl_reader.specs.declared.sections.RawProblem.{RawProblem}
use Rattle.plan_texts.specs.Types.{EachIs}
use Rattle.name_binding.specs.Places.{first_place}
use Rattle.name_binding.proofs.Found.{first_within}
use Rattle.name_binding.specs.Kinds.{Kinds, type_number, members_written}
use Rattle.name_binding.specs.Unions.{union_at, joined, unions_said, unions_behind, params_unions, formula_step, formula_unions, effect_step, effect_unions, members_of, AreWith}
use Rattle.name_binding.specs.declared.unions.Either.{Either}
use Rattle.hddl_bind.specs.WholeUnions.{head_unions, action_unions, method_unions, heads_unions, actions_unions, methods_unions, domain_unions, problem_unions}
use Rattle.text_values.proofs.form_spellings.binding_laws.Mentioned.{seen_there, seen_differ}
use Rattle.text_values.proofs.form_spellings.binding_laws.Numbered.{contains_has, has_contains, has_of_map}
use Rattle.text_values.proofs.form_spellings.binding_laws.Ones.{one_has, each_has, has_each, each_both, each_mapped}

-- two or more different types of so many
abbrev pub IsGood : ℕ → List ℕ → Type 0
IsGood n ms = (1 < length ms) × EachIs (λ t. t < n) ms × AreDifferent ms

-- a place among so many, or the first
pub or_first : (n : ℕ) (xs : List ℕ) → 0 < length xs → unwrap_or (first_place n xs) 0 < length xs
or_first n xs some = go (first_place n xs) refl
  where
    go : (o : Option ℕ) → first_place n xs ≡ o → unwrap_or o 0 < length xs
    go None e = some
    go (Some k) e = first_within n xs k e

pub each_flat : {X Y : Type 0} (f : X → List Y) (P : Y → Type 0) (xs : List X) → ((x : X) → EachIs P (f x)) → EachIs P (flat_map f xs)
each_flat f P [] each = tt
each_flat f P (x ∷ xs) each = each_both P (f x) (flat_map f xs) (each x) (each_flat f P xs each)

module _ (kinds : Kinds) (some : 0 < length kinds.types) where
  abbrev Good : Either → Type 0
  Good e = IsGood (length kinds.types) e.members

  said_good : (at : ℕ) (ms : List ℕ) → EachIs (λ t. t < length kinds.types) ms → AreDifferent ms → EachIs Good (union_at at ms)
  said_good at [] e d = tt
  said_good at (m ∷ []) e d = tt
  said_good at (m ∷ k ∷ ms) e d = ((omega arith, e, d), tt)

  members_within : (ts : List RawTerm) → EachIs (λ t. t < length kinds.types) (members_written kinds ts)
  members_within ts = has_each (λ t. t < length kinds.types) (members_written kinds ts) (λ k h.
      let t = one_has (λ t. type_number kinds t ≡ k) ts (has_of_map (type_number kinds) ts k (seen_there [] (map (type_number kinds) ts) k h)) in
      subst (λ k. k < length kinds.types) t.2 (or_first t.0.name.number kinds.types some))

  behind_good : (x : RawParam) → EachIs Good (unions_behind kinds x)
  behind_good x = go x.ty
    where
      go : (ts : List RawTerm) → EachIs Good (unions_said kinds ts)
      go [] = tt
      go (t ∷ ts) = said_good t.at (members_written kinds (t ∷ ts)) (members_within (t ∷ ts)) (seen_differ [] (map (type_number kinds) (t ∷ ts)))

  params_good : (xs : List RawParam) → EachIs Good (params_unions kinds xs)
  params_good xs = each_flat (unions_behind kinds) Good xs behind_good

  both : (us vs : List Either) → EachIs Good us → EachIs Good vs → EachIs Good (us ++ vs)
  both us vs e f = each_both Good us vs e f

  -- of a formula
  abbrev OfFormula : RawFormula → Type 0
  OfFormula f = EachIs Good (formula_unions kinds f)

  abbrev opened : RawFormula-F ((f : RawFormula) × OfFormula f) → RawFormula-F RawFormula
  opened y = map-RawFormula ((f : RawFormula) × OfFormula f) RawFormula (λ e. e.0) y

  formulas : (fs : List ((f : RawFormula) × OfFormula f)) → EachIs Good (joined (map (formula_unions kinds) (map (λ e. e.0) fs)))
  formulas [] = tt
  formulas (f ∷ fs) = both (formula_unions kinds f.0) (joined (map (formula_unions kinds) (map (λ e. e.0) fs))) f.1 (formulas fs)

  level : (y : RawFormula-F ((f : RawFormula) × OfFormula f)) → EachIs Good (formula_step kinds (map-RawFormula RawFormula (List Either) (formula_unions kinds) (opened y)))
  level (RawFormula-F.Holds a) = tt
  level (RawFormula-F.Equal s t) = tt
  level (RawFormula-F.Not f) = f.1
  level (RawFormula-F.And fs) = formulas fs
  level (RawFormula-F.Or fs) = formulas fs
  level (RawFormula-F.Imply f g) = both (formula_unions kinds f.0) (formula_unions kinds g.0) f.1 g.1
  level (RawFormula-F.Forall xs f) = both (params_unions kinds xs) (formula_unions kinds f.0) (params_good xs) f.1
  level (RawFormula-F.Exists xs f) = both (params_unions kinds xs) (formula_unions kinds f.0) (params_good xs) f.1

  formula_good : (f : RawFormula) → OfFormula f
  formula_good = ind-RawFormula OfFormula (λ x y is. subst (λ z. OfFormula (roll-RawFormula z)) is (subst (EachIs Good) (sym (fold-roll-RawFormula (List Either) (formula_step kinds) (opened y))) (level y)))

  -- of an effect
  abbrev OfEffect : RawEffect → Type 0
  OfEffect e = EachIs Good (effect_unions kinds e)

  abbrev opened_effect : RawEffect-F ((e : RawEffect) × OfEffect e) → RawEffect-F RawEffect
  opened_effect y = map-RawEffect ((e : RawEffect) × OfEffect e) RawEffect (λ e. e.0) y

  effects : (es : List ((e : RawEffect) × OfEffect e)) → EachIs Good (joined (map (effect_unions kinds) (map (λ e. e.0) es)))
  effects [] = tt
  effects (e ∷ es) = both (effect_unions kinds e.0) (joined (map (effect_unions kinds) (map (λ e. e.0) es))) e.1 (effects es)

  effect_level : (y : RawEffect-F ((e : RawEffect) × OfEffect e)) → EachIs Good (effect_step kinds (map-RawEffect RawEffect (List Either) (effect_unions kinds) (opened_effect y)))
  effect_level (RawEffect-F.Add a) = tt
  effect_level (RawEffect-F.Delete a) = tt
  effect_level (RawEffect-F.And es) = effects es
  effect_level (RawEffect-F.Forall xs e) = both (params_unions kinds xs) (effect_unions kinds e.0) (params_good xs) e.1
  effect_level (RawEffect-F.When f e) = both (formula_unions kinds f) (effect_unions kinds e.0) (formula_good f) e.1

  effect_good : (e : RawEffect) → OfEffect e
  effect_good = ind-RawEffect OfEffect (λ x y is. subst (λ z. OfEffect (roll-RawEffect z)) is (subst (EachIs Good) (sym (fold-roll-RawEffect (List Either) (effect_step kinds) (opened_effect y))) (effect_level y)))

  -- of a domain and of a problem
  heads_good : (hs : List RawHead) → EachIs Good (heads_unions kinds hs)
  heads_good hs = each_flat (head_unions kinds) Good hs (λ (h : RawHead). params_good h.params)

  actions_good : (actions : List RawAction) → EachIs Good (actions_unions kinds actions)
  actions_good actions = each_flat (action_unions kinds) Good actions (λ (a : RawAction).
      both (params_unions kinds a.head.params) (formula_unions kinds a.pre ++ effect_unions kinds a.eff) (params_good a.head.params)
      (both (formula_unions kinds a.pre) (effect_unions kinds a.eff) (formula_good a.pre) (effect_good a.eff)))

  methods_good : (methods : List RawMethod) → EachIs Good (methods_unions kinds methods)
  methods_good methods = each_flat (method_unions kinds) Good methods (λ (m : RawMethod). both (params_unions kinds m.head.params) (formula_unions kinds m.pre) (params_good m.head.params) (formula_good m.pre))

  pub domain_good : (d : RawDomain) → EachIs Good (domain_unions kinds d)
  domain_good d =
      both (heads_unions kinds d.predicates) (heads_unions kinds d.tasks ++ (actions_unions kinds d.actions ++ methods_unions kinds d.methods)) (heads_good d.predicates)
      (both (heads_unions kinds d.tasks) (actions_unions kinds d.actions ++ methods_unions kinds d.methods) (heads_good d.tasks)
      (both (actions_unions kinds d.actions) (methods_unions kinds d.methods) (actions_good d.actions) (methods_good d.methods)))

  pub problem_good : (p : RawProblem) → EachIs Good (problem_unions kinds p)
  problem_good p = both (params_unions kinds p.params) (formula_unions kinds p.goal) (params_good p.params) (formula_good p.goal)

-- what is put into a table of unions
put_in : (P : List ℕ → Type 0) (us vs : List (List ℕ)) → EachIs P us → EachIs P vs → EachIs P (fold with_word us vs)
put_in P us [] e f = e
put_in P us (v ∷ vs) e f = put_in P (with_word us v) vs (more (list_any (bytes_eq v) us)) f.1
  where
    more : (b : Bool) → EachIs P (cond b us (us ++ v ∷ []))
    more true = e
    more false = each_both P us (v ∷ []) e (f.0, tt)

pub table_good : (P : List ℕ → Type 0) (found : List Either) (old new : List (List ℕ)) → AreWith found old new → EachIs (λ (e : Either). P e.members) found → EachIs P old → EachIs P new
table_good P found old new are e f =
    subst (EachIs P) (sym are.unions) (put_in P old (map members_of are.sorted) f (each_mapped members_of P are.sorted (has_each (λ (e : Either). P e.members) are.sorted (λ u h.
    each_has (λ (e : Either). P e.members) found u e (contains_has found u (Contains-permutation are.sorted found u (IsPermutation-sym found are.sorted are.same) (has_contains are.sorted u h)))))))
