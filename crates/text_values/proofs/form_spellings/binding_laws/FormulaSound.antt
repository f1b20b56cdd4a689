-- A formula without faults is bound to one whose numbers name what is declared.
use Rattle.std.proofs.Common.{ℕ, zero, suc, ◌≡◌, ◌<◌, Bool, true, false, cond, eqb, inl, inr, List, [], ◌∷◌, ◌++◌, map, length, get_or, Option, Some, None, refl, sym, ap, subst, ◌∙◌, arith}
use Rattle.std.specs.Prelude.{flat_map, option_map, slice_index, ◌==◌, ◌≤◌, codes}
use Rattle.std.specs.Str.{bytes_eq}
use Rattle.std.proofs.lemmas.Bool.{eqb-true}
use Rattle.std.proofs.lemmas.List.{length-map}
use Rattle.htn_base.specs.Different.{AreDifferent}
use Rattle.text_forms.specs.Words.{Word, word_at, last_place, later}
use Rattle.gd_reader.specs.declared.term.RawAtom.{RawAtom}
use Rattle.gd_reader.specs.declared.term.RawTerm.{RawTerm}
use Rattle.gd_reader.specs.declared.typed_lists.RawParam.{RawParam}
use Rattle.gd_reader.specs.declared.formulas.RawFormula.{RawFormula, roll-RawFormula}
use Rattle.gd_reader.specs.declared.formulas.RawFormula.TheFolds.{map-RawFormula, ind-RawFormula}
use Rattle.gd_reader.specs.declared.formulas.RawFormula.TheOpen.{RawFormula-F}
use Rattle.gd_reader.specs.Terms.{Names}
use Rattle.hddl_reader.specs.declared.sections.RawDomain.{RawDomain}
use Rattle.plan_model.specs.declared.terms.Param.{Param}
use Rattle.plan_model.specs.declared.terms.Term.{Term}
use Rattle.plan_model.specs.declared.terms.Term.TheVariants.{Var, Obj}
use Rattle.plan_model.specs.declared.formulas.Formula.{Formula, roll-Formula}
use Rattle.plan_model.specs.declared.formulas.Formula.TheOpen.{Formula-F}
use Rattle.plan_model.specs.declared.formulas.Formula.TheVariants as formula
use Rattle.plan_texts.specs.Declared.{Declared, kinds, kind_at, named, variable}
use Rattle.plan_texts.specs.Printable.{IsPlainVariable, IsInForce, IsSoundAtom, IsSoundParam, AreSoundParams, sound_step, IsSound}
use Rattle.plan_texts.specs.Together.{Together}
use Rattle.plan_texts.specs.Types.{EachIs}
use Rattle.plan_texts.proofs.Basics.{bytes_eq-true}
use Rattle.plan_texts.proofs.Spelled.{sound_roll}
use Rattle.text_values.specs.form_spellings.Bound.{types_of, IsBoundTerm, IsBoundParam}
use Rattle.text_values.specs.form_spellings.EachName.{OfAtom, of_step}
use Rattle.text_values.specs.form_spellings.InTable.{IsNameIn, AreParamsIn, IsFormulaIn}
use Rattle.htn_base.specs.Lists.{One}
use Rattle.hddl_reader.specs.names.Uses.{declares, IsDeclared, variables, InFormula}
use Rattle.hddl_reader.specs.names.Uses as uses
use Rattle.hddl_reader.specs.names.Words.{param_word}
use Rattle.hddl_reader.proofs.names.Rolls.{formula_roll}
use Rattle.name_binding.specs.declared.faults.Spot.{Spot}
use Rattle.name_binding.specs.declared.heads.Declared.{Declared as Found}
use Rattle.name_binding.specs.declared.heads.Head.{Head}
use Rattle.name_binding.specs.Entered.{variables_of}
use Rattle.name_binding.specs.Heads.{declared, next}
use Rattle.name_binding.specs.Spots.{spot}
use Rattle.name_binding.specs.Terms.{term_bound, term_faults, terms_faults}
use Rattle.name_binding.specs.Typed.{params_bound, params_faults}
use Rattle.name_binding.specs.declared.known.Known.{Known}
use Rattle.name_binding.specs.Atoms.{place_of, head_faults, atom_bound, atom_faults}
use Rattle.name_binding.specs.Formulas.{formula_step, formula_bound, formula_faults_step, formula_faults}
use Rattle.name_binding.proofs.Parts.{formula_level, faults_level}
use Rattle.text_values.specs.form_spellings.binding_laws.EachList.{listed_step, OfEachList}
use Rattle.text_values.specs.form_spellings.binding_laws.Formulas.{AreNumberedIn}
use Rattle.text_values.specs.form_spellings.binding_laws.InOrder.{AreParameters}
use Rattle.text_values.specs.form_spellings.binding_laws.Kinds.{IsNumbered}
use Rattle.text_values.specs.form_spellings.binding_laws.Known.{IsKnownOf, HasKnown}
use Rattle.text_values.specs.form_spellings.binding_laws.Numbers.{words_of, AreKnown}
use Rattle.text_values.proofs.form_spellings.binding_laws.Atoms.{term_is, atom_is}
use Rattle.text_values.proofs.form_spellings.binding_laws.FormulaValues.{params_are, variables_are, inner_is, inner_numbered}
use Rattle.text_values.proofs.form_spellings.binding_laws.Layers.{formula_in, inner_in}
use Rattle.text_values.proofs.form_spellings.binding_laws.Numbered.{first_is}
use Rattle.text_values.proofs.form_spellings.binding_laws.Written.{none_left, none_right}
use Rattle.text_values.proofs.form_spellings.binding_laws.WrittenFormulas.{formula_listed}

-- the word that has a last place stands there
last_at : (w : Word) (ws : List Word) (k : ℕ) → last_place w ws ≡ Some k → word_at ws k ≡ w
last_at w [] k e = absurd (cc)
last_at w (u ∷ ws) k e = go (last_place w ws) refl (bytes_eq w u) refl e (last_at w ws)
  where
    go : (o : Option ℕ) → last_place w ws ≡ o → (b : Bool) → bytes_eq w u ≡ b → later o b ≡ Some k → ((j : ℕ) → last_place w ws ≡ Some j → word_at ws j ≡ w) → word_at (u ∷ ws) k ≡ w
    go (Some j) f b g e more = let same : suc j ≡ k = cc in subst (λ k. word_at (u ∷ ws) k ≡ w) same (more j f)
    go None f true g e more = let same : 0 ≡ k = cc in subst (λ k. word_at (u ∷ ws) k ≡ w) same (sym (bytes_eq-true w u g))
    go None f false g e more = absurd (cc)

-- the number of parameters at the place of a declaration
abbrev pub arities_of : List Head → List ℕ
arities_of hs = map (λ (h : Head). h.arity) hs

pub arity_at : (n : ℕ) (hs : List Head) (r : Found) → declared n hs ≡ Some r → slice_index (arities_of hs) r.place ≡ r.arity
arity_at n [] r e = absurd (cc)
arity_at n (h ∷ hs) r e = go (n == h.name.number) e (arity_at n hs)
  where
    behind : (o : Option Found) → declared n hs ≡ o → option_map next o ≡ Some r → ((s : Found) → declared n hs ≡ Some s → slice_index (arities_of hs) s.place ≡ s.arity) → slice_index (arities_of (h ∷ hs)) r.place ≡ r.arity
    behind None d f more = absurd (cc)
    behind (Some s) d f more = let same : next s ≡ r = cc in subst (λ (r : Found). slice_index (arities_of (h ∷ hs)) r.place ≡ r.arity) same (more s d)

    go : (b : Bool) → cond b (Some (record { place = 0; arity = h.arity })) (option_map next (declared n hs)) ≡ Some r → ((s : Found) → declared n hs ≡ Some s → slice_index (arities_of hs) s.place ≡ s.arity) → slice_index (arities_of (h ∷ hs)) r.place ≡ r.arity
    go true e more = let same : ◌≡◌ {A = Found} (record { place = 0; arity = h.arity }) r = cc in subst (λ (r : Found). slice_index (arities_of (h ∷ hs)) r.place ≡ r.arity) same refl
    go false e more = behind (declared n hs) refl e more

-- a use without a fault has as many terms as there are parameters
pub arity_is : (at count n : ℕ) (hs : List Head) → head_faults at count (declared n hs) ≡ [] → count ≡ slice_index (arities_of hs) (place_of (declared n hs))
arity_is at count n hs e = go (declared n hs) refl e
  where
    by : (r : Found) → declared n hs ≡ Some r → (b : Bool) → eqb r.arity count ≡ b → cond b [] (spot at 17 ∷ []) ≡ [] → count ≡ slice_index (arities_of hs) r.place
    by r f true g e = sym (eqb-true r.arity count g) ∙ sym (arity_at n hs r f)
    by r f false g e = absurd (cc)

    go : (o : Option Found) → declared n hs ≡ o → head_faults at count o ≡ [] → count ≡ slice_index (arities_of hs) (place_of o)
    go None f e = absurd (cc)
    go (Some r) f e = by r f (eqb r.arity count) refl e

-- what is no empty list stands within its list
pub in_range : (xs : List (List Word)) (k : ℕ) (w : Word) (ws : List Word) → get_or xs k [] ≡ w ∷ ws → k < length xs
in_range [] k w ws e = absurd (cc)
in_range (x ∷ xs) zero w ws e = omega arith
in_range (x ∷ xs) (suc k) w ws e = let l = in_range xs k w ws e in omega arith

module _ (names : Names) (d : RawDomain) (objects : List Word) (known : Known) (of : IsKnownOf names d objects known) (v : Declared) (has : HasKnown v names known) (arities : List ℕ) (are : arities ≡ arities_of known.predicates) (others : List Word) (enough : length v.objects ≤ length others) where
  -- the same words with these objects, among which those in use are in front
  abbrev pub w : Declared
  w = record { names = v.names; types = v.types; unions = v.unions; objects = others; predicates = v.predicates }

  pub term_in_force : (scope : List Word) (t : RawTerm) (x : Term) → IsBoundTerm v names scope t x → IsInForce w arities scope x
  term_in_force scope t (Var k) b = ap (λ u. last_place u scope) (last_at (named names t.name) scope k b.1) ∙ b.1
  term_in_force scope t (Obj o) b = let l = (first_is (named names t.name) v.objects o b.1).0 in omega (arith, enough)

  pub terms_in_force : (scope : List Word) (ts : List RawTerm) (xs : List Term) → Together (IsBoundTerm v names scope) ts xs → EachIs (IsInForce w arities scope) xs
  terms_in_force scope [] [] b = tt
  terms_in_force scope [] (x ∷ xs) b = absurd b
  terms_in_force scope (t ∷ ts) [] b = absurd b
  terms_in_force scope (t ∷ ts) (x ∷ xs) b = (term_in_force scope t x b.0, terms_in_force scope ts xs b.1)

  pub atom_sound : (scope : List ℕ) (a : RawAtom) → AreKnown names scope → OfAtom (IsNameIn names) a → atom_faults known scope a ≡ [] → IsSoundAtom w arities (words_of names scope) (atom_bound known scope a).predicate (atom_bound known scope a).args
  atom_sound scope a k is e =
      let b = atom_is names d objects known of v has scope a k is e in
      let f = none_left (head_faults a.head.at (length a.args) (declared a.head.name.number known.predicates)) (terms_faults known.objects scope a.args) e in (
        (first_is (named names a.head.name) v.predicates (atom_bound known scope a).predicate b.0).0,
        length-map a.args (term_bound known.objects scope) ∙ arity_is a.head.at (length a.args) a.head.name.number known.predicates f ∙ ap (λ ns. slice_index ns (atom_bound known scope a).predicate) (sym are),
        terms_in_force (words_of names scope) a.args (atom_bound known scope a).args b.1,
      )

  param_in_range : (r : RawParam) (x : Param) → kind_at v x.ty ≡ types_of v names r.ty → x.ty < length (kinds v)
  param_in_range r x e = go r.ty e
    where
      go : (ts : List RawTerm) → kind_at v x.ty ≡ types_of v names ts → x.ty < length (kinds v)
      go [] e = in_range (kinds v) x.ty (codes "object") [] e
      go (t ∷ ts) e = in_range (kinds v) x.ty (named names t.name) (map (λ (t : RawTerm). named names t.name) ts) e

  each_sound : (xs : List RawParam) (ps : List Param) → Together (IsBoundParam v names) xs ps → EachIs (λ (x : RawParam). IsPlainVariable (param_word names x)) xs → EachIs (IsSoundParam w arities) ps
  each_sound [] [] b p = tt
  each_sound [] (y ∷ ps) b p = absurd b
  each_sound (x ∷ xs) [] b p = absurd b
  each_sound (x ∷ xs) (y ∷ ps) b p = ((subst IsPlainVariable (sym b.0.0) p.0, param_in_range x y b.0.1), each_sound xs ps b.1 p.1)

  pub params_plain : (xs : List RawParam) → AreParamsIn names xs → EachIs (λ (x : RawParam). IsPlainVariable (param_word names x)) xs → ((x : RawParam) → IsDeclared xs (declares x) → IsNumbered names known.types x.ty) → params_faults known.types xs ≡ [] → EachIs (IsSoundParam w arities) (params_bound known.types xs)
  params_plain xs is p n e = each_sound xs (params_bound known.types xs) (params_are names d objects known of v has xs is n e) p

  pub params_sound : (xs : List RawParam) → AreParamsIn names xs → AreParameters names xs → ((x : RawParam) → IsDeclared xs (declares x) → IsNumbered names known.types x.ty) → params_faults known.types xs ≡ [] → AreSoundParams w arities (params_bound known.types xs)
  params_sound xs is p n e = (params_plain xs is p.variables.plain n e, subst AreDifferent (sym (variables_are names d objects known of v has xs)) p.differ)

  sound_by : (f : Formula) (l : Formula-F Formula) → roll-Formula l ≡ f → (scope : List Word) → sound_step w arities (IsSound w arities) l scope → IsSound w arities f scope
  sound_by f l e scope s = subst (λ f. IsSound w arities f scope) e (subst (λ (z : List Word → Type 0). z scope) (sym (sound_roll w arities l)) s)

  abbrev stands : RawFormula → List ℕ → Formula
  stands f scope = formula_bound known scope f

  abbrev faults : RawFormula → List ℕ → List Spot
  faults f scope = formula_faults known scope f

  abbrev Claim : RawFormula → Type 0
  Claim f = (scope : List ℕ) → AreKnown names scope → IsFormulaIn names f → OfEachList (AreParameters names) f → AreNumberedIn names known.types (InFormula names f (words_of names scope)) → formula_faults known scope f ≡ []
      → IsSound w arities (formula_bound known scope f) (words_of names scope)

  abbrev Proved : Type 0
  Proved = (f : RawFormula) × Claim f

  abbrev formulas : List Proved → List RawFormula
  formulas fs = map (λ e. e.0) fs

  many : (fs : List Proved) (scope : List ℕ) → AreKnown names scope → EachIs (IsFormulaIn names) (formulas fs) → EachIs (OfEachList (AreParameters names)) (formulas fs) → AreNumberedIn names known.types (λ here u. One (λ f. InFormula names f (words_of names scope) here u) (formulas fs))
      → flat_map (λ f. f scope) (map faults (formulas fs)) ≡ [] → EachIs (λ g. IsSound w arities g (words_of names scope)) (map (λ f. f scope) (map stands (formulas fs)))
  many [] scope k is l n e = tt
  many (f ∷ fs) scope k is l n e = (
    f.1 scope k is.0 l.0 (λ here x s. n here x (inl s)) (none_left (faults f.0 scope) (flat_map (λ f. f scope) (map faults (formulas fs))) e),
    many fs scope k is.1 l.1 (λ here x s. n here x (inr s)) (none_right (faults f.0 scope) (flat_map (λ f. f scope) (map faults (formulas fs))) e),
  )

  abbrev opened : RawFormula-F Proved → RawFormula-F RawFormula
  opened y = map-RawFormula Proved RawFormula (λ e. e.0) y

  abbrev Level : RawFormula-F RawFormula → List ℕ → Type 0
  Level x scope = AreNumberedIn names known.types (uses.formula_step names (InFormula names) x (words_of names scope)) → formula_faults_step known (map-RawFormula RawFormula (List ℕ → List Spot) faults x) scope ≡ []
      → IsSound w arities (formula_step known (map-RawFormula RawFormula (List ℕ → Formula) stands x) scope) (words_of names scope)

  -- a part in which the variables of a list are in force
  inner : (f : Proved) (xs : List RawParam) (scope : List ℕ) → AreKnown names scope → AreParamsIn names xs → IsFormulaIn names f.0 → OfEachList (AreParameters names) f.0 → AreNumberedIn names known.types (InFormula names f.0 (words_of names scope ++ variables names xs))
      → faults f.0 (scope ++ variables_of xs) ≡ [] → IsSound w arities (stands f.0 (scope ++ variables_of xs)) (words_of names scope ++ map (variable v) (params_bound known.types xs))
  inner f xs scope k is i l n e =
      subst (λ ws. IsSound w arities (stands f.0 (scope ++ variables_of xs)) ws) (inner_is names d objects known of v has scope xs)
      (f.1 (scope ++ variables_of xs) (inner_in names scope xs k is) i l (inner_numbered names d objects known of v has scope xs (InFormula names f.0) n) e)

  level : (y : RawFormula-F Proved) (scope : List ℕ) → AreKnown names scope → of_step (IsNameIn names) (IsFormulaIn names) (opened y) → listed_step (AreParameters names) (OfEachList (AreParameters names)) (opened y) → Level (opened y) scope
  level (RawFormula-F.Holds a) scope k is l n e = sound_by (formula.Holds (atom_bound known scope a)) (Formula-F.Holds (atom_bound known scope a)) (formula.rolls-Holds (atom_bound known scope a)) (words_of names scope) (atom_sound scope a k is e)
  level (RawFormula-F.Equal s t) scope k is l n e =
      let x = term_bound known.objects scope s in
      let y = term_bound known.objects scope t in
      sound_by (formula.Equal x y) (Formula-F.Equal x y) (formula.rolls-Equal x y) (words_of names scope) (
        term_in_force (words_of names scope) s x (term_is names d objects known of v has scope s k is.0 (none_left (term_faults known.objects scope s) (term_faults known.objects scope t) e)),
        term_in_force (words_of names scope) t y (term_is names d objects known of v has scope t k is.1 (none_right (term_faults known.objects scope s) (term_faults known.objects scope t) e)),
      )
  level (RawFormula-F.Not f) scope k is l n e = sound_by (formula.Not (stands f.0 scope)) (Formula-F.Not (stands f.0 scope)) (formula.rolls-Not (stands f.0 scope)) (words_of names scope) (f.1 scope k is l n e)
  level (RawFormula-F.And fs) scope k is l n e =
      let gs = map (λ f. f scope) (map stands (formulas fs)) in
      sound_by (formula.And gs) (Formula-F.And gs) (formula.rolls-And gs) (words_of names scope) (many fs scope k is l n e)
  level (RawFormula-F.Or fs) scope k is l n e =
      let gs = map (λ f. f scope) (map stands (formulas fs)) in
      sound_by (formula.Or gs) (Formula-F.Or gs) (formula.rolls-Or gs) (words_of names scope) (many fs scope k is l n e)
  level (RawFormula-F.Imply f g) scope k is l n e =
      sound_by (formula.Imply (stands f.0 scope) (stands g.0 scope)) (Formula-F.Imply (stands f.0 scope) (stands g.0 scope)) (formula.rolls-Imply (stands f.0 scope) (stands g.0 scope)) (words_of names scope) (
        f.1 scope k is.0 l.0 (λ here x s. n here x (inl s)) (none_left (faults f.0 scope) (faults g.0 scope) e),
        g.1 scope k is.1 l.1 (λ here x s. n here x (inr s)) (none_right (faults f.0 scope) (faults g.0 scope) e),
      )
  level (RawFormula-F.Forall xs f) scope k is l n e =
      let ps = params_bound known.types xs in
      let g = stands f.0 (scope ++ variables_of xs) in
      sound_by (formula.Forall ps g) (Formula-F.Forall ps g) (formula.rolls-Forall ps g) (words_of names scope) (
        params_sound xs is.0 l.0 (λ x s. n [] x (inl s)) (none_left (params_faults known.types xs) (faults f.0 (scope ++ variables_of xs)) e),
        inner f xs scope k is.0 is.1 l.1 (λ here x s. n here x (inr s)) (none_right (params_faults known.types xs) (faults f.0 (scope ++ variables_of xs)) e),
      )
  level (RawFormula-F.Exists xs f) scope k is l n e =
      let ps = params_bound known.types xs in
      let g = stands f.0 (scope ++ variables_of xs) in
      sound_by (formula.Exists ps g) (Formula-F.Exists ps g) (formula.rolls-Exists ps g) (words_of names scope) (
        params_sound xs is.0 l.0 (λ x s. n [] x (inl s)) (none_left (params_faults known.types xs) (faults f.0 (scope ++ variables_of xs)) e),
        inner f xs scope k is.0 is.1 l.1 (λ here x s. n here x (inr s)) (none_right (params_faults known.types xs) (faults f.0 (scope ++ variables_of xs)) e),
      )

  claim : (x : RawFormula-F RawFormula) → ((scope : List ℕ) → AreKnown names scope → of_step (IsNameIn names) (IsFormulaIn names) x → listed_step (AreParameters names) (OfEachList (AreParameters names)) x → Level x scope) → Claim (roll-RawFormula x)
  claim x is scope k i l n e =
      subst (λ g. IsSound w arities g (words_of names scope)) (sym (formula_level known x (roll-RawFormula x) refl scope))
      (is scope k (formula_in names x i) (formula_listed (AreParameters names) x l) (λ here y s. n here y (formula_roll names x (roll-RawFormula x) refl (words_of names scope) here (declares y) s)) (sym (faults_level known x (roll-RawFormula x) refl scope) ∙ e))

  pub formula_sound : (f : RawFormula) → Claim f
  formula_sound = ind-RawFormula Claim (λ x y is. subst (λ z. Claim (roll-RawFormula z)) is (claim (opened y) (level y)))
