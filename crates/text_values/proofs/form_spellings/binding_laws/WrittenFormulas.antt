-- The words that a formula declares: their types are in the table, none is written twice, and their unions are those of the formula.
use Rattle.std.proofs.Common.{◌≡◌, true, inl, inr, List, [], ◌∷◌, ◌++◌, map, refl, sym, subst}
use Rattle.std.specs.Prelude.{◌⊎◌}
use Rattle.gd_reader.specs.declared.term.RawAtom.{RawAtom}
use Rattle.gd_reader.specs.declared.term.RawTerm.{RawTerm}
use Rattle.gd_reader.specs.declared.typed_lists.RawParam.{RawParam}
use Rattle.gd_reader.specs.declared.formulas.RawFormula.{RawFormula, roll-RawFormula}
use Rattle.gd_reader.specs.declared.formulas.RawFormula.TheFolds.{rec-roll-RawFormula, fold-roll-RawFormula, map-RawFormula, ind-RawFormula}
use Rattle.gd_reader.specs.declared.formulas.RawFormula.TheOpen.{RawFormula-F}
use Rattle.gd_reader.specs.Terms.{Names}
use Rattle.plan_texts.specs.Types.{EachIs}
use Rattle.plan_texts.proofs.Spelled.{each_is-map}
use Rattle.text_values.specs.form_spellings.EachName.{of_step, OfParams}
use Rattle.text_values.specs.form_spellings.InTable.{IsNameIn, IsFormulaIn}
use Rattle.htn_base.specs.Lists.{One, Has}
use Rattle.hddl_reader.specs.names.Uses.{Scope, Kind, predicate, declares, applies, refers, IsDeclared, variables, formula_step, InFormula}
use Rattle.hddl_reader.proofs.names.Rolls.{formula_unroll}
use Rattle.name_binding.specs.Kinds.{Kinds}
use Rattle.name_binding.specs.Unions.{joined, unions_behind, params_unions, formula_unions}
use Rattle.name_binding.specs.Unions as unions
use Rattle.name_binding.specs.declared.unions.Either.{Either}
use Rattle.text_values.specs.form_spellings.binding_laws.EachList.{listed_step, OfEachList}
use Rattle.text_values.specs.form_spellings.binding_laws.InOrder.{AreParameters, IsWrittenOnce}
use Rattle.text_values.specs.form_spellings.binding_laws.Kinds.{AreTermsIn}
use Rattle.text_values.proofs.form_spellings.binding_laws.Layers.{formula_in}
use Rattle.text_values.proofs.form_spellings.binding_laws.Lists.{append_left, append_right}

-- one level of what holds of each list
listed_natural : (P : List RawParam → Type 0) (X : Type 0) (u : X → RawFormula) (k : RawFormula → Type 0) (x : RawFormula-F X) → listed_step P (λ p. k (u p)) x ≡ listed_step P k (map-RawFormula X RawFormula u x)
listed_natural P X u k (RawFormula-F.Holds a) = refl
listed_natural P X u k (RawFormula-F.Equal s t) = refl
listed_natural P X u k (RawFormula-F.Not f) = refl
listed_natural P X u k (RawFormula-F.And fs) = each_is-map u k fs
listed_natural P X u k (RawFormula-F.Or fs) = each_is-map u k fs
listed_natural P X u k (RawFormula-F.Imply f g) = refl
listed_natural P X u k (RawFormula-F.Forall xs f) = refl
listed_natural P X u k (RawFormula-F.Exists xs f) = refl

pub formula_listed : (P : List RawParam → Type 0) (x : RawFormula-F RawFormula) → OfEachList P (roll-RawFormula x) → listed_step P (OfEachList P) x
formula_listed P x h = subst (λ (z : Type 0). z) (rec-roll-RawFormula (Type 0) (λ X u k layer. listed_step P k layer) (listed_natural P) x) h

module _ (names : Names) (kinds : Kinds) where
  -- what is said of a declared word, where these are the unions of what it stands in
  pub record IsWritten (found : List Either) (x : RawParam) : Type 0 where
    pub types_in : AreTermsIn names x.ty
    pub once : IsWrittenOnce names x
    pub unions : (e : Either) → Has (unions_behind kinds x) e → Has found e

  pub wider : (old new : List Either) → ((e : Either) → Has old e → Has new e) → (x : RawParam) → IsWritten old x → IsWritten new x
  wider old new f x w = record { types_in = w.types_in; once = w.once; unions = λ e h. f e (w.unions e h) }

  pub list_written : (xs : List RawParam) → OfParams (IsNameIn names) true xs → EachIs (IsWrittenOnce names) xs → (x : RawParam) → IsDeclared xs (declares x) → IsWritten (params_unions kinds xs) x
  list_written [] is once x d = absurd d
  list_written (y ∷ xs) is once x (inl e) =
      let same : x ≡ y = cc in
      subst (IsWritten (params_unions kinds (y ∷ xs))) (sym same) (record { types_in = is.0.1; once = once.0; unions = λ e h. append_left (unions_behind kinds y) (params_unions kinds xs) e h })
  list_written (y ∷ xs) is once x (inr d) = wider (params_unions kinds xs) (params_unions kinds (y ∷ xs)) (λ e h. append_right (unions_behind kinds y) (params_unions kinds xs) e h) x (list_written xs is.1 once.1 x d)

  abbrev Claim : RawFormula → Type 0
  Claim f = (outer here : Scope) (x : RawParam) → IsFormulaIn names f → OfEachList (AreParameters names) f → InFormula names f outer here (declares x) → IsWritten (formula_unions kinds f) x

  abbrev Proved : Type 0
  Proved = (f : RawFormula) × Claim f

  abbrev formulas : List Proved → List RawFormula
  formulas fs = map (λ e. e.0) fs

  abbrev opened : RawFormula-F Proved → RawFormula-F RawFormula
  opened y = map-RawFormula Proved RawFormula (λ e. e.0) y

  many : (fs : List Proved) (outer here : Scope) (x : RawParam) → EachIs (IsFormulaIn names) (formulas fs) → EachIs (OfEachList (AreParameters names)) (formulas fs) → One (λ f. InFormula names f outer here (declares x)) (formulas fs) → IsWritten (joined (map (formula_unions kinds) (formulas fs))) x
  many [] outer here x i l o = absurd o
  many (f ∷ fs) outer here x i l (inl o) = wider (formula_unions kinds f.0) (joined (map (formula_unions kinds) (formulas (f ∷ fs)))) (λ e h. append_left (formula_unions kinds f.0) (joined (map (formula_unions kinds) (formulas fs))) e h) x (f.1 outer here x i.0 l.0 o)
  many (f ∷ fs) outer here x i l (inr o) = wider (joined (map (formula_unions kinds) (formulas fs))) (joined (map (formula_unions kinds) (formulas (f ∷ fs)))) (λ e h. append_right (formula_unions kinds f.0) (joined (map (formula_unions kinds) (formulas fs))) e h) x (many fs outer here x i.1 l.1 o)

  abbrev Level : RawFormula-F RawFormula → Type 0
  Level y = (outer here : Scope) (x : RawParam) → of_step (IsNameIn names) (IsFormulaIn names) y → listed_step (AreParameters names) (OfEachList (AreParameters names)) y → formula_step names (InFormula names) y outer here (declares x)
      → IsWritten (unions.formula_step kinds (map-RawFormula RawFormula (List Either) (formula_unions kinds) y)) x

  pub no_atom : {T : Type 0} (a : RawAtom) (kind : Kind) (ts : List RawTerm) (x : RawParam) → (declares x ≡ applies kind a) ⊎ One (λ t. declares x ≡ refers t) ts → T
  no_atom a kind ts x (inl e) = absurd (cc)
  no_atom a kind ts x (inr o) = no_term ts o
    where
      no_term : {T : Type 0} (ts : List RawTerm) → One (λ t. declares x ≡ refers t) ts → T
      no_term [] o = absurd o
      no_term (t ∷ ts) (inl e) = absurd (cc)
      no_term (t ∷ ts) (inr o) = no_term ts o

  pub both : (us vs : List Either) (x : RawParam) → IsWritten us x ⊎ IsWritten vs x → IsWritten (us ++ vs) x
  both us vs x (inl w) = wider us (us ++ vs) (λ e h. append_left us vs e h) x w
  both us vs x (inr w) = wider vs (us ++ vs) (λ e h. append_right us vs e h) x w

  quantified : (f : Proved) (xs : List RawParam) (outer inner here : Scope) (x : RawParam) → OfParams (IsNameIn names) true xs → IsFormulaIn names f.0 → AreParameters names xs → OfEachList (AreParameters names) f.0
      → IsDeclared xs (declares x) ⊎ InFormula names f.0 inner here (declares x) → IsWritten (params_unions kinds xs ++ formula_unions kinds f.0) x
  quantified f xs outer inner here x i j p l (inl d) = both (params_unions kinds xs) (formula_unions kinds f.0) x (inl (list_written xs i p.variables.types_once x d))
  quantified f xs outer inner here x i j p l (inr s) = both (params_unions kinds xs) (formula_unions kinds f.0) x (inr (f.1 inner here x j l s))

  level : (y : RawFormula-F Proved) → Level (opened y)
  level (RawFormula-F.Holds a) outer here x i l s = no_atom a predicate a.args x s.1
  level (RawFormula-F.Equal s t) outer here x i l (e, inl f) = absurd (cc)
  level (RawFormula-F.Equal s t) outer here x i l (e, inr f) = absurd (cc)
  level (RawFormula-F.Not f) outer here x i l s = f.1 outer here x i l s
  level (RawFormula-F.And fs) outer here x i l s = many fs outer here x i l s
  level (RawFormula-F.Or fs) outer here x i l s = many fs outer here x i l s
  level (RawFormula-F.Imply f g) outer here x i l (inl s) = both (formula_unions kinds f.0) (formula_unions kinds g.0) x (inl (f.1 outer here x i.0 l.0 s))
  level (RawFormula-F.Imply f g) outer here x i l (inr s) = both (formula_unions kinds f.0) (formula_unions kinds g.0) x (inr (g.1 outer here x i.1 l.1 s))
  level (RawFormula-F.Forall xs f) outer here x i l s = quantified f xs outer (outer ++ variables names xs) here x i.0 i.1 l.0 l.1 s
  level (RawFormula-F.Exists xs f) outer here x i l s = quantified f xs outer (outer ++ variables names xs) here x i.0 i.1 l.0 l.1 s

  claim : (y : RawFormula-F RawFormula) → Level y → Claim (roll-RawFormula y)
  claim y is outer here x i l s =
      subst (λ us. IsWritten us x) (sym (fold-roll-RawFormula (List Either) (unions.formula_step kinds) y))
      (is outer here x (formula_in names y i) (formula_listed (AreParameters names) y l) (formula_unroll names y (roll-RawFormula y) refl outer here (declares x) s))

  pub formula_written : (f : RawFormula) → Claim f
  formula_written = ind-RawFormula Claim (λ x y is. subst (λ z. Claim (roll-RawFormula z)) is (claim (opened y) (level y)))
