-- Terms, atoms, typed lists, formulas and effects to which what was read is bound are those that its parts spell.
use Rattle.std.proofs.Common.{◌≡◌, ◌∙◌, ◌↔◌, ℕ, Bool, true, false, Ok, Err, Result, List, [], Option, Some, refl, sym, ap, subst, ◌∷◌}
use Rattle.text_forms.specs.Lists.{Part, Parts, name, group, nothing, part}
use Rattle.text_forms.specs.Placed.{Placed, cut, close, word, list, parts_of}
use Rattle.text_forms.specs.Printing.{headed}
use Rattle.text_forms.specs.Words.{Word, is_name}
use Rattle.hddl_reader.specs.Said.{said}
use Rattle.text_forms.specs.form_grammar.Codes.{Form, Whole}
use Rattle.plan_texts.specs.Declared.{Declared, named}
use Rattle.plan_texts.specs.Formulas.{IsTerm, IsParam, IsFormula, IsEffect}
use Rattle.plan_texts.specs.Schemas.{IsObject}
use Rattle.plan_texts.specs.Together.{Together}
use Rattle.plan_texts.specs.TypedLists.{Each, EachTyped}
use Rattle.plan_texts.specs.Types.{IsTypeItem}
use Rattle.plan_model.specs.declared.effects.Effect.{Effect}
use Rattle.plan_model.specs.declared.formulas.Formula.{Formula}
use Rattle.plan_model.specs.declared.terms.Term.{Term}
use Rattle.gd_reader.specs.declared.effects.RawEffect.{RawEffect}
use Rattle.gd_reader.specs.declared.effects.RawEffect.TheVariants as raw_effect
use Rattle.gd_reader.specs.declared.formulas.RawFormula.{RawFormula}
use Rattle.gd_reader.specs.declared.formulas.RawFormula.TheVariants as raw_formula
use Rattle.gd_reader.specs.declared.stop.Stop.{Stop}
use Rattle.gd_reader.specs.declared.term.RawAtom.{RawAtom}
use Rattle.gd_reader.specs.declared.term.RawTerm.{RawTerm}
use Rattle.gd_reader.specs.declared.typed_lists.ListKind.{ListKind}
use Rattle.gd_reader.specs.declared.typed_lists.ListKind.TheVariants.{Parameters, Predicate, Objects, Types}
use Rattle.gd_reader.specs.declared.typed_lists.RawParam.{RawParam}
use Rattle.gd_reader.specs.declared.words.Sort.{Sort}
use Rattle.gd_reader.specs.declared.words.Sort.TheVariants.{Variable, Name, Other}
use Rattle.gd_reader.specs.Answers.{◌>>=◌, word_due}
use Rattle.gd_reader.specs.Effects.{effect_inside}
use Rattle.gd_reader.specs.Formulas.{inside}
use Rattle.gd_reader.specs.Terms.{Names, used, terms, applied}
use Rattle.gd_reader.specs.TypedLists.{listed}
use Rattle.gd_reader.specs.Words.{sort_of}
use Rattle.gd_reader.proofs.Keeping.{keeps_same, keeps_word}
use Rattle.hddl_reader.specs.Networks.{declared_by, declared}
use Rattle.text_values.specs.form_spellings.Bound.{IsBoundTerm, IsBoundParam, IsBoundObject, IsBoundType, IsBoundFormula, IsBoundEffect}
use Rattle.text_values.proofs.form_spellings.EffectsBound.{EffectBound, effect_inside_bound}
use Rattle.text_values.proofs.form_spellings.EffectsSaid.{EffectSaid, effect_inside_said}
use Rattle.text_values.proofs.form_spellings.FormulasBound.{FormulaBound, inside_bound}
use Rattle.text_values.proofs.form_spellings.FormulasSaid.{FormulaSaid, inside_said}
use Rattle.text_values.proofs.form_spellings.KeptWords.{Reads, reads_then, reads_map, reads_weaken}
use Rattle.text_values.proofs.form_spellings.ListsBound.{Fits, ListBound, listed_bound, parameter_fits, variable_fits, object_fits, type_fits}
use Rattle.text_values.proofs.form_spellings.ListsSaid.{Binds, ListSaid, listed_said, parameter_binds, variable_binds, object_binds, type_binds}
use Rattle.text_values.proofs.form_spellings.ListsWhole.{name_is}
use Rattle.text_values.proofs.form_spellings.PartsWhole.{front_is, back_is, within_is}
use Rattle.text_values.proofs.form_spellings.TermsBound.{NameBound, TermsBound, used_bound, terms_bound, word_stands}
use Rattle.text_values.proofs.form_spellings.TermsIn.{same}
use Rattle.text_values.proofs.form_spellings.TermsSaid.{TermsSaid, terms_said}
use Rattle.text_values.proofs.form_spellings.WordTests.{name_of_sort}

-- two facts of what is read
pub reads_both : {X : Type 0} (P Q : X → Names → Type 0) (names : Names) (r : Result (X × Names) Stop) → Reads names r P → Reads names r Q → Reads names r (λ x table. P x table × Q x table)
reads_both P Q names (Ok x) a b = (a.0, λ table k. (a.1 table k, b.1 table k))
reads_both P Q names (Err e) a b = tt

-- and one that holds because it is read
pub reads_also : {X : Type 0} (P : X → Names → Type 0) (A : Type 0) (names : Names) (r : Result (X × Names) Stop) → Reads names r P → ((x : X × Names) → r ≡ Ok x → A) → Reads names r (λ x table. P x table × A)
reads_also {X} P A names r h more = go r refl h
  where
    go : (s : Result (X × Names) Stop) → r ≡ s → Reads names s P → Reads names s (λ x table. P x table × A)
    go (Ok x) e a = (a.0, λ table k. (a.1 table k, more x e))
    go (Err e) f a = tt

-- the grammar takes what is read
pub ok_whole : {A : Type 0} (r : Result A Stop) (x : A) (f : Form) → r ≡ Ok x → said r ≡ f → Whole f
ok_whole r x f e s = subst Whole (sym (ap said e) ∙ s) tt

-- terms to which what is read is bound are those that the parts spell
abbrev pub TermsExact : Parts → List RawTerm → Names → Type 0
TermsExact ps ts table = (v : Declared) (scope : List Word) (xs : List Term) → Together (IsBoundTerm v table scope) ts xs ↔ Each (IsTerm v scope) xs ps

pub terms_exact : (p : Placed) (names : Names) → Reads names (terms names p) (TermsExact (parts_of p))
terms_exact p names =
    reads_weaken (λ ts table. TermsBound p ts table × TermsSaid p ts table) (TermsExact (parts_of p)) names (terms names p) (reads_both (TermsBound p) (TermsSaid p) names (terms names p) (terms_bound p names) (terms_said p names))
    (λ ts table h v scope xs. (h.0 v scope xs, h.1 v scope xs))

-- a name that is or may be declared is read as its word
pub declared_bound : (code : ℕ) (names : Names) (at : ℕ) (w : Word) → Reads names (declared code names at w) (NameBound w)
unfolding declared
declared_bound code names at w = go (sort_of w) refl
  where
    go : (s : Sort) → sort_of w ≡ s → Reads names (declared_by s code names at w) (NameBound w)
    go Variable e = tt
    go Name e = (keeps_word names w, λ table k. (word_stands names w table k, name_of_sort w e))
    go Other e = tt

-- a name with terms, where the name is looked up
module _ {E N : Type 0} (look : E → Word → Option N) where
  abbrev pub CalledExact : Part → RawAtom → Names → Type 0
  CalledExact q a table =
      (v : Declared) (e : E) (scope : List Word) (n : N) (ts : List Term)
      → ((look e (named table a.head.name) ≡ Some n) × Together (IsBoundTerm v table scope) a.args ts)
      ↔ ((w : Word) × (qs : Parts) × (q ≡ headed w qs) × (is_name w ≡ true) × (look e w ≡ Some n) × Each (IsTerm v scope) ts qs)

  pub called_exact : (w : Word) (ps : Parts) (t : RawTerm) (ts : List RawTerm) (table : Names) → NameBound w t table → TermsExact ps ts table → CalledExact (group (part (name w) ps)) (record { head = t; args = ts }) table
  called_exact w ps t ts table one is v e scope n xs = (
    λ b. (w, ps, refl, one.1, ap (look e) (sym one.0) ∙ b.0, (is v scope xs).0 b.1),
    λ c. let f = within_is c.2 in (ap (look e) (one.0 ∙ name_is (front_is f)) ∙ c.4, (is v scope xs).1 (subst (Each (IsTerm v scope) xs) (sym (back_is f)) c.5)),
  )

  pub applied_called : (p : Placed) (names : Names) → Reads names (applied names p) (CalledExact (group (parts_of p)))
  unfolding applied word_due
  applied_called cut names = tt
  applied_called (close at) names = tt
  applied_called (list at p q) names = tt
  applied_called (word at w p) names =
      reads_then same (NameBound w) (CalledExact (group (part (name w) (parts_of p)))) names (used names at w) (λ x. terms x.1 p >>= (λ xs. Ok (record { head = x.0; args = xs.0 }, xs.1))) (used_bound names at w)
      (λ x. reads_map (TermsExact (parts_of p)) (λ a table. NameBound w x.0 table → CalledExact (group (part (name w) (parts_of p))) a table) x.1 (terms x.1 p) (λ ts. record { head = x.0; args = ts }) (terms_exact p x.1)
      (λ ts table is one. called_exact w (parts_of p) x.0 ts table one is))

-- typed lists
module _ {X : Type 0} (Is : Declared → X → Part → Option Part → Type 0) (IsBound : Declared → Names → RawParam → X → Type 0) where
  abbrev TypedExact : Parts → List RawParam → Names → Type 0
  TypedExact ps rs table = (v : Declared) (xs : List X) → Together (IsBound v table) rs xs ↔ EachTyped (Is v) xs ps

  typed_exact : (kind : ListKind) → Fits Is IsBound kind → Binds Is IsBound kind → (p : Placed) (names : Names) → Reads names (listed kind names p) (TypedExact (parts_of p))
  typed_exact kind fits binds p names =
      reads_weaken (λ rs table. ListBound Is IsBound kind fits p rs table × ListSaid Is IsBound kind binds p rs table) (TypedExact (parts_of p)) names (listed kind names p)
      (reads_both (ListBound Is IsBound kind fits p) (ListSaid Is IsBound kind binds p) names (listed kind names p) (listed_bound Is IsBound kind fits p names) (listed_said Is IsBound kind binds p names))
      (λ rs table h v xs. (h.0 v xs, h.1 v xs))

  pub no_typed : (table : Names) → TypedExact nothing [] table
  no_typed table v [] = (λ b. tt, λ b. tt)
  no_typed table v (x ∷ xs) = (λ b. absurd b, λ b. absurd b)

abbrev pub ParamsExact : Parts → List RawParam → Names → Type 0
ParamsExact = TypedExact IsParam IsBoundParam

pub parameters_exact : (p : Placed) (names : Names) → Reads names (listed Parameters names p) (ParamsExact (parts_of p))
parameters_exact = typed_exact IsParam IsBoundParam Parameters parameter_fits parameter_binds

pub variables_exact : (p : Placed) (names : Names) → Reads names (listed Predicate names p) (ParamsExact (parts_of p))
variables_exact = typed_exact IsParam IsBoundParam Predicate variable_fits variable_binds

-- constants or not
abbrev ObjectsExact : Bool → Parts → List RawParam → Names → Type 0
ObjectsExact constant = TypedExact (λ v. IsObject v constant) (λ v table. IsBoundObject v table constant)

abbrev pub AllObjectsExact : Parts → List RawParam → Names → Type 0
AllObjectsExact ps rs table = ObjectsExact true ps rs table × ObjectsExact false ps rs table

pub objects_exact : (p : Placed) (names : Names) → Reads names (listed Objects names p) (AllObjectsExact (parts_of p))
objects_exact p names = reads_both (ObjectsExact true (parts_of p)) (ObjectsExact false (parts_of p)) names (listed Objects names p) (one true) (one false)
  where
    one : (c : Bool) → Reads names (listed Objects names p) (ObjectsExact c (parts_of p))
    one c = typed_exact (λ v. IsObject v c) (λ v table. IsBoundObject v table c) Objects (object_fits c) (object_binds c) p names

pub no_objects : (table : Names) → AllObjectsExact nothing [] table
no_objects table = (no_typed (λ v. IsObject v true) (λ v table. IsBoundObject v table true) table, no_typed (λ v. IsObject v false) (λ v table. IsBoundObject v table false) table)

abbrev pub TypesExact : Parts → List RawParam → Names → Type 0
TypesExact = TypedExact (λ v. IsTypeItem) IsBoundType

pub types_exact : (p : Placed) (names : Names) → Reads names (listed Types names p) (TypesExact (parts_of p))
types_exact = typed_exact (λ v. IsTypeItem) IsBoundType Types type_fits type_binds

pub no_types : (table : Names) → TypesExact nothing [] table
no_types = no_typed (λ v. IsTypeItem) IsBoundType

abbrev pub FormulaExact : Part → RawFormula → Names → Type 0
FormulaExact q r table = (v : Declared) (scope : List Word) (f : Formula) → IsBoundFormula v table r scope f ↔ IsFormula v f scope q

pub formula_exact : (p : Placed) (names : Names) → Reads names (inside names p) (FormulaExact (group (parts_of p)))
formula_exact p names =
    reads_weaken (λ r table. FormulaBound (parts_of p) r table × FormulaSaid (parts_of p) r table) (FormulaExact (group (parts_of p))) names (inside names p)
    (reads_both (FormulaBound (parts_of p)) (FormulaSaid (parts_of p)) names (inside names p) (inside_bound p names) (inside_said p names)) (λ r table h v scope f. (h.0 v scope f, h.1 v scope f))

abbrev pub EffectExact : Part → RawEffect → Names → Type 0
EffectExact q r table = (v : Declared) (scope : List Word) (e : Effect) → IsBoundEffect v table r scope e ↔ IsEffect v e scope q

pub effect_exact : (p : Placed) (names : Names) → Reads names (effect_inside names p) (EffectExact (group (parts_of p)))
effect_exact p names =
    reads_weaken (λ r table. EffectBound (parts_of p) r table × EffectSaid (parts_of p) r table) (EffectExact (group (parts_of p))) names (effect_inside names p)
    (reads_both (EffectBound (parts_of p)) (EffectSaid (parts_of p)) names (effect_inside names p) (effect_inside_bound p names) (effect_inside_said p names)) (λ r table h v scope f. (h.0 v scope f, h.1 v scope f))

-- an empty list
pub no_formula : (table : Names) → FormulaExact (group nothing) (raw_formula.And []) table
unfolding inside
no_formula table = (formula_exact (close 0) table).1 table (keeps_same table)

pub no_effect : (table : Names) → EffectExact (group nothing) (raw_effect.And []) table
unfolding effect_inside
no_effect table = (effect_exact (close 0) table).1 table (keeps_same table)
