-- The value that something read stands for, once its names are bound: the words behind its numbers are looked up among declared ones.
-- Source: this project's; scopes as in PDDL 2.1, where an inner variable hides an outer one of the same word.
use Rattle.std.specs.Prelude.{ℕ, ◌≡◌, ◌++◌, Bool, true, false, List, [], ◌∷◌, map, codes, Option, Some, None}
use Rattle.text_forms.specs.Words.{Word, word_at, first_place, last_place}
use Rattle.plan_texts.specs.Declared.{Declared, named, kind_at, variable}
use Rattle.plan_texts.specs.Types.{TypeItem}
use Rattle.plan_texts.specs.Together.{Together}
use Rattle.plan_model.specs.declared.terms.Term.{Term}
use Rattle.plan_model.specs.declared.terms.Term.TheVariants.{Var, Obj}
use Rattle.plan_model.specs.declared.terms.Param.{Param}
use Rattle.plan_model.specs.declared.types.Object.{Object}
use Rattle.plan_model.specs.declared.formulas.Formula.{Formula}
use Rattle.plan_model.specs.declared.formulas.Formula.TheVariants as formula
use Rattle.plan_model.specs.declared.effects.Effect.{Effect}
use Rattle.plan_model.specs.declared.effects.Effect.TheVariants as effect
use Rattle.gd_reader.specs.declared.term.RawTerm.{RawTerm}
use Rattle.gd_reader.specs.declared.term.RawAtom.{RawAtom}
use Rattle.gd_reader.specs.declared.typed_lists.RawParam.{RawParam}
use Rattle.gd_reader.specs.declared.formulas.RawFormula.{RawFormula}
use Rattle.gd_reader.specs.declared.formulas.RawFormula.TheFolds.{rec-RawFormula}
use Rattle.gd_reader.specs.declared.formulas.RawFormula.TheOpen.{RawFormula-F}
use Rattle.gd_reader.specs.declared.effects.RawEffect.{RawEffect}
use Rattle.gd_reader.specs.declared.effects.RawEffect.TheFolds.{rec-RawEffect}
use Rattle.gd_reader.specs.declared.effects.RawEffect.TheOpen.{RawEffect-F}
use Rattle.gd_reader.specs.Terms.{Names}

module _ (v : Declared) (table : Names) where
  abbrev pub words_of : List RawTerm → List Word
  words_of ts = map (λ (t : RawTerm). named table t.name) ts

  -- a variable is the innermost in force with its word, another term the first object with its word
  abbrev pub IsBoundTerm : List Word → RawTerm → Term → Type 0
  IsBoundTerm scope r (Var k) = (r.variable ≡ true) × (last_place (named table r.name) scope ≡ Some k)
  IsBoundTerm scope r (Obj o) = (r.variable ≡ false) × (first_place (named table r.name) v.objects ≡ Some o)

  abbrev pub IsBoundAtom : List Word → RawAtom → ℕ → List Term → Type 0
  IsBoundAtom scope a n ts = (first_place (named table a.head.name) v.predicates ≡ Some n) × Together (IsBoundTerm scope) a.args ts

  -- the types that are written; without any it is object
  abbrev pub types_of : List RawTerm → List Word
  types_of [] = codes "object" ∷ []
  types_of (t ∷ ts) = words_of (t ∷ ts)

  abbrev pub parent_of : List RawTerm → Option Word
  parent_of [] = None
  parent_of (t ∷ ts) = Some (named table t.name)

  abbrev pub IsBoundParam : RawParam → Param → Type 0
  IsBoundParam r x = (variable v x ≡ named table r.name) × (kind_at v x.ty ≡ types_of r.ty)

  abbrev pub IsBoundObject : Bool → RawParam → Object → Type 0
  IsBoundObject constant r x = (named v.names x.name ≡ named table r.name) × (word_at v.types x.ty ∷ [] ≡ types_of r.ty) × (x.constant ≡ constant)

  abbrev pub IsBoundType : RawParam → TypeItem → Type 0
  IsBoundType r x = (x.0 ≡ named table r.name) × (x.1 ≡ parent_of r.ty)

  -- one level of a formula, where k says it of a part
  abbrev pub bound_step : {X : Type 0} → (X → List Word → Formula → Type 0) → RawFormula-F X → List Word → Formula → Type 0
  bound_step k (RawFormula-F.Holds a) scope f = (n : ℕ) × (ts : List Term) × (f ≡ formula.Holds (record { predicate = n; args = ts })) × IsBoundAtom scope a n ts
  bound_step k (RawFormula-F.Equal s t) scope f = (x : Term) × (y : Term) × (f ≡ formula.Equal x y) × IsBoundTerm scope s x × IsBoundTerm scope t y
  bound_step k (RawFormula-F.Not r) scope f = (g : Formula) × (f ≡ formula.Not g) × k r scope g
  bound_step k (RawFormula-F.And rs) scope f = (gs : List Formula) × (f ≡ formula.And gs) × Together (λ r g. k r scope g) rs gs
  bound_step k (RawFormula-F.Or rs) scope f = (gs : List Formula) × (f ≡ formula.Or gs) × Together (λ r g. k r scope g) rs gs
  bound_step k (RawFormula-F.Imply r s) scope f = (g : Formula) × (h : Formula) × (f ≡ formula.Imply g h) × k r scope g × k s scope h
  bound_step k (RawFormula-F.Forall rs r) scope f = (xs : List Param) × (g : Formula) × (f ≡ formula.Forall xs g) × Together IsBoundParam rs xs × k r (scope ++ map (variable v) xs) g
  bound_step k (RawFormula-F.Exists rs r) scope f = (xs : List Param) × (g : Formula) × (f ≡ formula.Exists xs g) × Together IsBoundParam rs xs × k r (scope ++ map (variable v) xs) g

  abbrev pub IsBoundFormula : RawFormula → List Word → Formula → Type 0
  IsBoundFormula = rec-RawFormula (List Word → Formula → Type 0) (λ X u k layer. bound_step k layer)

  -- one level of an effect
  abbrev pub bound_effect_step : {X : Type 0} → (X → List Word → Effect → Type 0) → RawEffect-F X → List Word → Effect → Type 0
  bound_effect_step k (RawEffect-F.Add a) scope e = (n : ℕ) × (ts : List Term) × (e ≡ effect.Add (record { predicate = n; args = ts })) × IsBoundAtom scope a n ts
  bound_effect_step k (RawEffect-F.Delete a) scope e = (n : ℕ) × (ts : List Term) × (e ≡ effect.Delete (record { predicate = n; args = ts })) × IsBoundAtom scope a n ts
  bound_effect_step k (RawEffect-F.And rs) scope e = (gs : List Effect) × (e ≡ effect.And gs) × Together (λ r g. k r scope g) rs gs
  bound_effect_step k (RawEffect-F.Forall rs r) scope e = (xs : List Param) × (g : Effect) × (e ≡ effect.Forall xs g) × Together IsBoundParam rs xs × k r (scope ++ map (variable v) xs) g
  bound_effect_step k (RawEffect-F.When r s) scope e = (f : Formula) × (g : Effect) × (e ≡ effect.When f g) × IsBoundFormula r scope f × k s scope g

  abbrev pub IsBoundEffect : RawEffect → List Word → Effect → Type 0
  IsBoundEffect = rec-RawEffect (List Word → Effect → Type 0) (λ X u k layer. bound_effect_step k layer)
