-- Terms, typed lists and atoms that are bound have no fault.
use Rattle.std.proofs.Common.{ℕ, zero, suc, ◌≡◌, ◌<◌, Bool, inl, inr, List, [], ◌∷◌, length, map, get_or, Some, refl, sym, subst, ◌∙◌}
use Rattle.std.specs.Prelude.{slice_index}
use Rattle.text_forms.specs.Words.{Word, first_place, word_at}
use Rattle.gd_reader.specs.Terms.{Names}
use Rattle.gd_reader.specs.declared.term.RawAtom.{RawAtom}
use Rattle.gd_reader.specs.declared.term.RawTerm.{RawTerm}
use Rattle.gd_reader.specs.declared.typed_lists.RawParam.{RawParam}
use Rattle.hddl_reader.specs.declared.sections.RawDomain.{RawDomain}
use Rattle.plan_model.specs.declared.terms.Param.{Param}
use Rattle.plan_model.specs.declared.terms.Term.{Term}
use Rattle.plan_model.specs.declared.terms.Term.TheVariants.{Var, Obj}
use Rattle.plan_model.specs.declared.types.Object.{Object}
use Rattle.plan_texts.specs.Declared.{Declared, one_word, kinds, kind_at, variable}
use Rattle.plan_texts.specs.Together.{Together}
use Rattle.plan_texts.specs.Types.{EachIs}
use Rattle.plan_texts.specs.Types as value
use Rattle.plan_texts.proofs.Members.{each-has, has-at}
use Rattle.plan_texts.proofs.Places.{each-join}
use Rattle.plan_texts.proofs.Together.{together-maps, together-length}
use Rattle.text_values.specs.form_spellings.Bound.{types_of, IsBoundTerm, IsBoundAtom, IsBoundParam, IsBoundObject}
use Rattle.htn_base.specs.Lists.{One, Has}
use Rattle.hddl_reader.specs.names.Types.{IsType}
use Rattle.hddl_reader.specs.names.Uses.{Scope, Use, declares, refers, predicate, IsDeclared, IsOfAtom, IsOneOf, variables}
use Rattle.hddl_reader.specs.names.Words.{term_word, param_word}
use Rattle.text_values.proofs.form_spellings.faultless.Lists.{beside, first_has, last_has}
use Rattle.text_values.proofs.form_spellings.faultless.Uses.{IsApplicable, IsReferred, IsGood}

-- The words in use are those of a domain: its types, these objects, and its predicates, with so many parameters.
pub record HasWordsOf (names : Names) (d : RawDomain) (objects : List Word) (v : Declared) (arities : List ℕ) : Type 0 where
  pub types : (w : Word) → value.Has v.types w → IsType names d w
  pub unions : EachIs (EachIs (value.Has v.types)) v.unions
  pub objects_are : v.objects ≡ objects
  pub predicates : (a : RawAtom) (n : ℕ) → first_place (term_word names a.head) v.predicates ≡ Some n → length a.args ≡ slice_index arities n → IsApplicable names d predicate a

pub each_more : {X : Type 0} (P Q : X → Type 0) (xs : List X) → ((x : X) → P x → Q x) → EachIs P xs → EachIs Q xs
each_more P Q [] f e = tt
each_more P Q (x ∷ xs) f e = (f x e.0, each_more P Q xs f e.1)

each_member : {X : Type 0} (P : X → Type 0) (xs : List X) → ((x : X) → value.Has xs x → P x) → EachIs P xs
each_member P [] f = tt
each_member P (x ∷ xs) f = (f x (inl refl), each_member P xs (λ y h. f y (inr h)))

each_alone : (P : Word → Type 0) (ws : List Word) → EachIs P ws → EachIs (EachIs P) (map one_word ws)
each_alone P [] e = tt
each_alone P (w ∷ ws) e = ((e.0, tt), each_alone P ws e.1)

each_got : {X : Type 0} (P : X → Type 0) (xs : List X) (k : ℕ) (d : X) → EachIs P xs → P d → P (get_or xs k d)
each_got P [] k d e p = p
each_got P (x ∷ xs) zero d e p = e.0
each_got P (x ∷ xs) (suc k) d e p = each_got P xs k d e.1 p

each_unmapped : {X Y : Type 0} (f : X → Y) (P : Y → Type 0) (xs : List X) → EachIs P (map f xs) → EachIs (λ x. P (f x)) xs
each_unmapped f P [] e = tt
each_unmapped f P (x ∷ xs) e = (e.0, each_unmapped f P xs e.1)

module _ (names : Names) (d : RawDomain) (objects : List Word) (v : Declared) (arities : List ℕ) (k : HasWordsOf names d objects v arities) where
  abbrev Good : Scope → Use → Type 0
  Good = IsGood names d objects

  pub term_good : (scope : Scope) (t : RawTerm) (x : Term) → IsBoundTerm v names scope t x → IsReferred names d objects scope t
  term_good scope t (Var n) b = record { variable = λ e. last_has (term_word names t) scope n b.1; object = λ e. absurd (let f = b.0 in cc) }
  term_good scope t (Obj n) b = record { variable = λ e. absurd (let f = b.0 in cc); object = λ e. subst (λ ws. Has ws (term_word names t)) k.objects_are (first_has (term_word names t) v.objects n b.1) }

  pub terms_good : (scope : Scope) (ts : List RawTerm) (xs : List Term) (u : Use) → Together (IsBoundTerm v names scope) ts xs → One (λ t. u ≡ refers t) ts → Good scope u
  terms_good scope ts xs u b o =
      let g = beside (IsBoundTerm v names scope) (λ t. u ≡ refers t) ts xs b o in
      subst (Good scope) (sym g.5) (term_good scope g.0 g.1 g.4)

  pub two_good : (scope : Scope) (s t : RawTerm) (x y : Term) (u : Use) → IsBoundTerm v names scope s x → IsBoundTerm v names scope t y → IsOneOf s t u → Good scope u
  two_good scope s t x y u b c (inl e) = subst (Good scope) (sym e) (term_good scope s x b)
  two_good scope s t x y u b c (inr e) = subst (Good scope) (sym e) (term_good scope t y c)

  -- types
  abbrev Typed : List Word → Type 0
  Typed ws = EachIs (IsType names d) ws

  kind_typed : (n : ℕ) → Typed (kind_at v n)
  kind_typed n =
      each_got Typed (kinds v) n []
      (each-join Typed (map one_word v.types) v.unions (each_alone (IsType names d) v.types (each_member (IsType names d) v.types k.types)) (each_more (EachIs (value.Has v.types)) Typed v.unions (λ ws e. each_more (value.Has v.types) (IsType names d) ws k.types e) k.unions))
      tt

  pub types_typed : (ts : List RawTerm) (ws : List Word) → Typed ws → ws ≡ types_of v names ts → EachIs (λ (t : RawTerm). IsType names d (term_word names t)) ts
  types_typed [] ws w e = tt
  types_typed (t ∷ ts) ws w e = each_unmapped (term_word names) (IsType names d) (t ∷ ts) (subst Typed e w)

  pub params_good : (rs : List RawParam) (xs : List Param) (here : Scope) (u : Use) → Together (IsBoundParam v names) rs xs → IsDeclared rs u → Good here u
  params_good rs xs here u b o =
      let g = beside (IsBoundParam v names) (λ x. u ≡ declares x) rs xs b o in
      let x = g.1 in
      subst (Good here) (sym g.5) (types_typed g.0.ty (kind_at v x.ty) (kind_typed x.ty) g.4.1)

  -- objects, each of a type of the value
  pub objects_good : (constant : Bool) (rs : List RawParam) (xs : List Object) (here : Scope) (u : Use) → Together (IsBoundObject v names constant) rs xs → EachIs (λ (x : Object). x.ty < length v.types) xs → IsDeclared rs u → Good here u
  objects_good constant rs xs here u t inside o =
      let g = beside (IsBoundObject v names constant) (λ x. u ≡ declares x) rs xs t o in
      let r = g.0 in
      let x = g.1 in
      let l = each-has (λ (x : Object). x.ty < length v.types) xs x inside g.3 in
      subst (Good here) (sym g.5) (types_typed r.ty (word_at v.types x.ty ∷ []) (k.types (word_at v.types x.ty) (has-at v.types x.ty l), tt) g.4.1)

  pub same_variables : (rs : List RawParam) (xs : List Param) → Together (IsBoundParam v names) rs xs → map (variable v) xs ≡ variables names rs
  same_variables rs xs b = sym (together-maps (param_word names) (variable v) (IsBoundParam v names) (λ r x c. sym c.0) rs xs b)

  -- atoms
  pub atom_good : (scope : Scope) (a : RawAtom) (n : ℕ) (ts : List Term) (u : Use) → IsBoundAtom v names scope a n ts → length ts ≡ slice_index arities n → IsOfAtom predicate a u → Good scope u
  atom_good scope a n ts u b c (inl e) = subst (Good scope) (sym e) (k.predicates a n b.0 (together-length (IsBoundTerm v names scope) a.args ts b.1 ∙ c))
  atom_good scope a n ts u b c (inr o) = terms_good scope a.args ts u b.1 o
