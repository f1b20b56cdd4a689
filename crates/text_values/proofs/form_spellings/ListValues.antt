-- A value for each word that a typed list declares.
use Rattle.std.proofs.Common.{◌≡◌, Bool, true, not, List, [], ◌∷◌, drop, Option, Some, None, refl, sym, ap, ◌∙◌}
use Rattle.std.proofs.lemmas.Bool.{and_parts}
use Rattle.htn_base.specs.Words.{is_reserved}
use Rattle.text_forms.specs.Lists.{Part, name, group}
use Rattle.text_forms.specs.Words.{Word, is_name, is_variable, word_at}
use Rattle.plan_texts.specs.Declared.{Declared, kinds, named, variable}
use Rattle.plan_texts.specs.Formulas.{IsParam}
use Rattle.plan_texts.specs.Schemas.{IsObject}
use Rattle.plan_texts.specs.TypedLists.{type_said, kind_said}
use Rattle.plan_texts.specs.Types.{Has, TypeItem, IsTypeItem, IsSomeName, parent_said}
use Rattle.plan_texts.proofs.Members.{at-has}
use Rattle.plan_model.specs.declared.terms.Param.{Param}
use Rattle.plan_model.specs.declared.types.Object.{Object}
use Rattle.gd_reader.specs.declared.typed_lists.ListKind.TheVariants.{Parameters, Predicate, Objects, Types}
use Rattle.gd_reader.specs.declared.words.Sort.{Sort}
use Rattle.gd_reader.specs.declared.words.Sort.TheVariants.{Variable, Name, Other}
use Rattle.gd_reader.specs.ListGrammar.{may_declare}
use Rattle.gd_reader.specs.Words.{sort_of}
use Rattle.text_values.proofs.form_spellings.Freshness.{declares}
use Rattle.text_values.proofs.form_spellings.Known.{KnowsWord, KnowsSaid, place_of}
use Rattle.text_values.proofs.form_spellings.ListsSpelled.{Makes}
use Rattle.text_values.proofs.form_spellings.ListsWhole.{OkSaid}
use Rattle.text_values.proofs.form_spellings.WordTests.{IsMarked, false_true, name_of_sort, variable_of_sort}

abbrev pub MarkedVariable : Word → Type 0
MarkedVariable w = (u : Word) × (w ≡ 63 ∷ u) × (is_variable u ≡ true)

marked : (w : Word) → IsMarked w → not (is_reserved (drop 1 w)) ≡ true → MarkedVariable w
marked w m h = (m.0 ∷ m.1, m.2, ap (λ w. not (is_reserved (drop 1 w))) (sym m.2) ∙ h)

pub parameter_marked : (w : Word) → declares Parameters w ≡ true → MarkedVariable w
parameter_marked w = go (sort_of w) refl
  where
    go : (s : Sort) → sort_of w ≡ s → may_declare s Parameters [] w ≡ true → MarkedVariable w
    go Variable e h = marked w (variable_of_sort w e) (and_parts (not (is_reserved (drop 1 w))) true h).0
    go Name e h = false_true h
    go Other e h = false_true h

pub predicate_marked : (w : Word) → declares Predicate w ≡ true → MarkedVariable w
predicate_marked w = go (sort_of w) refl
  where
    go : (s : Sort) → sort_of w ≡ s → may_declare s Predicate [] w ≡ true → MarkedVariable w
    go Variable e h = marked w (variable_of_sort w e) (and_parts (not (is_reserved (drop 1 w))) true h).0
    go Name e h = false_true h
    go Other e h = false_true h

pub object_named : (w : Word) → declares Objects w ≡ true → is_name w ≡ true
object_named w = go (sort_of w) refl
  where
    go : (s : Sort) → sort_of w ≡ s → may_declare s Objects [] w ≡ true → is_name w ≡ true
    go Variable e h = false_true h
    go Name e h = name_of_sort w e
    go Other e h = false_true h

pub type_named : (w : Word) → declares Types w ≡ true → is_name w ≡ true
type_named w = go (sort_of w) refl
  where
    go : (s : Sort) → sort_of w ≡ s → may_declare s Types [] w ≡ true → is_name w ≡ true
    go Variable e h = false_true h
    go Name e h = name_of_sort w e
    go Other e h = false_true h

pub some_parent : (said : Option Part) → is_name (type_said said) ≡ true → IsSomeName (parent_said said)
some_parent None h = tt
some_parent (Some (name w)) h = h
some_parent (Some (group ps)) h = h

module _ (v : Declared) (scope : List Word) where
  known_kind : (said : Option Part) → KnowsSaid v scope said → Has (kinds v) (kind_said said)
  known_kind None k = k.0
  known_kind (Some (name w)) k = k.2
  known_kind (Some (group ps)) k = k

  known_type : (said : Option Part) → is_name (type_said said) ≡ true → KnowsSaid v scope said → Has v.types (type_said said)
  known_type None e k = k.1
  known_type (Some (name w)) e k = k.0.1
  known_type (Some (group ps)) e k = false_true e

  param : (w : Word) (said : Option Part) → MarkedVariable w → OkSaid true said → KnowsWord v scope w → KnowsSaid v scope said → (x : Param) × IsParam v x (name w) said × (variable v x ≡ drop 1 w)
  param w said m o k s =
      let n = at-has v.names (drop 1 w) k.1 in
      let t = place_of (kinds v) (kind_said said) [] (known_kind said s) in
      let is : drop 1 w ≡ m.0 = ap (drop 1) m.1 in
      let there : word_at v.names n.0 ≡ m.0 = n.2 ∙ is in
      (record { name = record { number = n.0 }; ty = t.0 }, (ap name (m.1 ∙ ap (λ u. 63 ∷ u) (sym there)), ap is_variable there ∙ m.2, (t.1, o)), n.2)

  pub make_parameter : Makes v scope (IsParam v) Parameters (variable v)
  make_parameter w said d o k s = param w said (parameter_marked w d) o k s

  pub make_variable : Makes v scope (IsParam v) Predicate (variable v)
  make_variable w said d o k s = param w said (predicate_marked w d) o k s

  pub make_object : (constant : Bool) → Makes v scope (IsObject v constant) Objects (λ (x : Object). named v.names x.name)
  make_object constant w said d o k s =
      let n = at-has v.names w k.0.0 in
      let t = at-has v.types (type_said said) (known_type said o s) in
      (record { name = record { number = n.0 }; ty = t.0; constant = constant }, (ap name (sym n.2), ap is_name n.2 ∙ object_named w d, (t.2, o), refl), n.2)

  pub make_type : Makes v scope IsTypeItem Types (λ (x : TypeItem). x.0)
  make_type w said d o k s = ((w, parent_said said), (refl, type_named w d, refl, some_parent said o), refl)
