-- A typed list that spells values is whole.
use Rattle.std.proofs.Common.{◌≡◌, Bool, true, false, List, [], ◌∷◌, map, codes, Option, Some, None, refl, sym, ap, subst, ◌∙◌}
use Rattle.std.proofs.lemmas.Bool.{and_from}
use Rattle.htn_base.specs.Table.{with_word}
use Rattle.gd_reader.specs.Forms.{Form, ◌followed_by◌}
use Rattle.text_forms.specs.Lists.{Part, Parts, name, group, nothing, part}
use Rattle.text_forms.specs.Placed.{Placed, cut, close, word, list, parts_of, IsWhole}
use Rattle.text_forms.specs.Words.{Word, is_name, is_variable}
use Rattle.plan_texts.specs.Declared.{Declared, named, variable}
use Rattle.plan_texts.specs.Formulas.{IsParam}
use Rattle.plan_texts.specs.Schemas.{IsObject}
use Rattle.plan_texts.specs.TypedLists.{EachTyped, is_dash, first_part, ahead, ahead_by, skipped, skipped_by, type_said, kind_said, are_names}
use Rattle.plan_texts.specs.Types.{TypeItem, IsTypeItem, IsSomeName, parent_said}
use Rattle.plan_texts.proofs.Basics.{bytes_eq-true}
use Rattle.plan_model.specs.declared.types.Object.{Object}
use Rattle.gd_reader.specs.declared.typed_lists.ListKind.{ListKind}
use Rattle.gd_reader.specs.declared.typed_lists.ListKind.TheVariants.{Parameters, Predicate, Objects, Types}
use Rattle.gd_reader.specs.ListGrammar.{may_declare, declared_name, union_form, only_where, params_form, behind_form, typed_form}
use Rattle.gd_reader.specs.TermGrammar.{allowed}
use Rattle.gd_reader.specs.TypedLists.{is_parameters, are_variables}
use Rattle.gd_reader.specs.Words.{sort_of, is_hyphen}
use Rattle.text_values.proofs.form_spellings.Freshness.{declares, Fresh, AllFresh, split_fresh, may_new}
use Rattle.text_values.proofs.form_spellings.Unions.{flip, union_whole}
use Rattle.text_values.proofs.form_spellings.WordTests.{allow, false_true, whole_name, sort_name, sort_variable}

-- the type that is written can stand in a list of variables, or in another list
abbrev pub OkSaid : Bool → Option Part → Type 0
OkSaid true said = are_names (kind_said said) ≡ true
OkSaid false said = is_name (type_said said) ≡ true

pub letters : Part → Word
letters (name w) = w
letters (group ps) = []

pub name_is : {u w : Word} → name u ≡ name w → u ≡ w
unfolding letters
name_is e = ap letters e

pub no_group : {P : Type 0} {ps : Parts} {w : Word} → group ps ≡ name w → P
no_group e = cc

-- a part that is no hyphen stands before a type like the rest of the list
pub ahead_same : (p : Part) (ps : Parts) → is_dash p ≡ false → ahead (part p ps) ≡ ahead ps
ahead_same p ps e = ap (λ b. ahead_by b (first_part ps) (ahead ps)) e

pub skipped_same : (p : Part) (ps : Parts) → is_dash p ≡ false → skipped (part p ps) ≡ part p ps
skipped_same p nothing e = refl
skipped_same p (part q ps) e = ap (λ b. skipped_by b ps (part p (part q ps))) e

pub dash_test : (u : Word) → is_dash (name u) ≡ is_hyphen u
dash_test u = flip (codes "-") u

pub no_hyphen : (kind : ListKind) → declares kind (codes "-") ≡ false
unfolding sort_of
no_hyphen kind = refl

said_name : (b : Bool) (t : Word) → OkSaid b (Some (name t)) → is_name t ≡ true
said_name true t o = o
said_name false t o = o

said_union : (b : Bool) (g : Placed) → IsWhole g → OkSaid b (Some (group (parts_of g))) → (only_where b (union_form g)).Whole
said_union true g w o = union_whole g w o
said_union false g w o = false_true o

-- behind a word: a hyphen and a type, or one more word
behind_by : (kind : ListKind) (seen : List Word) (at : _) (u : Word) (r : Placed) → (is_hyphen u ≡ true → (typed_form kind seen r).Whole) → (is_hyphen u ≡ false → (params_form kind seen (word at u r)).Whole) → (behind_form kind seen (word at u r)).Whole
behind_by kind seen at u r t d = go (is_hyphen u) refl
  where
    go : (b : Bool) → is_hyphen u ≡ b → (let f : Form = elim b [ true ↦ typed_form kind seen r | false ↦ allowed (may_declare (sort_of u) kind seen u) followed_by behind_form kind (with_word seen (declared_name kind u)) r ] in f).Whole
    go true e = t e
    go false e = d e

module _ {X : Type 0} (Is : X → Part → Option Part → Type 0) (kind : ListKind) (view : X → Word) where
  -- what each word of such a list is
  abbrev pub Declares : Type 0
  Declares = (x : X) (p : Part) (said : Option Part) → Is x p said → (w : Word) × (p ≡ name w) × (declares kind w ≡ true) × (declared_name kind w ≡ view x) × OkSaid (are_variables kind) said

  module _ (has : Declares) where
    abbrev AreNew : List Word → List X → Type 0
    AreNew seen xs = AllFresh (is_parameters kind) seen (map view xs)

    at_word : (x : X) (u : Word) (said : Option Part) → Is x (name u) said → (declares kind u ≡ true) × (declared_name kind u ≡ view x) × OkSaid (are_variables kind) said
    at_word x u said i =
        let h = has x (name u) said i in
        let e = sym (name_is h.1) in
        (subst (λ u. declares kind u ≡ true) e h.2, subst (λ u. declared_name kind u ≡ view x) e h.3, h.4)

    no_list : {P : Type 0} (x : X) (ps : Parts) (said : Option Part) → Is x (group ps) said → P
    no_list x ps said i = no_group (has x (group ps) said i).1

    word_whole : (at : _) (u : Word) (r : Placed) → ((xs : List X) (seen : List Word) → OkSaid (are_variables kind) (ahead (parts_of r)) → EachTyped Is xs (skipped (parts_of r)) → AreNew seen xs → (behind_form kind seen r).Whole)
        → (xs : List X) (seen : List Word) → EachTyped Is xs (part (name u) (parts_of r)) → AreNew seen xs → (params_form kind seen (word at u r)).Whole
    word_whole at u r rest [] seen e f = absurd e
    word_whole at u r rest (x ∷ xs) seen e f =
        let h = at_word x u (ahead (parts_of r)) e.0 in
        let s = split_fresh (is_parameters kind) seen (view x) (map view xs) f in
        let back = sym h.1 in
        let one = subst (Fresh (is_parameters kind) seen) back s.0 in
        let more = subst (λ n. AllFresh (is_parameters kind) (with_word seen n) (map view xs)) back s.1 in
        (allow (may_declare (sort_of u) kind seen u) (may_new kind seen u h.0 one), rest xs (with_word seen (declared_name kind u)) h.2 e.1 more)

    mutual
      pub params_whole : (p : Placed) (xs : List X) (seen : List Word) → IsWhole p → EachTyped Is xs (parts_of p) → AreNew seen xs → (params_form kind seen p).Whole
      params_whole cut xs seen w e f = w
      params_whole (close at) xs seen w e f = tt
      params_whole (list at p q) [] seen w e f = absurd e
      params_whole (list at p q) (x ∷ xs) seen w e f = no_list x (parts_of p) (ahead (parts_of q)) e.0
      params_whole (word at u r) xs seen w e f = word_whole at u r (λ xs seen o e f. behind_whole r xs seen w o e f) xs seen e f

      behind_whole : (p : Placed) (xs : List X) (seen : List Word) → IsWhole p → OkSaid (are_variables kind) (ahead (parts_of p)) → EachTyped Is xs (skipped (parts_of p)) → AreNew seen xs → (behind_form kind seen p).Whole
      behind_whole cut xs seen w o e f = w
      behind_whole (close at) xs seen w o e f = tt
      behind_whole (list at p q) [] seen w o e f = absurd (subst (EachTyped Is []) (skipped_same (group (parts_of p)) (parts_of q) refl) e)
      behind_whole (list at p q) (x ∷ xs) seen w o e f =
          let g = subst (EachTyped Is (x ∷ xs)) (skipped_same (group (parts_of p)) (parts_of q) refl) e in
          no_list x (parts_of p) (ahead (parts_of q)) g.0
      behind_whole (word at u r) xs seen w o e f =
          behind_by kind seen at u r
          (λ h.
          let s = bytes_eq-true u (codes "-") h in
          typed_whole r xs seen w (subst (λ u. OkSaid (are_variables kind) (ahead (part (name u) (parts_of r)))) s o) (subst (λ u. EachTyped Is xs (skipped (part (name u) (parts_of r)))) s e) f)
          (λ h.
          let g = subst (EachTyped Is xs) (skipped_same (name u) (parts_of r) (dash_test u ∙ h)) e in
          word_whole at u r (λ xs seen o e f. behind_whole r xs seen w o e f) xs seen g f)

      typed_whole : (p : Placed) (xs : List X) (seen : List Word) → IsWhole p → OkSaid (are_variables kind) (first_part (parts_of p)) → EachTyped Is xs (skipped (part (name (codes "-")) (parts_of p))) → AreNew seen xs → (typed_form kind seen p).Whole
      typed_whole cut xs seen w o e f = w
      typed_whole (close at) [] seen w o e f = absurd e
      typed_whole (close at) (x ∷ xs) seen w o e f = false_true (sym (no_hyphen kind) ∙ (at_word x (codes "-") None e.0).0)
      typed_whole (word at t s) xs seen w o e f = (whole_name t (said_name (are_variables kind) t o), params_whole s xs seen w e f)
      typed_whole (list at g s) xs seen w o e f = (said_union (are_variables kind) g w.0 o, params_whole s xs seen w.1 e f)

-- what declares in each kind of list
pub variable_declares : (u : Word) → is_variable u ≡ true → (declares Parameters (63 ∷ u) ≡ true) × (declares Predicate (63 ∷ u) ≡ true)
variable_declares [] e = false_true e
variable_declares (b ∷ u) e =
    (ap (λ s. may_declare s Parameters [] (63 ∷ b ∷ u)) (sort_variable b u) ∙ and_from _ true e refl, ap (λ s. may_declare s Predicate [] (63 ∷ b ∷ u)) (sort_variable b u) ∙ and_from _ true e refl)

pub parameter_declares : (v : Declared) → Declares (IsParam v) Parameters (variable v)
parameter_declares v x p said i = (63 ∷ variable v x, i.0, (variable_declares (variable v x) i.1).0, refl, i.2.1)

pub variable_of_declares : (v : Declared) → Declares (IsParam v) Predicate (variable v)
variable_of_declares v x p said i = (63 ∷ variable v x, i.0, (variable_declares (variable v x) i.1).1, refl, i.2.1)

pub object_declares : (v : Declared) (constant : Bool) → Declares (IsObject v constant) Objects (λ (x : Object). named v.names x.name)
object_declares v constant x p said i = (named v.names x.name, i.0, ap (λ s. may_declare s Objects [] (named v.names x.name)) (sort_name _ i.1), refl, i.2.1)

some_said : (said : Option Part) → IsSomeName (parent_said said) → is_name (type_said said) ≡ true
some_said None h = refl
some_said (Some (name w)) h = h
some_said (Some (group ps)) h = h

pub type_declares : Declares IsTypeItem Types (λ (x : TypeItem). x.0)
type_declares x p said i = (x.0, i.0, ap (λ s. may_declare s Types [] x.0) (sort_name x.0 i.1), refl, some_said said (subst IsSomeName i.2 i.3))
