-- A whole typed list spells values, where all its words are declared.
use Rattle.std.proofs.Common.{◌≡◌, ◌⊎◌, inl, inr, Bool, true, false, List, [], ◌∷◌, map, codes, Option, Some, None, refl, sym, subst, ◌∙◌}
use Rattle.htn_base.specs.Table.{with_word}
use Rattle.gd_reader.specs.Forms.{Form, ◌followed_by◌}
use Rattle.text_forms.specs.Lists.{Part, Parts, name, group, part}
use Rattle.text_forms.specs.Placed.{Placed, cut, close, word, list, parts_of, IsWhole}
use Rattle.text_forms.specs.Words.{Word, is_name}
use Rattle.plan_texts.specs.Declared.{Declared}
use Rattle.plan_texts.specs.TypedLists.{EachTyped, first_part, ahead, skipped}
use Rattle.plan_texts.proofs.Basics.{bytes_eq-true}
use Rattle.gd_reader.specs.declared.typed_lists.ListKind.{ListKind}
use Rattle.gd_reader.specs.ListGrammar.{may_declare, declared_name, union_form, only_where, params_form, behind_form, typed_form}
use Rattle.gd_reader.specs.TermGrammar.{allowed}
use Rattle.gd_reader.specs.TypedLists.{is_parameters, are_variables}
use Rattle.gd_reader.specs.Words.{sort_of, is_hyphen}
use Rattle.text_values.proofs.form_spellings.Freshness.{declares, Fresh, AllFresh, join_fresh, no_fresh, new_may}
use Rattle.text_values.proofs.form_spellings.Known.{KnowsWord, Knows, KnowsSaid, KnowsObject}
use Rattle.text_values.proofs.form_spellings.ListsWhole.{OkSaid, ahead_same, skipped_same, dash_test}
use Rattle.text_values.proofs.form_spellings.Unions.{whole_union}
use Rattle.text_values.proofs.form_spellings.WordTests.{is_allowed, name_whole}

pub none_said : (b : Bool) → OkSaid b None
none_said true = refl
none_said false = refl

name_said : (b : Bool) (t : Word) → is_name t ≡ true → OkSaid b (Some (name t))
name_said true t e = e
name_said false t e = e

union_said : (b : Bool) (g : Placed) → (only_where b (union_form g)).Whole → IsWhole g × OkSaid b (Some (group (parts_of g)))
union_said true g h = whole_union g h
union_said false g h = absurd h

behind_is : (kind : ListKind) (seen : List Word) (at : _) (u : Word) (r : Placed) → (behind_form kind seen (word at u r)).Whole → ((is_hyphen u ≡ true) × (typed_form kind seen r).Whole) ⊎ ((is_hyphen u ≡ false) × (params_form kind seen (word at u r)).Whole)
behind_is kind seen at u r = go (is_hyphen u) refl
  where
    go : (b : Bool) → is_hyphen u ≡ b → (let f : Form = elim b [ true ↦ typed_form kind seen r | false ↦ allowed (may_declare (sort_of u) kind seen u) followed_by behind_form kind (with_word seen (declared_name kind u)) r ] in f).Whole
        → ((is_hyphen u ≡ true) × (typed_form kind seen r).Whole) ⊎ ((is_hyphen u ≡ false) × (params_form kind seen (word at u r)).Whole)
    go true e h = inl (e, h)
    go false e h = inr (e, h)

module _ (v : Declared) (scope : List Word) {X : Type 0} (Is : X → Part → Option Part → Type 0) (kind : ListKind) (view : X → Word) where
  -- a value for each word that may declare, with a type that may be written
  abbrev pub Makes : Type 0
  Makes = (w : Word) (said : Option Part) → declares kind w ≡ true → OkSaid (are_variables kind) said → KnowsWord v scope w → KnowsSaid v scope said → (x : X) × Is x (name w) said × (view x ≡ declared_name kind w)

  module _ (make : Makes) (object : KnowsObject v) where
    abbrev pub Listed : List Word → Parts → Type 0
    Listed seen ps = (xs : List X) × EachTyped Is xs ps × AllFresh (is_parameters kind) seen (map view xs)

    -- the type of the words in front, and the rest of the list
    abbrev Typed : List Word → Option Part → Parts → Type 0
    Typed seen said ps = OkSaid (are_variables kind) said × KnowsSaid v scope said × Listed seen ps

    word_listed : (at : _) (u : Word) (r : Placed) (seen : List Word) → KnowsWord v scope u → ((seen : List Word) → (behind_form kind seen r).Whole → IsWhole r × Typed seen (ahead (parts_of r)) (skipped (parts_of r)))
        → (params_form kind seen (word at u r)).Whole → IsWhole r × Typed seen (ahead (parts_of r)) (part (name u) (parts_of r))
    word_listed at u r seen k rest h =
        let d = new_may kind seen u (is_allowed (may_declare (sort_of u) kind seen u) h.0) in
        let b = rest (with_word seen (declared_name kind u)) h.1 in
        let m = make u (ahead (parts_of r)) d.0 b.1.0 k b.1.1 in
        let l = b.1.2 in
        let back = sym m.2 in
        (b.0, (b.1.0, b.1.1, (m.0 ∷ l.0, (m.1, l.1), join_fresh (is_parameters kind) seen (view m.0) (map view l.0) (subst (Fresh (is_parameters kind) seen) back d.1) (subst (λ n. AllFresh (is_parameters kind) (with_word seen n) (map view l.0)) back l.2))))

    mutual
      pub params_listed : (p : Placed) (seen : List Word) → Knows v scope p → (params_form kind seen p).Whole → IsWhole p × Listed seen (parts_of p)
      params_listed cut seen k h = absurd h
      params_listed (close at) seen k h = (tt, ([], tt, no_fresh (is_parameters kind) seen))
      params_listed (list at p q) seen k h = absurd h
      params_listed (word at u r) seen k h = let g = word_listed at u r seen k.0 (λ seen h. behind_listed r seen k.1 h) h in (g.0, g.1.2)

      behind_listed : (p : Placed) (seen : List Word) → Knows v scope p → (behind_form kind seen p).Whole → IsWhole p × Typed seen (ahead (parts_of p)) (skipped (parts_of p))
      behind_listed cut seen k h = absurd h
      behind_listed (close at) seen k h = (tt, (none_said (are_variables kind), object, ([], tt, no_fresh (is_parameters kind) seen)))
      behind_listed (list at p q) seen k h = absurd h
      behind_listed (word at u r) seen k h = elim (behind_is kind seen at u r h) [
        | inl e ↦ subst (λ u. IsWhole r × Typed seen (ahead (part (name u) (parts_of r))) (skipped (part (name u) (parts_of r)))) (sym (bytes_eq-true u (codes "-") e.0)) (typed_listed r seen k.1 e.1)
        | inr e ↦
            (let g = word_listed at u r seen k.0 (λ seen h. behind_listed r seen k.1 h) e.1 in
            let no = dash_test u ∙ e.0 in
            (g.0, subst (λ said. Typed seen said (skipped (part (name u) (parts_of r)))) (sym (ahead_same (name u) (parts_of r) no)) (subst (Typed seen (ahead (parts_of r))) (sym (skipped_same (name u) (parts_of r) no)) g.1)))
      ]

      typed_listed : (p : Placed) (seen : List Word) → Knows v scope p → (typed_form kind seen p).Whole → IsWhole p × Typed seen (first_part (parts_of p)) (skipped (part (name (codes "-")) (parts_of p)))
      typed_listed cut seen k h = absurd h
      typed_listed (close at) seen k h = absurd h
      typed_listed (word at t s) seen k h = let g = params_listed s seen k.1 h.1 in (g.0, (name_said (are_variables kind) t (name_whole t h.0), k.0, g.1))
      typed_listed (list at q s) seen k h =
          let o = union_said (are_variables kind) q h.0 in
          let g = params_listed s seen k.2 h.1 in
          ((o.0, g.0), (o.1, k.0, g.1))
