-- The words in use in a value are those of what is looked up.
use Rattle.std.proofs.Common.{ℕ, suc, ◌≡◌, Bool, true, false, cond, List, [], ◌∷◌, ◌++◌, map, Some, refl, sym, ap, subst, ◌∙◌}
use Rattle.std.specs.Prelude.{codes, option_map}
use Rattle.std.proofs.lemmas.List.{map-append}
use Rattle.text_forms.specs.Words.{Word, word_at, first_place}
use Rattle.gd_reader.specs.Terms.{Names}
use Rattle.gd_reader.specs.declared.typed_lists.RawParam.{RawParam}
use Rattle.hddl_reader.specs.declared.sections.RawHead.{RawHead}
use Rattle.plan_model.specs.declared.schemas.Predicate.{Predicate}
use Rattle.plan_model.specs.declared.types.Object.{Object}
use Rattle.plan_model.specs.declared.types.Parent.{Parent}
use Rattle.plan_texts.specs.Declared.{Declared, named, words_with}
use Rattle.plan_texts.proofs.Basics.{bytes_eq-refl}
use Rattle.name_binding.specs.Heads.{head_numbers}
use Rattle.name_binding.specs.Kinds.{Kinds}
use Rattle.name_binding.specs.Listed.{name_of, types_bound}
use Rattle.name_binding.specs.Typed.{objects_bound}
use Rattle.name_binding.specs.declared.known.Known.{Known}
use Rattle.hddl_bind.specs.DeclaredNames.{objects_declared, heads_declared}
use Rattle.hddl_bind.specs.Schemas.{predicates_bound}
use Rattle.text_values.specs.form_spellings.binding_laws.Kinds.{HasKinds}
use Rattle.text_values.specs.form_spellings.binding_laws.Known.{HasKnown}
use Rattle.text_values.specs.form_spellings.binding_laws.Numbers.{words_of}

module _ (names : Names) where
  pub type_words_are : (ns : List ℕ) → map (named names) (map name_of ns) ≡ words_of names ns
  type_words_are [] = refl
  type_words_are (n ∷ ns) = ap (λ ws. word_at names n ∷ ws) (type_words_are ns)

  objects_are : (kinds : Kinds) (constant : Bool) (xs : List RawParam) → map (λ (x : Object). named names x.name) (objects_bound kinds constant xs) ≡ words_of names (objects_declared xs)
  objects_are kinds constant [] = refl
  objects_are kinds constant (x ∷ xs) = ap (λ ws. word_at names x.name.number ∷ ws) (objects_are kinds constant xs)

  pub predicates_are : (kinds : Kinds) (hs : List RawHead) → map (λ (x : Predicate). named names x.name) (predicates_bound kinds hs) ≡ words_of names (head_numbers (heads_declared hs))
  predicates_are kinds [] = refl
  predicates_are kinds (h ∷ hs) = ap (λ ws. word_at names h.name.name.number ∷ ws) (predicates_are kinds hs)

  object_is_first : (ns : List ℕ) (rest : List Word) → words_of names ns ≡ codes "object" ∷ rest → first_place (codes "object") (words_of names ns) ≡ Some 0
  object_is_first ns rest e = ap (first_place (codes "object")) e ∙ ap (λ b. cond b (Some 0) (option_map suc (first_place (codes "object") rest))) (bytes_eq-refl (codes "object"))

  -- a value with these types, with these unions and perhaps more behind them, these predicates and these objects
  module _ (kinds shown : Kinds) (parents : List Parent) (more : List (List ℕ)) (same : shown.types ≡ kinds.types) (behind : shown.unions ≡ kinds.unions ++ more) (rest : List Word) (first : words_of names kinds.types ≡ codes "object" ∷ rest) where
    abbrev words : List Predicate → List Object → Declared
    words predicates objects = words_with names (types_bound shown parents) predicates objects

    abbrev type_words : List Word
    type_words = map (named names) (map name_of shown.types)

    types_are : type_words ≡ words_of names kinds.types
    types_are = type_words_are shown.types ∙ ap (words_of names) same

    pub has_kinds : (predicates : List Predicate) (objects : List Object) → HasKinds (words predicates objects) names kinds
    has_kinds predicates objects = record {
      table = refl;
      types = types_are;
      more = map (map (word_at type_words)) more;
      unions = ap (map (map (word_at type_words))) behind ∙ map-append (map (word_at type_words)) kinds.unions more;
      object_first = ap (first_place (codes "object")) types_are ∙ object_is_first kinds.types rest first;
    }

    -- the names of predicates and objects are those that are looked up
    pub has_known : (known : Known) → known.types ≡ kinds → (predicates : List Predicate) → map (λ (x : Predicate). named names x.name) predicates ≡ words_of names (head_numbers known.predicates)
        → (objects : List Object) → map (λ (x : Object). named names x.name) objects ≡ words_of names known.objects → HasKnown (words predicates objects) names known
    has_known known e predicates f objects g = record {
      kinds = subst (HasKinds (words predicates objects) names) (sym e) (has_kinds predicates objects);
      objects = g;
      predicates = f;
    }

  pub constants_are : (kinds : Kinds) (xs : List RawParam) → map (λ (x : Object). named names x.name) (objects_bound kinds true xs) ≡ words_of names (objects_declared xs)
  constants_are kinds xs = objects_are kinds true xs

  pub all_objects_are : (old new : Kinds) (xs ys : List RawParam) → map (λ (x : Object). named names x.name) (objects_bound old true xs ++ objects_bound new false ys) ≡ words_of names (objects_declared xs ++ objects_declared ys)
  all_objects_are old new xs ys =
      map-append (λ (x : Object). named names x.name) (objects_bound old true xs) (objects_bound new false ys)
      ∙ ap (λ ws. ws ++ map (λ (x : Object). named names x.name) (objects_bound new false ys)) (objects_are old true xs)
      ∙ ap (λ ws. words_of names (objects_declared xs) ++ ws) (objects_are new false ys)
      ∙ sym (map-append (word_at names) (objects_declared xs) (objects_declared ys))
