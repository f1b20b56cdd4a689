-- The words that the numbers of a value stand for.
-- Source: appendix A (grammar) of Fox and Long, "PDDL2.1", JAIR 20, 2003, level 1, types with ( either A B ).
use Rattle.std.specs.Prelude.{ℕ, List, [], ◌∷◌, ◌++◌, map, get_or}
use Rattle.text_forms.specs.Words.{Word, word_at}
use Rattle.htn_base.specs.declared.name.Name.{Name}
use Rattle.plan_model.specs.declared.terms.Param.{Param}
use Rattle.plan_model.specs.declared.types.Types.{Types}
use Rattle.plan_model.specs.declared.types.Object.{Object}
use Rattle.plan_model.specs.declared.schemas.Predicate.{Predicate}

pub record Declared : Type 0 where
  pub names : List Word
  pub types : List Word
  pub unions : List (List Word)
  pub objects : List Word
  pub predicates : List Word

abbrev pub named : List Word → Name → Word
named names n = word_at names n.number

abbrev pub type_words : List Word → Types → List Word
type_words names t = map (named names) t.names

-- each union as the words of its types
abbrev pub union_words : List Word → Types → List (List Word)
union_words names t = map (map (word_at (type_words names t))) t.unions

-- the words in use where these objects may be named
abbrev pub words_with : List Word → Types → List Predicate → List Object → Declared
words_with names types predicates objects = record {
  names = names;
  types = type_words names types;
  unions = union_words names types;
  objects = map (λ (x : Object). named names x.name) objects;
  predicates = map (λ (d : Predicate). named names d.name) predicates;
}

abbrev pub one_word : Word → List Word
one_word w = w ∷ []

module _ (v : Declared) where
  -- a type as a list of words: its own, or those of a union's types. Union k has the number of the k-th behind all names
  abbrev pub kinds : List (List Word)
  kinds = map one_word v.types ++ v.unions

  abbrev pub kind_at : ℕ → List Word
  kind_at t = get_or kinds t []

  abbrev pub variable : Param → Word
  variable x = named v.names x.name
