-- A typed list while it is read.
use Rattle.std.specs.Prelude.{ℕ, List, [], ◌∷◌, ◌++◌, map, Result, Ok}
use Rattle.text_forms.specs.Placed.{Placed}
use Rattle.text_forms.specs.Words.{Word}
use Rattle.gd_reader.specs.declared.stop.Stop.{Stop}
use Rattle.gd_reader.specs.declared.term.RawTerm.{RawTerm}
use Rattle.gd_reader.specs.declared.typed_lists.ListKind.{ListKind}
use Rattle.gd_reader.specs.declared.typed_lists.RawParam.{RawParam}
use Rattle.gd_reader.specs.Answers.{◌>>=◌}
use Rattle.gd_reader.specs.Terms.{Names}
use Rattle.gd_reader.specs.TypedLists.{State, Rest, params, behind, param_due, kind_due, with_type}

-- the words that it has declared, its parts so far, and those whose type is due
pub record Listing : Type 0 where
  pub seen : Names
  pub done : List RawParam
  pub pending : List RawParam

-- the words whose type was due have this one
abbrev pub settled : Listing → List RawTerm → Listing
settled l ty = record { seen = l.seen; done = l.done ++ map (with_type ty) l.pending; pending = [] }

-- all words, if no type is written any more
abbrev pub whole : Listing → List RawParam
whole l = l.done ++ map (with_type []) l.pending

-- what is read so far, and the words of the whole text
abbrev pub Reading : Type 0
Reading = Listing × Names

-- with a word more
abbrev pub with_next : ListKind → Reading → ℕ → Word → Result Reading Stop
with_next kind r at w = param_due kind (r.1, r.0.seen) at w >>= (λ x. Ok (record { seen = x.1.1; done = r.0.done; pending = r.0.pending ++ x.0 ∷ [] }, x.1.0))

-- with the type behind a hyphen, and what is behind that
abbrev pub with_kind : ListKind → Reading → Placed → Result (Reading × Placed) Stop
with_kind kind r p = kind_due kind r.1 p >>= (λ k. Ok ((settled r.0 k.0.0, k.1), k.0.1))

-- the rest of a list of which some words wait for their type
abbrev pub rest_of : ListKind → List RawParam → State → Placed → Result Rest Stop
rest_of kind [] st p = params kind st p
rest_of kind (x ∷ pending) st p = behind kind st p

-- the whole list, where this part of it is still to be read
abbrev pub continued : ListKind → Reading → Placed → Result (List RawParam × Names) Stop
continued kind r p = rest_of kind r.0.pending (r.1, r.0.seen) p >>= (λ x. Ok (r.0.done ++ (map (with_type x.0.0) r.0.pending ++ x.0.1), x.1))
