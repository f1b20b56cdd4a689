-- Typed lists as they are read. Types stand behind their words, so they flow from right to left.
use Rattle.std.specs.Prelude.{ℕ, Bool, true, false, ◌&&◌, if◌then◌else◌, List, [], ◌∷◌, drop, Result, Ok, Err}
use Rattle.htn_base.specs.Table.{with_word}
use Rattle.htn_base.specs.Words.{is_reserved}
use Rattle.text_forms.specs.Placed.{Placed, cut, close, word, list}
use Rattle.text_forms.specs.Words.{Word, is_among}
use Rattle.gd_reader.specs.declared.typed_lists.ListKind.{ListKind}
use Rattle.gd_reader.specs.declared.typed_lists.ListKind.TheVariants.{Parameters, Predicate, Objects, Types}
use Rattle.gd_reader.specs.declared.typed_lists.RawParam.{RawParam}
use Rattle.gd_reader.specs.declared.term.RawTerm.{RawTerm}
use Rattle.gd_reader.specs.declared.stop.Stop.{Stop}
use Rattle.gd_reader.specs.declared.stop.Stop.TheVariants.{Ends, Departs}
use Rattle.gd_reader.specs.declared.words.Sort.{Sort}
use Rattle.gd_reader.specs.declared.words.Sort.TheVariants.{Variable, Name, Other}
use Rattle.gd_reader.specs.Answers.{◌>>=◌}
use Rattle.gd_reader.specs.Terms.{Names, name_in, raw_term, used}
use Rattle.gd_reader.specs.Words.{sort_of, is_hyphen, is_either}

-- the words of the whole text, and those that a list or a union has so far
abbrev pub State : Type 0
State = Names × Names

abbrev pub declares : State → ℕ → Word → Result (RawParam × State) Stop
declares st at w = Ok (record { name = name_in st.0 w; ty = []; at = at }, (with_word st.0 w, with_word st.1 w))

-- a variable's name, where a repeat counts or not
unfoldable pub variable_by : Bool → State → ℕ → Word → Result (RawParam × State) Stop
variable_by once st at w =
    if is_reserved w then Err (Departs 9 at)
    else (if once && is_among w st.1 then Err (Departs 18 at) else declares st at w)

abbrev pub is_parameters : ListKind → Bool
is_parameters Parameters = true
is_parameters Predicate = false
is_parameters Objects = false
is_parameters Types = false

abbrev pub are_variables : ListKind → Bool
are_variables Parameters = true
are_variables Predicate = true
are_variables Objects = false
are_variables Types = false

abbrev pub are_types : ListKind → Bool
are_types Parameters = false
are_types Predicate = false
are_types Objects = false
are_types Types = true

-- the code of a word that can't be a name, where it would be declared
abbrev pub undeclared : Word → ℕ
undeclared w = if is_reserved w then 9 else 8

-- a word that declares, by its kind of list
unfoldable pub param_by : Sort → ListKind → State → ℕ → Word → Result (RawParam × State) Stop
param_by Variable kind st at w = if are_variables kind then variable_by (is_parameters kind) st at (drop 1 w) else Err (Departs 8 at)
param_by Name kind st at w = if are_variables kind then Err (Departs 8 at) else declares st at w
param_by Other kind st at w = if are_variables kind then Err (Departs 8 at) else Err (Departs (undeclared w) at)

abbrev pub param_due : ListKind → State → ℕ → Word → Result (RawParam × State) Stop
param_due kind st at w = param_by (sort_of w) kind st at w

-- a type of one word, which is declared in a list of types and else used
unfoldable pub type_by : Sort → ListKind → Names → ℕ → Word → Result (List RawTerm × Names) Stop
type_by Name kind names at w = Ok ((raw_term names false at w).0 ∷ [], (raw_term names false at w).1)
type_by Variable kind names at w = Err (Departs 8 at)
type_by Other kind names at w = if are_types kind then Err (Departs (undeclared w) at) else Err (Departs 8 at)

abbrev pub type_due : ListKind → Names → ℕ → Word → Result (List RawTerm × Names) Stop
type_due kind names at w = type_by (sort_of w) kind names at w

-- the first of these, unless it was there
abbrev pub unless : Bool → RawTerm → List RawTerm → List RawTerm
unless true t ts = ts
unless false t ts = t ∷ ts

-- more names of a union up to its end, each once
unfoldable pub more_names : State → Placed → Result (List RawTerm × Names) Stop
more_names st cut = Err Ends
more_names st (close at) = Ok ([], st.0)
more_names st (list at p q) = Err (Departs 8 at)
more_names st (word at w p) = used st.0 at w >>= (λ t. more_names (t.1, with_word st.1 w) p >>= (λ ts. Ok (unless (is_among w st.1) t.0 ts.0, ts.1)))

-- one or more names, up to the end of the union
unfoldable pub some_names : Names → Placed → Result (List RawTerm × Names) Stop
some_names names cut = Err Ends
some_names names (close at) = Err (Departs 8 at)
some_names names (list at p q) = Err (Departs 8 at)
some_names names (word at w p) = used names at w >>= (λ t. more_names (t.1, with_word [] w) p >>= (λ ts. Ok (t.0 ∷ ts.0, ts.1)))

-- either and names, which stand in the parentheses of a union
unfoldable pub union : Names → Placed → Result (List RawTerm × Names) Stop
union names cut = Err Ends
union names (close at) = Err (Departs 8 at)
union names (list at p q) = Err (Departs 8 at)
union names (word at w p) = if is_either w then some_names names p else Err (Departs 8 at)

-- a union, where it may stand
abbrev pub union_due : ListKind → Names → ℕ → Placed → Result (List RawTerm × Names) Stop
union_due kind names at p = if are_variables kind then union names p else Err (Departs 8 at)

-- the same word with a type; the empty list where none is written
abbrev pub with_type : List RawTerm → RawParam → RawParam
with_type ty p = record { name = p.name; ty = ty; at = p.at }

-- what is still read of a list: the type of the words in front, and the words behind
abbrev pub Rest : Type 0
Rest = (List RawTerm × List RawParam) × Names

abbrev pub one_more : RawParam → Rest → Rest
one_more x r = ((r.0.0, with_type r.0.0 x ∷ r.0.1), r.1)

abbrev pub alone : Rest → Rest
alone r = (([], r.0.1), r.1)

abbrev pub typed_with : List RawTerm → Rest → Rest
typed_with ty r = ((ty, r.0.1), r.1)

unfoldable mutual
  -- at the front of a list, or behind a type
  pub params : ListKind → State → Placed → Result Rest Stop
  params kind st cut = Err Ends
  params kind st (close at) = Ok (([], []), st.0)
  params kind st (list at p q) = Err (Departs 8 at)
  params kind st (word at w p) = param_due kind st at w >>= (λ x. behind kind x.1 p >>= (λ r. Ok (alone (one_more x.0 r))))

  -- behind a word
  pub behind : ListKind → State → Placed → Result Rest Stop
  behind kind st cut = Err Ends
  behind kind st (close at) = Ok (([], []), st.0)
  behind kind st (list at p q) = Err (Departs 8 at)
  behind kind st (word at w p) = elim (is_hyphen w) [
    | true ↦ typed kind st p
    | false ↦ param_due kind st at w >>= (λ x. behind kind x.1 p >>= (λ r. Ok (one_more x.0 r)))
  ]

  -- behind a hyphen
  pub typed : ListKind → State → Placed → Result Rest Stop
  typed kind st cut = Err Ends
  typed kind st (close at) = Err (Departs 8 at)
  typed kind st (word at w p) = type_due kind st.0 at w >>= (λ t. params kind (t.1, st.1) p >>= (λ r. Ok (typed_with t.0 r)))
  typed kind st (list at p q) = union_due kind st.0 at p >>= (λ t. params kind (t.1, st.1) q >>= (λ r. Ok (typed_with t.0 r)))

-- a typed list up to its end
abbrev pub listed : ListKind → Names → Placed → Result (List RawParam × Names) Stop
listed kind names p = params kind (names, []) p >>= (λ r. Ok (r.0.1, r.1))

-- a type that is due, with what is behind it
unfoldable pub kind_due : ListKind → Names → Placed → Result ((List RawTerm × Placed) × Names) Stop
kind_due kind names cut = Err Ends
kind_due kind names (close at) = Err (Departs 8 at)
kind_due kind names (word at w p) = type_due kind names at w >>= (λ t. Ok ((t.0, p), t.1))
kind_due kind names (list at p q) = union_due kind names at p >>= (λ t. Ok ((t.0, q), t.1))
