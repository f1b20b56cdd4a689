-- Unions and typed lists of each kind are answered as the grammar says.
use Rattle.std.proofs.Common.{◌≡◌, ℕ, Bool, true, false, if◌then◌else◌, Err, Result, List, [], drop, refl, sym, ◌∙◌, ap}
use Rattle.htn_base.specs.Table.{with_word}
use Rattle.htn_base.specs.Words.{is_reserved}
use Rattle.text_forms.specs.Placed.{Placed, cut, close, word, list}
use Rattle.text_forms.specs.Words.{Word, is_among}
use Rattle.text_forms.specs.form_grammar.Codes.{Form, wrong, ◌followed_by◌}
use Rattle.text_forms.specs.form_grammar.Lists.{ListDue, list_rows}
use Rattle.text_forms.specs.form_grammar.Lists as due
use Rattle.text_forms.specs.form_grammar.Rows.{Next, go, stop, if_allowed, Inner, form, front, a_list}
use Rattle.text_forms.specs.form_grammar.Words as words
use Rattle.gd_reader.specs.declared.stop.Stop.{Stop}
use Rattle.gd_reader.specs.declared.stop.Stop.TheVariants.{Departs}
use Rattle.gd_reader.specs.declared.term.RawTerm.{RawTerm}
use Rattle.gd_reader.specs.declared.typed_lists.ListKind.{ListKind}
use Rattle.gd_reader.specs.declared.typed_lists.ListKind.TheVariants.{Parameters, Predicate, Objects, Types}
use Rattle.gd_reader.specs.declared.typed_lists.RawParam.{RawParam}
use Rattle.gd_reader.specs.declared.words.Sort.{Sort}
use Rattle.gd_reader.specs.declared.words.Sort.TheVariants.{Variable, Name, Other}
use Rattle.gd_reader.specs.Answers.{◌>>=◌}
use Rattle.gd_reader.specs.Terms.{Names}
use Rattle.gd_reader.specs.TypedLists.{State, Rest, declares, is_parameters, are_variables, are_types, variable_by, param_by, param_due, type_by, type_due, more_names, some_names, union, union_due, params, behind, typed, listed, undeclared}
use Rattle.gd_reader.specs.Words.{sort_of, is_hyphen, is_either}
use Rattle.hddl_reader.specs.Said.{said, kind_of}
use Rattle.hddl_reader.proofs.TermsSaid.{said_then, said_map, at_next, used_then}
use Rattle.hddl_reader.proofs.WordTests.{used_test, is_variable_sort, variable_test, declared_by, declared_test}

more_said : (p : Placed) (st : State) → said (more_names st p) ≡ form list_rows due.more_types p
unfolding more_names
more_said cut st = refl
more_said (close at) st = refl
more_said (list at p q) st = refl
more_said (word at w p) st = used_then list_rows st.0 at w _ due.more_types p (λ t. said_map (more_names (t.1, with_word st.1 w) p) _ ∙ more_said p (t.1, with_word st.1 w))

some_said : (p : Placed) (names : Names) → said (some_names names p) ≡ form list_rows due.some_types p
unfolding some_names
some_said cut names = refl
some_said (close at) names = refl
some_said (list at p q) names = refl
some_said (word at w p) names = used_then list_rows names at w _ due.more_types p (λ t. said_map (more_names (t.1, with_word [] w) p) _ ∙ more_said p (t.1, with_word [] w))

pub union_said : (p : Placed) (names : Names) → said (union names p) ≡ form list_rows due.union p
unfolding union
union_said cut names = refl
union_said (close at) names = refl
union_said (list at p q) names = refl
union_said (word at w p) names = by_test (is_either w)
  where
    by_test : (b : Bool) → said (if b then some_names names p else Err (Departs 8 at)) ≡ at_next list_rows (if_allowed b 8 due.some_types) at p
    by_test true = some_said p names
    by_test false = refl

-- the words that the reader and the grammar have seen are the same, where repeats count
abbrev Fits : ListKind → List Word → List Word → Type 0
Fits Parameters known seen = seen ≡ known
Fits Predicate known seen = Unit {0}
Fits Objects known seen = Unit {0}
Fits Types known seen = Unit {0}

-- a variable that is declared, by whether it counts that it stands in the list already
abbrev variable_next : Bool → Bool → Bool → ListDue → Next ListDue
variable_next is_variable reserved repeated next = if is_variable then (if reserved then stop 9 else (if repeated then stop 18 else go next)) else stop 8

-- a word that declares, and what is due behind it
module _ {B : Type 0} (st : State) (seen : List Word) (at : ℕ) (w : Word) (k : RawParam × State → Result B Stop) (leaves : List Word → ListDue) (q : Placed) where
  parameter_then : seen ≡ st.1 → ((x : RawParam) (st' : State) (seen' : List Word) → seen' ≡ st'.1 → said (k (x, st')) ≡ form list_rows (leaves seen') q)
      → said (param_due Parameters st at w >>= k) ≡ at_next list_rows (due.declares due.parameters seen leaves w) at q
  unfolding param_by variable_by
  parameter_then fits h = by_sort (sort_of w) ∙ (λ j. at_next list_rows (variable_next (variable_test w j) (is_reserved (drop 1 w)) (is_among (drop 1 w) (sym fits j)) (leaves (with_word seen (drop 1 w)))) at q)
    where
      by_tests : (a b : Bool) → said {A = B} ((if a then Err (Departs 9 at) else (if b then Err (Departs 18 at) else declares st at (drop 1 w))) >>= k)
          ≡ at_next list_rows (if a then stop 9 else (if b then stop 18 else go (leaves (with_word seen (drop 1 w))))) at q
      by_tests true b = refl
      by_tests false true = refl
      by_tests false false = h _ (with_word st.0 (drop 1 w), with_word st.1 (drop 1 w)) (with_word seen (drop 1 w)) (ap (λ s. with_word s (drop 1 w)) fits)

      by_sort : (s : Sort) → said (param_by s Parameters st at w >>= k)
          ≡ at_next list_rows (variable_next (is_variable_sort s) (is_reserved (drop 1 w)) (is_among (drop 1 w) st.1) (leaves (with_word seen (drop 1 w)))) at q
      by_sort Variable = by_tests (is_reserved (drop 1 w)) (is_among (drop 1 w) st.1)
      by_sort Name = refl
      by_sort Other = refl

  module _ (h : (x : RawParam) (st' : State) (seen' : List Word) → said (k (x, st')) ≡ form list_rows (leaves seen') q) where
    predicate_then : said (param_due Predicate st at w >>= k) ≡ at_next list_rows (due.declares due.of_predicate seen leaves w) at q
    unfolding param_by variable_by
    predicate_then = by_sort (sort_of w) ∙ ap (λ b. at_next list_rows (variable_next b (is_reserved (drop 1 w)) false (leaves (with_word seen (drop 1 w)))) at q) (variable_test w)
      where
        by_test : (a : Bool) → said {A = B} ((if a then Err (Departs 9 at) else declares st at (drop 1 w)) >>= k)
            ≡ at_next list_rows (if a then stop 9 else go (leaves (with_word seen (drop 1 w)))) at q
        by_test true = refl
        by_test false = h _ _ (with_word seen (drop 1 w))

        by_sort : (s : Sort) → said (param_by s Predicate st at w >>= k)
            ≡ at_next list_rows (variable_next (is_variable_sort s) (is_reserved (drop 1 w)) false (leaves (with_word seen (drop 1 w)))) at q
        by_sort Variable = by_test (is_reserved (drop 1 w))
        by_sort Name = refl
        by_sort Other = refl

    -- objects and types
    name_then : (kind : ListKind) → are_variables kind ≡ false → said (param_due kind st at w >>= k) ≡ at_next list_rows (words.declared 8 (leaves seen) w) at q
    unfolding param_by
    name_then kind none = by_sort (sort_of w) ∙ ap (λ n. at_next list_rows n at q) (declared_test w (leaves seen))
      where
        by_sort : (s : Sort) → said (param_by s kind st at w >>= k) ≡ at_next list_rows (declared_by s (undeclared w) (leaves seen)) at q
        by_sort Variable = ap (λ b. said {A = B} ((if b then variable_by (is_parameters kind) st at (drop 1 w) else Err (Departs 8 at)) >>= k)) none
        by_sort Name = ap (λ b. said {A = B} ((if b then Err (Departs 8 at) else declares st at w) >>= k)) none ∙ h _ _ seen
        by_sort Other = ap (λ b. said {A = B} ((if b then Err (Departs 8 at) else Err (Departs (undeclared w) at)) >>= k)) none

declared_then : {B : Type 0} (kind : ListKind) (st : State) (seen : List Word) (at : ℕ) (w : Word) (k : RawParam × State → Result B Stop) (leaves : List Word → ListDue) (q : Placed) → Fits kind st.1 seen
    → ((x : RawParam) (st' : State) (seen' : List Word) → Fits kind st'.1 seen' → said (k (x, st')) ≡ form list_rows (leaves seen') q)
    → said (param_due kind st at w >>= k) ≡ at_next list_rows (due.declares (kind_of kind) seen leaves w) at q
declared_then Parameters st seen at w k leaves q fits h = parameter_then st seen at w k leaves q fits h
declared_then Predicate st seen at w k leaves q fits h = predicate_then st seen at w k leaves q (λ x st seen. h x st seen tt)
declared_then Objects st seen at w k leaves q fits h = name_then st seen at w k leaves q (λ x st seen. h x st seen tt) Objects refl
declared_then Types st seen at w k leaves q fits h = name_then st seen at w k leaves q (λ x st seen. h x st seen tt) Types refl

-- a type of one word, by the word's sort
abbrev type_next : ListKind → Sort → Word → ListDue → Next ListDue
type_next kind s w next = declared_by s (if are_types kind then undeclared w else 8) next

type_due_next : (kind : ListKind) (w : Word) (next : ListDue) → type_next kind (sort_of w) w next ≡ due.type_word (kind_of kind) next w
type_due_next Parameters w next = used_test w next
type_due_next Predicate w next = used_test w next
type_due_next Objects w next = used_test w next
type_due_next Types w next = declared_test w next

-- and what is due behind it
type_then : {B : Type 0} (kind : ListKind) (names : Names) (at : ℕ) (w : Word) (k : List RawTerm × Names → Result B Stop) (next : ListDue) (q : Placed) → ((x : List RawTerm × Names) → said (k x) ≡ form list_rows next q)
    → said (type_due kind names at w >>= k) ≡ at_next list_rows (due.type_word (kind_of kind) next w) at q
unfolding type_by
type_then {B} kind names at w k next q h = by_sort (sort_of w) ∙ ap (λ n. at_next list_rows n at q) (type_due_next kind w next)
  where
    by_test : (b : Bool) → said {A = B} ((if b then Err (Departs (undeclared w) at) else Err (Departs 8 at)) >>= k) ≡ wrong (if b then undeclared w else 8) at
    by_test true = refl
    by_test false = refl

    by_sort : (s : Sort) → said (type_by s kind names at w >>= k) ≡ at_next list_rows (type_next kind s w next) at q
    by_sort Variable = refl
    by_sort Name = h _
    by_sort Other = by_test (are_types kind)

-- a union, where it may stand, and what is due behind it
abbrev at_union : Next (Inner ListDue) → ℕ → Placed → Placed → Form
at_union n at p q = elim n [ go i ↦ form list_rows i.inside p followed_by form list_rows (i.behind (front p)) q | stop code ↦ wrong code at ]

union_then : {B : Type 0} (kind : ListKind) (names : Names) (at : ℕ) (p q : Placed) (k : List RawTerm × Names → Result B Stop) (next : ListDue) → ((x : List RawTerm × Names) → said (k x) ≡ form list_rows next q)
    → said (union_due kind names at p >>= k) ≡ at_union (due.union_if (kind_of kind) (a_list due.union next)) at p q
union_then Parameters names at p q k next h = said_then (union names p) k (form list_rows due.union p) (form list_rows next q) (union_said p names) h
union_then Predicate names at p q k next h = said_then (union names p) k (form list_rows due.union p) (form list_rows next q) (union_said p names) h
union_then Objects names at p q k next h = refl
union_then Types names at p q k next h = refl

by_hyphen : (b : Bool) (t d : Result Rest Stop) (next : ListDue) (n : Next ListDue) (at : ℕ) (p : Placed) → said t ≡ form list_rows next p → said d ≡ at_next list_rows n at p
    → said (elim b [ true ↦ t | false ↦ d ]) ≡ at_next list_rows (if b then go next else n) at p
by_hyphen true t d next n at p h k = h
by_hyphen false t d next n at p h k = k

mutual
  unfolding params behind typed

  pub params_said : (p : Placed) (kind : ListKind) (st : State) (seen : List Word) → Fits kind st.1 seen → said (params kind st p) ≡ form list_rows (due.names (kind_of kind) seen) p
  params_said cut kind st seen fits = refl
  params_said (close at) kind st seen fits = refl
  params_said (list at p q) kind st seen fits = refl
  params_said (word at w p) kind st seen fits =
      declared_then kind st seen at w _ (due.behind_name (kind_of kind)) p fits (λ x st' seen' f. said_map (behind kind st' p) _ ∙ behind_said p kind st' seen' f)

  behind_said : (p : Placed) (kind : ListKind) (st : State) (seen : List Word) → Fits kind st.1 seen → said (behind kind st p) ≡ form list_rows (due.behind_name (kind_of kind) seen) p
  behind_said cut kind st seen fits = refl
  behind_said (close at) kind st seen fits = refl
  behind_said (list at p q) kind st seen fits = refl
  behind_said (word at w p) kind st seen fits =
      by_hyphen (is_hyphen w) (typed kind st p) _ (due.type (kind_of kind) seen) (due.declares (kind_of kind) seen (due.behind_name (kind_of kind)) w) at p (typed_said p kind st seen fits)
      (declared_then kind st seen at w _ (due.behind_name (kind_of kind)) p fits (λ x st' seen' f. said_map (behind kind st' p) _ ∙ behind_said p kind st' seen' f))

  typed_said : (p : Placed) (kind : ListKind) (st : State) (seen : List Word) → Fits kind st.1 seen → said (typed kind st p) ≡ form list_rows (due.type (kind_of kind) seen) p
  typed_said cut kind st seen fits = refl
  typed_said (close at) kind st seen fits = refl
  typed_said (word at w p) kind st seen fits =
      type_then kind st.0 at w _ (due.names (kind_of kind) seen) p (λ t. said_map (params kind (t.1, st.1) p) _ ∙ params_said p kind (t.1, st.1) seen fits)
  typed_said (list at p q) kind st seen fits =
      union_then kind st.0 at p q _ (due.names (kind_of kind) seen) (λ t. said_map (params kind (t.1, st.1) q) _ ∙ params_said q kind (t.1, st.1) seen fits)

fits_none : (kind : ListKind) → Fits kind [] []
fits_none Parameters = refl
fits_none Predicate = tt
fits_none Objects = tt
fits_none Types = tt

pub listed_said : (p : Placed) (kind : ListKind) (names : Names) → said (listed kind names p) ≡ form list_rows (due.names (kind_of kind) []) p
listed_said p kind names = said_map (params kind (names, []) p) _ ∙ params_said p kind (names, []) [] (fits_none kind)
