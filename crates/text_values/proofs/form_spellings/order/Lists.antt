-- Typed lists are read at rising offsets, no variable of a list of parameters twice.
use Rattle.std.proofs.Common.{◌≡◌, ◌∙◌, ℕ, suc, ◌≤◌, ◌<◌, Bool, true, false, not, ◌&&◌, ◌==◌, if◌then◌else◌, Ok, Err, Result, List, [], ◌∷◌, drop, length, map, refl, sym, subst, ap, arith}
use Rattle.std.specs.Char.{to_ascii_lowercase}
use Rattle.std.proofs.lemmas.Bool.{and_parts}
use Rattle.htn_base.specs.Different.{AreDifferent}
use Rattle.htn_base.specs.Table.{with_word}
use Rattle.htn_base.specs.Words.{is_reserved}
use Rattle.text_forms.specs.Bytes.{is_letter}
use Rattle.text_forms.specs.Placed.{Placed, cut, close, word, list}
use Rattle.text_forms.specs.Printing.{are_folded}
use Rattle.text_forms.specs.Words.{Word, is_among}
use Rattle.plan_texts.specs.Declared.{named}
use Rattle.plan_texts.specs.Printable.{IsPlain, IsPlainVariable}
use Rattle.plan_texts.specs.Types.{EachIs}
use Rattle.plan_texts.proofs.SoundProblems.{each-more}
use Rattle.gd_reader.specs.declared.stop.Stop.{Stop}
use Rattle.gd_reader.specs.declared.stop.Stop.TheVariants.{Departs}
use Rattle.gd_reader.specs.declared.term.RawTerm.{RawTerm}
use Rattle.gd_reader.specs.declared.typed_lists.ListKind.{ListKind}
use Rattle.gd_reader.specs.declared.typed_lists.ListKind.TheVariants.{Parameters, Predicate, Objects, Types}
use Rattle.gd_reader.specs.declared.typed_lists.RawParam.{RawParam}
use Rattle.gd_reader.specs.declared.words.Sort.{Sort}
use Rattle.gd_reader.specs.declared.words.Sort.TheVariants.{Variable, Name, Other}
use Rattle.gd_reader.specs.Answers.{◌>>=◌}
use Rattle.gd_reader.specs.Terms.{Names, Keeps}
use Rattle.gd_reader.specs.TypedLists.{State, declares, variable_by, is_parameters, are_variables, undeclared, param_by, param_due, type_due, union_due, with_type, Rest, one_more, typed_with, params, behind, typed, listed}
use Rattle.gd_reader.specs.Words.{sort_of, is_hyphen}
use Rattle.gd_reader.proofs.Keeping.{keeps_same, keeps_then, keeps_word}
use Rattle.text_values.specs.form_spellings.InOrder.{param_word, IsPlainName, IsTypedName, IsWrittenOnce, AreVariables, AreParameters}
use Rattle.text_values.specs.form_spellings.Rising.{Rise, param_offsets, own_word, HasTypesBehind}
use Rattle.text_values.proofs.form_spellings.Freshness.{Fresh, AllFresh, join_fresh, no_fresh}
use Rattle.text_values.proofs.form_spellings.KeptWords.{Reads, reads_then, reads_map, reads_weaken}
use Rattle.text_values.proofs.form_spellings.TermsBound.{word_stands}
use Rattle.text_values.proofs.form_spellings.TermsIn.{same}
use Rattle.text_values.proofs.form_spellings.WordTests.{IsMarked, name_of_sort, variable_of_sort}
use Rattle.text_values.proofs.form_spellings.order.Climbs.{Climbs, climbs_from, climbs_put, climbs_rise}
use Rattle.text_values.proofs.form_spellings.order.Spans.{Span, Rising, fits}
use Rattle.text_values.proofs.form_spellings.order.Terms.{term_place}
use Rattle.text_values.proofs.form_spellings.order.Types.{IsTypeName, AreTypes, no_types, types_from, types_to, union_due_is, type_is}

abbrev pub param_place : RawParam → ℕ
param_place x = x.at

-- a variable's word or a name's
abbrev pub IsDeclarable : Bool → Word → Type 0
IsDeclarable true w = IsPlainVariable w
IsDeclarable false w = IsPlain w

-- the types of a declared word
pub record HasTypes (table : Names) (x : RawParam) : Type 0 where
  pub names : EachIs (IsTypeName table) x.ty
  pub differ : IsWrittenOnce table x
  pub behind : HasTypesBehind x

-- A typed list, by its kind.
pub record IsListInOrder (table : Names) (kind : ListKind) (xs : List RawParam) : Type 0 where
  pub rise : Rise (param_offsets xs)
  pub words : EachIs (λ (x : RawParam). IsDeclarable (are_variables kind) (param_word table x)) xs
  pub types : EachIs (HasTypes table) xs
  pub once : is_parameters kind ≡ true → AreDifferent (map (param_word table) xs)
  pub alone : are_variables kind ≡ false → EachIs (λ (x : RawParam). length x.ty ≤ 1) xs

-- where a word is read: what holds of it and of the state behind it
abbrev Declares : Names → Result (RawParam × State) Stop → (RawParam × State → Names → Type 0) → Type 0
Declares names (Ok y) P = Keeps names y.1.0 × ((table : Names) → Keeps y.1.0 table → P y table)
Declares names (Err e) P = Unit {0}

declares_then : {Y : Type 0} (P : RawParam × State → Names → Type 0) (Q : Y → Names → Type 0) (names : Names) (r : Result (RawParam × State) Stop) (f : RawParam × State → Result (Y × Names) Stop)
    → Declares names r P → ((x : RawParam × State) → Reads x.1.0 (f x) (λ y table. P x table → Q y table)) → Reads names (r >>= f) Q
declares_then {Y = Y} P Q names (Ok x) f a b = second (f x) (b x)
  where
    second : (s : Result (Y × Names) Stop) → Reads x.1.0 s (λ y table. P x table → Q y table) → Reads names s Q
    second (Ok y) c = (keeps_then names x.1.0 y.1 a.0 c.0, λ table k. c.1 table k (a.1 table (keeps_then x.1.0 y.1 table c.0 k)))
    second (Err e) c = tt
declares_then P Q names (Err e) f a b = tt

-- a declared word at a place, and the words that the list has with it
pub record IsWord (variables once : Bool) (seen : List Word) (at : ℕ) (y : RawParam × State) (table : Names) : Type 0 where
  pub place : y.0.at ≡ at
  pub grown : y.1.1 ≡ with_word seen (named table y.0.name)
  pub declarable : IsDeclarable variables (named table y.0.name)
  pub fresh : Fresh once seen (named table y.0.name)

declares_is : (variables once : Bool) (st : State) (at : ℕ) (w : Word) → IsDeclarable variables w → Fresh once st.1 w → Declares st.0 (declares st at w) (IsWord variables once st.1 at)
declares_is variables once st at w d f = (keeps_word st.0 w, λ table k. (let e = sym (word_stands st.0 w table k) in record { place = refl; grown = ap (with_word st.1) e; declarable = subst (IsDeclarable variables) e d; fresh = subst (Fresh once st.1) e f }))

new_where : (once old : Bool) (seen : List Word) (w : Word) → is_among w seen ≡ old → (once && old) ≡ false → Fresh once seen w
new_where true old seen w e f = e ∙ f
new_where false old seen w e f = tt

variable_is : (once : Bool) (st : State) (at : ℕ) (w : Word) → (not (is_reserved w) ≡ true → IsPlainVariable w) → Declares st.0 (variable_by once st at w) (IsWord true once st.1 at)
unfolding variable_by
variable_is once st at w some = go (is_reserved w) (once && is_among w st.1) refl refl
  where
    go : (a b : Bool) → is_reserved w ≡ a → (once && is_among w st.1) ≡ b → Declares st.0 (if a then Err (Departs 9 at) else (if b then Err (Departs 18 at) else declares st at w)) (IsWord true once st.1 at)
    go true b e f = tt
    go false true e f = tt
    go false false e f = declares_is true once st at w (some (ap not e)) (new_where once (is_among w st.1) st.1 w refl f)

marked_variable : (w : Word) → IsMarked w → are_folded w ≡ true → not (is_reserved (drop 1 w)) ≡ true → IsPlainVariable (drop 1 w)
marked_variable w m = subst (λ w. are_folded w ≡ true → not (is_reserved (drop 1 w)) ≡ true → IsPlainVariable (drop 1 w)) (sym m.2) (λ low h. ((and_parts (is_letter 63 && (to_ascii_lowercase 63 == 63)) (are_folded (m.0 ∷ m.1)) low).1, h))

param_is : (kind : ListKind) (st : State) (at : ℕ) (w : Word) → are_folded w ≡ true → Declares st.0 (param_due kind st at w) (IsWord (are_variables kind) (is_parameters kind) st.1 at)
unfolding param_by
param_is kind st at w low = go (sort_of w) refl
  where
    variables : sort_of w ≡ Variable → (b : Bool) → Declares st.0 (if b then variable_by (is_parameters kind) st at (drop 1 w) else Err (Departs 8 at)) (IsWord b (is_parameters kind) st.1 at)
    variables e true = variable_is (is_parameters kind) st at (drop 1 w) (marked_variable w (variable_of_sort w e) low)
    variables e false = tt

    names : sort_of w ≡ Name → (kind : ListKind) → Declares st.0 (param_by Name kind st at w) (IsWord (are_variables kind) (is_parameters kind) st.1 at)
    names e Parameters = tt
    names e Predicate = tt
    names e Objects = declares_is false false st at w (low, name_of_sort w e) tt
    names e Types = declares_is false false st at w (low, name_of_sort w e) tt

    others : (b : Bool) → Declares st.0 (if b then Err (Departs 8 at) else Err (Departs (undeclared w) at)) (IsWord (are_variables kind) (is_parameters kind) st.1 at)
    others true = tt
    others false = tt

    go : (s : Sort) → sort_of w ≡ s → Declares st.0 (param_by s kind st at w) (IsWord (are_variables kind) (is_parameters kind) st.1 at)
    go Variable e = variables e (are_variables kind)
    go Name e = names e kind
    go Other e = others (are_variables kind)

-- words of a list behind those that it has already
pub record AreParams (kind : ListKind) (from to : ℕ) (seen : List Word) (xs : List RawParam) (table : Names) : Type 0 where
  pub climbs : Climbs param_place from xs to
  pub words : EachIs (λ (x : RawParam). IsDeclarable (are_variables kind) (named table x.name)) xs
  pub types : EachIs (HasTypes table) xs
  pub fresh : AllFresh (is_parameters kind) seen (map (param_word table) xs)
  pub alone : are_variables kind ≡ false → EachIs (λ (x : RawParam). length x.ty ≤ 1) xs

-- the type of the words in front, and the words behind
abbrev RestIs : ListKind → ℕ → ℕ → List Word → List RawTerm × List RawParam → Names → Type 0
RestIs kind from to seen r table = AreTypes kind from to r.0 table × AreParams kind from to seen r.1 table

no_params : (kind : ListKind) (from to : ℕ) (seen : List Word) (table : Names) → from ≤ to → AreParams kind from to seen [] table
no_params kind from to seen table l = record { climbs = l; words = tt; types = tt; fresh = no_fresh (is_parameters kind) seen; alone = λ e. tt }

has_types : (kind : ListKind) (to : ℕ) (x : RawParam) (ts : List RawTerm) (table : Names) → AreTypes kind (suc x.at) to ts table → HasTypes table (with_type ts x)
has_types kind to x ts table is = record { names = is.names; differ = is.differ; behind = climbs_rise term_place (own_word (with_type ts x) ∷ ts) x.at to (omega arith, is.climbs) }

-- one more word in front
joined : (kind : ListKind) (from to at : ℕ) (seen : List Word) (y : RawParam × State) (r : List RawTerm × List RawParam) (table : Names) → from ≤ at
    → IsWord (are_variables kind) (is_parameters kind) seen at y table → RestIs kind (suc at) to y.1.1 r table → AreParams kind from to seen (with_type r.0 y.0 ∷ r.1) table
joined kind from to at seen y r table l one is = record {
  climbs = climbs_put param_place (with_type r.0 y.0) r.1 at from to one.place l is.1.climbs;
  words = (one.declarable, is.1.words);
  types = (has_types kind to y.0 r.0 table (subst (λ n. AreTypes kind (suc n) to r.0 table) (sym one.place) is.0), is.1.types);
  fresh = join_fresh (is_parameters kind) seen (named table y.0.name) (map (param_word table) r.1) one.fresh (subst (λ s. AllFresh (is_parameters kind) s (map (param_word table) r.1)) one.grown is.1.fresh);
  alone = λ e. (is.0.alone e, is.1.alone e);
}

-- a word that declares, with the rest of the list, where the type that waits is kept or not
word_is : (kind : ListKind) (st : State) (at : ℕ) (w : Word) (p : Placed) (from to : ℕ) → are_folded w ≡ true → from ≤ at → at < to → (h : List RawTerm → List RawTerm)
    → ((ts : List RawTerm) (table : Names) → AreTypes kind (suc at) to ts table → AreTypes kind from to (h ts) table)
    → ((st : State) → Reads st.0 (behind kind st p) (RestIs kind (suc at) to st.1))
    → Reads st.0 (param_due kind st at w >>= (λ x. behind kind x.1 p >>= (λ r. Ok ((h r.0.0, with_type r.0.0 x.0 ∷ r.0.1), r.1)))) (RestIs kind from to st.1)
word_is kind st at w p from to low l m h fits rest =
    declares_then (IsWord (are_variables kind) (is_parameters kind) st.1 at) (RestIs kind from to st.1) st.0 (param_due kind st at w) (λ x. behind kind x.1 p >>= (λ r. Ok ((h r.0.0, with_type r.0.0 x.0 ∷ r.0.1), r.1))) (param_is kind st at w low)
    (λ x. reads_map (RestIs kind (suc at) to x.1.1) (λ r table. IsWord (are_variables kind) (is_parameters kind) st.1 at x table → RestIs kind from to st.1 r table) x.1.0 (behind kind x.1 p) (λ r. (h r.0, with_type r.0 x.0 ∷ r.1)) (rest x.1)
    (λ r table is one. (fits r.0 table is.0, joined kind from to at st.1 x r table l one is)))

by_hyphen : (kind : ListKind) (st : State) (at : ℕ) (w : Word) (p : Placed) (from to : ℕ) → Reads st.0 (typed kind st p) (RestIs kind from to st.1) → Reads st.0 (param_due kind st at w >>= (λ x. behind kind x.1 p >>= (λ r. Ok (one_more x.0 r)))) (RestIs kind from to st.1) → Reads st.0 (behind kind st (word at w p)) (RestIs kind from to st.1)
unfolding behind
by_hyphen kind st at w p from to t d = go (is_hyphen w)
  where
    go : (b : Bool) → Reads st.0 (let a : Result Rest Stop = elim b [ true ↦ typed kind st p | false ↦ param_due kind st at w >>= (λ x. behind kind x.1 p >>= (λ r. Ok (one_more x.0 r))) ] in a) (RestIs kind from to st.1)
    go true = t
    go false = d

-- the same, from an earlier place on
earlier : (kind : ListKind) (before from to : ℕ) (seen : List Word) (r : List RawTerm × List RawParam) (table : Names) → before ≤ from → RestIs kind from to seen r table → RestIs kind before to seen r table
earlier kind before from to seen r table l is = (types_from kind before from to r.0 table l is.0, record { climbs = climbs_from param_place r.1 before from to l is.1.climbs; words = is.1.words; types = is.1.types; fresh = is.1.fresh; alone = is.1.alone })

ended : (kind : ListKind) (names : Names) (seen : List Word) (from to : ℕ) → from ≤ to → Reads names (Ok (([], []), names)) (RestIs kind from to seen)
ended kind names seen from to l = (keeps_same names, λ table k. (no_types kind from to table l, no_params kind from to seen table l))

mutual
  unfolding params behind typed

  params_are : (p : Placed) (kind : ListKind) (st : State) (from to : ℕ) → Span from p to → Reads st.0 (params kind st p) (RestIs kind from to st.1)
  params_are cut kind st from to s = tt
  params_are (close at) kind st from to s = let a = s.0 in let b = s.1 in ended kind st.0 st.1 from to (omega arith)
  params_are (list at p q) kind st from to s = tt
  params_are (word at w p) kind st from to s =
      let a = s.0 in
      let b = fits p (suc at) to s.1 in
      word_is kind st at w p from to s.2 s.0 (omega arith) (λ ts. []) (λ ts table is. no_types kind from to table (omega arith)) (λ st. behind_are p kind st (suc at) to s.1)

  behind_are : (p : Placed) (kind : ListKind) (st : State) (from to : ℕ) → Span from p to → Reads st.0 (behind kind st p) (RestIs kind from to st.1)
  behind_are cut kind st from to s = tt
  behind_are (close at) kind st from to s = let a = s.0 in let b = s.1 in ended kind st.0 st.1 from to (omega arith)
  behind_are (list at p q) kind st from to s = tt
  behind_are (word at w p) kind st from to s =
      let a = s.0 in
      let b = fits p (suc at) to s.1 in
      by_hyphen kind st at w p from to
      (reads_weaken (RestIs kind (suc at) to st.1) (RestIs kind from to st.1) st.0 (typed kind st p) (typed_are p kind st (suc at) to s.1) (λ r table is. earlier kind from (suc at) to st.1 r table (omega arith) is))
      (word_is kind st at w p from to s.2 s.0 (omega arith) (λ ts. ts) (λ ts table is. types_from kind from (suc at) to ts table (omega arith) is) (λ st. behind_are p kind st (suc at) to s.1))

  typed_are : (p : Placed) (kind : ListKind) (st : State) (from to : ℕ) → Span from p to → Reads st.0 (typed kind st p) (RestIs kind from to st.1)
  typed_are cut kind st from to s = tt
  typed_are (close at) kind st from to s = tt
  typed_are (word at w p) kind st from to s =
      let a = s.0 in
      let b = fits p (suc at) to s.1 in
      reads_then same (AreTypes kind from to) (RestIs kind from to st.1) st.0 (type_due kind st.0 at w) (λ t. params kind (t.1, st.1) p >>= (λ r. Ok (typed_with t.0 r))) (type_is kind st.0 at from to w s.2 s.0 (omega arith))
      (λ t. reads_map (RestIs kind (suc at) to st.1) (λ r table. AreTypes kind from to t.0 table → RestIs kind from to st.1 r table) t.1 (params kind (t.1, st.1) p) (λ r. (t.0, r.1)) (params_are p kind (t.1, st.1) (suc at) to s.1)
      (λ r table is one. (one, (earlier kind from (suc at) to st.1 r table (omega arith) is).1)))
  typed_are (list at p q) kind st from to s =
      let a = s.0 in
      let b = fits p (suc at) s.1 s.2 in
      let c = fits q s.1 to s.3 in
      reads_then same (AreTypes kind (suc at) s.1) (RestIs kind from to st.1) st.0 (union_due kind st.0 at p) (λ t. params kind (t.1, st.1) q >>= (λ r. Ok (typed_with t.0 r))) (union_due_is kind p st.0 at (suc at) s.1 s.2)
      (λ t. reads_map (RestIs kind s.1 to st.1) (λ r table. AreTypes kind (suc at) s.1 t.0 table → RestIs kind from to st.1 r table) t.1 (params kind (t.1, st.1) q) (λ r. (t.0, r.1)) (params_are q kind (t.1, st.1) s.1 to s.3)
      (λ r table is one. (types_from kind from (suc at) to t.0 table (omega arith) (types_to kind (suc at) s.1 to t.0 table c one), (earlier kind from s.1 to st.1 r table (omega arith) is).1)))

list_is : (kind : ListKind) (from to : ℕ) (xs : List RawParam) (table : Names) → AreParams kind from to [] xs table → IsListInOrder table kind xs
list_is kind from to xs table is = record {
  rise = climbs_rise param_place xs from to is.climbs;
  words = is.words;
  types = is.types;
  once = λ e. (subst (λ once. AllFresh once [] (map (param_word table) xs)) e is.fresh).1;
  alone = is.alone;
}

pub no_list : (kind : ListKind) (table : Names) → IsListInOrder table kind []
no_list kind table = list_is kind 0 0 [] table (no_params kind 0 0 [] table (omega arith))

-- of the variables that a predicate declares
pub variables_are : (table : Names) (kind : ListKind) (xs : List RawParam) → are_variables kind ≡ true → IsListInOrder table kind xs → AreVariables table xs
variables_are table kind xs e is = record {
  plain = subst (λ b. EachIs (λ (x : RawParam). IsDeclarable b (param_word table x)) xs) e is.words;
  types_once = each-more (HasTypes table) (IsWrittenOnce table) xs (λ x t. t.differ) is.types;
  in_order = is.rise;
  types_behind = each-more (HasTypes table) HasTypesBehind xs (λ x t. t.behind) is.types;
}

pub parameters_are : (table : Names) (xs : List RawParam) → IsListInOrder table Parameters xs → AreParameters table xs
parameters_are table xs is = record { variables = variables_are table Parameters xs refl is; differ = is.once refl }

-- of objects and types
pub typed_names : (table : Names) (kind : ListKind) (xs : List RawParam) → are_variables kind ≡ false → IsListInOrder table kind xs → EachIs (IsTypedName table) xs
typed_names table kind xs e is = go xs (subst (λ b. EachIs (λ (x : RawParam). IsDeclarable b (param_word table x)) xs) e is.words) is.types (is.alone e)
  where
    go : (xs : List RawParam) → EachIs (λ (x : RawParam). IsPlain (param_word table x)) xs → EachIs (HasTypes table) xs → EachIs (λ (x : RawParam). length x.ty ≤ 1) xs → EachIs (IsTypedName table) xs
    go [] a b c = tt
    go (x ∷ xs) a b c = (record { plain = a.0; types_plain = each-more (IsTypeName table) (IsPlainName table) x.ty (λ t n. n.1) b.0.names; one_type = c.0; type_behind = b.0.behind }, go xs a.1 b.1 c.1)

abbrev pub ListInOrder : ListKind → List RawParam → Names → Type 0
ListInOrder kind xs table = IsListInOrder table kind xs

pub listed_in_order : (p : Placed) (kind : ListKind) (names : Names) → Rising p → Reads names (listed kind names p) (ListInOrder kind)
listed_in_order p kind names s =
    reads_map (RestIs kind s.0 s.1 []) (ListInOrder kind) names (params kind (names, []) p) (λ r. r.1) (params_are p kind (names, []) s.0 s.1 s.2) (λ r table is. list_is kind s.0 s.1 r.1 table is.1)
