-- What holds of the names of typed lists.
use Rattle.std.proofs.Common.{◌≡◌, ℕ, Bool, true, false, ◌&&◌, if◌then◌else◌, Ok, Err, Result, List, [], ◌∷◌, drop, refl, subst}
use Rattle.htn_base.specs.Table.{with_word}
use Rattle.htn_base.specs.Words.{is_reserved}
use Rattle.text_forms.specs.Placed.{Placed, cut, close, word, list}
use Rattle.text_forms.specs.Words.{Word, is_among}
use Rattle.gd_reader.specs.declared.stop.Stop.{Stop}
use Rattle.gd_reader.specs.declared.stop.Stop.TheVariants.{Departs}
use Rattle.gd_reader.specs.declared.term.RawTerm.{RawTerm}
use Rattle.gd_reader.specs.declared.typed_lists.ListKind.{ListKind}
use Rattle.gd_reader.specs.declared.typed_lists.RawParam.{RawParam}
use Rattle.gd_reader.specs.declared.words.Sort.{Sort}
use Rattle.gd_reader.specs.declared.words.Sort.TheVariants.{Variable, Name, Other}
use Rattle.gd_reader.specs.Answers.{◌>>=◌}
use Rattle.gd_reader.specs.Terms.{Names, used}
use Rattle.gd_reader.specs.TypedLists.{State, declares, variable_by, is_parameters, are_variables, are_types, undeclared, param_by, param_due, type_by, type_due, unless, more_names, some_names, union, union_due, with_type, Rest, one_more, typed_with, params, behind, typed, listed}
use Rattle.gd_reader.specs.Words.{sort_of, is_hyphen, is_either}
use Rattle.gd_reader.proofs.Keeping.{keeps_same, keeps_word}
use Rattle.text_values.specs.form_spellings.EachName.{OfParams}
use Rattle.text_values.specs.form_spellings.Places.{as_written}
use Rattle.text_values.proofs.form_spellings.Facts.{Facts, AllSeen, written_variable}
use Rattle.text_values.proofs.form_spellings.KeptWords.{ReadsBy, Reads, reads_then, reads_map}
use Rattle.text_values.proofs.form_spellings.TermsIn.{TermIn, TermsIn, same, raw_in, used_in}

abbrev pub words_of : State → Names
words_of st = st.0

module _ (F : Facts) where
  abbrev pub ParamsIn : Bool → List RawParam → Names → Type 0
  ParamsIn variables xs table = OfParams (F.Is table) variables xs

  -- a declared word, whatever its type
  abbrev WordIn : Bool → RawParam → Names → Type 0
  WordIn variable x table = F.Is table variable x.at x.name

  -- the type of the words in front, and the words behind
  abbrev RestIn : ListKind → List RawTerm × List RawParam → Names → Type 0
  RestIn kind r table = TermsIn F r.0 table × ParamsIn (are_variables kind) r.1 table

  declares_in : (variable : Bool) (st : State) (at : ℕ) (w : Word) → F.Seen at (as_written variable w) → ReadsBy words_of st.0 (declares st at w) (WordIn variable)
  declares_in variable st at w seen = (keeps_word st.0 w, λ table k. F.holds st.0 table variable at w k seen)

  variable_in : (once : Bool) (st : State) (at : ℕ) (w : Word) → F.Seen at (as_written true w) → ReadsBy words_of st.0 (variable_by once st at w) (WordIn true)
  unfolding variable_by
  variable_in once st at w seen = go (is_reserved w) (once && is_among w st.1)
    where
      go : (a b : Bool) → ReadsBy words_of st.0 (if a then Err (Departs 9 at) else (if b then Err (Departs 18 at) else declares st at w)) (WordIn true)
      go true b = tt
      go false true = tt
      go false false = declares_in true st at w seen

  param_in : (kind : ListKind) (st : State) (at : ℕ) (w : Word) → F.Seen at w → ReadsBy words_of st.0 (param_due kind st at w) (WordIn (are_variables kind))
  unfolding param_by
  param_in kind st at w seen = go (sort_of w) refl
    where
      variables : sort_of w ≡ Variable → (b : Bool) → ReadsBy words_of st.0 (if b then variable_by (is_parameters kind) st at (drop 1 w) else Err (Departs 8 at)) (WordIn b)
      variables e true = variable_in (is_parameters kind) st at (drop 1 w) (subst (F.Seen at) (written_variable w e) seen)
      variables e false = tt

      names : (b : Bool) → ReadsBy words_of st.0 (if b then Err (Departs 8 at) else declares st at w) (WordIn b)
      names true = tt
      names false = declares_in false st at w seen

      others : (b : Bool) → ReadsBy words_of st.0 (if b then Err (Departs 8 at) else Err (Departs (undeclared w) at)) (WordIn b)
      others true = tt
      others false = tt

      go : (s : Sort) → sort_of w ≡ s → ReadsBy words_of st.0 (param_by s kind st at w) (WordIn (are_variables kind))
      go Variable e = variables e (are_variables kind)
      go Name e = names (are_variables kind)
      go Other e = others (are_variables kind)

  type_in : (kind : ListKind) (names : Names) (at : ℕ) (w : Word) → F.Seen at w → Reads names (type_due kind names at w) (TermsIn F)
  unfolding type_by
  type_in kind names at w seen = go (sort_of w)
    where
      other : (b : Bool) → Reads {X = List RawTerm} names (if b then Err (Departs (undeclared w) at) else Err (Departs 8 at)) (TermsIn F)
      other true = tt
      other false = tt

      go : (s : Sort) → Reads names (type_by s kind names at w) (TermsIn F)
      go Variable = tt
      go Name = let r = raw_in F names false at w seen in (r.0, λ table k. (r.1 table k, tt))
      go Other = other (are_types kind)

  kept : (b : Bool) (t : RawTerm) (ts : List RawTerm) (table : Names) → (TermsIn F) ts table → (TermIn F) t table → (TermsIn F) (unless b t ts) table
  kept true t ts table is one = is
  kept false t ts table is one = (one, is)

  more_in : (p : Placed) (st : State) → AllSeen F p → Reads st.0 (more_names st p) (TermsIn F)
  unfolding more_names
  more_in cut st s = tt
  more_in (close at) st s = (keeps_same st.0, λ table k. tt)
  more_in (list at p q) st s = tt
  more_in (word at w p) st s =
      reads_then same (TermIn F) (TermsIn F) st.0 (used st.0 at w) (λ t. more_names (t.1, with_word st.1 w) p >>= (λ ts. Ok (unless (is_among w st.1) t.0 ts.0, ts.1))) (used_in F st.0 at w s.0)
      (λ t. reads_map (TermsIn F) (λ ts table. (TermIn F) t.0 table → (TermsIn F) ts table) t.1 (more_names (t.1, with_word st.1 w) p) (unless (is_among w st.1) t.0) (more_in p (t.1, with_word st.1 w) s.1) (λ ts table is one. kept (is_among w st.1) t.0 ts table is one))

  some_in : (p : Placed) (names : Names) → AllSeen F p → Reads names (some_names names p) (TermsIn F)
  unfolding some_names
  some_in cut names s = tt
  some_in (close at) names s = tt
  some_in (list at p q) names s = tt
  some_in (word at w p) names s =
      reads_then same (TermIn F) (TermsIn F) names (used names at w) (λ t. more_names (t.1, with_word [] w) p >>= (λ ts. Ok (t.0 ∷ ts.0, ts.1))) (used_in F names at w s.0)
      (λ t. reads_map (TermsIn F) (λ ts table. (TermIn F) t.0 table → (TermsIn F) ts table) t.1 (more_names (t.1, with_word [] w) p) (λ ts. t.0 ∷ ts) (more_in p (t.1, with_word [] w) s.1) (λ ts table is one. (one, is)))

  union_in : (p : Placed) (names : Names) → AllSeen F p → Reads names (union names p) (TermsIn F)
  unfolding union
  union_in cut names s = tt
  union_in (close at) names s = tt
  union_in (list at p q) names s = tt
  union_in (word at w p) names s = go (is_either w)
    where
      go : (b : Bool) → Reads names (if b then some_names names p else Err (Departs 8 at)) (TermsIn F)
      go true = some_in p names s.1
      go false = tt

  union_due_in : (kind : ListKind) (p : Placed) (names : Names) (at : ℕ) → AllSeen F p → Reads names (union_due kind names at p) (TermsIn F)
  union_due_in kind p names at s = go (are_variables kind)
    where
      go : (b : Bool) → Reads names (if b then union names p else Err (Departs 8 at)) (TermsIn F)
      go true = union_in p names s
      go false = tt

  -- a word that declares, with the rest of the list
  word_in : (kind : ListKind) (st : State) (at : ℕ) (w : Word) (p : Placed) → F.Seen at w → (h : RawParam → List RawTerm × List RawParam → List RawTerm × List RawParam)
      → ((x : RawParam) (r : List RawTerm × List RawParam) (table : Names) → (RestIn kind) r table → (WordIn (are_variables kind)) x table → (RestIn kind) (h x r) table)
      → ((st : State) → Reads st.0 (behind kind st p) (RestIn kind)) → Reads st.0 (param_due kind st at w >>= (λ x. behind kind x.1 p >>= (λ r. Ok (h x.0 r.0, r.1)))) (RestIn kind)
  word_in kind st at w p seen h fits rest =
      reads_then words_of (WordIn (are_variables kind)) (RestIn kind) st.0 (param_due kind st at w) (λ x. behind kind x.1 p >>= (λ r. Ok (h x.0 r.0, r.1))) (param_in kind st at w seen)
      (λ x. reads_map (RestIn kind) (λ r table. (WordIn (are_variables kind)) x.0 table → (RestIn kind) r table) x.1.0 (behind kind x.1 p) (h x.0) (rest x.1) (λ r table is one. fits x.0 r table is one))

  by_hyphen : (kind : ListKind) (st : State) (at : ℕ) (w : Word) (p : Placed) → Reads st.0 (typed kind st p) (RestIn kind) → Reads st.0 (param_due kind st at w >>= (λ x. behind kind x.1 p >>= (λ r. Ok (one_more x.0 r)))) (RestIn kind) → Reads st.0 (behind kind st (word at w p)) (RestIn kind)
  unfolding behind
  by_hyphen kind st at w p t d = go (is_hyphen w)
    where
      go : (b : Bool) → Reads st.0 (let a : Result Rest Stop = elim b [ true ↦ typed kind st p | false ↦ param_due kind st at w >>= (λ x. behind kind x.1 p >>= (λ r. Ok (one_more x.0 r))) ] in a) (RestIn kind)
      go true = t
      go false = d

  mutual
    unfolding params behind typed

    params_in : (p : Placed) (kind : ListKind) (st : State) → AllSeen F p → Reads st.0 (params kind st p) (RestIn kind)
    params_in cut kind st s = tt
    params_in (close at) kind st s = (keeps_same st.0, λ table k. (tt, tt))
    params_in (list at p q) kind st s = tt
    params_in (word at w p) kind st s =
        word_in kind st at w p s.0 (λ x r. ([], with_type r.0 x ∷ r.1)) (λ x r table is one. (tt, ((one, is.0), is.1))) (λ st. behind_in p kind st s.1)

    behind_in : (p : Placed) (kind : ListKind) (st : State) → AllSeen F p → Reads st.0 (behind kind st p) (RestIn kind)
    behind_in cut kind st s = tt
    behind_in (close at) kind st s = (keeps_same st.0, λ table k. (tt, tt))
    behind_in (list at p q) kind st s = tt
    behind_in (word at w p) kind st s =
        by_hyphen kind st at w p (typed_in p kind st s.1)
        (word_in kind st at w p s.0 (λ x r. (r.0, with_type r.0 x ∷ r.1)) (λ x r table is one. (is.0, ((one, is.0), is.1))) (λ st. behind_in p kind st s.1))

    typed_in : (p : Placed) (kind : ListKind) (st : State) → AllSeen F p → Reads st.0 (typed kind st p) (RestIn kind)
    typed_in cut kind st s = tt
    typed_in (close at) kind st s = tt
    typed_in (word at w p) kind st s =
        reads_then same (TermsIn F) (RestIn kind) st.0 (type_due kind st.0 at w) (λ t. params kind (t.1, st.1) p >>= (λ r. Ok (typed_with t.0 r))) (type_in kind st.0 at w s.0)
        (λ t. reads_map (RestIn kind) (λ r table. (TermsIn F) t.0 table → (RestIn kind) r table) t.1 (params kind (t.1, st.1) p) (λ r. (t.0, r.1)) (params_in p kind (t.1, st.1) s.1) (λ r table is one. (one, is.1)))
    typed_in (list at p q) kind st s =
        reads_then same (TermsIn F) (RestIn kind) st.0 (union_due kind st.0 at p) (λ t. params kind (t.1, st.1) q >>= (λ r. Ok (typed_with t.0 r))) (union_due_in kind p st.0 at s.1)
        (λ t. reads_map (RestIn kind) (λ r table. (TermsIn F) t.0 table → (RestIn kind) r table) t.1 (params kind (t.1, st.1) q) (λ r. (t.0, r.1)) (params_in q kind (t.1, st.1) s.2) (λ r table is one. (one, is.1)))

  pub listed_in : (p : Placed) (kind : ListKind) (names : Names) → AllSeen F p → Reads names (listed kind names p) (ParamsIn (are_variables kind))
  listed_in p kind names s = reads_map (RestIn kind) (ParamsIn (are_variables kind)) names (params kind (names, []) p) (λ r. r.1) (params_in p kind (names, []) s) (λ r table is. is.1)
