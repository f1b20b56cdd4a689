-- The unions of a typed list that was read are those that its parts write.
use Rattle.std.proofs.Common.{◌≡◌, ◌∙◌, ◌||◌, ℕ, Bool, true, false, if◌then◌else◌, Ok, Err, Result, List, [], ◌∷◌, ◌++◌, codes, Some, refl, sym, ap, subst}
use Rattle.std.proofs.lemmas.Bool.{cond-true, cond-false}
use Rattle.std.specs.Str.{bytes_eq}
use Rattle.htn_base.specs.Table.{with_word}
use Rattle.text_forms.specs.Lists.{Parts, name, group, nothing, part}
use Rattle.text_forms.specs.Placed.{Placed, cut, close, word, list, parts_of}
use Rattle.text_forms.specs.Words.{Word, is_among}
use Rattle.plan_texts.specs.TypedLists.{first_seen, words_in}
use Rattle.gd_reader.specs.declared.stop.Stop.{Stop}
use Rattle.gd_reader.specs.declared.stop.Stop.TheVariants.{Departs}
use Rattle.gd_reader.specs.declared.term.RawTerm.{RawTerm}
use Rattle.gd_reader.specs.declared.typed_lists.ListKind.{ListKind}
use Rattle.gd_reader.specs.declared.typed_lists.ListKind.TheVariants.{Parameters}
use Rattle.gd_reader.specs.declared.typed_lists.RawParam.{RawParam}
use Rattle.gd_reader.specs.declared.words.Sort.{Sort}
use Rattle.gd_reader.specs.declared.words.Sort.TheVariants.{Variable, Name, Other}
use Rattle.gd_reader.specs.Answers.{◌>>=◌}
use Rattle.gd_reader.specs.Terms.{Names, name_by, used}
use Rattle.gd_reader.specs.TypedLists.{State, are_variables, are_types, undeclared, param_due, type_by, type_due, more_names, some_names, union, union_due, with_type, Rest, one_more, typed_with, params, behind, typed, listed, unless}
use Rattle.gd_reader.specs.Words.{sort_of, is_hyphen, is_either}
use Rattle.gd_reader.proofs.Keeping.{keeps_same, keeps_word}
use Rattle.text_values.specs.form_spellings.Written.{union_at, types_unions, params_unions}
use Rattle.text_values.proofs.form_spellings.Freshness.{declares}
use Rattle.text_values.proofs.form_spellings.KeptWords.{Reads, reads_then, reads_map, reads_weaken}
use Rattle.text_values.proofs.form_spellings.ListsBound.{WordBound, param_bound, listed_with}
use Rattle.text_values.proofs.form_spellings.ListsIn.{words_of}
use Rattle.text_values.proofs.form_spellings.ListValues.{parameter_marked}
use Rattle.text_values.proofs.form_spellings.TermsExact.{reads_both}
use Rattle.text_values.proofs.form_spellings.TermsIn.{same}
use Rattle.text_values.proofs.form_spellings.Unions.{flip}
use Rattle.text_values.proofs.form_spellings.UnionsBound.{said_words, TypesBound, union_due_bound}
use Rattle.text_values.proofs.form_spellings.WordTests.{false_true}
use Rattle.text_values.proofs.form_spellings.seen.Adding.{Same, same_refl, same_by, same_join, same_twice}
use Rattle.text_values.proofs.form_spellings.seen.Erased.{unions_at, inside_at, front_place}
use Rattle.text_values.proofs.form_spellings.seen.Terms.{Any}

-- what is kept once is kept again
kept_again : (seen before ws : List Word) → ((u : Word) → is_among u before ≡ true → is_among u seen ≡ true) → first_seen before (first_seen seen ws) ≡ first_seen seen ws
kept_again seen before [] sub = refl
kept_again seen before (w ∷ ws) sub = go (is_among w seen) refl (kept_again seen before ws sub) (kept_again (w ∷ seen) (w ∷ before) ws more)
  where
    more : (u : Word) → is_among u (w ∷ before) ≡ true → is_among u (w ∷ seen) ≡ true
    more u = by (bytes_eq u w)
      where
        by : (b : Bool) → (b || is_among u before) ≡ true → (b || is_among u seen) ≡ true
        by true e = refl
        by false e = sub u e

    new : (c : Bool) → is_among w before ≡ c → is_among w seen ≡ false → first_seen (w ∷ before) (first_seen (w ∷ seen) ws) ≡ first_seen (w ∷ seen) ws → first_seen before (w ∷ first_seen (w ∷ seen) ws) ≡ w ∷ first_seen (w ∷ seen) ws
    new true e f b = false_true (sym f ∙ sub w e)
    new false e f b = cond-false _ _ _ e ∙ ap (λ us. w ∷ us) b

    go : (b : Bool) → is_among w seen ≡ b → first_seen before (first_seen seen ws) ≡ first_seen seen ws → first_seen (w ∷ before) (first_seen (w ∷ seen) ws) ≡ first_seen (w ∷ seen) ws → first_seen before (first_seen seen (w ∷ ws)) ≡ first_seen seen (w ∷ ws)
    go true e a b = ap (first_seen before) (cond-true _ _ _ e) ∙ a ∙ sym (cond-true _ _ _ e)
    go false e a b = ap (first_seen before) (cond-false _ _ _ e) ∙ new (is_among w before) refl e b ∙ sym (cond-false _ _ _ e)

-- where the first of some types stands
abbrev first_at : List RawTerm → ℕ
first_at [] = 0
first_at (t ∷ ts) = t.at

abbrev IsAt : ℕ → RawTerm → Names → Type 0
IsAt at t table = t.at ≡ at

used_at : (names : Names) (at : ℕ) (w : Word) → Reads names (used names at w) (IsAt at)
unfolding used
used_at names at w = go (sort_of w)
  where
    go : (s : Sort) → Reads names (name_by s names at w) (IsAt at)
    go Variable = tt
    go Name = (keeps_word names w, λ table k. refl)
    go Other = tt

more_any : (p : Placed) (st : State) → Reads st.0 (more_names st p) Any
unfolding more_names
more_any cut st = tt
more_any (close at) st = (keeps_same st.0, λ table k. tt)
more_any (list at p q) st = tt
more_any (word at w p) st =
    reads_then same (IsAt at) Any st.0 (used st.0 at w) (λ t. more_names (t.1, with_word st.1 w) p >>= (λ ts. Ok (unless (is_among w st.1) t.0 ts.0, ts.1))) (used_at st.0 at w)
    (λ t. reads_map Any (λ ts table. IsAt at t.0 table → Any ts table) t.1 (more_names (t.1, with_word st.1 w) p) (unless (is_among w st.1) t.0) (more_any p (t.1, with_word st.1 w)) (λ ts table is one. tt))

abbrev BeginsAt : ℕ → List RawTerm → Names → Type 0
BeginsAt at ts table = first_at ts ≡ at

some_begin : (p : Placed) (names : Names) → Reads names (some_names names p) (BeginsAt (front_place p))
unfolding some_names
some_begin cut names = tt
some_begin (close at) names = tt
some_begin (list at p q) names = tt
some_begin (word at w p) names =
    reads_then same (IsAt at) (BeginsAt at) names (used names at w) (λ t. more_names (t.1, with_word [] w) p >>= (λ ts. Ok (t.0 ∷ ts.0, ts.1))) (used_at names at w)
    (λ t. reads_map Any (λ ts table. IsAt at t.0 table → BeginsAt at ts table) t.1 (more_names (t.1, with_word [] w) p) (λ ts. t.0 ∷ ts) (more_any p (t.1, with_word [] w)) (λ ts table is one. one))

-- either and words, at the place of the first word
abbrev IsEither : Placed → List RawTerm → Names → Type 0
IsEither p ts table = (at : ℕ) × (u : Word) × (q : Placed) × (p ≡ word at u q) × (is_either u ≡ true) × (first_at ts ≡ front_place q)

union_either : (p : Placed) (names : Names) → Reads names (union names p) (IsEither p)
unfolding union
union_either cut names = tt
union_either (close at) names = tt
union_either (list at p q) names = tt
union_either (word at u p) names = go (is_either u) refl
  where
    go : (b : Bool) → is_either u ≡ b → Reads names (if b then some_names names p else Err (Departs 8 at)) (IsEither (word at u p))
    go true e = reads_weaken (BeginsAt (front_place p)) (IsEither (word at u p)) names (some_names names p) (some_begin p names) (λ ts table is. (at, u, p, refl, e, is))
    go false e = tt

-- where it may stand
abbrev MayBe : ListKind → Placed → List RawTerm → Names → Type 0
MayBe kind p ts table = IsEither p ts table × (are_variables kind ≡ true)

due_either : (kind : ListKind) (p : Placed) (names : Names) (at : ℕ) → Reads names (union_due kind names at p) (MayBe kind p)
due_either kind p names at = go (are_variables kind) refl
  where
    go : (b : Bool) → are_variables kind ≡ b → Reads names (if b then union names p else Err (Departs 8 at)) (MayBe kind p)
    go true e = reads_weaken (IsEither p) (MayBe kind p) names (union names p) (union_either p names) (λ ts table is. (is, e))
    go false e = tt

same_union : (b : Bool) (at : ℕ) (u : Word) (q : Placed) (ts : List RawTerm) (table : Names) → is_either u ≡ true → first_at ts ≡ front_place q → TypesBound b (Some (group (parts_of (word at u q)))) ts table → types_unions table ts ≡ inside_at (word at u q)
same_union b at u q [] table e f t = absurd t.1
same_union b at u q (t ∷ ts) table e f is =
    let here = flip (codes "either") u ∙ e in
    let said : said_words table (t ∷ ts) ≡ first_seen [] (words_in (parts_of q)) = is.1 ∙ cond-true _ _ _ here in
    (λ i. union_at (f i) (first_seen [] (said i))) ∙ ap (union_at (front_place q)) (kept_again [] [] (words_in (parts_of q)) (λ u e. e)) ∙ sym (cond-true _ _ _ here)

-- the union of a part
abbrev UnionIs : ListKind → Placed → List RawTerm → Names → Type 0
UnionIs kind p ts table = (types_unions table ts ≡ inside_at p) × (are_variables kind ≡ true)

union_is : (kind : ListKind) (p : Placed) (names : Names) (at : ℕ) → Reads names (union_due kind names at p) (UnionIs kind p)
union_is kind p names at =
    reads_weaken (λ ts table. TypesBound (are_variables kind) (Some (group (parts_of p))) ts table × MayBe kind p ts table) (UnionIs kind p) names (union_due kind names at p)
    (reads_both (TypesBound (are_variables kind) (Some (group (parts_of p)))) (MayBe kind p) names (union_due kind names at p) (union_due_bound kind p names at) (due_either kind p names at))
    (λ ts table is. (made ts table is.0 is.1.0, is.1.1))
  where
    made : (ts : List RawTerm) (table : Names) → TypesBound (are_variables kind) (Some (group (parts_of p))) ts table → IsEither p ts table → types_unions table ts ≡ inside_at p
    made ts table t (at, u, q, e, f, g) = same_union (are_variables kind) at u q ts table f g (subst (λ p. TypesBound (are_variables kind) (Some (group (parts_of p))) ts table) e t) ∙ ap inside_at (sym e)

-- one name is none
abbrev NoUnion : List RawTerm → Names → Type 0
NoUnion ts table = types_unions table ts ≡ []

type_alone : (kind : ListKind) (names : Names) (at : ℕ) (w : Word) → Reads names (type_due kind names at w) NoUnion
unfolding type_by
type_alone kind names at w = go (sort_of w)
  where
    other : (b : Bool) → Reads {X = List RawTerm} names (if b then Err (Departs (undeclared w) at) else Err (Departs 8 at)) NoUnion
    other true = tt
    other false = tt

    go : (s : Sort) → Reads names (type_by s kind names at w) NoUnion
    go Variable = tt
    go Name = (keeps_word names w, λ table k. refl)
    go Other = other (are_types kind)

-- The words of a list, and the type of the words in front of them. Only a list of variables has unions.
abbrev FrontSeen : ListKind → Placed → List RawTerm × List RawParam → Names → Type 0
FrontSeen kind p r table = Same (params_unions table r.1) (unions_at p) × (are_variables kind ≡ false → unions_at p ≡ [])

abbrev RestSeen : ListKind → Placed → List RawTerm × List RawParam → Names → Type 0
RestSeen kind p r table = Same (types_unions table r.0 ++ params_unions table r.1) (unions_at p) × (are_variables kind ≡ false → unions_at p ≡ [])

word_seen : (kind : ListKind) (st : State) (at : ℕ) (w : Word) (p : Placed) (Q : List RawTerm × List RawParam → Names → Type 0) (h : RawParam → List RawTerm × List RawParam → List RawTerm × List RawParam)
    → ((x : RawParam) (r : List RawTerm × List RawParam) (table : Names) → RestSeen kind p r table → Q (h x r) table)
    → ((st : State) → Reads st.0 (behind kind st p) (RestSeen kind p)) → Reads st.0 (param_due kind st at w >>= (λ x. behind kind x.1 p >>= (λ r. Ok (h x.0 r.0, r.1)))) Q
word_seen kind st at w p Q h fit rest =
    reads_then words_of (WordBound kind w) Q st.0 (param_due kind st at w) (λ x. behind kind x.1 p >>= (λ r. Ok (h x.0 r.0, r.1))) (param_bound kind st at w)
    (λ x. reads_map (RestSeen kind p) (λ r table. WordBound kind w x.0 table → Q r table) x.1.0 (behind kind x.1 p) (h x.0) (rest x.1) (λ r table is one. fit x.0 r table is))

by_hyphen : (kind : ListKind) (st : State) (at : ℕ) (w : Word) (p : Placed) → Reads st.0 (typed kind st p) (RestSeen kind p) → Reads st.0 (param_due kind st at w >>= (λ x. behind kind x.1 p >>= (λ r. Ok (one_more x.0 r)))) (RestSeen kind p) → Reads st.0 (behind kind st (word at w p)) (RestSeen kind p)
unfolding behind
by_hyphen kind st at w p t d = go (is_hyphen w)
  where
    go : (b : Bool) → Reads st.0 (let a : Result Rest Stop = elim b [ true ↦ typed kind st p | false ↦ param_due kind st at w >>= (λ x. behind kind x.1 p >>= (λ r. Ok (one_more x.0 r))) ] in a) (RestSeen kind p)
    go true = t
    go false = d

mutual
  unfolding params behind typed

  params_seen : (p : Placed) (kind : ListKind) (st : State) → Reads st.0 (params kind st p) (FrontSeen kind p)
  params_seen cut kind st = tt
  params_seen (close at) kind st = (keeps_same st.0, λ table k. (same_refl [], λ e. refl))
  params_seen (list at p q) kind st = tt
  params_seen (word at w p) kind st = word_seen kind st at w p (FrontSeen kind p) (λ x r. ([], with_type r.0 x ∷ r.1)) (λ x r table is. is) (λ st. behind_seen p kind st)

  behind_seen : (p : Placed) (kind : ListKind) (st : State) → Reads st.0 (behind kind st p) (RestSeen kind p)
  behind_seen cut kind st = tt
  behind_seen (close at) kind st = (keeps_same st.0, λ table k. (same_refl [], λ e. refl))
  behind_seen (list at p q) kind st = tt
  behind_seen (word at w p) kind st =
      by_hyphen kind st at w p (typed_seen p kind st)
      (word_seen kind st at w p (RestSeen kind p) (λ x r. (r.0, with_type r.0 x ∷ r.1)) (λ x r table is. (same_twice (types_unions table r.0) (params_unions table r.1) (unions_at p) is.0, is.1)) (λ st. behind_seen p kind st))

  typed_seen : (p : Placed) (kind : ListKind) (st : State) → Reads st.0 (typed kind st p) (RestSeen kind p)
  typed_seen cut kind st = tt
  typed_seen (close at) kind st = tt
  typed_seen (word at w p) kind st =
      reads_then same NoUnion (RestSeen kind p) st.0 (type_due kind st.0 at w) (λ t. params kind (t.1, st.1) p >>= (λ r. Ok (typed_with t.0 r))) (type_alone kind st.0 at w)
      (λ t. reads_map (FrontSeen kind p) (λ r table. NoUnion t.0 table → RestSeen kind p r table) t.1 (params kind (t.1, st.1) p) (λ r. (t.0, r.1)) (params_seen p kind (t.1, st.1))
      (λ r table is one. (subst (λ us. Same (us ++ params_unions table r.1) (unions_at p)) (sym one) is.0, is.1)))
  typed_seen (list at p q) kind st =
      reads_then same (UnionIs kind p) (RestSeen kind (list at p q)) st.0 (union_due kind st.0 at p) (λ t. params kind (t.1, st.1) q >>= (λ r. Ok (typed_with t.0 r))) (union_is kind p st.0 at)
      (λ t. reads_map (FrontSeen kind q) (λ r table. UnionIs kind p t.0 table → RestSeen kind (list at p q) r table) t.1 (params kind (t.1, st.1) q) (λ r. (t.0, r.1)) (params_seen q kind (t.1, st.1))
      (λ r table is one. (same_join (types_unions table t.0) (inside_at p) (params_unions table r.1) (unions_at q) (same_by (types_unions table t.0) (inside_at p) one.0) is.0, λ e. false_true (sym e ∙ one.1))))

abbrev pub ListSeen : Placed → List RawParam → Names → Type 0
ListSeen p xs table = Same (params_unions table xs) (unions_at p)

pub listed_seen : (p : Placed) (kind : ListKind) (names : Names) → Reads names (listed kind names p) (ListSeen p)
listed_seen p kind names = reads_map (FrontSeen kind p) (ListSeen p) names (params kind (names, []) p) (λ r. r.1) (params_seen p kind (names, [])) (λ r table is. is.0)

-- objects and types write none
pub listed_none : (p : Placed) (kind : ListKind) (names : Names) → are_variables kind ≡ false → Reads names (listed kind names p) (λ xs table. unions_at p ≡ [])
listed_none p kind names e = reads_map (FrontSeen kind p) (λ xs table. unions_at p ≡ []) names (params kind (names, []) p) (λ r. r.1) (params_seen p kind (names, [])) (λ r table is. is.1 e)

-- a list of parameters begins with a variable
abbrev Begins : Parts → List RawParam → Names → Type 0
Begins nothing xs table = Unit {0}
Begins (part (name w) ps) xs table = declares Parameters w ≡ true
Begins (part (group qs) ps) xs table = ⊥

behind_variable : (at : ℕ) (w u : Word) (p : Placed) → w ≡ 63 ∷ u → inside_at (word at w p) ≡ unions_at p
behind_variable at w u p e = ap (λ w. inside_at (word at w p)) e

same_inside : (p : Placed) (xs : List RawParam) (table : Names) → Begins (parts_of p) xs table → unions_at p ≡ inside_at p
same_inside cut xs table b = refl
same_inside (close at) xs table b = refl
same_inside (word at w p) xs table b = let m = parameter_marked w b in sym (behind_variable at w m.0 p m.1)
same_inside (list at p q) xs table b = absurd b

abbrev pub InsideSeen : Placed → List RawParam → Names → Type 0
InsideSeen p xs table = Same (params_unions table xs) (inside_at p)

-- parameters in their parentheses
pub parameters_seen : (p : Placed) (names : Names) → Reads names (listed Parameters names p) (InsideSeen p)
parameters_seen p names =
    reads_weaken (λ xs table. ListSeen p xs table × Begins (parts_of p) xs table) (InsideSeen p) names (listed Parameters names p)
    (reads_both (ListSeen p) (Begins (parts_of p)) names (listed Parameters names p) (listed_seen p Parameters names) (listed_with Parameters Begins (λ table. tt) (λ p w x r table is one. one.1) p names))
    (λ xs table is. subst (Same (params_unions table xs)) (same_inside p xs table is.1) is.0)
