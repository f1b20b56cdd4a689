-- The words of a list of types that was read are those that its parts write, and its items are those that they say.
use Rattle.std.proofs.Common.{◌≡◌, ◌∙◌, ℕ, suc, inl, inr, Bool, true, false, cond, codes, Ok, Result, List, [], ◌∷◌, ◌++◌, map, Option, None, refl, sym, ap, subst, arith}
use Rattle.std.proofs.lemmas.Bool.{cond-true, cond-false}
use Rattle.std.specs.Str.{bytes_eq}
use Rattle.text_forms.specs.Lists.{Part, Parts, nothing, part}
use Rattle.text_forms.specs.Placed.{Placed, cut, close, word, list, parts_of}
use Rattle.text_forms.specs.Words.{Word, is_name}
use Rattle.plan_texts.specs.Declared.{Declared, named}
use Rattle.plan_texts.specs.FirstSeen.{type_words_in, word_said, type_items}
use Rattle.plan_texts.specs.Together.{Together}
use Rattle.plan_texts.specs.TypedLists.{is_dash, ahead, skipped, skipped_by, EachTyped}
use Rattle.plan_texts.specs.Types.{TypeItem, IsTypeItem, parent_said}
use Rattle.plan_texts.proofs.Basics.{no_keyword'}
use Rattle.plan_texts.proofs.Unique.{map-append}
use Rattle.gd_reader.specs.declared.stop.Stop.{Stop}
use Rattle.gd_reader.specs.declared.term.RawTerm.{RawTerm}
use Rattle.gd_reader.specs.declared.typed_lists.ListKind.TheVariants.{Types}
use Rattle.gd_reader.specs.declared.typed_lists.RawParam.{RawParam}
use Rattle.gd_reader.specs.declared.words.Sort.{Sort}
use Rattle.gd_reader.specs.declared.words.Sort.TheVariants.{Variable, Name, Other}
use Rattle.gd_reader.specs.Answers.{◌>>=◌}
use Rattle.gd_reader.specs.Terms.{Names}
use Rattle.gd_reader.specs.TypedLists.{State, param_by, param_due, type_by, type_due, with_type, Rest, one_more, typed_with, params, behind, typed, listed}
use Rattle.gd_reader.specs.Words.{sort_of, is_hyphen}
use Rattle.gd_reader.proofs.Keeping.{keeps_same, keeps_word}
use Rattle.text_values.specs.form_spellings.Bound.{parent_of, IsBoundType}
use Rattle.text_values.specs.form_spellings.Rising.{mentioned}
use Rattle.text_values.specs.form_spellings.Written.{Written, all_written, word_written, type_words, parent_written, item_written}
use Rattle.text_values.proofs.form_spellings.KeptWords.{ReadsBy, Reads, reads_then, reads_map}
use Rattle.text_values.proofs.form_spellings.ListsIn.{words_of}
use Rattle.text_values.proofs.form_spellings.TermsBound.{word_stands}
use Rattle.text_values.proofs.form_spellings.TermsExact.{TypesExact}
use Rattle.text_values.proofs.form_spellings.TermsIn.{same}
use Rattle.text_values.proofs.form_spellings.Unions.{flip}
use Rattle.text_values.proofs.form_spellings.WordTests.{name_of_sort}
use Rattle.text_values.proofs.form_spellings.order.Climbs.{Climbs, climbs_from}
use Rattle.text_values.proofs.form_spellings.order.Spans.{Span, fits}
use Rattle.text_values.proofs.form_spellings.seen.Adding.{Same, same_refl, same_by, same_join, has_split, has_left, has_right}

abbrev word_of : ℕ → Word → Written Word
word_of at w = record { at = at; is = w }

-- the words that stand in a list of types, each with its place
abbrev pub words_at : Placed → List (Written Word)
words_at cut = []
words_at (close at) = []
words_at (list at p q) = words_at q
words_at (word at w p) = cond (bytes_eq (codes "-") w) (words_at p) (word_of at w ∷ words_at p)

pub words_erased : (p : Placed) → all_written (words_at p) ≡ type_words_in (parts_of p)
words_erased cut = refl
words_erased (close at) = refl
words_erased (list at p q) = words_erased q
words_erased (word at w p) = go (bytes_eq (codes "-") w) (words_erased p)
  where
    go : (b : Bool) → all_written (words_at p) ≡ type_words_in (parts_of p) → all_written (cond b (words_at p) (word_of at w ∷ words_at p)) ≡ cond b (type_words_in (parts_of p)) (w ∷ type_words_in (parts_of p))
    go true e = e
    go false e = ap (λ ws. w ∷ ws) e

abbrev pub word_place : Written Word → ℕ
word_place w = w.at

pub words_climb : (p : Placed) (from to : ℕ) → Span from p to → Climbs word_place from (words_at p) to
words_climb cut from to s = s
words_climb (close at) from to s = fits (close at) from to s
words_climb (list at p q) from to s =
    let a = s.0 in
    let b = fits p (suc at) s.1 s.2 in
    climbs_from word_place (words_at q) from s.1 to (omega arith) (words_climb q s.1 to s.3)
words_climb (word at w p) from to s = go (bytes_eq (codes "-") w) (words_climb p (suc at) to s.1)
  where
    go : (b : Bool) → Climbs word_place (suc at) (words_at p) to → Climbs word_place from (cond b (words_at p) (word_of at w ∷ words_at p)) to
    go true c = let a = s.0 in climbs_from word_place (words_at p) from (suc at) to (omega arith) c
    go false c = (s.0, c)

-- a name is no hyphen
named_at : (at : ℕ) (w : Word) (p : Placed) → is_name w ≡ true → words_at (word at w p) ≡ word_of at w ∷ words_at p
named_at at w p e = cond-false _ _ _ (no_keyword' w (codes "-") e refl)

hyphen_at : (at : ℕ) (w : Word) (p : Placed) → is_hyphen w ≡ true → words_at (word at w p) ≡ words_at p
hyphen_at at w p e = cond-true _ _ _ (flip (codes "-") w ∙ e)

-- a declared word, and a type, at their places
abbrev IsOwn : ℕ → Word → RawParam → Names → Type 0
IsOwn at w x table = (word_of x.at (named table x.name) ≡ word_of at w) × (is_name w ≡ true)

own_word : (st : State) (at : ℕ) (w : Word) → ReadsBy words_of st.0 (param_due Types st at w) (IsOwn at w)
unfolding param_by
own_word st at w = go (sort_of w) refl
  where
    go : (s : Sort) → sort_of w ≡ s → ReadsBy words_of st.0 (param_by s Types st at w) (IsOwn at w)
    go Variable e = tt
    go Name e = (keeps_word st.0 w, λ table k. (ap (word_of at) (word_stands st.0 w table k), name_of_sort w e))
    go Other e = tt

abbrev types_written : Names → List RawTerm → List (Written Word)
types_written table ts = map (word_written table) ts

abbrev IsParent : ℕ → Word → List RawTerm → Names → Type 0
IsParent at w ts table = (types_written table ts ≡ word_of at w ∷ []) × (is_name w ≡ true)

parent_word : (names : Names) (at : ℕ) (w : Word) → Reads names (type_due Types names at w) (IsParent at w)
unfolding type_by
parent_word names at w = go (sort_of w) refl
  where
    go : (s : Sort) → sort_of w ≡ s → Reads names (type_by s Types names at w) (IsParent at w)
    go Variable e = tt
    go Name e = (keeps_word names w, λ table k. (ap (λ u. word_of at u ∷ []) (word_stands names w table k), name_of_sort w e))
    go Other e = tt

-- a word with its types, and the words behind
words_joined : (table : Names) (x : RawParam) (ts : List RawTerm) (xs : List RawParam) → type_words table (with_type ts x ∷ xs) ≡ word_of x.at (named table x.name) ∷ (types_written table ts ++ type_words table xs)
words_joined table x ts xs = ap (λ ws. word_of x.at (named table x.name) ∷ ws) (map-append (word_written table) ts (mentioned xs))

abbrev FrontIs : Placed → List RawTerm × List RawParam → Names → Type 0
FrontIs p r table = Same (type_words table r.1) (words_at p)

abbrev RestIs : Placed → List RawTerm × List RawParam → Names → Type 0
RestIs p r table = Same (types_written table r.0 ++ type_words table r.1) (words_at p)

-- one more word in front, whose type waits or not
front_word : (at : ℕ) (w : Word) (p : Placed) (x : RawParam) (r : List RawTerm × List RawParam) (table : Names) → RestIs p r table → IsOwn at w x table → Same (type_words table (with_type r.0 x ∷ r.1)) (words_at (word at w p))
front_word at w p x r table is one =
    subst (λ ws. Same ws (words_at (word at w p))) (sym (words_joined table x r.0 r.1))
    (subst (Same (word_of x.at (named table x.name) ∷ (types_written table r.0 ++ type_words table r.1))) (sym (named_at at w p one.1))
    (same_join (word_of x.at (named table x.name) ∷ []) (word_of at w ∷ []) (types_written table r.0 ++ type_words table r.1) (words_at p) (same_by (word_of x.at (named table x.name) ∷ []) (word_of at w ∷ []) (ap (λ u. u ∷ []) one.0)) is))

-- what stands behind a word is there already
held : {X : Type 0} (xs ys zs : List X) (y : X) → Same (y ∷ (xs ++ ys)) zs → Same (xs ++ (y ∷ (xs ++ ys))) zs
held xs ys zs y a x = (
  λ h. (a x).0 (elim (has_split xs (y ∷ (xs ++ ys)) x h) [ inl k ↦ inr (has_left xs ys x k) | inr k ↦ k ]),
  λ h. has_right xs (y ∷ (xs ++ ys)) x ((a x).1 h),
)

rest_word : (at : ℕ) (w : Word) (p : Placed) (x : RawParam) (r : List RawTerm × List RawParam) (table : Names) → RestIs p r table → IsOwn at w x table → RestIs (word at w p) (r.0, with_type r.0 x ∷ r.1) table
rest_word at w p x r table is one =
    let joined = words_joined table x r.0 r.1 in
    subst (λ ws. Same (types_written table r.0 ++ ws) (words_at (word at w p))) (sym joined)
    (held (types_written table r.0) (type_words table r.1) (words_at (word at w p)) (word_of x.at (named table x.name)) (subst (λ ws. Same ws (words_at (word at w p))) joined (front_word at w p x r table is one)))

word_is : (st : State) (at : ℕ) (w : Word) (p : Placed) (Q : List RawTerm × List RawParam → Names → Type 0) (h : RawParam → List RawTerm × List RawParam → List RawTerm × List RawParam)
    → ((x : RawParam) (r : List RawTerm × List RawParam) (table : Names) → RestIs p r table → IsOwn at w x table → Q (h x r) table)
    → ((st : State) → Reads st.0 (behind Types st p) (RestIs p)) → Reads st.0 (param_due Types st at w >>= (λ x. behind Types x.1 p >>= (λ r. Ok (h x.0 r.0, r.1)))) Q
word_is st at w p Q h fit rest =
    reads_then words_of (IsOwn at w) Q st.0 (param_due Types st at w) (λ x. behind Types x.1 p >>= (λ r. Ok (h x.0 r.0, r.1))) (own_word st at w)
    (λ x. reads_map (RestIs p) (λ r table. IsOwn at w x.0 table → Q r table) x.1.0 (behind Types x.1 p) (h x.0) (rest x.1) (λ r table is one. fit x.0 r table is one))

by_hyphen : (st : State) (at : ℕ) (w : Word) (p : Placed) → Reads st.0 (typed Types st p) (RestIs p) → Reads st.0 (param_due Types st at w >>= (λ x. behind Types x.1 p >>= (λ r. Ok (one_more x.0 r)))) (RestIs (word at w p)) → Reads st.0 (behind Types st (word at w p)) (RestIs (word at w p))
unfolding behind
by_hyphen st at w p t d = go (is_hyphen w) refl
  where
    go : (b : Bool) → is_hyphen w ≡ b → Reads st.0 (let a : Result Rest Stop = elim b [ true ↦ typed Types st p | false ↦ param_due Types st at w >>= (λ x. behind Types x.1 p >>= (λ r. Ok (one_more x.0 r))) ] in a) (RestIs (word at w p))
    go true e = subst (λ ws. Reads st.0 (typed Types st p) (λ r table. Same (types_written table r.0 ++ type_words table r.1) ws)) (sym (hyphen_at at w p e)) t
    go false e = d

mutual
  unfolding params behind typed

  params_are : (p : Placed) (st : State) → Reads st.0 (params Types st p) (FrontIs p)
  params_are cut st = tt
  params_are (close at) st = (keeps_same st.0, λ table k. same_refl [])
  params_are (list at p q) st = tt
  params_are (word at w p) st = word_is st at w p (FrontIs (word at w p)) (λ x r. ([], with_type r.0 x ∷ r.1)) (λ x r table is one. front_word at w p x r table is one) (λ st. behind_are p st)

  behind_are : (p : Placed) (st : State) → Reads st.0 (behind Types st p) (RestIs p)
  behind_are cut st = tt
  behind_are (close at) st = (keeps_same st.0, λ table k. same_refl [])
  behind_are (list at p q) st = tt
  behind_are (word at w p) st = by_hyphen st at w p (typed_are p st) (word_is st at w p (RestIs (word at w p)) (λ x r. (r.0, with_type r.0 x ∷ r.1)) (λ x r table is one. rest_word at w p x r table is one) (λ st. behind_are p st))

  typed_are : (p : Placed) (st : State) → Reads st.0 (typed Types st p) (RestIs p)
  typed_are cut st = tt
  typed_are (close at) st = tt
  typed_are (list at p q) st = tt
  typed_are (word at w p) st =
      reads_then same (IsParent at w) (RestIs (word at w p)) st.0 (type_due Types st.0 at w) (λ t. params Types (t.1, st.1) p >>= (λ r. Ok (typed_with t.0 r))) (parent_word st.0 at w)
      (λ t. reads_map (FrontIs p) (λ r table. IsParent at w t.0 table → RestIs (word at w p) r table) t.1 (params Types (t.1, st.1) p) (λ r. (t.0, r.1)) (params_are p (t.1, st.1))
      (λ r table is one. subst (Same (types_written table t.0 ++ type_words table r.1)) (sym (named_at at w p one.1)) (same_join (types_written table t.0) (word_of at w ∷ []) (type_words table r.1) (words_at p) (same_by (types_written table t.0) (word_of at w ∷ []) one.0) is)))

abbrev pub WordsSeen : Placed → List RawParam → Names → Type 0
WordsSeen p xs table = Same (type_words table xs) (words_at p)

pub type_words_seen : (p : Placed) (names : Names) → Reads names (listed Types names p) (WordsSeen p)
type_words_seen p names = reads_map (FrontIs p) (WordsSeen p) names (params Types (names, []) p) (λ r. r.1) (params_are p (names, [])) (λ r table is. is)

-- The items that are spelled are the items that are said.
behind_dash : (ps : Parts) → type_items ps ≡ type_items (skipped ps)
behind_dash nothing = refl
behind_dash (part p nothing) = refl
behind_dash (part p (part q ps)) = go (is_dash p) refl
  where
    go : (b : Bool) → is_dash p ≡ b → type_items (part p (part q ps)) ≡ type_items (skipped_by (is_dash p) ps (part p (part q ps)))
    go true e = cond-true _ _ _ e ∙ ap (λ b. type_items (skipped_by b ps (part p (part q ps)))) (sym e)
    go false e = ap (λ b. type_items (skipped_by b ps (part p (part q ps)))) (sym e)

item_is : (x : TypeItem) (p : Part) (said : Option Part) → IsTypeItem x p said → (word_said p, parent_said said) ≡ x
item_is x p said is i = (ap word_said is.0 i, sym is.2 i)

pub items_are : (xs : List TypeItem) (ps : Parts) → EachTyped IsTypeItem xs ps → type_items ps ≡ xs
items_are [] nothing e = refl
items_are [] (part p ps) e = absurd e
items_are (x ∷ xs) nothing e = absurd e
items_are (x ∷ []) (part p nothing) e = ap (λ x. x ∷ []) (item_is x p None e.0)
items_are (x ∷ y ∷ xs) (part p nothing) e = absurd e.1
items_are (x ∷ xs) (part p (part q ps)) e =
    let plain : is_dash p ≡ false = ap is_dash e.0.0 ∙ no_keyword' x.0 (codes "-") e.0.1 refl in
    cond-false _ _ _ plain ∙ (λ i. item_is x p (ahead (part q ps)) e.0 i ∷ (behind_dash (part q ps) ∙ items_are xs (skipped (part q ps)) e.1) i)

any_words : Declared
any_words = record { names = []; types = []; unions = []; objects = []; predicates = [] }

same_parent : (table : Names) (ts : List RawTerm) → parent_written table ts ≡ parent_of any_words table ts
same_parent table [] = refl
same_parent table (t ∷ ts) = refl

items_bound : (table : Names) (rs : List RawParam) → Together (IsBoundType any_words table) rs (map (item_written table) rs)
items_bound table [] = tt
items_bound table (r ∷ rs) = ((refl, same_parent table r.ty), items_bound table rs)

pub items_seen : (ps : Parts) (rs : List RawParam) (table : Names) → TypesExact ps rs table → type_items ps ≡ map (item_written table) rs
items_seen ps rs table is = items_are (map (item_written table) rs) ps ((is any_words (map (item_written table) rs)).0 (items_bound table rs))
