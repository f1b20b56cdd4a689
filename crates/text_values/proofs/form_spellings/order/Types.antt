-- The types of declared words are read at rising offsets, none of one word twice.
use Rattle.std.proofs.Common.{◌≡◌, ℕ, suc, ◌≤◌, ◌<◌, Bool, true, false, if◌then◌else◌, Ok, Err, List, [], ◌∷◌, ◌++◌, length, map, refl, sym, subst, ◌∙◌, arith}
use Rattle.htn_base.specs.Different.{AreDifferent}
use Rattle.htn_base.specs.Table.{with_word}
use Rattle.text_forms.specs.Placed.{Placed, cut, close, word, list}
use Rattle.text_forms.specs.Printing.{are_folded}
use Rattle.text_forms.specs.Words.{Word, is_among}
use Rattle.plan_texts.specs.Printable.{IsPlain}
use Rattle.plan_texts.specs.Types.{EachIs}
use Rattle.gd_reader.specs.declared.stop.Stop.TheVariants.{Departs}
use Rattle.gd_reader.specs.declared.term.RawTerm.{RawTerm}
use Rattle.gd_reader.specs.declared.typed_lists.ListKind.{ListKind}
use Rattle.gd_reader.specs.declared.words.Sort.{Sort}
use Rattle.gd_reader.specs.declared.words.Sort.TheVariants.{Variable, Name, Other}
use Rattle.gd_reader.specs.Answers.{◌>>=◌}
use Rattle.gd_reader.specs.Terms.{Names, used}
use Rattle.gd_reader.specs.TypedLists.{State, are_variables, are_types, undeclared, type_by, type_due, unless, more_names, some_names, union, union_due}
use Rattle.gd_reader.specs.Words.{sort_of, is_either}
use Rattle.gd_reader.proofs.Keeping.{keeps_same, keeps_word}
use Rattle.text_values.specs.form_spellings.InOrder.{term_word, IsPlainName}
use Rattle.text_values.proofs.form_spellings.Freshness.{AllFresh, join_fresh, no_fresh}
use Rattle.text_values.proofs.form_spellings.KeptWords.{Reads, reads_then, reads_map, reads_weaken}
use Rattle.text_values.proofs.form_spellings.TermsBound.{word_stands}
use Rattle.text_values.proofs.form_spellings.TermsIn.{same}
use Rattle.text_values.proofs.form_spellings.WordTests.{false_true, name_of_sort}
use Rattle.text_values.proofs.form_spellings.order.Climbs.{Climbs, climbs_from, climbs_to, climbs_put}
use Rattle.text_values.proofs.form_spellings.order.Spans.{Span}
use Rattle.text_values.proofs.form_spellings.order.Terms.{IsReadAs, plain_word, used_as, term_place}

-- a folded NAME
abbrev pub IsTypeName : Names → RawTerm → Type 0
IsTypeName table t = (t.variable ≡ false) × IsPlainName table t

-- names of a union behind words that it has already
pub record AreMore (from to : ℕ) (seen : List Word) (ts : List RawTerm) (table : Names) : Type 0 where
  pub climbs : Climbs term_place from ts to
  pub names : EachIs (IsTypeName table) ts
  pub fresh : AllFresh true seen (map (term_word table) ts)

-- the types of the words in front
pub record AreTypes (kind : ListKind) (from to : ℕ) (ts : List RawTerm) (table : Names) : Type 0 where
  pub climbs : Climbs term_place from ts to
  pub names : EachIs (IsTypeName table) ts
  pub differ : AreDifferent (map (term_word table) ts)
  pub alone : are_variables kind ≡ false → length ts ≤ 1

pub no_types : (kind : ListKind) (from to : ℕ) (table : Names) → from ≤ to → AreTypes kind from to [] table
no_types kind from to table l = record { climbs = l; names = tt; differ = tt; alone = λ e. omega arith }

pub types_from : (kind : ListKind) (before from to : ℕ) (ts : List RawTerm) (table : Names) → before ≤ from → AreTypes kind from to ts table → AreTypes kind before to ts table
types_from kind before from to ts table l is = record { climbs = climbs_from term_place ts before from to l is.climbs; names = is.names; differ = is.differ; alone = is.alone }

pub types_to : (kind : ListKind) (from to later : ℕ) (ts : List RawTerm) (table : Names) → to ≤ later → AreTypes kind from to ts table → AreTypes kind from later ts table
types_to kind from to later ts table l is = record { climbs = climbs_to term_place ts from to later l is.climbs; names = is.names; differ = is.differ; alone = is.alone }

-- one more name in front, where it is not there yet
one_more : (from to at : ℕ) (seen : List Word) (w : Word) (t : RawTerm) (ts : List RawTerm) (table : Names) → from ≤ at → is_among w seen ≡ false → IsReadAs at w t table → AreMore (suc at) to (with_word seen w) ts table → AreMore from to seen (t ∷ ts) table
one_more from to at seen w t ts table l new one is = record {
  climbs = climbs_put term_place t ts at from to one.0 l is.climbs;
  names = ((one.1, plain_word at w t table one), is.names);
  fresh = subst (λ u. AllFresh true seen (u ∷ map (term_word table) ts)) (sym one.2) (join_fresh true seen w (map (term_word table) ts) new is.fresh);
}

-- and where it is
none_more : (from to at : ℕ) (seen : List Word) (w : Word) (ts : List RawTerm) (table : Names) → from ≤ at → is_among w seen ≡ true → AreMore (suc at) to (with_word seen w) ts table → AreMore from to seen ts table
none_more from to at seen w ts table l old is = record {
  climbs = climbs_from term_place ts from (suc at) to (omega arith) is.climbs;
  names = is.names;
  fresh = subst (λ b. AllFresh true (if b then seen else seen ++ w ∷ []) (map (term_word table) ts)) old is.fresh;
}

kept : (b : Bool) (from to at : ℕ) (seen : List Word) (w : Word) (t : RawTerm) (ts : List RawTerm) (table : Names) → is_among w seen ≡ b → from ≤ at → IsReadAs at w t table → AreMore (suc at) to (with_word seen w) ts table → AreMore from to seen (unless b t ts) table
kept true from to at seen w t ts table e l one is = none_more from to at seen w ts table l e is
kept false from to at seen w t ts table e l one is = one_more from to at seen w t ts table l e one is

more_are : (p : Placed) (st : State) (from to : ℕ) → Span from p to → Reads st.0 (more_names st p) (AreMore from to st.1)
unfolding more_names
more_are cut st from to s = tt
more_are (close at) st from to s = let a = s.0 in let b = s.1 in (keeps_same st.0, λ table k. record { climbs = omega arith; names = tt; fresh = no_fresh true st.1 })
more_are (list at p q) st from to s = tt
more_are (word at w p) st from to s =
    reads_then same (IsReadAs at w) (AreMore from to st.1) st.0 (used st.0 at w) (λ t. more_names (t.1, with_word st.1 w) p >>= (λ ts. Ok (unless (is_among w st.1) t.0 ts.0, ts.1))) (used_as st.0 at w s.2)
    (λ t. reads_map (AreMore (suc at) to (with_word st.1 w)) (λ ts table. IsReadAs at w t.0 table → AreMore from to st.1 ts table) t.1 (more_names (t.1, with_word st.1 w) p) (unless (is_among w st.1) t.0) (more_are p (t.1, with_word st.1 w) (suc at) to s.1)
    (λ ts table is one. kept (is_among w st.1) from to at st.1 w t.0 ts table refl s.0 one is))

-- a union, where it may stand
abbrev Union : ℕ → ℕ → List RawTerm → Names → Type 0
Union from to ts table = AreMore from to [] ts table

some_are : (p : Placed) (names : Names) (from to : ℕ) → Span from p to → Reads names (some_names names p) (Union from to)
unfolding some_names
some_are cut names from to s = tt
some_are (close at) names from to s = tt
some_are (list at p q) names from to s = tt
some_are (word at w p) names from to s =
    reads_then same (IsReadAs at w) (Union from to) names (used names at w) (λ t. more_names (t.1, with_word [] w) p >>= (λ ts. Ok (t.0 ∷ ts.0, ts.1))) (used_as names at w s.2)
    (λ t. reads_map (AreMore (suc at) to (with_word [] w)) (λ ts table. IsReadAs at w t.0 table → Union from to ts table) t.1 (more_names (t.1, with_word [] w) p) (λ ts. t.0 ∷ ts) (more_are p (t.1, with_word [] w) (suc at) to s.1)
    (λ ts table is one. one_more from to at [] w t.0 ts table s.0 refl one is))

union_is : (p : Placed) (names : Names) (from to : ℕ) → Span from p to → Reads names (union names p) (Union from to)
unfolding union
union_is cut names from to s = tt
union_is (close at) names from to s = tt
union_is (list at p q) names from to s = tt
union_is (word at w p) names from to s = go (is_either w)
  where
    go : (b : Bool) → Reads names (if b then some_names names p else Err (Departs 8 at)) (Union from to)
    go true = reads_weaken (Union (suc at) to) (Union from to) names (some_names names p) (some_are p names (suc at) to s.1) (λ ts table is. record { climbs = climbs_from term_place ts from (suc at) to (let a = s.0 in omega arith) is.climbs; names = is.names; fresh = is.fresh })
    go false = tt

pub union_due_is : (kind : ListKind) (p : Placed) (names : Names) (at from to : ℕ) → Span from p to → Reads names (union_due kind names at p) (AreTypes kind from to)
union_due_is kind p names at from to s = go (are_variables kind) refl
  where
    go : (b : Bool) → are_variables kind ≡ b → Reads names (if b then union names p else Err (Departs 8 at)) (AreTypes kind from to)
    go true e = reads_weaken (Union from to) (AreTypes kind from to) names (union names p) (union_is p names from to s) (λ ts table is. record { climbs = is.climbs; names = is.names; differ = is.fresh.1; alone = λ f. false_true (sym f ∙ e) })
    go false e = tt

-- one name
pub type_is : (kind : ListKind) (names : Names) (at from to : ℕ) (w : Word) → are_folded w ≡ true → from ≤ at → at < to → Reads names (type_due kind names at w) (AreTypes kind from to)
unfolding type_by
type_is kind names at from to w low l m = go (sort_of w) refl
  where
    other : (b : Bool) → Reads {X = List RawTerm} names (if b then Err (Departs (undeclared w) at) else Err (Departs 8 at)) (AreTypes kind from to)
    other true = tt
    other false = tt

    go : (s : Sort) → sort_of w ≡ s → Reads names (type_by s kind names at w) (AreTypes kind from to)
    go Variable e = tt
    go Name e = (keeps_word names w, λ table k. record { climbs = (l, omega arith); names = ((refl, subst IsPlain (sym (word_stands names w table k)) (low, name_of_sort w e)), tt); differ = (λ h. (let i = h.1 in absurd (omega arith)), tt); alone = λ f. omega arith })
    go Other e = other (are_types kind)
