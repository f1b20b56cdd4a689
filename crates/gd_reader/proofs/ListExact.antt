-- Typed lists are read exactly.
use Rattle.std.proofs.Common.{◌≡◌, ℕ, Bool, true, false, not, ◌&&◌, if◌then◌else◌, Ok, Err, Result, List, [], ◌∷◌, drop, refl, sym, ap, subst}
use Rattle.htn_base.specs.Table.{with_word}
use Rattle.htn_base.specs.Words.{is_reserved}
use Rattle.gd_reader.specs.Forms.{◌followed_by◌}
use Rattle.text_forms.specs.Placed.{Placed, cut, close, word, list}
use Rattle.text_forms.specs.Words.{Word, is_among}
use Rattle.gd_reader.specs.declared.stop.Stop.{Stop}
use Rattle.gd_reader.specs.declared.stop.Stop.TheVariants.{Departs}
use Rattle.gd_reader.specs.declared.term.RawTerm.{RawTerm}
use Rattle.gd_reader.specs.declared.typed_lists.ListKind.{ListKind}
use Rattle.gd_reader.specs.declared.typed_lists.ListKind.TheVariants.{Parameters, Predicate, Objects, Types}
use Rattle.gd_reader.specs.declared.typed_lists.RawParam.{RawParam}
use Rattle.gd_reader.specs.declared.words.Sort.{Sort}
use Rattle.gd_reader.specs.declared.words.Sort.TheVariants.{Variable, Name, Other}
use Rattle.gd_reader.specs.Answers.{◌>>=◌}
use Rattle.gd_reader.specs.ListGrammar.{may_declare, declared_name, more_names_form, some_names_form, union_form, only_where, params_form, behind_form, typed_form}
use Rattle.gd_reader.specs.TermGrammar.{allowed, is_name_sort, name_form}
use Rattle.gd_reader.specs.Terms.{Names, used}
use Rattle.gd_reader.specs.TypedLists.{State, Rest, variable_by, param_by, param_due, type_by, type_due, more_names, some_names, union, are_variables, one_more, alone, typed_with, unless, params, behind, typed, listed}
use Rattle.gd_reader.specs.Words.{sort_of, is_hyphen, is_either}
use Rattle.gd_reader.proofs.Exact.{Tells, Own, IsExact, exact_cut, exact_close, exact_no_list, exact_behind, exact_word, exact_list, exact_map}
use Rattle.gd_reader.proofs.TermExact.{used_tells, used_own}

choice_tells : {X : Type 0} (r b : Bool) (c d at : ℕ) (x : X) → Tells (allowed (not r && not b)) (if r then Err (Departs c at) else (if b then Err (Departs d at) else Ok x))
choice_tells true b c d at x = (λ w. w, λ b. b)
choice_tells false true c d at x = (λ w. w, λ b. b)
choice_tells false false c d at x = (tt, tt)

choice_own : {X : Type 0} (r b : Bool) (c d at : ℕ) (x : X) → Own {X = X} at (if r then Err (Departs c at) else (if b then Err (Departs d at) else Ok x))
choice_own true b c d at x = refl
choice_own false true c d at x = refl
choice_own false false c d at x = tt

param_tells : (sort : Sort) (kind : ListKind) (st : State) (at : ℕ) (w : Word) → Tells (allowed (may_declare sort kind st.1 w)) (param_by sort kind st at w)
unfolding param_by variable_by
param_tells Variable Parameters st at w = choice_tells (is_reserved (drop 1 w)) (is_among (drop 1 w) st.1) 9 18 at _
param_tells Variable Predicate st at w = choice_tells (is_reserved (drop 1 w)) false 9 18 at _
param_tells Variable Objects st at w = (λ w. w, λ b. b)
param_tells Variable Types st at w = (λ w. w, λ b. b)
param_tells Name Parameters st at w = (λ w. w, λ b. b)
param_tells Name Predicate st at w = (λ w. w, λ b. b)
param_tells Name Objects st at w = (tt, tt)
param_tells Name Types st at w = (tt, tt)
param_tells Other Parameters st at w = (λ w. w, λ b. b)
param_tells Other Predicate st at w = (λ w. w, λ b. b)
param_tells Other Objects st at w = (λ w. w, λ b. b)
param_tells Other Types st at w = (λ w. w, λ b. b)

param_own : (sort : Sort) (kind : ListKind) (st : State) (at : ℕ) (w : Word) → Own at (param_by sort kind st at w)
unfolding param_by variable_by
param_own Variable Parameters st at w = choice_own {X = RawParam × State} (is_reserved (drop 1 w)) (is_among (drop 1 w) st.1) 9 18 at _
param_own Variable Predicate st at w = choice_own {X = RawParam × State} (is_reserved (drop 1 w)) false 9 18 at _
param_own Variable Objects st at w = refl
param_own Variable Types st at w = refl
param_own Name Parameters st at w = refl
param_own Name Predicate st at w = refl
param_own Name Objects st at w = tt
param_own Name Types st at w = tt
param_own Other Parameters st at w = refl
param_own Other Predicate st at w = refl
param_own Other Objects st at w = refl
param_own Other Types st at w = refl

-- what the list has seen after a word
chosen_state : (r b : Bool) (c d at : ℕ) (y x : RawParam × State) → ◌≡◌ {A = Result (RawParam × State) Stop} (if r then Err (Departs c at) else (if b then Err (Departs d at) else Ok y)) (Ok x) → x.1.1 ≡ y.1.1
chosen_state true b c d at y x e = cc
chosen_state false true c d at y x e = cc
chosen_state false false c d at y x e = let same : y ≡ x = cc in ap (λ z. z.1.1) (sym same)

param_state : (sort : Sort) (kind : ListKind) (st : State) (at : ℕ) (w : Word) (x : RawParam × State) → param_by sort kind st at w ≡ Ok x → x.1.1 ≡ with_word st.1 (declared_name kind w)
unfolding param_by variable_by
param_state Variable Parameters st at w x e = chosen_state (is_reserved (drop 1 w)) (is_among (drop 1 w) st.1) 9 18 at _ x e
param_state Variable Predicate st at w x e = chosen_state (is_reserved (drop 1 w)) false 9 18 at _ x e
param_state Variable Objects st at w x e = cc
param_state Variable Types st at w x e = cc
param_state Name Parameters st at w x e = cc
param_state Name Predicate st at w x e = cc
param_state Name Objects st at w x e = chosen_state false false 9 18 at _ x e
param_state Name Types st at w x e = chosen_state false false 9 18 at _ x e
param_state Other Parameters st at w x e = cc
param_state Other Predicate st at w x e = cc
param_state Other Objects st at w x e = cc
param_state Other Types st at w x e = cc

type_tells : (sort : Sort) (kind : ListKind) (names : Names) (at : ℕ) (w : Word) → Tells (allowed (is_name_sort sort)) (type_by sort kind names at w)
unfolding type_by
type_tells Name kind names at w = (tt, tt)
type_tells Variable kind names at w = (λ w. w, λ b. b)
type_tells Other Parameters names at w = (λ w. w, λ b. b)
type_tells Other Predicate names at w = (λ w. w, λ b. b)
type_tells Other Objects names at w = (λ w. w, λ b. b)
type_tells Other Types names at w = (λ w. w, λ b. b)

type_own : (sort : Sort) (kind : ListKind) (names : Names) (at : ℕ) (w : Word) → Own at (type_by sort kind names at w)
unfolding type_by
type_own Name kind names at w = tt
type_own Variable kind names at w = refl
type_own Other Parameters names at w = refl
type_own Other Predicate names at w = refl
type_own Other Objects names at w = refl
type_own Other Types names at w = refl

more_names_exact : (p : Placed) (st : State) → IsExact more_names_form (more_names st) p
unfolding more_names
more_names_exact cut st = exact_cut more_names_form (more_names st) refl (λ w. w, tt)
more_names_exact (close at) st = exact_close more_names_form (more_names st) refl at (Ok ([], st.0)) refl tt (tt, tt)
more_names_exact (list at p q) st = exact_no_list more_names_form (more_names st) refl at p q 8 (λ p q. refl) (λ w. w, λ b. b)
more_names_exact (word at w p) st =
    exact_word more_names_form (more_names st) refl at w p (used st.0 at w) (λ t p. more_names (t.1, with_word st.1 w) p >>= (λ ts. Ok (unless (is_among w st.1) t.0 ts.0, ts.1))) (name_form w) more_names_form (λ p. refl) (used_own st.0 at w) (used_tells st.0 at w)
    (λ t e. exact_map more_names_form (more_names (t.1, with_word st.1 w)) _ p (more_names_exact p (t.1, with_word st.1 w))) (λ t. t)

some_names_exact : (p : Placed) (names : Names) → IsExact some_names_form (some_names names) p
unfolding some_names
some_names_exact cut names = exact_cut some_names_form (some_names names) refl (λ w. w, tt)
some_names_exact (close at) names = exact_close some_names_form (some_names names) refl at (Err (Departs 8 at)) refl refl (λ w. w, λ b. b)
some_names_exact (list at p q) names = exact_no_list some_names_form (some_names names) refl at p q 8 (λ p q. refl) (λ w. w, λ b. b)
some_names_exact (word at w p) names =
    exact_word some_names_form (some_names names) refl at w p (used names at w) (λ t p. more_names (t.1, with_word [] w) p >>= (λ ts. Ok (t.0 ∷ ts.0, ts.1))) (name_form w) more_names_form (λ p. refl) (used_own names at w) (used_tells names at w)
    (λ t e. exact_map more_names_form (more_names (t.1, with_word [] w)) _ p (more_names_exact p (t.1, with_word [] w))) (λ t. t)

-- whether either stands there
either_due : Bool → ℕ → Result (Unit {0}) Stop
either_due true at = Ok tt
either_due false at = Err (Departs 8 at)

either_tells : (b : Bool) (at : ℕ) → Tells (allowed b) (either_due b at)
unfolding either_due
either_tells true at = (tt, tt)
either_tells false at = (λ w. w, λ b. b)

either_own : (b : Bool) (at : ℕ) → Own at (either_due b at)
unfolding either_due
either_own true at = tt
either_own false at = refl

union_exact : (p : Placed) (names : Names) → IsExact union_form (union names) p
unfolding union either_due
union_exact cut names = exact_cut union_form (union names) refl (λ w. w, tt)
union_exact (close at) names = exact_close union_form (union names) refl at (Err (Departs 8 at)) refl refl (λ w. w, λ b. b)
union_exact (list at p q) names = exact_no_list union_form (union names) refl at p q 8 (λ p q. refl) (λ w. w, λ b. b)
union_exact (word at w p) names =
    exact_word union_form (union names) refl at w p (either_due (is_either w) at) (λ _ p. some_names names p) (allowed (is_either w)) some_names_form (λ p. by_either (is_either w) p) (either_own (is_either w) at) (either_tells (is_either w) at)
    (λ _ e. some_names_exact p names) (λ t. t)
  where
    by_either : (b : Bool) (p : Placed) → ◌≡◌ {A = Result (List RawTerm × Names) Stop} (if b then some_names names p else Err (Departs 8 at)) (either_due b at >>= (λ _. some_names names p))
    by_either true p = refl
    by_either false p = refl

-- where the word in front is the hyphen, or one that declares
by_hyphen : (p : Placed) (kind : ListKind) (st : State) (at : ℕ) (w : Word) → IsExact (typed_form kind st.1) (typed kind st) p → ((x : RawParam × State) → param_due kind st at w ≡ Ok x → IsExact (behind_form kind (with_word st.1 (declared_name kind w))) (behind kind x.1) p)
    → (b : Bool) → is_hyphen w ≡ b → IsExact (behind_form kind st.1) (behind kind st) (word at w p)
unfolding behind
by_hyphen p kind st at w t d true here =
    exact_behind (behind_form kind st.1) (behind kind st) refl at w p (typed_form kind st.1) (typed kind st) (λ p. ap (λ (b : Bool). let a : Result Rest Stop = elim b [ true ↦ typed kind st p | false ↦ param_due kind st at w >>= (λ x. behind kind x.1 p >>= (λ r. Ok (one_more x.0 r))) ] in a) here) t
    (λ s. subst (λ (b : Bool). Tells (elim b [ true ↦ typed_form kind st.1 p | false ↦ allowed (may_declare (sort_of w) kind st.1 w) followed_by behind_form kind (with_word st.1 (declared_name kind w)) p ]) (typed kind st p)) (sym here) s)
by_hyphen p kind st at w t d false here =
    exact_word (behind_form kind st.1) (behind kind st) refl at w p (param_due kind st at w) (λ x p. behind kind x.1 p >>= (λ r. Ok (one_more x.0 r))) (allowed (may_declare (sort_of w) kind st.1 w)) (behind_form kind (with_word st.1 (declared_name kind w)))
    (λ p. ap (λ (b : Bool). let a : Result Rest Stop = elim b [ true ↦ typed kind st p | false ↦ param_due kind st at w >>= (λ x. behind kind x.1 p >>= (λ r. Ok (one_more x.0 r))) ] in a) here)
    (param_own (sort_of w) kind st at w) (param_tells (sort_of w) kind st at w)
    (λ x e. exact_map (behind_form kind (with_word st.1 (declared_name kind w))) (behind kind x.1) _ p (d x e))
    (λ s. subst (λ (b : Bool). Tells (elim b [ true ↦ typed_form kind st.1 p | false ↦ allowed (may_declare (sort_of w) kind st.1 w) followed_by behind_form kind (with_word st.1 (declared_name kind w)) p ]) (param_due kind st at w >>= (λ x. behind kind x.1 p >>= (λ r. Ok (one_more x.0 r))))) (sym here) s)

-- a union, and then the rest of the list, in a list of variables; else the parenthesis departs
typed_list_by : (kind : ListKind) (b : Bool) → are_variables kind ≡ b → (st : State) (at : ℕ) (p q : Placed) → ((names : Names) → IsExact (params_form kind st.1) (params kind (names, st.1)) q) → IsExact (typed_form kind st.1) (typed kind st) (list at p q)
unfolding typed
typed_list_by kind true here st at p q x =
    exact_list (typed_form kind st.1) (typed kind st) refl at p q (union st.0) (λ t q. params kind (t.1, st.1) q >>= (λ r. Ok (typed_with t.0 r))) union_form (params_form kind st.1)
    (λ p q. ap (λ b. (if b then union st.0 p else Err (Departs 8 at)) >>= (λ t. params kind (t.1, st.1) q >>= (λ r. Ok (typed_with t.0 r)))) here) (union_exact p st.0)
    (λ t e. exact_map (params_form kind st.1) (params kind (t.1, st.1)) _ q (x t.1))
    (λ s. subst (λ b. Tells (only_where b (union_form p) followed_by params_form kind st.1 q) (union st.0 p >>= (λ t. params kind (t.1, st.1) q >>= (λ r. Ok (typed_with t.0 r))))) (sym here) s)
typed_list_by kind false here st at p q x =
    exact_no_list (typed_form kind st.1) (typed kind st) refl at p q 8
    (λ p q. ap (λ b. (if b then union st.0 p else Err (Departs 8 at)) >>= (λ t. params kind (t.1, st.1) q >>= (λ r. Ok (typed_with t.0 r)))) here)
    (subst (λ b. (((only_where b (union_form p) followed_by params_form kind st.1 q).Whole) → ⊥) × (((only_where b (union_form p) followed_by params_form kind st.1 q).Begins) → ⊥)) (sym here) (λ w. w.0, λ b. b.0))

mutual
  unfolding params behind typed

  params_exact : (p : Placed) (kind : ListKind) (st : State) → IsExact (params_form kind st.1) (params kind st) p
  params_exact cut kind st = exact_cut (params_form kind st.1) (params kind st) refl (λ w. w, tt)
  params_exact (close at) kind st = exact_close (params_form kind st.1) (params kind st) refl at (Ok (([], []), st.0)) refl tt (tt, tt)
  params_exact (list at p q) kind st = exact_no_list (params_form kind st.1) (params kind st) refl at p q 8 (λ p q. refl) (λ w. w, λ b. b)
  params_exact (word at w p) kind st =
      exact_word (params_form kind st.1) (params kind st) refl at w p (param_due kind st at w) (λ x p. behind kind x.1 p >>= (λ r. Ok (alone (one_more x.0 r)))) (allowed (may_declare (sort_of w) kind st.1 w)) (behind_form kind (with_word st.1 (declared_name kind w))) (λ p. refl)
      (param_own (sort_of w) kind st at w) (param_tells (sort_of w) kind st at w)
      (λ x e. exact_map (behind_form kind (with_word st.1 (declared_name kind w))) (behind kind x.1) _ p (subst (λ seen. IsExact (behind_form kind seen) (behind kind x.1) p) (param_state (sort_of w) kind st at w x e) (behind_exact p kind x.1)))
      (λ t. t)

  behind_exact : (p : Placed) (kind : ListKind) (st : State) → IsExact (behind_form kind st.1) (behind kind st) p
  behind_exact cut kind st = exact_cut (behind_form kind st.1) (behind kind st) refl (λ w. w, tt)
  behind_exact (close at) kind st = exact_close (behind_form kind st.1) (behind kind st) refl at (Ok (([], []), st.0)) refl tt (tt, tt)
  behind_exact (list at p q) kind st = exact_no_list (behind_form kind st.1) (behind kind st) refl at p q 8 (λ p q. refl) (λ w. w, λ b. b)
  behind_exact (word at w p) kind st =
      by_hyphen p kind st at w (typed_exact p kind st)
      (λ x e. subst (λ seen. IsExact (behind_form kind seen) (behind kind x.1) p) (param_state (sort_of w) kind st at w x e) (behind_exact p kind x.1))
      (is_hyphen w) refl

  typed_exact : (p : Placed) (kind : ListKind) (st : State) → IsExact (typed_form kind st.1) (typed kind st) p
  typed_exact cut kind st = exact_cut (typed_form kind st.1) (typed kind st) refl (λ w. w, tt)
  typed_exact (close at) kind st = exact_close (typed_form kind st.1) (typed kind st) refl at (Err (Departs 8 at)) refl refl (λ w. w, λ b. b)
  typed_exact (word at w p) kind st =
      exact_word (typed_form kind st.1) (typed kind st) refl at w p (type_due kind st.0 at w) (λ t p. params kind (t.1, st.1) p >>= (λ r. Ok (typed_with t.0 r))) (name_form w) (params_form kind st.1) (λ p. refl)
      (type_own (sort_of w) kind st.0 at w) (type_tells (sort_of w) kind st.0 at w)
      (λ t e. exact_map (params_form kind st.1) (params kind (t.1, st.1)) _ p (params_exact p kind (t.1, st.1)))
      (λ t. t)
  typed_exact (list at p q) kind st = typed_list_by kind (are_variables kind) refl st at p q (λ names. params_exact q kind (names, st.1))

pub listed_exact : (p : Placed) (kind : ListKind) (names : Names) → IsExact (params_form kind []) (listed kind names) p
listed_exact p kind names = exact_map (params_form kind []) (params kind (names, [])) _ p (params_exact p kind (names, []))
