-- Typed lists are read alike.
use Rattle.std.proofs.Common.{◌≡◌, ℕ, Bool, true, false, ◌&&◌, if◌then◌else◌, Ok, Err, Result, List, [], ◌∷◌, drop, refl, sym, ◌∙◌}
use Rattle.htn_base.specs.Table.{with_word}
use Rattle.text_forms.specs.Placed.{Placed, cut, close, word, list}
use Rattle.htn_base.specs.Words.{is_reserved}
use Rattle.text_forms.specs.Words.{Word, word_at, is_among}
use Rattle.gd_reader.specs.declared.stop.Stop.{Stop}
use Rattle.gd_reader.specs.declared.stop.Stop.TheVariants.{Departs}
use Rattle.gd_reader.specs.declared.term.RawTerm.{RawTerm}
use Rattle.gd_reader.specs.declared.typed_lists.RawParam.{RawParam}
use Rattle.gd_reader.specs.declared.typed_lists.ListKind.{ListKind}
use Rattle.gd_reader.specs.declared.words.Sort.{Sort}
use Rattle.gd_reader.specs.declared.words.Sort.TheVariants.{Variable, Name, Other}
use Rattle.gd_reader.specs.Answers.{◌>>=◌}
use Rattle.gd_reader.specs.Terms.{Names, name_in, used}
use Rattle.gd_reader.specs.TypedLists.{State, Rest, declares, variable_by, is_parameters, are_variables, are_types, undeclared, param_by, param_due, type_by, type_due, unless, more_names, some_names, union, union_due, with_type, one_more, typed_with, params, behind, typed, listed}
use Rattle.gd_reader.specs.Words.{sort_of, is_hyphen, is_either}
use Rattle.text_values.proofs.Alike.{AlikeTerm, AlikeTerms, AlikeParam, AlikeParams}
use Rattle.text_values.proofs.Pairs.{Tie, Tied, after, built, here, with_both}
use Rattle.text_values.proofs.TermPairs.{TermTie, TermsTie, raw_tied, used_tied}

abbrev pub ParamsTie : Tie (List RawParam)
ParamsTie xs ys t u = AlikeParams t u xs ys

-- the type of the words in front, and the words behind
abbrev RestTie : Tie (List RawTerm × List RawParam)
RestTie r s t u = AlikeTerms t u r.0 s.0 × AlikeParams t u r.1 s.1

-- a word that declares, as it is read into a table
abbrev declared : Names → ℕ → Word → RawParam
declared names at w = record { name = name_in names w; ty = []; at = at }

-- what is read behind a word that declares
module _ (n m seen : Names) (at : ℕ) (f g : RawParam × State → Result Rest Stop) (h : (w : Word) → Tied n m (f (declared n at w, (with_word n w, with_word seen w))) (g (declared m at w, (with_word m w, with_word seen w))) RestTie) where
  variable_then : (once : Bool) (w : Word) → Tied n m (variable_by once (n, seen) at w >>= f) (variable_by once (m, seen) at w >>= g) RestTie
  unfolding variable_by
  variable_then once w = go (is_reserved w) (once && is_among w seen)
    where
      go : (a b : Bool) → Tied n m ((if a then Err (Departs 9 at) else (if b then Err (Departs 18 at) else declares (n, seen) at w)) >>= f) ((if a then Err (Departs 9 at) else (if b then Err (Departs 18 at) else declares (m, seen) at w)) >>= g) RestTie
      go true b = tt
      go false true = tt
      go false false = h w

  param_then : (kind : ListKind) (w : Word) → Tied n m (param_due kind (n, seen) at w >>= f) (param_due kind (m, seen) at w >>= g) RestTie
  unfolding param_by
  param_then kind w = go (sort_of w) (are_variables kind)
    where
      variables : (b : Bool) → Tied n m ((if b then variable_by (is_parameters kind) (n, seen) at (drop 1 w) else Err (Departs 8 at)) >>= f) ((if b then variable_by (is_parameters kind) (m, seen) at (drop 1 w) else Err (Departs 8 at)) >>= g) RestTie
      variables true = variable_then (is_parameters kind) (drop 1 w)
      variables false = tt

      names : (b : Bool) → Tied n m ((if b then Err (Departs 8 at) else declares (n, seen) at w) >>= f) ((if b then Err (Departs 8 at) else declares (m, seen) at w) >>= g) RestTie
      names true = tt
      names false = h w

      others : (b : Bool) → Tied n m ((if b then Err (Departs 8 at) else Err (Departs (undeclared w) at)) >>= f) ((if b then Err (Departs 8 at) else Err (Departs (undeclared w) at)) >>= g) RestTie
      others true = tt
      others false = tt

      go : (s : Sort) (b : Bool) → Tied n m (param_by s kind (n, seen) at w >>= f) (param_by s kind (m, seen) at w >>= g) RestTie
      go Variable b = variables (are_variables kind)
      go Name b = names (are_variables kind)
      go Other b = others (are_variables kind)

type_tied : (kind : ListKind) (n m : Names) (at : ℕ) (w : Word) → Tied n m (type_due kind n at w) (type_due kind m at w) TermsTie
unfolding type_by
type_tied kind n m at w = go (sort_of w)
  where
    other : (b : Bool) → Tied {X = List RawTerm} n m (if b then Err (Departs (undeclared w) at) else Err (Departs 8 at)) (if b then Err (Departs (undeclared w) at) else Err (Departs 8 at)) TermsTie
    other true = tt
    other false = tt

    go : (s : Sort) → Tied n m (type_by s kind n at w) (type_by s kind m at w) TermsTie
    go Variable = tt
    go Name = let r = raw_tied n m false at w in (r.0, r.1, λ t u k l. (r.2 t u k l, tt))
    go Other = other (are_types kind)

kept : (b : Bool) (x y : RawTerm) (xs ys : List RawTerm) (t u : Names) → AlikeTerms t u xs ys → AlikeTerm t u x y → AlikeTerms t u (unless b x xs) (unless b y ys)
kept true x y xs ys t u is one = is
kept false x y xs ys t u is one = (one, is)

more_tied : (p : Placed) (n m seen : Names) → Tied n m (more_names (n, seen) p) (more_names (m, seen) p) TermsTie
unfolding more_names
more_tied cut n m seen = tt
more_tied (close at) n m seen = here TermsTie n m [] [] (λ t u. tt)
more_tied (list at p q) n m seen = tt
more_tied (word at w p) n m seen =
    after TermTie TermsTie n m (used n at w) (used m at w) (λ x. more_names (x.1, with_word seen w) p >>= (λ ts. Ok (unless (is_among w seen) x.0 ts.0, ts.1)))
    (λ x. more_names (x.1, with_word seen w) p >>= (λ ts. Ok (unless (is_among w seen) x.0 ts.0, ts.1))) (used_tied n m at w)
    (λ x y. built TermsTie (λ xs ys t u. TermTie x.0 y.0 t u → TermsTie xs ys t u) x.1 y.1 (more_names (x.1, with_word seen w) p) (more_names (y.1, with_word seen w) p) (unless (is_among w seen) x.0) (unless (is_among w seen) y.0)
    (more_tied p x.1 y.1 (with_word seen w)) (λ xs ys t u is one. kept (is_among w seen) x.0 y.0 xs ys t u is one))

some_tied : (p : Placed) (n m : Names) → Tied n m (some_names n p) (some_names m p) TermsTie
unfolding some_names
some_tied cut n m = tt
some_tied (close at) n m = tt
some_tied (list at p q) n m = tt
some_tied (word at w p) n m =
    after TermTie TermsTie n m (used n at w) (used m at w) (λ x. more_names (x.1, with_word [] w) p >>= (λ ts. Ok (x.0 ∷ ts.0, ts.1))) (λ x. more_names (x.1, with_word [] w) p >>= (λ ts. Ok (x.0 ∷ ts.0, ts.1))) (used_tied n m at w)
    (λ x y. built TermsTie (λ xs ys t u. TermTie x.0 y.0 t u → TermsTie xs ys t u) x.1 y.1 (more_names (x.1, with_word [] w) p) (more_names (y.1, with_word [] w) p) (λ xs. x.0 ∷ xs) (λ ys. y.0 ∷ ys)
    (more_tied p x.1 y.1 (with_word [] w)) (λ xs ys t u is one. (one, is)))

union_tied : (p : Placed) (n m : Names) → Tied n m (union n p) (union m p) TermsTie
unfolding union
union_tied cut n m = tt
union_tied (close at) n m = tt
union_tied (list at p q) n m = tt
union_tied (word at w p) n m = go (is_either w)
  where
    go : (b : Bool) → Tied n m (if b then some_names n p else Err (Departs 8 at)) (if b then some_names m p else Err (Departs 8 at)) TermsTie
    go true = some_tied p n m
    go false = tt

union_due_tied : (kind : ListKind) (p : Placed) (n m : Names) (at : ℕ) → Tied n m (union_due kind n at p) (union_due kind m at p) TermsTie
union_due_tied kind p n m at = go (are_variables kind)
  where
    go : (b : Bool) → Tied n m (if b then union n p else Err (Departs 8 at)) (if b then union m p else Err (Departs 8 at)) TermsTie
    go true = union_tied p n m
    go false = tt

-- a word that declares, with the rest of the list
word_tied : (kind : ListKind) (n m seen : Names) (at : ℕ) (w : Word) (p : Placed) (h : RawParam → List RawTerm × List RawParam → List RawTerm × List RawParam)
    → ((x y : RawParam) (r s : List RawTerm × List RawParam) (t u : Names) → RestTie r s t u → AlikeParam t u (with_type r.0 x) (with_type s.0 y) → RestTie (h x r) (h y s) t u)
    → ((n m seen : Names) → Tied n m (behind kind (n, seen) p) (behind kind (m, seen) p) RestTie)
    → Tied n m (param_due kind (n, seen) at w >>= (λ x. behind kind x.1 p >>= (λ r. Ok (h x.0 r.0, r.1)))) (param_due kind (m, seen) at w >>= (λ x. behind kind x.1 p >>= (λ r. Ok (h x.0 r.0, r.1)))) RestTie
word_tied kind n m seen at w p h fits rest =
    param_then n m seen at (λ x. behind kind x.1 p >>= (λ r. Ok (h x.0 r.0, r.1))) (λ x. behind kind x.1 p >>= (λ r. Ok (h x.0 r.0, r.1)))
    (λ v. with_both RestTie n m v (behind kind (with_word n v, with_word seen v) p >>= (λ r. Ok (h (declared n at v) r.0, r.1))) (behind kind (with_word m v, with_word seen v) p >>= (λ r. Ok (h (declared m at v) r.0, r.1)))
    (built RestTie (λ x y t u. word_at t (name_in n v).number ≡ v → word_at u (name_in m v).number ≡ v → RestTie x y t u) (with_word n v) (with_word m v) (behind kind (with_word n v, with_word seen v) p) (behind kind (with_word m v, with_word seen v) p)
    (h (declared n at v)) (h (declared m at v)) (rest (with_word n v) (with_word m v) (with_word seen v))
    (λ r s t u is e f. fits (declared n at v) (declared m at v) r s t u is (record { word = e ∙ sym f; at = refl; types = is.0 }))))
    kind w

mutual
  unfolding params behind typed

  params_tied : (p : Placed) (kind : ListKind) (n m seen : Names) → Tied n m (params kind (n, seen) p) (params kind (m, seen) p) RestTie
  params_tied cut kind n m seen = tt
  params_tied (close at) kind n m seen = here RestTie n m ([], []) ([], []) (λ t u. (tt, tt))
  params_tied (list at p q) kind n m seen = tt
  params_tied (word at w p) kind n m seen = word_tied kind n m seen at w p (λ x r. ([], with_type r.0 x ∷ r.1)) (λ x y r s t u is one. (tt, (one, is.1))) (λ n m seen. behind_tied p kind n m seen)

  behind_tied : (p : Placed) (kind : ListKind) (n m seen : Names) → Tied n m (behind kind (n, seen) p) (behind kind (m, seen) p) RestTie
  behind_tied cut kind n m seen = tt
  behind_tied (close at) kind n m seen = here RestTie n m ([], []) ([], []) (λ t u. (tt, tt))
  behind_tied (list at p q) kind n m seen = tt
  behind_tied (word at w p) kind n m seen =
      by_hyphen (is_hyphen w) (typed_tied p kind n m seen) (word_tied kind n m seen at w p (λ x r. (r.0, with_type r.0 x ∷ r.1)) (λ x y r s t u is one. (is.0, (one, is.1))) (λ n m seen. behind_tied p kind n m seen))
    where
      by_hyphen : (b : Bool) → Tied n m (typed kind (n, seen) p) (typed kind (m, seen) p) RestTie
          → Tied n m (param_due kind (n, seen) at w >>= (λ x. behind kind x.1 p >>= (λ r. Ok (one_more x.0 r)))) (param_due kind (m, seen) at w >>= (λ x. behind kind x.1 p >>= (λ r. Ok (one_more x.0 r)))) RestTie
          → Tied n m (let a : Result Rest Stop = elim b [ true ↦ typed kind (n, seen) p | false ↦ param_due kind (n, seen) at w >>= (λ x. behind kind x.1 p >>= (λ r. Ok (one_more x.0 r))) ] in a)
          (let a : Result Rest Stop = elim b [ true ↦ typed kind (m, seen) p | false ↦ param_due kind (m, seen) at w >>= (λ x. behind kind x.1 p >>= (λ r. Ok (one_more x.0 r))) ] in a) RestTie
      by_hyphen true a b = a
      by_hyphen false a b = b

  typed_tied : (p : Placed) (kind : ListKind) (n m seen : Names) → Tied n m (typed kind (n, seen) p) (typed kind (m, seen) p) RestTie
  typed_tied cut kind n m seen = tt
  typed_tied (close at) kind n m seen = tt
  typed_tied (word at w p) kind n m seen =
      after TermsTie RestTie n m (type_due kind n at w) (type_due kind m at w) (λ x. params kind (x.1, seen) p >>= (λ r. Ok (typed_with x.0 r))) (λ x. params kind (x.1, seen) p >>= (λ r. Ok (typed_with x.0 r))) (type_tied kind n m at w)
      (λ x y. built RestTie (λ r s t u. TermsTie x.0 y.0 t u → RestTie r s t u) x.1 y.1 (params kind (x.1, seen) p) (params kind (y.1, seen) p) (λ r. (x.0, r.1)) (λ r. (y.0, r.1)) (params_tied p kind x.1 y.1 seen) (λ r s t u is one. (one, is.1)))
  typed_tied (list at p q) kind n m seen =
      after TermsTie RestTie n m (union_due kind n at p) (union_due kind m at p) (λ x. params kind (x.1, seen) q >>= (λ r. Ok (typed_with x.0 r))) (λ x. params kind (x.1, seen) q >>= (λ r. Ok (typed_with x.0 r))) (union_due_tied kind p n m at)
      (λ x y. built RestTie (λ r s t u. TermsTie x.0 y.0 t u → RestTie r s t u) x.1 y.1 (params kind (x.1, seen) q) (params kind (y.1, seen) q) (λ r. (x.0, r.1)) (λ r. (y.0, r.1)) (params_tied q kind x.1 y.1 seen) (λ r s t u is one. (one, is.1)))

pub listed_tied : (p : Placed) (kind : ListKind) (n m : Names) → Tied n m (listed kind n p) (listed kind m p) ParamsTie
listed_tied p kind n m = built RestTie ParamsTie n m (params kind (n, []) p) (params kind (m, []) p) (λ r. r.1) (λ r. r.1) (params_tied p kind n m []) (λ r s t u is. is.1)
