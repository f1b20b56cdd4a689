-- Steps through the names of a union: front is what is kept so far.
use Rattle.std.proofs.Common.{◌≡◌, Bool, true, false, Ok, Err, Result, List, [], ◌∷◌, ◌++◌, Option, Some, None, refl, sym, ◌∙◌, ap, subst, append_assoc}
use Rattle.std.proofs.lemmas.List.{append-nil}
use Rattle.htn_base.specs.Table.{with_word}
use Rattle.text_forms.specs.Placed.{Placed, cut, close, word, list}
use Rattle.text_forms.specs.Words.{is_among}
use Rattle.gd_reader.specs.declared.stop.Failure.{Failure}
use Rattle.gd_reader.specs.declared.stop.Stop.{Stop}
use Rattle.gd_reader.specs.declared.term.RawTerm.{RawTerm}
use Rattle.gd_reader.specs.Answers.{◌>>=◌, Fails, with_front, word_due, word_or_end}
use Rattle.gd_reader.specs.Terms.{Names, used}
use Rattle.gd_reader.specs.TypedLists.{State, more_names, some_names, unless}
use Rattle.gd_reader.proofs.Steps.{Met, fails_bind, some_names_is}

abbrev more_by : State → Option Met → Result (List RawTerm × Names) Stop
more_by st None = Ok ([], st.0)
more_by st (Some v) = used st.0 v.0 v.1 >>= (λ t. more_names (t.1, with_word st.1 v.1) v.2 >>= (λ ts. Ok (unless (is_among v.1 st.1) t.0 ts.0, ts.1)))

more_names_is : (st : State) (p : Placed) → more_names st p ≡ word_or_end p >>= more_by st
unfolding more_names word_or_end
more_names_is st cut = refl
more_names_is st (close at) = refl
more_names_is st (word at w p) = refl
more_names_is st (list at p q) = refl

kept_more : (front : List RawTerm) (b : Bool) (t : RawTerm) (a : Result (List RawTerm × Names) Stop) → with_front (front ++ unless b t []) a ≡ with_front front (a >>= (λ ts. Ok (unless b t ts.0, ts.1)))
kept_more front true t (Ok ts) = ap (λ (l : List RawTerm). Ok (l ++ ts.0, ts.1)) (append-nil front)
kept_more front false t (Ok ts) = ap (λ (l : List RawTerm). Ok (l, ts.1)) (append_assoc front (t ∷ []) ts.0)
kept_more front b t (Err s) = refl

module _ (front : List RawTerm) (st : State) (p : Placed) (whole : Result (List RawTerm × Names) Stop) (so_far : with_front front (more_names st p) ≡ whole) where
  pub names_end : word_or_end p ≡ Ok None → whole ≡ Ok (front, st.0)
  names_end e = sym so_far ∙ ap (with_front front) (more_names_is st p ∙ ap (λ r. r >>= more_by st) e) ∙ ap (λ (l : List RawTerm). Ok (l, st.0)) (append-nil front)

  pub names_stuck : (e : Failure) → Fails e (word_or_end p) → Fails e whole
  names_stuck e h = subst (Fails e) (sym (ap (with_front front) (more_names_is st p)) ∙ so_far) (fails_bind e _ (λ r. Ok (front ++ r.0, r.1)) (fails_bind e (word_or_end p) (more_by st) h))

  pub names_stop : (e : Failure) (v : Met) → word_or_end p ≡ Ok (Some v) → Fails e (used st.0 v.0 v.1) → Fails e whole
  names_stop e v h f =
      subst (Fails e) (sym (ap (with_front front) (more_names_is st p ∙ ap (λ r. r >>= more_by st) h)) ∙ so_far)
      (fails_bind e _ (λ r. Ok (front ++ r.0, r.1)) (fails_bind e (used st.0 v.0 v.1) (λ t. more_names (t.1, with_word st.1 v.1) v.2 >>= (λ ts. Ok (unless (is_among v.1 st.1) t.0 ts.0, ts.1))) f))

  pub names_next : (v : Met) (t : RawTerm) (names' : Names) → word_or_end p ≡ Ok (Some v) → used st.0 v.0 v.1 ≡ Ok (t, names')
      → with_front (front ++ unless (is_among v.1 st.1) t []) (more_names (names', with_word st.1 v.1) v.2) ≡ whole
  names_next v t names' h e =
      kept_more front (is_among v.1 st.1) t (more_names (names', with_word st.1 v.1) v.2)
      ∙ sym (ap (λ a. with_front front (a >>= (λ t. more_names (t.1, with_word st.1 v.1) v.2 >>= (λ ts. Ok (unless (is_among v.1 st.1) t.0 ts.0, ts.1))))) e)
      ∙ sym (ap (with_front front) (more_names_is st p ∙ ap (λ r. r >>= more_by st) h))
      ∙ so_far

-- one name or more, behind the first
pub names_start : (names : Names) (p : Placed) (v : Met) (t : RawTerm) (names' seen : Names) (types : List RawTerm)
    → word_due p ≡ Ok v → used names v.0 v.1 ≡ Ok (t, names') → types ≡ t ∷ [] → seen ≡ with_word [] v.1
    → with_front types (more_names (names', seen) v.2) ≡ some_names names p
names_start names p v t names' seen types h e kept known =
    (λ i. with_front (kept i) (more_names (names', known i) v.2))
    ∙ sym (some_names_is names p
    ∙ ap (λ a. a >>= (λ v. used names v.0 v.1 >>= (λ t. with_front (t.0 ∷ []) (more_names (t.1, with_word [] v.1) v.2)))) h
    ∙ ap (λ a. a >>= (λ t. with_front (t.0 ∷ []) (more_names (t.1, with_word [] v.1) v.2))) e)
