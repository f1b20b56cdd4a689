-- What a row of the grammar lets through: the word that came, and what is due behind it.
use Rattle.std.proofs.Common.{◌≡◌, ℕ, ◌⊎◌, inl, inr, Bool, true, false, not, ◌&&◌, ◌==◌, if◌then◌else◌, Some, None, [], ◌∷◌, refl, sym, ap, subst, ◌∙◌}
use Rattle.std.specs.Str.{bytes_eq}
use Rattle.htn_base.specs.Words.{is_reserved}
use Rattle.text_forms.specs.Placed.{Placed}
use Rattle.text_forms.specs.Words.{Word, is_name}
use Rattle.text_forms.specs.form_grammar.Codes.{Whole}
use Rattle.text_forms.specs.form_grammar.Lists as due
use Rattle.text_forms.specs.form_grammar.Rows.{Next, go, stop, if_allowed, Rows, form, row_as}
use Rattle.text_forms.specs.form_grammar.Words.{Table, entry, by_word, declared}
use Rattle.text_forms.proofs.form_grammar.Meaning.{form_same}
use Rattle.gd_reader.specs.Answers.{end_due}
use Rattle.gd_reader.specs.TermGrammar.{end_form, terms_form, two_terms_form, applied_form}
use Rattle.gd_reader.specs.Terms as read
use Rattle.gd_reader.specs.Forms as plain
use Rattle.gd_reader.proofs.TermExact.{end_exact, terms_exact, two_terms_exact, applied_exact}
use Rattle.hddl_reader.proofs.Calls.{same_form}
use Rattle.hddl_reader.proofs.TermsSaid.{at_next, ends_said, terms_said, two_terms_said, applied_said}
use Rattle.hddl_reader.specs.SameForms.{IsSameForm}
use Rattle.plan_texts.proofs.Basics.{bytes_eq-true, bytes_eq-refl}
use Rattle.text_values.proofs.form_spellings.WordTests.{false_true}

-- a name is not reserved
name_free : (w : Word) → is_name w ≡ true → is_reserved w ≡ false
name_free [] e = false_true e
name_free (b ∷ w) e = pick (not (b == 63)) (not (b == 58)) (is_reserved (b ∷ w)) e
  where
    pick : (x y r : Bool) → x && (y && not r) ≡ true → r ≡ false
    pick x y false e = refl
    pick true true true e = false_true e
    pick true false true e = false_true e
    pick false y true e = false_true e

module _ {Y : Type 0} (rows : Rows Y) where
  pub allowed_then : (b : Bool) (code : ℕ) (x : Y) (at : ℕ) (q : Placed) → b ≡ true → Whole (form rows x q) → Whole (at_next rows (if_allowed b code x) at q)
  allowed_then true code x at q e h = h
  allowed_then false code x at q e h = false_true e

  pub then_allowed : (b : Bool) (code : ℕ) (x : Y) (at : ℕ) (q : Placed) → Whole (at_next rows (if_allowed b code x) at q) → (b ≡ true) × Whole (form rows x q)
  then_allowed true code x at q h = (refl, h)
  then_allowed false code x at q h = absurd h

  -- a name that is or may be declared
  pub declared_then : (w : Word) (code : ℕ) (x : Y) (at : ℕ) (q : Placed) → is_name w ≡ true → Whole (form rows x q) → Whole (at_next rows (declared code x w) at q)
  declared_then w code x at q e h = pick (is_reserved w) (name_free w e)
    where
      pick : (r : Bool) → r ≡ false → Whole (at_next rows (if r then stop 9 else if_allowed (is_name w) code x) at q)
      pick true f = false_true (sym f)
      pick false f = allowed_then (is_name w) code x at q e h

  pub then_declared : (w : Word) (code : ℕ) (x : Y) (at : ℕ) (q : Placed) → Whole (at_next rows (declared code x w) at q) → (is_name w ≡ true) × Whole (form rows x q)
  then_declared w code x at q h = pick (is_reserved w) h
    where
      pick : (r : Bool) → Whole (at_next rows (if r then stop 9 else if_allowed (is_name w) code x) at q) → (is_name w ≡ true) × Whole (form rows x q)
      pick true h = absurd h
      pick false h = then_allowed (is_name w) code x at q h

  -- a word of a table, or another
  pub by_cons : (k w : Word) (x : Y) (table : Table Y) (others : Word → Next Y) (at : ℕ) (q : Placed) → Whole (at_next rows (by_word ((k, x) ∷ table) others w) at q)
      → ((w ≡ k) × Whole (form rows x q)) ⊎ ((bytes_eq w k ≡ false) × Whole (at_next rows (by_word table others w) at q))
  by_cons k w x table others at q h = pick (bytes_eq w k) refl h
    where
      pick : (b : Bool) → bytes_eq w k ≡ b → Whole (at_next rows (elim (if b then Some x else entry table w) [ None ↦ others w | Some x ↦ go x ]) at q)
          → ((w ≡ k) × Whole (form rows x q)) ⊎ ((bytes_eq w k ≡ false) × Whole (at_next rows (by_word table others w) at q))
      pick true e h = inl (bytes_eq-true w k e, h)
      pick false e h = inr (e, h)

  pub by_here : (k w : Word) (x : Y) (table : Table Y) (others : Word → Next Y) (at : ℕ) (q : Placed) → w ≡ k → Whole (form rows x q) → Whole (at_next rows (by_word ((k, x) ∷ table) others w) at q)
  by_here k w x table others at q e h = pick (bytes_eq w k) (ap (bytes_eq w) (sym e) ∙ bytes_eq-refl w)
    where
      pick : (b : Bool) → b ≡ true → Whole (at_next rows (elim (if b then Some x else entry table w) [ None ↦ others w | Some x ↦ go x ]) at q)
      pick true e = h
      pick false e = false_true e

  pub by_later : (k w : Word) (x : Y) (table : Table Y) (others : Word → Next Y) (at : ℕ) (q : Placed) → bytes_eq w k ≡ false → Whole (at_next rows (by_word table others w) at q)
      → Whole (at_next rows (by_word ((k, x) ∷ table) others w) at q)
  by_later k w x table others at q e h = pick (bytes_eq w k) e
    where
      pick : (b : Bool) → b ≡ false → Whole (at_next rows (elim (if b then Some x else entry table w) [ None ↦ others w | Some x ↦ go x ]) at q)
      pick true e = false_true (sym e)
      pick false e = h

-- terms as parts of a larger grammar
module _ {Y : Type 0} (rows : Rows Y) (f : due.TermDue → Y) (is : (x : due.TermDue) → rows (f x) ≡ row_as f (due.term_rows x)) where
  same_in : (d : due.TermDue) (old : plain.Form) (p : Placed) → IsSameForm old (form due.term_rows d p) → old.Whole → Whole (form rows (f d) p)
  same_in d old p s h = subst Whole (sym (form_same due.term_rows rows f is p d)) (s.whole.0 h)

  same_out : (d : due.TermDue) (old : plain.Form) (p : Placed) → IsSameForm old (form due.term_rows d p) → Whole (form rows (f d) p) → old.Whole
  same_out d old p s h = s.whole.1 (subst Whole (form_same due.term_rows rows f is p d) h)

  ends : (p : Placed) → IsSameForm (end_form p) (form due.term_rows due.ended p)
  ends p = same_form (end_form p) _ (end_due p) (end_exact p).tells (ends_said p)

  all_terms : (p : Placed) → IsSameForm (terms_form p) (form due.term_rows due.terms p)
  all_terms p = same_form (terms_form p) _ (read.terms [] p) (terms_exact p []).tells (terms_said p [])

  two_terms : (p : Placed) → IsSameForm (two_terms_form p) (form due.term_rows (due.term (due.term due.ended)) p)
  two_terms p = same_form (two_terms_form p) _ (read.two_terms [] p) (two_terms_exact p []).tells (two_terms_said p [])

  applied : (p : Placed) → IsSameForm (applied_form p) (form due.term_rows due.applied p)
  applied p = same_form (applied_form p) _ (read.applied [] p) (applied_exact p []).tells (applied_said p [])

  pub ended_in : (p : Placed) → (end_form p).Whole → Whole (form rows (f due.ended) p)
  ended_in p = same_in due.ended (end_form p) p (ends p)

  pub ended_out : (p : Placed) → Whole (form rows (f due.ended) p) → (end_form p).Whole
  ended_out p = same_out due.ended (end_form p) p (ends p)

  pub terms_in : (p : Placed) → (terms_form p).Whole → Whole (form rows (f due.terms) p)
  terms_in p = same_in due.terms (terms_form p) p (all_terms p)

  pub terms_out : (p : Placed) → Whole (form rows (f due.terms) p) → (terms_form p).Whole
  terms_out p = same_out due.terms (terms_form p) p (all_terms p)

  pub two_terms_in : (p : Placed) → (two_terms_form p).Whole → Whole (form rows (f (due.term (due.term due.ended))) p)
  two_terms_in p = same_in (due.term (due.term due.ended)) (two_terms_form p) p (two_terms p)

  pub two_terms_out : (p : Placed) → Whole (form rows (f (due.term (due.term due.ended))) p) → (two_terms_form p).Whole
  two_terms_out p = same_out (due.term (due.term due.ended)) (two_terms_form p) p (two_terms p)

  pub applied_in : (p : Placed) → (applied_form p).Whole → Whole (form rows (f due.applied) p)
  applied_in p = same_in due.applied (applied_form p) p (applied p)

  pub applied_out : (p : Placed) → Whole (form rows (f due.applied) p) → (applied_form p).Whole
  applied_out p = same_out due.applied (applied_form p) p (applied p)
