-- The laws of forms over the tokens of a text.
use Rattle.std.proofs.Common.{◌≡◌, ℕ, suc, ◌<◌, ◌≤◌, inl, inr, Bool, true, false, nat_lt, if◌then◌else◌, Option, List, refl, sym, ◌∙◌, subst, arith}
use borrow.Author.Tests.{ltb-true, ltb-false}
use Rattle.text_forms.specs.Placed.{Placed, cut, close, word, list, parts_at}
use Rattle.text_forms.specs.Fronts.{cut_before}
use Rattle.text_forms.specs.Words.{Word}
use Rattle.text_forms.proofs.Fronts.{Rises, parts_before, rises_at}
use Rattle.text_forms.specs.form_grammar.Codes.{Form, complete, unfinished, wrong, Begins, Departs, ◌followed_by◌}
use Rattle.text_forms.specs.form_grammar.Laws.{up_to, HasOneDeparture, HasPrefixLaws}
use Rattle.text_forms.specs.form_grammar.Rows.{Next, go, stop, Rows, form, front, list_form}
use Rattle.text_forms.specs.form_grammar.Texts.{TextRows, text_form}
use Rattle.text_forms.proofs.form_grammar.Cuts.{rises_le}
use Rattle.text_forms.proofs.form_grammar.RowLaws.{Stands, CutTo, IsCuttable, stands_more, stands_then, cut_short, cut_wrong, cut_list, form_stands, form_cuts}

module _ {X : Type 0} (rows : Rows X) where
  list_stands : (p : Placed) (code : ℕ) (inside : X) (lo hi : ℕ) → Rises lo p hi → Stands lo hi (list_form rows code inside p)
  list_stands cut code inside lo hi r = tt
  list_stands (close at) code inside lo hi r = r
  list_stands (word at w p) code inside lo hi r = let b = rises_le (suc at) hi p r.1 in (r.0, omega arith)
  list_stands (list at p q) code inside lo hi r =
      let a = r.0 in let c = rises_le r.1.0 hi q r.1.2 in
      stands_more (suc at) r.1.0 lo hi (form rows inside p) (form_stands rows p inside (suc at) r.1.0 r.1.1) (omega arith) c

  list_cuts : (p : Placed) (code : ℕ) (inside : X) (m lo hi : ℕ) → Rises lo p hi → CutTo m (list_form rows code inside p) (list_form rows code inside (cut_before m p))
  list_cuts cut code inside m lo hi r = tt
  list_cuts (close at) code inside m lo hi r = by_test (nat_lt at m) refl
    where
      by_test : (b : Bool) → nat_lt at m ≡ b → CutTo m (wrong code at) (list_form rows code inside (if b then close at else cut))
      by_test true e = cut_wrong m code at (ltb-true at m e)
      by_test false e = cut_short m at hi (wrong code at) unfinished (omega arith, r.1) (ltb-false at m e) tt
  list_cuts (word at w p) code inside m lo hi r = by_test (nat_lt at m) refl
    where
      by_test : (b : Bool) → nat_lt at m ≡ b → CutTo m (wrong code at) (list_form rows code inside (if b then word at w (cut_before m p) else cut))
      by_test true e = cut_wrong m code at (ltb-true at m e)
      by_test false e = cut_short m at (suc at) (wrong code at) unfinished (omega arith, omega arith) (ltb-false at m e) tt
  list_cuts (list at p q) code inside m lo hi r = by_test (nat_lt at m) refl
    where
      by_test : (b : Bool) → nat_lt at m ≡ b → CutTo m (form rows inside p) (list_form rows code inside (if b then list at (cut_before m p) (cut_before m q) else cut))
      by_test true e = form_cuts rows p inside m (suc at) r.1.0 r.1.1
      by_test false e = let a = ltb-false at m e in cut_short m (suc at) r.1.0 (form rows inside p) unfinished (form_stands rows p inside (suc at) r.1.0 r.1.1) (omega arith) tt

  pub list_cuttable : (code : ℕ) (inside : X) → IsCuttable (list_form rows code inside)
  list_cuttable code inside = record { stands = λ lo hi p. list_stands p code inside lo hi; cuts = λ m lo hi p. list_cuts p code inside m lo hi }

module _ {X T : Type 0} (rows : Rows X) (texts : TextRows X T) where
  may_end_stands : (b : Bool) (lo hi : ℕ) → Stands lo hi (if b then complete else unfinished)
  may_end_stands true lo hi = tt
  may_end_stands false lo hi = tt

  may_end_begins : (b : Bool) → Begins (if b then complete else unfinished)
  may_end_begins true = tt
  may_end_begins false = tt

  may_end_cuts : (b : Bool) (m : ℕ) → CutTo m (if b then complete else unfinished) (if b then complete else unfinished)
  may_end_cuts true m = tt
  may_end_cuts false m = tt

  word_stands : (n : Next T) (lo hi at : ℕ) (p : Placed) → ((t : T) → Stands lo hi (text_form rows texts t p)) → lo ≤ at → at < hi → Stands lo hi (elim n [ go next ↦ text_form rows texts next p | stop code ↦ wrong code at ])
  word_stands (go x) lo hi at p s a b = s x
  word_stands (stop code) lo hi at p s a b = (a, b)

  both_stand : (n : Next (X × (Option Word → T))) (lo mid hi at : ℕ) (p q : Placed) → ((x : X) → Stands lo mid (form rows x p)) → ((t : T) → Stands mid hi (text_form rows texts t q)) → lo ≤ at → at < mid → mid ≤ hi
      → Stands lo hi (elim n [ go i ↦ form rows i.0 p followed_by text_form rows texts (i.1 (front p)) q | stop code ↦ wrong code at ])
  both_stand (go i) lo mid hi at p q s t a b c = stands_then lo mid hi (form rows i.0 p) (text_form rows texts (i.1 (front p)) q) (s i.0) (t (i.1 (front p))) (omega arith) c
  both_stand (stop code) lo mid hi at p q s t a b c = (a, omega arith)

  pub text_stands : (p : Placed) (due : T) (lo hi : ℕ) → Rises lo p hi → Stands lo hi (text_form rows texts due p)
  text_stands cut due lo hi r = may_end_stands (texts due).may_end lo hi
  text_stands (close at) due lo hi r = r
  text_stands (word at w p) due lo hi r =
      let a = r.0 in let b = rises_le (suc at) hi p r.1 in
      word_stands ((texts due).at_word w) lo hi at p (λ t. stands_more (suc at) hi lo hi (text_form rows texts t p) (text_stands p t (suc at) hi r.1) (omega arith) (omega arith)) r.0 (omega arith)
  text_stands (list at p q) due lo hi r =
      let a = r.0 in let b = rises_le (suc at) r.1.0 p r.1.1 in let c = rises_le r.1.0 hi q r.1.2 in
      both_stand (texts due).at_list lo r.1.0 hi at p q (λ x. stands_more (suc at) r.1.0 lo r.1.0 (form rows x p) (form_stands rows p x (suc at) r.1.0 r.1.1) (omega arith) (omega arith))
      (λ t. text_stands q t r.1.0 hi r.1.2) r.0 (omega arith) c

  word_cuts : (n : Next T) (m at : ℕ) (p : Placed) → at < m → ((t : T) → CutTo m (text_form rows texts t p) (text_form rows texts t (cut_before m p)))
      → CutTo m (elim n [ go next ↦ text_form rows texts next p | stop code ↦ wrong code at ]) (elim n [ go next ↦ text_form rows texts next (cut_before m p) | stop code ↦ wrong code at ])
  word_cuts (go x) m at p h c = c x
  word_cuts (stop code) m at p h c = cut_wrong m code at h

  both_cut : (n : Next (X × (Option Word → T))) (m lo mid hi at : ℕ) (p q : Placed) → Rises lo p mid → Rises mid q hi → at < m
      → ((t : T) → CutTo m (text_form rows texts t q) (text_form rows texts t (cut_before m q)))
      → CutTo m (elim n [ go i ↦ form rows i.0 p followed_by text_form rows texts (i.1 (front p)) q | stop code ↦ wrong code at ])
      (elim n [ go i ↦ form rows i.0 (cut_before m p) followed_by text_form rows texts (i.1 (front (cut_before m p))) (cut_before m q) | stop code ↦ wrong code at ])
  both_cut (go i) m lo mid hi at p q r t h d =
      cut_list m lo mid hi (form rows i.0) (λ w. text_form rows texts (i.1 w)) p q r t (form_stands rows p i.0 lo mid r) (form_cuts rows p i.0 m lo mid r)
      (λ w. text_stands q (i.1 w) mid hi t) (λ w. d (i.1 w)) (λ w. may_end_begins (texts (i.1 w)).may_end)
  both_cut (stop code) m lo mid hi at p q r t h d = cut_wrong m code at h

  pub text_cuts : (p : Placed) (due : T) (m lo hi : ℕ) → Rises lo p hi → CutTo m (text_form rows texts due p) (text_form rows texts due (cut_before m p))
  text_cuts cut due m lo hi r = may_end_cuts (texts due).may_end m
  text_cuts (close at) due m lo hi r = by_test (nat_lt at m) refl
    where
      by_test : (b : Bool) → nat_lt at m ≡ b → CutTo m (wrong 8 at) (text_form rows texts due (if b then close at else cut))
      by_test true e = cut_wrong m 8 at (ltb-true at m e)
      by_test false e = cut_short m at hi (wrong 8 at) (text_form rows texts due cut) (omega arith, r.1) (ltb-false at m e) (may_end_begins (texts due).may_end)
  text_cuts (word at w p) due m lo hi r = by_test (nat_lt at m) refl (λ t. text_cuts p t m (suc at) hi r.1)
    where
      by_test : (b : Bool) → nat_lt at m ≡ b → ((t : T) → CutTo m (text_form rows texts t p) (text_form rows texts t (cut_before m p))) → CutTo m (text_form rows texts due (word at w p)) (text_form rows texts due (if b then word at w (cut_before m p) else cut))
      by_test true e c = word_cuts ((texts due).at_word w) m at p (ltb-true at m e) c
      by_test false e c = cut_short m at hi (text_form rows texts due (word at w p)) (text_form rows texts due cut) (text_stands (word at w p) due at hi (omega arith, r.1)) (ltb-false at m e) (may_end_begins (texts due).may_end)
  text_cuts (list at p q) due m lo hi r = by_test (nat_lt at m) refl (λ t. text_cuts q t m r.1.0 hi r.1.2)
    where
      by_test : (b : Bool) → nat_lt at m ≡ b → ((t : T) → CutTo m (text_form rows texts t q) (text_form rows texts t (cut_before m q)))
          → CutTo m (text_form rows texts due (list at p q)) (text_form rows texts due (if b then list at (cut_before m p) (cut_before m q) else cut))
      by_test true e d = both_cut (texts due).at_list m (suc at) r.1.0 hi at p q r.1.1 r.1.2 (ltb-true at m e) d
      by_test false e d = cut_short m at hi (text_form rows texts due (list at p q)) (text_form rows texts due cut) (text_stands (list at p q) due at hi (omega arith, r.1)) (ltb-false at m e) (may_end_begins (texts due).may_end)

  pub text_cuttable : (due : T) → IsCuttable (text_form rows texts due)
  text_cuttable due = record { stands = λ lo hi p. text_stands p due lo hi; cuts = λ m lo hi p. text_cuts p due m lo hi }

-- one departing token with one code: of each form
pub one_departure : (f : Form) → HasOneDeparture f
one_departure complete = record { decides = inl tt; whole_begins = λ w. tt; excludes = λ code at d b. d; one = λ code at code' at' d e. absurd d }
one_departure unfinished = record { decides = inl tt; whole_begins = λ w. tt; excludes = λ code at d b. d; one = λ code at code' at' d e. absurd d }
one_departure (wrong c a) = record {
  decides = inr (c, a, (refl, refl));
  whole_begins = λ w. w;
  excludes = λ code at d b. b;
  one = λ code at code' at' d e. (d.0 ∙ sym e.0, d.1 ∙ sym e.1);
}

-- laws of f, whose tokens are cut in two places
begun_by : (f : Form) (m n : ℕ) (g h : Form) → CutTo m f g → CutTo n f h → m ≤ n → Begins h → Begins g
begun_by complete m n g h c d a b = c
begun_by unfinished m n g h c d a b = c
begun_by (wrong code at) m n g h c d a b = by_test (nat_lt at n) refl
  where
    by_test : (t : Bool) → nat_lt at n ≡ t → Begins g
    by_test true e = absurd (subst Begins (d.1 (ltb-true at n e)) b)
    by_test false e = let o = ltb-false at n e in c.0 (omega arith)

begun_of : (f : Form) (m : ℕ) (g : Form) → CutTo m f g → Begins f → Begins g
begun_of complete m g c b = c
begun_of unfinished m g c b = c
begun_of (wrong code at) m g c b = absurd b

first_of' : (f : Form) (g : Form) (code at : ℕ) → CutTo at f g → Departs f code at → Begins g
first_of' complete g code at c d = absurd d
first_of' unfinished g code at c d = absurd d
first_of' (wrong k a) g code at c d = let e = d.1 in c.0 (omega arith)

later_of : (f : Form) (g : Form) (code at m : ℕ) → CutTo m f g → Departs f code at → at < m → Departs g code at
later_of complete g code at m c d h = absurd d
later_of unfinished g code at m c d h = absurd d
later_of (wrong k a) g code at m c d h = let e = d.1 in subst (λ g. Departs g code at) (sym (c.1 (omega arith))) d

only_of : (f : Form) (m : ℕ) (g h : Form) → CutTo m f g → CutTo (suc m) f h → Begins g → (Begins h → ⊥) → (code : ℕ) × Departs f code m
only_of complete m g h c d b n = absurd (n d)
only_of unfinished m g h c d b n = absurd (n d)
only_of (wrong k a) m g h c d b n = by_tests (nat_lt a m) (nat_lt m a) refl refl
  where
    by_tests : (s t : Bool) → nat_lt a m ≡ s → nat_lt m a ≡ t → (code : ℕ) × Departs (wrong k a) code m
    by_tests true t e e' = absurd (subst Begins (c.1 (ltb-true a m e)) b)
    by_tests false true e e' = let o = ltb-true m a e' in absurd (n (d.0 (omega arith)))
    by_tests false false e e' = let o = ltb-false a m e in let o' = ltb-false m a e' in (k, (refl, omega arith))

pub prefix_laws : (form : Placed → Form) → IsCuttable form → (text : List ℕ) (i : ℕ) → HasPrefixLaws form text i
prefix_laws form x text i = record {
  prefixes = λ m n h b. begun_by (form (parts_at text i)) m n (up_to form text i m) (up_to form text i n) (cuts_at m) (cuts_at n) h b;
  of_all = λ m b. begun_of (form (parts_at text i)) m (up_to form text i m) (cuts_at m) b;
  first = λ code at d. first_of' (form (parts_at text i)) (up_to form text i at) code at (cuts_at at) d;
  later = λ code at m d h. later_of (form (parts_at text i)) (up_to form text i m) code at m (cuts_at m) d h;
  only = λ m b n. only_of (form (parts_at text i)) m (up_to form text i m) (up_to form text i (suc m)) (cuts_at m) (cuts_at (suc m)) b n;
}
  where
    cuts_at : (m : ℕ) → CutTo m (form (parts_at text i)) (up_to form text i m)
    cuts_at m = let r = rises_at text i in subst (λ p. CutTo m (form (parts_at text i)) (form p)) (sym (parts_before text i m)) (x.cuts m r.0 r.1 (parts_at text i) r.2)
