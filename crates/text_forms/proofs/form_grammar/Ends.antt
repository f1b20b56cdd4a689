-- Where the tokens of a whole text end too early, when all lists are closed.
use Rattle.std.proofs.Common.{◌≡◌, ℕ, ◌⊎◌, inl, inr, Bool, true, false, if◌then◌else◌, refl, sym, ◌∙◌, ap, subst}
use Rattle.text_forms.specs.Placed.{Placed, cut, close, word, list, IsWhole}
use Rattle.text_forms.specs.Words.{Word}
use Rattle.text_forms.specs.form_grammar.Codes.{Form, Begins, EndsEarly, complete, unfinished, wrong, ◌followed_by◌}
use Rattle.text_forms.specs.form_grammar.Rows.{Next, go, stop, Inner, Rows, form, closed, front}
use Rattle.text_forms.specs.form_grammar.Texts.{ListsDue, text_form, one_list, the_list, the_end, marked_lists, mark_or_list, behind_mark, last_word}

ends_then : (a b : Form) → (EndsEarly a → ⊥) → (EndsEarly b → ⊥) → EndsEarly (a followed_by b) → ⊥
ends_then complete b h k e = k e
ends_then unfinished b h k e = h tt
ends_then (wrong code at) b h k e = e

ends_second : (a b : Form) → (EndsEarly a → ⊥) → EndsEarly (a followed_by b) → EndsEarly b
ends_second complete b h e = e
ends_second unfinished b h e = absurd (h tt)
ends_second (wrong code at) b h e = absurd e

-- all lists outside are closed
abbrev pub AreClosed : Placed → Type 0
AreClosed cut = Unit {0}
AreClosed (close at) = ⊥
AreClosed (word at v p) = AreClosed p
AreClosed (list at p q) = IsWhole p × AreClosed q

-- the last token outside all lists is a mark, at this place
abbrev pub EndsMarked : (Word → Bool) → Placed → ℕ → Type 0
EndsMarked is_mark cut at = ⊥
EndsMarked is_mark (close a) at = ⊥
EndsMarked is_mark (word a v p) at = ((p ≡ cut) × (at ≡ a) × (is_mark v ≡ true)) ⊎ EndsMarked is_mark p at
EndsMarked is_mark (list a p q) at = EndsMarked is_mark q at

module _ {X : Type 0} (rows : Rows X) where
  close_ends : (n : Next (Unit {0})) (at : ℕ) → EndsEarly (closed n at) → ⊥
  close_ends (go x) at e = e
  close_ends (stop code) at e = e

  word_ends : (n : Next X) (at : ℕ) (p : Placed) → ((x : X) → EndsEarly (form rows x p) → ⊥) → EndsEarly (elim n [ go next ↦ form rows next p | stop code ↦ wrong code at ]) → ⊥
  word_ends (go x) at p h e = h x e
  word_ends (stop code) at p h e = e

  list_ends : (n : Next (Inner X)) (at : ℕ) (p q : Placed) → ((x : X) → EndsEarly (form rows x p) → ⊥) → ((x : X) → EndsEarly (form rows x q) → ⊥)
      → EndsEarly (elim n [ go i ↦ form rows i.inside p followed_by form rows (i.behind (front p)) q | stop code ↦ wrong code at ]) → ⊥
  list_ends (go i) at p q h k e = ends_then (form rows i.inside p) (form rows (i.behind (front p)) q) (h i.inside) (k (i.behind (front p))) e
  list_ends (stop code) at p q h k e = e

  -- in a list that is closed, the tokens don't end too early
  pub whole_ends : (p : Placed) (due : X) → IsWhole p → EndsEarly (form rows due p) → ⊥
  whole_ends cut due w e = w
  whole_ends (close at) due w e = close_ends (rows due).at_close at e
  whole_ends (word at v p) due w e = word_ends ((rows due).at_word v) at p (λ x. whole_ends p x w) e
  whole_ends (list at p q) due w e = list_ends (rows due).at_list at p q (λ x. whole_ends p x w.0) (λ x. whole_ends q x w.1) e

  end_ends : (q : Placed) (code : ℕ) (inside : X) → EndsEarly (text_form rows (one_list code inside) the_end q) → ⊥
  end_ends cut code inside e = e
  end_ends (close at) code inside e = e
  end_ends (word at v q) code inside e = e
  end_ends (list at p q) code inside e = e

  -- a domain or a problem ends too early only where it has no token
  pub no_tokens : (p : Placed) (code : ℕ) (inside : X) → AreClosed p → EndsEarly (text_form rows (one_list code inside) the_list p) → p ≡ cut
  no_tokens cut code inside c e = refl
  no_tokens (close at) code inside c e = absurd e
  no_tokens (word at v p) code inside c e = absurd e
  no_tokens (list at p q) code inside c e =
      absurd (ends_then (form rows inside p) (text_form rows (one_list code inside) the_end q) (whole_ends p inside c.0) (end_ends q code inside) e)

  -- a plan ends too early only behind a trailing mark, which is its last word outside all lists
  pub trailing_mark : (p : Placed) (is_mark : Word → Bool) (inside : X) (lo : ℕ) → AreClosed p → EndsEarly (text_form rows (marked_lists is_mark inside) mark_or_list p) → EndsMarked is_mark p (last_word lo p)
  trailing_mark cut is_mark inside lo c e = e
  trailing_mark (close at) is_mark inside lo c e = absurd e
  trailing_mark (word at v cut) is_mark inside lo c e = by_test (is_mark v) refl e
    where
      by_test : (b : Bool) → is_mark v ≡ b → EndsEarly (elim (if b then go behind_mark else stop 8) [ go next ↦ text_form rows (marked_lists is_mark inside) next cut | stop code ↦ wrong code at ]) → ((cut ≡ cut) × (at ≡ at) × (is_mark v ≡ true)) ⊎ ⊥
      by_test true t e = inl (refl, refl, t)
      by_test false t e = absurd e
  trailing_mark (word at v (close b)) is_mark inside lo c e = absurd c
  trailing_mark (word at v (word b u p)) is_mark inside lo c e = by_test (is_mark v) e
    where
      by_test : (t : Bool) → EndsEarly (elim (if t then go behind_mark else stop 8) [ go next ↦ text_form rows (marked_lists is_mark inside) next (word b u p) | stop code ↦ wrong code at ]) → EndsMarked is_mark (word at v (word b u p)) (last_word lo (word at v (word b u p)))
      by_test true e = absurd e
      by_test false e = absurd e
  trailing_mark (word at v (list b p q)) is_mark inside lo c e = by_test (is_mark v) e (trailing_mark q is_mark inside at c.1)
    where
      both : EndsEarly (form rows inside p followed_by text_form rows (marked_lists is_mark inside) mark_or_list q) → (EndsEarly (text_form rows (marked_lists is_mark inside) mark_or_list q) → EndsMarked is_mark q (last_word at q)) → EndsMarked is_mark q (last_word at q)
      both e h = h (ends_second (form rows inside p) (text_form rows (marked_lists is_mark inside) mark_or_list q) (whole_ends p inside c.0) e)

      by_test : (t : Bool) → EndsEarly (elim (if t then go behind_mark else stop 8) [ go next ↦ text_form rows (marked_lists is_mark inside) next (list b p q) | stop code ↦ wrong code at ])
          → (EndsEarly (text_form rows (marked_lists is_mark inside) mark_or_list q) → EndsMarked is_mark q (last_word at q)) → EndsMarked is_mark (word at v (list b p q)) (last_word lo (word at v (list b p q)))
      by_test true e h = inr (both e h)
      by_test false e h = absurd e
  trailing_mark (list at p q) is_mark inside lo c e =
      trailing_mark q is_mark inside lo c.1 (ends_second (form rows inside p) (text_form rows (marked_lists is_mark inside) mark_or_list q) (whole_ends p inside c.0) e)

  early_behind : (p q : Placed) (is_mark : Word → Bool) (inside : X) (a at : ℕ) → IsWhole p → Begins (form rows inside p followed_by text_form rows (marked_lists is_mark inside) mark_or_list q)
      → (Begins (text_form rows (marked_lists is_mark inside) mark_or_list q) → EndsEarly (text_form rows (marked_lists is_mark inside) mark_or_list q) × (last_word a q ≡ at))
      → EndsEarly (form rows inside p followed_by text_form rows (marked_lists is_mark inside) mark_or_list q) × (last_word a q ≡ at)
  early_behind p q is_mark inside a at w b h = by_form (form rows inside p) (whole_ends p inside w) b
    where
      by_form : (f : Form) → (EndsEarly f → ⊥) → Begins (f followed_by text_form rows (marked_lists is_mark inside) mark_or_list q)
          → EndsEarly (f followed_by text_form rows (marked_lists is_mark inside) mark_or_list q) × (last_word a q ≡ at)
      by_form complete n b = h b
      by_form unfinished n b = absurd (n tt)
      by_form (wrong code k) n b = absurd b

  -- and behind a trailing mark it does
  pub early_mark : (p : Placed) (is_mark : Word → Bool) (inside : X) (lo at : ℕ) (t : ListsDue) → AreClosed p → EndsMarked is_mark p at → Begins (text_form rows (marked_lists is_mark inside) t p)
      → EndsEarly (text_form rows (marked_lists is_mark inside) t p) × (last_word lo p ≡ at)
  early_mark cut is_mark inside lo at t c m b = absurd m
  early_mark (close a) is_mark inside lo at t c m b = absurd m
  early_mark (word a v p) is_mark inside lo at behind_mark c m b = absurd b
  early_mark (word a v p) is_mark inside lo at mark_or_list c (inl m) b = (
    subst (λ s. EndsEarly (elim (if s then go behind_mark else stop 8) [ go next ↦ text_form rows (marked_lists is_mark inside) next p | stop code ↦ wrong code a ])) (sym m.2)
        (subst (λ q. EndsEarly (text_form rows (marked_lists is_mark inside) behind_mark q)) (sym m.0) tt),
    ap (last_word a) m.0 ∙ sym m.1,
  )
  early_mark (word a v p) is_mark inside lo at mark_or_list c (inr m) b = by_test (is_mark v) b (early_mark p is_mark inside a at behind_mark c m)
    where
      by_test : (s : Bool) → Begins (elim (if s then go behind_mark else stop 8) [ go next ↦ text_form rows (marked_lists is_mark inside) next p | stop code ↦ wrong code a ])
          → (Begins (text_form rows (marked_lists is_mark inside) behind_mark p) → EndsEarly (text_form rows (marked_lists is_mark inside) behind_mark p) × (last_word a p ≡ at))
          → EndsEarly (elim (if s then go behind_mark else stop 8) [ go next ↦ text_form rows (marked_lists is_mark inside) next p | stop code ↦ wrong code a ]) × (last_word a p ≡ at)
      by_test true b h = h b
      by_test false b h = absurd b
  early_mark (list a p q) is_mark inside lo at mark_or_list c m b = early_behind p q is_mark inside lo at c.0 b (early_mark q is_mark inside lo at mark_or_list c.1 m)
  early_mark (list a p q) is_mark inside lo at behind_mark c m b = early_behind p q is_mark inside lo at c.0 b (early_mark q is_mark inside lo at mark_or_list c.1 m)
