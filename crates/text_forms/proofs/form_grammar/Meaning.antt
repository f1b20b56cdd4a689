-- What the pieces of a grammar mean, in the words of the definitions.
use Rattle.std.proofs.Common.{◌≡◌, ℕ, ◌⊎◌, inl, inr, ⊎_elim, refl, ◌∙◌, ap}
use Rattle.text_forms.specs.Placed.{Placed, cut, close, word, list, IsWhole}
use Rattle.text_forms.specs.form_grammar.Codes.{Form, complete, unfinished, wrong, Whole, Begins, Departs, ◌followed_by◌}
use Rattle.text_forms.specs.form_grammar.Laws.{IsSequence}
use Rattle.text_forms.specs.form_grammar.Rows.{Next, go, stop, Inner, Row, Rows, form, closed, front, row_as, next_as, inner_as}

pub whole_then : (a b : Form) → Whole (a followed_by b) → Whole a × Whole b
whole_then complete b w = (tt, w)
whole_then unfinished b w = absurd w
whole_then (wrong code at) b w = absurd w

pub then_whole : (a b : Form) → Whole a → Whole b → Whole (a followed_by b)
then_whole complete b v w = w
then_whole unfinished b v w = absurd v
then_whole (wrong code at) b v w = absurd v

pub then_begins : (a b : Form) → Begins a → (Whole a → Begins b) → Begins (a followed_by b)
then_begins complete b v w = w tt
then_begins unfinished b v w = tt
then_begins (wrong code at) b v w = absurd v

pub begins_first : (a b : Form) → Begins (a followed_by b) → Begins a
begins_first complete b v = tt
begins_first unfinished b v = tt
begins_first (wrong code at) b v = absurd v

pub begins_second : (a b : Form) → Begins (a followed_by b) → Whole a → Begins b
begins_second complete b v w = v
begins_second unfinished b v w = absurd w
begins_second (wrong code at) b v w = absurd w

pub departs_then : (a b : Form) (code at : ℕ) → Departs (a followed_by b) code at → Departs a code at ⊎ (Whole a × Departs b code at)
departs_then complete b code at d = inr (tt, d)
departs_then unfinished b code at d = absurd d
departs_then (wrong c x) b code at d = inl d

pub then_departs : (a b : Form) (code at : ℕ) → Departs a code at ⊎ (Whole a × Departs b code at) → Departs (a followed_by b) code at
then_departs complete b code at d = ⊎_elim (λ h. absurd h) (λ h. h.1) d
then_departs unfinished b code at d = ⊎_elim (λ h. absurd h) (λ h. absurd h.0) d
then_departs (wrong c x) b code at d = ⊎_elim (λ h. h) (λ h. absurd h.0) d

pub sequence : (a b : Form) → IsSequence a b (a followed_by b)
sequence a b = record {
  whole = (whole_then a b, λ w. then_whole a b w.0 w.1);
  begins = (λ v. (begins_first a b v, begins_second a b v), λ v. then_begins a b v.0 v.1);
  departs = λ code at. (departs_then a b code at, then_departs a b code at);
}

module _ {X : Type 0} (rows : Rows X) where
  word_whole : (n : Next X) (at : ℕ) (p : Placed) → ((x : X) → Whole (form rows x p) → IsWhole p) → Whole (elim n [ go next ↦ form rows next p | stop code ↦ wrong code at ]) → IsWhole p
  word_whole (go x) at p h w = h x w
  word_whole (stop code) at p h w = absurd w

  list_whole : (n : Next (Inner X)) (at : ℕ) (p q : Placed) → ((x : X) → Whole (form rows x p) → IsWhole p) → ((x : X) → Whole (form rows x q) → IsWhole q)
      → Whole (elim n [ go i ↦ form rows i.inside p followed_by form rows (i.behind (front p)) q | stop code ↦ wrong code at ]) → IsWhole p × IsWhole q
  list_whole (go i) at p q h k w = let both = whole_then (form rows i.inside p) (form rows (i.behind (front p)) q) w in (h i.inside both.0, k (i.behind (front p)) both.1)
  list_whole (stop code) at p q h k w = absurd w

  -- a whole form has no end of the tokens in it
  pub form_whole : (p : Placed) (due : X) → Whole (form rows due p) → IsWhole p
  form_whole cut due w = w
  form_whole (close at) due w = tt
  form_whole (word at v p) due w = word_whole ((rows due).at_word v) at p (λ x. form_whole p x) w
  form_whole (list at p q) due w = list_whole (rows due).at_list at p q (λ x. form_whole p x) (λ x. form_whole q x) w

-- A grammar keeps its forms as part of a larger one.
module _ {X Y : Type 0} (rows : Rows X) (larger : Rows Y) (f : X → Y) (is : (x : X) → larger (f x) ≡ row_as f (rows x)) where
  next_same : (n : Next X) (at : ℕ) (p : Placed) → ((x : X) → form larger (f x) p ≡ form rows x p)
      → ◌≡◌ {A = Form} (elim (next_as f n) [ go next ↦ form larger next p | stop code ↦ wrong code at ]) (elim n [ go next ↦ form rows next p | stop code ↦ wrong code at ])
  next_same (go x) at p h = h x
  next_same (stop code) at p h = refl

  inner_same : (n : Next (Inner X)) (at : ℕ) (p q : Placed) → ((x : X) → form larger (f x) p ≡ form rows x p) → ((x : X) → form larger (f x) q ≡ form rows x q)
      → ◌≡◌ {A = Form} (elim (inner_as f n) [ go i ↦ form larger i.inside p followed_by form larger (i.behind (front p)) q | stop code ↦ wrong code at ])
      (elim n [ go i ↦ form rows i.inside p followed_by form rows (i.behind (front p)) q | stop code ↦ wrong code at ])
  inner_same (go i) at p q h k = λ j. (h i.inside j) followed_by (k (i.behind (front p)) j)
  inner_same (stop code) at p q h k = refl

  pub form_same : (p : Placed) (x : X) → form larger (f x) p ≡ form rows x p
  form_same cut x = refl
  form_same (close at) x = ap (λ r. closed r.at_close at) (is x)
  form_same (word at w p) x = ap (λ (r : Row Y). elim (r.at_word w) [ go next ↦ form larger next p | stop code ↦ wrong code at ]) (is x) ∙ next_same ((rows x).at_word w) at p (form_same p)
  form_same (list at p q) x =
      ap (λ (r : Row Y). elim (r.at_list) [ go i ↦ form larger i.inside p followed_by form larger (i.behind (front p)) q | stop code ↦ wrong code at ]) (is x)
      ∙ inner_same (rows x).at_list at p q (form_same p) (form_same q)
