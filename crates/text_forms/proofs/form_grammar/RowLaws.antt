-- Forms by rows: where the token that departs stands, and what becomes of it where tokens are cut.
use Rattle.std.proofs.Common.{◌≡◌, ℕ, suc, ◌<◌, ◌≤◌, Bool, true, false, nat_lt, if◌then◌else◌, Option, refl, sym, ap, subst, arith}
use borrow.Author.Tests.{ltb-true, ltb-false}
use Rattle.text_forms.specs.Placed.{Placed, cut, close, word, list}
use Rattle.text_forms.specs.Fronts.{cut_before}
use Rattle.text_forms.specs.Words.{Word}
use Rattle.text_forms.proofs.Fronts.{Rises}
use Rattle.text_forms.specs.form_grammar.Codes.{Form, complete, unfinished, wrong, Begins, ◌followed_by◌}
use Rattle.text_forms.specs.form_grammar.Rows.{Next, go, stop, Inner, Rows, form, closed, front}
use Rattle.text_forms.proofs.form_grammar.Cuts.{rises_le, cut_all, cut_none}

-- the token that departs stands from lo on and below hi
abbrev pub Stands : ℕ → ℕ → Form → Type 0
Stands lo hi complete = Unit {0}
Stands lo hi unfinished = Unit {0}
Stands lo hi (wrong code at) = (lo ≤ at) × (at < hi)

-- f becomes g where the tokens from place m on are cut
abbrev pub CutTo : ℕ → Form → Form → Type 0
CutTo m complete g = Begins g
CutTo m unfinished g = Begins g
CutTo m (wrong code at) g = (m ≤ at → Begins g) × (at < m → g ≡ wrong code at)

-- what a form over placed tokens must meet for the laws over texts
pub record IsCuttable (f : Placed → Form) : Type 0 where
  pub stands : (lo hi : ℕ) (p : Placed) → Rises lo p hi → Stands lo hi (f p)
  pub cuts : (m lo hi : ℕ) (p : Placed) → Rises lo p hi → CutTo m (f p) (f (cut_before m p))

pub stands_more : (lo hi low high : ℕ) (f : Form) → Stands lo hi f → low ≤ lo → hi ≤ high → Stands low high f
stands_more lo hi low high complete s a b = tt
stands_more lo hi low high unfinished s a b = tt
stands_more lo hi low high (wrong code at) s a b = let c = s.0 in let d = s.1 in (omega arith, omega arith)

pub stands_then : (lo mid hi : ℕ) (f g : Form) → Stands lo mid f → Stands mid hi g → lo ≤ mid → mid ≤ hi → Stands lo hi (f followed_by g)
stands_then lo mid hi complete g s t a b = stands_more mid hi lo hi g t a (omega arith)
stands_then lo mid hi unfinished g s t a b = tt
stands_then lo mid hi (wrong code at) g s t a b = let c = s.0 in let d = s.1 in (omega arith, omega arith)

pub begins_then : (f g : Form) → Begins f → Begins g → Begins (f followed_by g)
begins_then complete g b c = c
begins_then unfinished g b c = tt
begins_then (wrong code at) g b c = absurd b

-- all is cut
pub cut_short : (m lo hi : ℕ) (f g : Form) → Stands lo hi f → m ≤ lo → Begins g → CutTo m f g
cut_short m lo hi complete g s a b = b
cut_short m lo hi unfinished g s a b = b
cut_short m lo hi (wrong code at) g s a b = let c = s.0 in (λ h. b, λ h. absurd (omega arith))

pub cut_wrong : (m code at : ℕ) → at < m → CutTo m (wrong code at) (wrong code at)
cut_wrong m code at h = (λ a. absurd (omega arith), λ a. refl)

pub cut_same : (m : ℕ) (f : Form) → Stands 0 m f → CutTo m f f
cut_same m complete s = tt
cut_same m unfinished s = tt
cut_same m (wrong code at) s = cut_wrong m code at s.1

-- the cut is in the first part
pub cut_first : (m mid hi : ℕ) (f f' g g' : Form) → CutTo m f f' → Stands mid hi g → m ≤ mid → Begins g' → CutTo m (f followed_by g) (f' followed_by g')
cut_first m mid hi complete f' g g' c s a b = cut_short m mid hi g (f' followed_by g') s a (begins_then f' g' c b)
cut_first m mid hi unfinished f' g g' c s a b = begins_then f' g' c b
cut_first m mid hi (wrong code at) f' g g' c s a b = (λ h. begins_then f' g' (c.0 h) b, λ h. ap (λ f. f followed_by g') (c.1 h))

-- the cut is behind the first part
pub cut_second : (m lo mid : ℕ) (f g g' : Form) → Stands lo mid f → mid ≤ m → CutTo m g g' → CutTo m (f followed_by g) (f followed_by g')
cut_second m lo mid complete g g' s a c = c
cut_second m lo mid unfinished g g' s a c = tt
cut_second m lo mid (wrong code at) g g' s a c = let b = s.1 in cut_wrong m code at (omega arith)

-- a list and what is behind it, where the former's form may tell the latter's
pub cut_list : (m lo mid hi : ℕ) (inner : Placed → Form) (outer : Option Word → Placed → Form) (p q : Placed) → Rises lo p mid → Rises mid q hi
    → Stands lo mid (inner p) → CutTo m (inner p) (inner (cut_before m p))
    → ((w : Option Word) → Stands mid hi (outer w q)) → ((w : Option Word) → CutTo m (outer w q) (outer w (cut_before m q))) → ((w : Option Word) → Begins (outer w cut))
    → CutTo m (inner p followed_by outer (front p) q) (inner (cut_before m p) followed_by outer (front (cut_before m p)) (cut_before m q))
cut_list m lo mid hi inner outer p q r t s c s' c' b = by_test (nat_lt m mid) refl
  where
    by_test : (early : Bool) → nat_lt m mid ≡ early → CutTo m (inner p followed_by outer (front p) q) (inner (cut_before m p) followed_by outer (front (cut_before m p)) (cut_before m q))
    by_test true e =
        let a = ltb-true m mid e in
        cut_first m mid hi (inner p) (inner (cut_before m p)) (outer (front p) q) (outer (front (cut_before m p)) (cut_before m q)) c (s' (front p)) (omega arith)
        (subst (λ q. Begins (outer (front (cut_before m p)) q)) (sym (cut_all m mid hi q t (omega arith))) (b (front (cut_before m p))))
    by_test false e =
        subst (λ p'. CutTo m (inner p followed_by outer (front p) q) (inner p' followed_by outer (front p') (cut_before m q))) (sym (cut_none m lo mid p r (ltb-false m mid e)))
        (cut_second m lo mid (inner p) (outer (front p) q) (outer (front p) (cut_before m q)) s (ltb-false m mid e) (c' (front p)))

module _ {X : Type 0} (rows : Rows X) where
  close_stands : (n : Next (Unit {0})) (lo hi at : ℕ) → lo ≤ at → at < hi → Stands lo hi (closed n at)
  close_stands (go x) lo hi at a b = tt
  close_stands (stop code) lo hi at a b = (a, b)

  word_stands : (n : Next X) (lo hi at : ℕ) (p : Placed) → ((x : X) → Stands lo hi (form rows x p)) → lo ≤ at → at < hi → Stands lo hi (elim n [ go next ↦ form rows next p | stop code ↦ wrong code at ])
  word_stands (go x) lo hi at p s a b = s x
  word_stands (stop code) lo hi at p s a b = (a, b)

  list_stands : (n : Next (Inner X)) (lo mid hi at : ℕ) (p q : Placed) → ((x : X) → Stands lo mid (form rows x p)) → ((x : X) → Stands mid hi (form rows x q)) → lo ≤ at → at < mid → mid ≤ hi
      → Stands lo hi (elim n [ go i ↦ form rows i.inside p followed_by form rows (i.behind (front p)) q | stop code ↦ wrong code at ])
  list_stands (go i) lo mid hi at p q s t a b c = stands_then lo mid hi (form rows i.inside p) (form rows (i.behind (front p)) q) (s i.inside) (t (i.behind (front p))) (omega arith) c
  list_stands (stop code) lo mid hi at p q s t a b c = (a, omega arith)

  pub form_stands : (p : Placed) (due : X) (lo hi : ℕ) → Rises lo p hi → Stands lo hi (form rows due p)
  form_stands cut due lo hi r = tt
  form_stands (close at) due lo hi r = close_stands (rows due).at_close lo hi at r.0 r.1
  form_stands (word at w p) due lo hi r =
      let a = r.0 in let b = rises_le (suc at) hi p r.1 in
      word_stands ((rows due).at_word w) lo hi at p (λ x. stands_more (suc at) hi lo hi (form rows x p) (form_stands p x (suc at) hi r.1) (omega arith) (omega arith)) r.0 (omega arith)
  form_stands (list at p q) due lo hi r =
      let a = r.0 in let b = rises_le (suc at) r.1.0 p r.1.1 in let c = rises_le r.1.0 hi q r.1.2 in
      list_stands (rows due).at_list lo r.1.0 hi at p q (λ x. stands_more (suc at) r.1.0 lo r.1.0 (form rows x p) (form_stands p x (suc at) r.1.0 r.1.1) (omega arith) (omega arith))
      (λ x. form_stands q x r.1.0 hi r.1.2) r.0 (omega arith) c

  close_cuts : (n : Next (Unit {0})) (m at : ℕ) → at < m → CutTo m (closed n at) (closed n at)
  close_cuts (go x) m at h = tt
  close_cuts (stop code) m at h = cut_wrong m code at h

  word_cuts : (n : Next X) (m at : ℕ) (p : Placed) → at < m → ((x : X) → CutTo m (form rows x p) (form rows x (cut_before m p)))
      → CutTo m (elim n [ go next ↦ form rows next p | stop code ↦ wrong code at ]) (elim n [ go next ↦ form rows next (cut_before m p) | stop code ↦ wrong code at ])
  word_cuts (go x) m at p h c = c x
  word_cuts (stop code) m at p h c = cut_wrong m code at h

  list_cuts : (n : Next (Inner X)) (m lo mid hi at : ℕ) (p q : Placed) → Rises lo p mid → Rises mid q hi → at < m
      → ((x : X) → CutTo m (form rows x p) (form rows x (cut_before m p))) → ((x : X) → CutTo m (form rows x q) (form rows x (cut_before m q)))
      → CutTo m (elim n [ go i ↦ form rows i.inside p followed_by form rows (i.behind (front p)) q | stop code ↦ wrong code at ])
      (elim n [ go i ↦ form rows i.inside (cut_before m p) followed_by form rows (i.behind (front (cut_before m p))) (cut_before m q) | stop code ↦ wrong code at ])
  list_cuts (go i) m lo mid hi at p q r t h c d =
      cut_list m lo mid hi (form rows i.inside) (λ w. form rows (i.behind w)) p q r t (form_stands p i.inside lo mid r) (c i.inside)
      (λ w. form_stands q (i.behind w) mid hi t) (λ w. d (i.behind w)) (λ w. tt)
  list_cuts (stop code) m lo mid hi at p q r t h c d = cut_wrong m code at h

  pub form_cuts : (p : Placed) (due : X) (m lo hi : ℕ) → Rises lo p hi → CutTo m (form rows due p) (form rows due (cut_before m p))
  form_cuts cut due m lo hi r = tt
  form_cuts (close at) due m lo hi r = by_test (nat_lt at m) refl
    where
      by_test : (b : Bool) → nat_lt at m ≡ b → CutTo m (form rows due (close at)) (form rows due (if b then close at else cut))
      by_test true e = close_cuts (rows due).at_close m at (ltb-true at m e)
      by_test false e = cut_short m at hi (form rows due (close at)) unfinished (close_stands (rows due).at_close at hi at (omega arith) r.1) (ltb-false at m e) tt
  form_cuts (word at w p) due m lo hi r = by_test (nat_lt at m) refl (λ x. form_cuts p x m (suc at) hi r.1)
    where
      by_test : (b : Bool) → nat_lt at m ≡ b → ((x : X) → CutTo m (form rows x p) (form rows x (cut_before m p))) → CutTo m (form rows due (word at w p)) (form rows due (if b then word at w (cut_before m p) else cut))
      by_test true e c = word_cuts ((rows due).at_word w) m at p (ltb-true at m e) c
      by_test false e c = cut_short m at hi (form rows due (word at w p)) unfinished (form_stands (word at w p) due at hi (omega arith, r.1)) (ltb-false at m e) tt
  form_cuts (list at p q) due m lo hi r = by_test (nat_lt at m) refl (λ x. form_cuts p x m (suc at) r.1.0 r.1.1) (λ x. form_cuts q x m r.1.0 hi r.1.2)
    where
      by_test : (b : Bool) → nat_lt at m ≡ b → ((x : X) → CutTo m (form rows x p) (form rows x (cut_before m p))) → ((x : X) → CutTo m (form rows x q) (form rows x (cut_before m q)))
          → CutTo m (form rows due (list at p q)) (form rows due (if b then list at (cut_before m p) (cut_before m q) else cut))
      by_test true e c d = list_cuts (rows due).at_list m (suc at) r.1.0 hi at p q r.1.1 r.1.2 (ltb-true at m e) c d
      by_test false e c d = cut_short m at hi (form rows due (list at p q)) unfinished (form_stands (list at p q) due at hi (omega arith, r.1)) (ltb-false at m e) tt

  pub form_cuttable : (due : X) → IsCuttable (form rows due)
  form_cuttable due = record { stands = λ lo hi p. form_stands p due lo hi; cuts = λ m lo hi p. form_cuts p due m lo hi }
