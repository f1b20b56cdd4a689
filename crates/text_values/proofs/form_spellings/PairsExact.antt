-- Orderings to which what was read is bound are those that its parts spell.
use Rattle.std.proofs.Common.{◌≡◌, ◌∙◌, ◌↔◌, ℕ, ◌⊎◌, inl, inr, Bool, true, false, codes, Ok, Err, Result, List, Some, refl, sym, ap, subst, if◌then◌else◌}
use Rattle.text_forms.specs.Lists.{Parts, name, group, nothing, part}
use Rattle.text_forms.specs.Placed.{Placed, cut, close, word, list, parts_of}
use Rattle.text_forms.specs.Printing.{headed}
use Rattle.text_forms.specs.Words.{Word, is_name, first_place}
use Rattle.plan_texts.specs.Networks.{IsOrdered}
use Rattle.plan_texts.specs.Sections.{bundle}
use Rattle.plan_texts.proofs.Basics.{bytes_eq-true}
use Rattle.plan_model.specs.declared.networks.Pair.{Pair}
use Rattle.gd_reader.specs.declared.stop.Stop.{Stop}
use Rattle.gd_reader.specs.declared.stop.Stop.TheVariants.{Departs}
use Rattle.gd_reader.specs.declared.term.RawTerm.{RawTerm}
use Rattle.gd_reader.specs.Answers.{◌>>=◌, word_due, end_due}
use Rattle.gd_reader.specs.Terms.{Names, used}
use Rattle.hddl_reader.specs.declared.networks.RawPair.{RawPair}
use Rattle.hddl_reader.specs.Networks.{is_word, sign_due, name_due, then_due, pair_headed, some_of}
use Rattle.text_values.specs.form_spellings.BoundNetworks.{IsBoundPair}
use Rattle.text_values.proofs.form_spellings.KeptWords.{Reads, reads_then, reads_weaken, reads_end}
use Rattle.text_values.proofs.form_spellings.ListsWhole.{name_is}
use Rattle.text_values.proofs.form_spellings.PartsWhole.{front_is, back_is, within_is}
use Rattle.text_values.proofs.form_spellings.TermsBound.{NameBound, used_bound}
use Rattle.text_values.proofs.form_spellings.TermsIn.{same}
use Rattle.text_values.proofs.form_spellings.WordTests.{false_true}
use Rattle.text_values.proofs.form_spellings.ItemsExact.{ItemExact, ListExact, some_of_exact}

-- an ordering of two names
abbrev IsOrder : Word → Word → Parts → Type 0
IsOrder a b ps = (ps ≡ part (name (codes "<")) (part (name a) (part (name b) nothing))) ⊎ (ps ≡ part (name a) (part (name (codes "<")) (part (name b) nothing)))

no_sign : {P : Type 0} (a : Word) → is_name a ≡ true → a ≡ codes "<" → P
no_sign a n e = false_true (ap is_name (sym e) ∙ n)

abbrev IsPlaced : List Word → Pair → Word → Word → Type 0
IsPlaced ids x a b = (first_place a ids ≡ Some x.first) × (first_place b ids ≡ Some x.then)

-- two orderings that are written alike have the same names
same_order : (a b c d : Word) (ps : Parts) → is_name a ≡ true → is_name c ≡ true → IsOrder a b ps → IsOrder c d ps → (a ≡ c) × (b ≡ d)
same_order a b c d ps n m (inl e) (inl f) = let g = back_is (sym e ∙ f) in (name_is (front_is g), name_is (front_is (back_is g)))
same_order a b c d ps n m (inl e) (inr f) = let g = sym e ∙ f in no_sign c m (sym (name_is (front_is g)))
same_order a b c d ps n m (inr e) (inl f) = let g = sym e ∙ f in no_sign a n (name_is (front_is g))
same_order a b c d ps n m (inr e) (inr f) = let g = sym e ∙ f in (name_is (front_is g), name_is (front_is (back_is (back_is g))))

-- names of an ordering at their places
order_spelled : (ids : List Word) (x : Pair) (a b : Word) (ps : Parts) → is_name a ≡ true → is_name b ≡ true → IsOrder a b ps → IsPlaced ids x a b ↔ IsOrdered ids x (group ps)
order_spelled ids x a b ps n m o = (λ i. (a, b, to o, n, m, i.0, i.1), from)
  where
    to : IsOrder a b ps → (group ps ≡ headed (codes "<") (part (name a) (part (name b) nothing))) ⊎ (group ps ≡ headed a (part (name (codes "<")) (part (name b) nothing)))
    to (inl e) = inl (ap group e)
    to (inr e) = inr (ap group e)

    back : (c d : Word) → (group ps ≡ headed (codes "<") (part (name c) (part (name d) nothing))) ⊎ (group ps ≡ headed c (part (name (codes "<")) (part (name d) nothing))) → IsOrder c d ps
    back c d (inl e) = inl (within_is e)
    back c d (inr e) = inr (within_is e)

    from : IsOrdered ids x (group ps) → IsPlaced ids x a b
    from (c, d, e, p, q, i, j) = let s = same_order a b c d ps n p o (back c d e) in (ap (λ u. first_place u ids) s.0 ∙ i, ap (λ u. first_place u ids) s.1 ∙ j)

abbrev pub IsReadPair : Names → List Word → RawPair → Pair → Type 0
IsReadPair table ids = IsBoundPair table ids

abbrev PairOf : Parts → RawPair → Names → Type 0
PairOf ps x table = ItemExact IsOrdered IsReadPair ps x table

pair_of : (a b : Word) (ps : Parts) (x : RawPair) (table : Names) → IsOrder a b ps → NameBound a x.first table → NameBound b x.then table → PairOf ps x table
pair_of a b ps x table o n m ids y =
    let s = order_spelled ids y a b ps n.1 m.1 o in (
      λ i. s.0 (ap (λ u. first_place u ids) (sym n.0) ∙ i.0, ap (λ u. first_place u ids) (sym m.0) ∙ i.1),
      λ i. let j = s.1 i in (ap (λ u. first_place u ids) n.0 ∙ j.0, ap (λ u. first_place u ids) m.0 ∙ j.1),
    )

-- a name that is due, and what is read behind it
due_then : {Y : Type 0} (P : RawTerm → Names → Type 0) (Q : Y → Names → Type 0) (names : Names) (q : Placed) (r : Result (RawTerm × Names) Stop) (g : (RawTerm × Placed) × Names → Result (Y × Names) Stop)
    → Reads names r P → ((a : RawTerm × Names) → Reads a.1 (g ((a.0, q), a.1)) (λ y table. P a.0 table → Q y table)) → Reads names ((r >>= (λ a. Ok ((a.0, q), a.1))) >>= g) Q
due_then P Q names q (Ok x) g a b = reads_then same P Q names (Ok x) (λ a. g ((a.0, q), a.1)) a b
due_then P Q names q (Err e) g a b = tt

-- the second name, up to the end
abbrev ThenIs : RawTerm → Parts → RawPair → Names → Type 0
ThenIs first ps y table = (b : Word) × (y.first ≡ first) × (ps ≡ part (name b) nothing) × NameBound b y.then table

then_exact : (p : Placed) (first : RawTerm) (place : ℕ) (names : Names) → Reads names (then_due first place names p) (ThenIs first (parts_of p))
unfolding then_due name_due word_due
then_exact cut first place names = tt
then_exact (close at) first place names = tt
then_exact (list at p q) first place names = tt
then_exact (word at w p) first place names =
    due_then (NameBound w) (ThenIs first (part (name w) (parts_of p))) names p (used names at w) (λ b. end_due b.0.1 >>= (λ _. Ok (record { first = first; then = b.0.0; at = place }, b.1))) (used_bound names at w)
    (λ b. reads_end (λ y table. NameBound w b.0 table → ThenIs first (part (name w) (parts_of p)) y table) p (record { first = first; then = b.0; at = place }, b.1) (λ e table one. (w, refl, ap (part (name w)) e, one)))

-- < a b
prefixed_exact : (p : Placed) (names : Names) (place : ℕ) → Reads names (name_due names p >>= (λ a. then_due a.0.0 place a.1 a.0.1)) (PairOf (part (name (codes "<")) (parts_of p)))
unfolding name_due word_due
prefixed_exact cut names place = tt
prefixed_exact (close b) names place = tt
prefixed_exact (list b p q) names place = tt
prefixed_exact (word b u p) names place =
    due_then (NameBound u) (PairOf (part (name (codes "<")) (part (name u) (parts_of p)))) names p (used names b u) (λ a. then_due a.0.0 place a.1 a.0.1) (used_bound names b u)
    (λ a. reads_weaken (ThenIs a.0 (parts_of p)) (λ y table. NameBound u a.0 table → PairOf (part (name (codes "<")) (part (name u) (parts_of p))) y table) a.1 (then_due a.0 place a.1 p) (then_exact p a.0 place a.1)
    (λ y table is one. pair_of u is.0 (part (name (codes "<")) (part (name u) (parts_of p))) y table (inl (ap (λ ps. part (name (codes "<")) (part (name u) ps)) is.2)) (subst (λ t. NameBound u t table) (sym is.1) one) is.3))

-- behind the first name of a < b
abbrev SignThen : RawTerm → Parts → RawPair → Names → Type 0
SignThen first ps y table = (b : Word) × (y.first ≡ first) × (ps ≡ part (name (codes "<")) (part (name b) nothing)) × NameBound b y.then table

sign_exact : (p : Placed) (a : RawTerm) (place : ℕ) (names : Names) → Reads names (sign_due p >>= (λ q. then_due a place names q)) (SignThen a (parts_of p))
unfolding sign_due word_due
sign_exact cut a place names = tt
sign_exact (close b) a place names = tt
sign_exact (list b p q) a place names = tt
sign_exact (word b u p) a place names = by_sign (is_word (codes "<") u) refl
  where
    by_sign : (c : Bool) → is_word (codes "<") u ≡ c → Reads names ((if c then Ok p else Err (Departs 8 b)) >>= (λ q. then_due a place names q)) (SignThen a (part (name u) (parts_of p)))
    by_sign true e =
        reads_weaken (ThenIs a (parts_of p)) (SignThen a (part (name u) (parts_of p))) names (then_due a place names p) (then_exact p a place names)
        (λ y table is. (is.0, is.1, (λ i. part (name (bytes_eq-true u (codes "<") e i)) (is.2 i)), is.3))
    by_sign false e = tt

-- a < b
between_exact : (p : Placed) (names : Names) (place at : ℕ) (w : Word) → Reads names (used names at w >>= (λ a. sign_due p >>= (λ q. then_due a.0 place a.1 q))) (PairOf (part (name w) (parts_of p)))
between_exact p names place at w =
    reads_then same (NameBound w) (PairOf (part (name w) (parts_of p))) names (used names at w) (λ a. sign_due p >>= (λ q. then_due a.0 place a.1 q)) (used_bound names at w)
    (λ a. reads_weaken (SignThen a.0 (parts_of p)) (λ y table. NameBound w a.0 table → PairOf (part (name w) (parts_of p)) y table) a.1 (sign_due p >>= (λ q. then_due a.0 place a.1 q)) (sign_exact p a.0 place a.1)
    (λ y table is one. pair_of w is.0 (part (name w) (parts_of p)) y table (inr (ap (part (name w)) is.2)) (subst (λ t. NameBound w t table) (sym is.1) one) is.3))

pair_exact : (names : Names) (place at : ℕ) (w : Word) (p : Placed) → Reads names (pair_headed names place at w p) (PairOf (part (name w) (parts_of p)))
unfolding pair_headed
pair_exact names place at w p = go (is_word (codes "<") w) refl
  where
    go : (b : Bool) → is_word (codes "<") w ≡ b
        → Reads names (if b then name_due names p >>= (λ a. then_due a.0.0 place a.1 a.0.1) else used names at w >>= (λ a. sign_due p >>= (λ q. then_due a.0 place a.1 q))) (PairOf (part (name w) (parts_of p)))
    go true e = subst (λ u. Reads names (name_due names p >>= (λ a. then_due a.0.0 place a.1 a.0.1)) (PairOf (part (name u) (parts_of p)))) (sym (bytes_eq-true w (codes "<") e)) (prefixed_exact p names place)
    go false e = between_exact p names place at w

pub pairs_exact : (p : Placed) (names : Names) (place : ℕ) → Reads names (some_of pair_headed names place p) (ListExact IsOrdered IsReadPair (bundle (group (parts_of p))))
pairs_exact = some_of_exact IsOrdered IsReadPair pair_headed pair_exact
