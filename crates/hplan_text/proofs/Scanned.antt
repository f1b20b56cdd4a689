-- Pieces, words and lines, one after another.
use Rattle.std.proofs.Common.{ℕ, zero, suc, ◌≡◌, ◌∙◌, ◌+◌, ◌-◌, ◌<◌, ◌≤◌, Bool, true, false, cond, Option, Some, None, List, [], ◌∷◌, ◌++◌, take, drop, length, refl, sym, ap, ap₂, subst, append_assoc, arith, zero-add}
use Rattle.std.specs.List.{filter_map, cons_option, slice_range}
use Rattle.std.proofs.lemmas.List.{append-nil}
use Rattle.hplan_text.specs.Lines.{Piece, piece, with_byte, pieces, is_blank, is_line_end, Said, said, words_from, line_of, lines_from}
use Rattle.hplan_text.specs.Scanning.{gap}

drop-nothing : {X : Type 0} (k : ℕ) → ◌≡◌ {A = List X} (drop k []) []
drop-nothing zero = refl
drop-nothing (suc k) = refl

pub drop-drop : {X : Type 0} (m n : ℕ) (xs : List X) → drop m (drop n xs) ≡ drop (n + m) xs
drop-drop m zero xs = let e : m ≡ zero + m = omega arith in ap (λ k. drop k xs) e
drop-drop m (suc n) [] = drop-nothing m ∙ sym (drop-nothing (suc n + m))
drop-drop m (suc n) (x ∷ xs) = let e : suc (n + m) ≡ suc n + m = omega arith in drop-drop m n xs ∙ ap (λ k. drop k (x ∷ xs)) e

-- where an empty piece gives nothing, the first piece comes and then those behind the byte that parts it
module _ {X : Type 0} (f : Piece → Option X) (none : (at : ℕ) → f (piece at []) ≡ None) (parts : ℕ → Bool) where
  abbrev IsFirst : ℕ → List ℕ → ℕ → List Piece → Type 0
  IsFirst at bs n all =
      (ps : List Piece) × (all ≡ piece at (take n bs) ∷ ps) × (filter_map f ps ≡ filter_map f (pieces parts (at + suc n) (drop (suc n) bs)))

  first : (at : ℕ) (bs : List ℕ) → IsFirst at bs (gap parts bs) (pieces parts at bs)
  first at [] = ([], refl, ap (λ o. cons_option o []) (sym (none (at + 1))))
  first at (b ∷ bs) = by (parts b) (first (at + 1) bs)
    where
      by : (t : Bool) → IsFirst (at + 1) bs (gap parts bs) (pieces parts (at + 1) bs) → IsFirst at (b ∷ bs) (cond t 0 (suc (gap parts bs))) (with_byte t at b (pieces parts (at + 1) bs))
      by true r = (pieces parts (at + 1) bs, refl, refl)
      by false r =
          let e : at + 1 + suc (gap parts bs) ≡ at + suc (suc (gap parts bs)) = omega arith in
          (r.0, ap (with_byte false at b) r.1, r.2 ∙ ap (λ k. filter_map f (pieces parts k (drop (suc (gap parts bs)) bs))) e)

  pub next-piece : (at : ℕ) (bs : List ℕ) → filter_map f (pieces parts at bs) ≡ cons_option (f (piece at (take (gap parts bs) bs))) (filter_map f (pieces parts (at + suc (gap parts bs)) (drop (suc (gap parts bs)) bs)))
  next-piece at bs = let r = first at bs in ap (filter_map f) r.1 ∙ ap (cons_option (f (piece at (take (gap parts bs) bs)))) r.2

  -- the same from place i on, where the first piece ends at another one
  pub piece-to : (at i end : ℕ) (bs : List ℕ) → end ≡ i + gap parts (drop i bs)
      → filter_map f (pieces parts (at + i) (drop i bs)) ≡ cons_option (f (piece (at + i) (slice_range bs i end))) (filter_map f (pieces parts (at + (end + 1)) (drop (end + 1) bs)))
  piece-to at i end bs e =
      let n = gap parts (drop i bs) in
      let a : n ≡ end - i = omega (arith, e) in
      let b : at + i + suc n ≡ at + (end + 1) = omega (arith, e) in
      let c : i + suc n ≡ end + 1 = omega (arith, e) in
      next-piece (at + i) (drop i bs)
      ∙ ap₂ (λ k z. cons_option (f (piece (at + i) (take k (drop i bs)))) (filter_map f z)) a (ap₂ (λ k z. pieces parts k z) b (drop-drop (suc n) i bs ∙ ap (λ k. drop k bs) c))

some-said : (at : ℕ) (bs : List ℕ) → 0 < length bs → said (piece at bs) ≡ Some (record { at = at; word = bs })
some-said at [] l = absurd (omega arith)
some-said at (b ∷ bs) l = refl

-- a word is kept where the piece has bytes
pub kept : (at : ℕ) (bs : List ℕ) (old : List Said) (s : Said) → 0 < length bs → s ≡ record { at = at; word = bs } → old ++ s ∷ [] ≡ old ++ cons_option (said (piece at bs)) []
kept at bs old s l e = ap (λ z. old ++ z) (ap (λ z. z ∷ []) e ∙ ap (λ o. cons_option o []) (sym (some-said at bs l)))

pub not-kept : (at : ℕ) (bs : List ℕ) (old : List Said) → length bs ≡ 0 → old ≡ old ++ cons_option (said (piece at bs)) []
not-kept at [] old l = sym (append-nil old)
not-kept at (b ∷ bs) old l = absurd (omega arith)

before-rest : {X : Type 0} (o : Option X) (xs : List X) → cons_option o [] ++ xs ≡ cons_option o xs
before-rest None xs = refl
before-rest (Some x) xs = refl

pub words-next : (at i end : ℕ) (line : List ℕ) (ws more : List Said) → words_from at line ≡ ws ++ words_from (at + i) (drop i line) → end ≡ i + gap is_blank (drop i line)
    → more ≡ ws ++ cons_option (said (piece (at + i) (slice_range line i end))) [] → words_from at line ≡ more ++ words_from (at + (end + 1)) (drop (end + 1) line)
words-next at i end line ws more h e m =
    let rest = words_from (at + (end + 1)) (drop (end + 1) line) in
    let o = said (piece (at + i) (slice_range line i end)) in
    h ∙ ap (λ z. ws ++ z) (piece-to said (λ a. refl) is_blank at i end line e ∙ sym (before-rest o rest)) ∙ sym (append_assoc ws (cons_option o []) rest) ∙ ap (λ z. z ++ rest) (sym m)

no-words : (at : ℕ) (line : List ℕ) → length line ≤ 0 → words_from at line ≡ []
no-words at [] l = refl
no-words at (b ∷ bs) l = absurd (omega arith)

pub last-word : (at i : ℕ) (line : List ℕ) (ws : List Said) → words_from at line ≡ ws ++ words_from (at + i) (drop i line) → length (drop i line) ≤ 0 → ws ≡ words_from at line
last-word at i line ws h l = sym (h ∙ ap (λ z. ws ++ z) (no-words (at + i) (drop i line) l) ∙ append-nil ws)

pub line-next : (at end : ℕ) (text : List ℕ) → end ≡ at + gap is_line_end (drop at text)
    → lines_from at (drop at text) ≡ cons_option (line_of (piece at (slice_range text at end))) (lines_from (end + 1) (drop (end + 1) text))
line-next at end text e =
    let P : ℕ → ℕ → Type 0 = λ x y. filter_map line_of (pieces is_line_end x (drop at text)) ≡ cons_option (line_of (piece x (slice_range text at end))) (filter_map line_of (pieces is_line_end y (drop (end + 1) text))) in
    subst (λ x. P x (end + 1)) (zero-add at) (subst (λ y. P (0 + at) y) (zero-add (end + 1)) (piece-to line_of (λ a. refl) is_line_end 0 at end text e))
