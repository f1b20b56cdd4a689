-- Tokens by their numbers: places, marks, and closing tokens.
use Rattle.std.proofs.Common.{◌≡◌, ℕ, zero, suc, ◌+◌, ◌-◌, ◌*◌, ◌%◌, ◌<◌, ◌≤◌, ◌⊎◌, inl, inr, length, drop, Option, Some, None, List, [], ◌∷◌, ◌++◌, refl, sym, ap, ◌∙◌, subst, arith}
use Rattle.std.proofs.Math.Nat.{le-suc_iff}
use Rattle.std.proofs.lemmas.List.{length-append, drop-drop}
use Rattle.std.proofs.lemmas.Nat.{div-add-mod'}
use Rattle.std.proofs.lemmas.Option.{slice_get_past}
use Rattle.std.specs.Option.{option_map}
use Rattle.std.specs.Prelude.{slice_get}
use Rattle.text_forms.specs.Closing.{close_by, close_after, close_of, closings, flattened, close_at}
use Rattle.text_forms.specs.Tokens.{Kind, start, stop, word, Token, tokens, token_count}
use Rattle.text_forms.proofs.Lists.{few_tokens}
use Rattle.text_forms.proofs.Shown.{closes_get}
use Rattle.text_forms.specs.declared.sexpr_text.marks.Marks.{Marks}
use Rattle.text_forms.specs.declared.sexpr_text.marks.Place.{Place}
use Rattle.text_forms.specs.declared.sexpr_text.tokens.Kind.{Kind as Kinds}
use Rattle.text_forms.specs.declared.sexpr_text.tokens.Kind.TheVariants.{Start, Stop, Word}
use Rattle.text_forms.specs.declared.sexpr_text.tokens.Piece.{Piece}
use Rattle.text_forms.specs.sexpr_text.Places.{tokens_at, tokens_by, deeper, depth_at, IsPlace, StayOpen, AreMarks, IsFarther}
use Rattle.text_forms.specs.sexpr_text.Seen.{kind_seen, piece_seen}

-- the first of what is left of a list
pub drop_next : {A : Type 0} (n : ℕ) (xs ys : List A) (x : A) → drop n xs ≡ x ∷ ys → (n < length xs) × (drop (suc n) xs ≡ ys) × (slice_get xs n ≡ Some x)
drop_next zero [] ys x e = cc
drop_next zero (a ∷ xs) ys x e = (omega arith, cc, cc)
drop_next (suc n) [] ys x e = cc
drop_next (suc n) (a ∷ xs) ys x e = let r = drop_next n xs ys x e in (omega (arith, r.0), r.1, r.2)

pub drop_nil : {A : Type 0} (n : ℕ) (xs : List A) → drop n xs ≡ [] → length xs ≤ n
drop_nil zero [] e = omega arith
drop_nil zero (a ∷ xs) e = cc
drop_nil (suc n) [] e = omega arith
drop_nil (suc n) (a ∷ xs) e = let r = drop_nil n xs e in omega (arith, r)

-- one token more
depth_next : (n d : ℕ) (ts us : List Token) (t : Token) → drop n ts ≡ t ∷ us → depth_at (suc n) d ts ≡ deeper t.kind (depth_at n d ts)
depth_next zero d [] us t e = cc
depth_next zero d (a ∷ ts) us t e = let same : a ≡ t = cc in ap (λ b. deeper b.kind d) same
depth_next (suc n) d [] us t e = cc
depth_next (suc n) d (a ∷ ts) us t e = depth_next n (deeper a.kind d) ts us t e

pub place_next : (text : List ℕ) (n : ℕ) (p q : Place) (t : Token) → IsPlace text n p → tokens_at text p.at ≡ t ∷ tokens_at text q.at → q.at ≤ length text → q.depth ≡ deeper t.kind p.depth → IsPlace text (n + 1) q
place_next text n p q t i e le deep =
    let next = drop_next n (tokens text) (tokens_at text q.at) t (i.here ∙ e) in
    let more = next.0 in
    let one : suc n ≡ n + 1 = omega arith in
    subst (λ k. IsPlace text k q) one (record {
      number = omega arith;
      within = le;
      here = next.1;
      depth = deep ∙ ap (deeper t.kind) i.depth ∙ sym (depth_next n 0 (tokens text) (tokens_at text q.at) t (i.here ∙ e));
    })

pub place_number : (text : List ℕ) (n : ℕ) (p : Place) → IsPlace text n p → n ≤ length text
place_number text n p i = let few = i.number in omega (arith, few, few_tokens text)

pub place_end : (text : List ℕ) (n : ℕ) (p : Place) → IsPlace text n p → tokens_at text p.at ≡ [] → n ≡ token_count text
place_end text n p i e = let few = i.number in let all = drop_nil n (tokens text) (i.here ∙ e) in omega (arith, few, all)

depth_few : (n d : ℕ) (ts : List Token) → depth_at n d ts ≤ n + d
depth_few zero d ts = omega arith
depth_few (suc n) d [] = omega arith
depth_few (suc n) d (t ∷ ts) = let r = depth_few n (deeper t.kind d) ts in by_kind t.kind d r
  where
    by_kind : (k : Kind) (d : ℕ) → depth_at n (deeper k d) ts ≤ n + deeper k d → depth_at n (deeper k d) ts ≤ suc n + d
    by_kind start d r = omega (arith, r)
    by_kind stop zero r = omega (arith, r)
    by_kind stop (suc d) r = omega (arith, r)
    by_kind word d r = omega (arith, r)

pub place_depth : (text : List ℕ) (n : ℕ) (p : Place) → IsPlace text n p → p.depth ≤ n
place_depth text n p i = let same = i.depth in let few = depth_few n 0 (tokens text) in omega (arith, same, few)

-- of all of a list and one element more
pub pushed : {A : Type 0} (P : ℕ → A → Type 0) (xs : List A) (x : A) → ((k : ℕ) (y : A) → slice_get xs k ≡ Some y → P k y) → P (length xs) x → (k : ℕ) (y : A) → slice_get (xs ++ x ∷ []) k ≡ Some y → P k y
pushed P [] x h at zero y e = let same : x ≡ y = cc in subst (P 0) same at
pushed P [] x h at (suc k) y e = cc
pushed P (a ∷ xs) x h at zero y e = h zero y e
pushed P (a ∷ xs) x h at (suc k) y e = pushed (λ n. P (suc n)) xs x (λ n. h (suc n)) at k y e

-- one token more, which is marked where its number is an eighth one
module _ (text : List ℕ) (old new : Marks) (p q : Place) (here : IsPlace text old.count p) (behind : IsPlace text (old.count + 1) q) (m : AreMarks text old) (one : new.count ≡ old.count + 1) where
  pub marks_more : (lists : ℕ) → old.count % 8 ≡ 0 → new.places.items ≡ old.places.items ++ p ∷ [] → new.least.items ≡ old.least.items ++ lists ∷ [] → lists ≤ old.low → new.low ≡ q.depth → AreMarks text new
  marks_more lists e places least le low =
      let enough = m.enough in
      let few = m.few in
      let as_many = m.as_many in
      let number : old.count ≡ length old.places.items * 8 = omega (arith, div-add-mod' old.count 8) in
      let longer : length new.places.items ≡ length old.places.items + 1 = ap length places ∙ length-append old.places.items (p ∷ []) in
      let longer_too : length new.least.items ≡ length old.least.items + 1 = ap length least ∙ length-append old.least.items (lists ∷ []) in
      record {
        places = λ k r s. pushed (λ k q. IsPlace text (k * 8) q) old.places.items p m.places (subst (λ k. IsPlace text k p) number here) k r (sym (ap (λ ps. slice_get ps k) places) ∙ s);
        least = λ k n s.
            pushed (λ k n. StayOpen text n (k * 8) (k * 8)) old.least.items lists m.least
            (λ i le_i near. let low = m.low i (omega (arith, le_i)) (omega (arith, near)) in omega (arith, low)) k n (sym (ap (λ ns. slice_get ns k) least) ∙ s);
        low = λ i le_i near.
            let last : i ≡ old.count + 1 = omega (arith, le_i, near) in
            subst (λ n. n ≤ depth_at i 0 (tokens text)) (sym low) (subst (λ k. q.depth ≤ depth_at k 0 (tokens text)) (sym last) (let deep = behind.depth in omega arith));
        as_many = omega arith;
        enough = omega arith;
        few = omega arith;
      }

  pub marks_as_before : (old.count % 8 ≡ 0 → ⊥) → new.places.items ≡ old.places.items → new.least.items ≡ old.least.items → new.low ≤ old.low → new.low ≤ q.depth → AreMarks text new
  marks_as_before e places least low deeper =
      let few = m.few in
      let as_many = m.as_many in
      let as_long : length new.places.items ≡ length old.places.items = ap length places in
      let as_long_too : length new.least.items ≡ length old.least.items = ap length least in
      record {
        places = λ k r s. m.places k r (sym (ap (λ ps. slice_get ps k) places) ∙ s);
        least = λ k n s. m.least k n (sym (ap (λ ns. slice_get ns k) least) ∙ s);
        low = λ i le near. low_by i (omega (arith, near, as_long)) (le-suc_iff.0 (omega (arith, le)));
        as_many = omega arith;
        enough = omega (arith, enough_by (old.count % 8) refl);
        few = omega arith;
      }
    where
      enough_by : (r : ℕ) → old.count % 8 ≡ r → old.count + 1 ≤ length old.places.items * 8
      enough_by zero z = absurd (e z)
      enough_by (suc r) z = let enough = m.enough in omega (arith, div-add-mod' old.count 8)

      low_by : (i : ℕ) → length old.places.items * 8 < i + 8 → (i ≤ old.count) ⊎ (i ≡ suc old.count) → new.low ≤ depth_at i 0 (tokens text)
      low_by i near (inl le) = let before = m.low i le near in omega (arith, low, before)
      low_by i near (inr is) =
          let last : old.count + 1 ≡ i = omega arith in
          let deep = behind.depth in
          subst (λ k. new.low ≤ depth_at k 0 (tokens text)) last (omega (arith, deeper, deep))

-- no token past the end closes one
pub close_past : (ts : List Token) (j i : ℕ) → length ts ≤ i → flattened (slice_get (closings j ts) i) ≡ None
close_past [] j i le = refl
close_past (a ∷ ts) j zero le = absurd (omega arith)
close_past (a ∷ ts) j (suc i) le = close_past ts (j + 1) i (omega (arith, le))

-- a list goes on behind a token that does not close it
pub goes_on : (k : Kind) (depth base j : ℕ) (next : ℕ → Option ℕ) → 0 < base → base ≤ depth → base ≤ deeper k depth → close_by k (depth - base) j next ≡ next (deeper k depth - base)
goes_on start depth base j next z l b = let one : suc (depth - base) ≡ suc depth - base = omega arith in ap next one
goes_on stop zero base j next z l b = absurd (omega arith)
goes_on stop (suc d) base j next z l b = let one : suc d - base ≡ suc (d - base) = omega arith in ap (λ n. close_by stop n j next) one
goes_on word depth base j next z l b = refl

-- over so many tokens, none of which closes it
over : (n depth base j : ℕ) (ts : List Token) → 0 < base → ((m : ℕ) → m ≤ n → base ≤ depth_at m depth ts) → close_after (depth - base) j ts ≡ close_after (depth_at n depth ts - base) (j + n) (drop n ts)
over zero depth base j ts z b = let at : j ≡ j + 0 = omega arith in ap (λ k. close_after (depth - base) k ts) at
over (suc n) depth base j [] z b = refl
over (suc n) depth base j (t ∷ ts) z b =
    let at : j + 1 + n ≡ j + suc n = omega arith in
    goes_on t.kind depth base j (λ d. close_after d (j + 1) ts) z (b 0 (omega arith)) (b 1 (omega arith))
    ∙ over n (deeper t.kind depth) base (j + 1) ts z (λ m le. b (suc m) (omega (arith, le)))
    ∙ ap (λ k. close_after (depth_at n (deeper t.kind depth) ts - base) k (drop n ts)) at

depth_none : (n d : ℕ) → depth_at n d [] ≡ d
depth_none zero d = refl
depth_none (suc n) d = refl

depth_sum : (n m d : ℕ) (ts : List Token) → depth_at (n + m) d ts ≡ depth_at m (depth_at n d ts) (drop n ts)
depth_sum zero m d ts = let none : 0 + m ≡ m = omega arith in ap (λ k. depth_at k d ts) none
depth_sum (suc n) m d [] = depth_none (suc n + m) d ∙ sym (depth_none m d)
depth_sum (suc n) m d (t ∷ ts) = let one : suc n + m ≡ suc (n + m) = omega arith in ap (λ k. depth_at k d (t ∷ ts)) one ∙ depth_sum n m (deeper t.kind d) ts

-- the next mark, up to which no token closes a list that is open in front of the tokens between
module _ (text : List ℕ) (i base : ℕ) (m : Marks) (p q : Place) (marks : AreMarks text m) (f : IsFarther i base m q) where
  pub farther_place : IsPlace text (i + 8) q
  farther_place = let here = f.here in let at : (f.mark + 1) * 8 ≡ i + 8 = omega arith in subst (λ k. IsPlace text k q) at (marks.places (f.mark + 1) q f.next)

  stay_open : (n : ℕ) → 0 < n → n ≤ 8 → base ≤ depth_at (i + n) 0 (tokens text)
  stay_open n more le =
      let here = f.here in
      let deep = f.deep in
      let least = marks.least (f.mark + 1) f.lists f.least (i + n) (omega (arith, here, le)) (omega (arith, here, more)) in
      omega (arith, deep, least)

  pub over_marks : IsPlace text i p → 0 < base → base ≤ p.depth → (base ≤ q.depth) × (close_after (p.depth - base) i (tokens_at text p.at) ≡ close_after (q.depth - base) (i + 8) (tokens_at text q.at))
  over_marks h z l =
      let all = tokens text in
      let b = farther_place in
      let same : (n : ℕ) → depth_at (i + n) 0 all ≡ depth_at n p.depth (tokens_at text p.at) =
      λ n. depth_sum i n 0 all ∙ ap (λ d. depth_at n d (drop i all)) (sym h.depth) ∙ ap (depth_at n p.depth) h.here in
      let deep : q.depth ≡ depth_at 8 p.depth (tokens_at text p.at) = b.depth ∙ same 8 in
      let rest : drop 8 (tokens_at text p.at) ≡ tokens_at text q.at = ap (drop 8) (sym h.here) ∙ drop-drop 8 i all ∙ b.here in
      let last = stay_open 8 (omega arith) (omega arith) in (
        let depth = b.depth in omega (arith, depth, last),
        over 8 p.depth base i (tokens_at text p.at) z (deep_by same)
            ∙ ap (λ d. close_after (d - base) (i + 8) (drop 8 (tokens_at text p.at))) (sym deep) ∙ ap (close_after (q.depth - base) (i + 8)) rest,
      )
    where
      deep_by : ((n : ℕ) → depth_at (i + n) 0 (tokens text) ≡ depth_at n p.depth (tokens_at text p.at)) → (n : ℕ) → n ≤ 8 → base ≤ depth_at n p.depth (tokens_at text p.at)
      deep_by same zero le = l
      deep_by same (suc n) le = subst (λ d. base ≤ d) (same (suc n)) (stay_open (suc n) (omega arith) le)

pub token_here : (text : List ℕ) (i at : ℕ) (p : Place) (t : Token) → IsPlace text i p → tokens_at text p.at ≡ t ∷ tokens_at text at → slice_get (tokens text) i ≡ Some t
token_here text i at p t h e = (drop_next i (tokens text) (tokens_at text at) t (h.here ∙ e)).2

-- the piece that is cut out at a place
pub piece_here : (text : List ℕ) (i : ℕ) (p : Place) (o : Option Piece) → IsPlace text i p → tokens_at text p.at ≡ tokens_by text o → option_map piece_seen o ≡ slice_get (tokens text) i
piece_here text i p None h e = let all = place_end text i p h e in sym (slice_get_past (tokens text) i (omega arith))
piece_here text i p (Some q) h e = sym (token_here text i q.span.end p (piece_seen q) h e)

-- what a token closes, by its kind
pub close_of_here : (text : List ℕ) (i : ℕ) (t : Token) (behind : List Token) → drop i (tokens text) ≡ t ∷ behind → close_at text i ≡ close_of t.kind i behind
close_of_here text i t behind e =
    let next = drop_next i (tokens text) behind t e in
    let none : 0 + i ≡ i = omega arith in
    closes_get (tokens text) 0 i t next.2 ∙ (λ k. close_of t.kind (none k) (next.1 k))

pub close_of_place : (text : List ℕ) (i at : ℕ) (p : Place) (t : Token) → IsPlace text i p → tokens_at text p.at ≡ t ∷ tokens_at text at → close_at text i ≡ close_of t.kind i (tokens_at text at)
close_of_place text i at p t h e = close_of_here text i t (tokens_at text at) (h.here ∙ e)

pub closes_none : (k : Kinds) (i : ℕ) (behind : List Token) → (k ≡ Start → ⊥) → close_of (kind_seen k) i behind ≡ None
closes_none Start i behind h = absurd (h refl)
closes_none Stop i behind h = refl
closes_none Word i behind h = refl
