-- The unions that stand in placed parts: without their places they are those that the parts write, and they stand at rising places.
use Rattle.std.proofs.Common.{◌≡◌, ◌∙◌, ℕ, suc, ◌≤◌, ◌<◌, ◌||◌, Bool, true, false, cond, List, [], ◌∷◌, ◌++◌, codes, refl, arith}
use Rattle.std.proofs.lemmas.Bool.{cond-false}
use Rattle.std.specs.Str.{bytes_eq}
use Rattle.text_forms.specs.Lists.{group}
use Rattle.text_forms.specs.Placed.{Placed, cut, close, word, list, parts_of}
use Rattle.text_forms.specs.Words.{Word, is_name, is_among}
use Rattle.plan_texts.specs.FirstSeen.{union_of, without_types, unions_in, unions_in_all}
use Rattle.plan_texts.specs.TypedLists.{words_in, first_seen}
use Rattle.plan_texts.proofs.Basics.{no_keyword'}
use Rattle.plan_texts.proofs.Unique.{map-append}
use Rattle.text_values.specs.form_spellings.Written.{Union, all_written, union_at}
use Rattle.text_values.proofs.form_spellings.WordTests.{no_key}
use Rattle.text_values.proofs.form_spellings.order.Climbs.{Climbs, climbs_from, climbs_join}
use Rattle.text_values.proofs.form_spellings.order.Spans.{Span, fits}

-- where these parts begin
abbrev pub front_place : Placed → ℕ
front_place cut = 0
front_place (close at) = at
front_place (word at w p) = at
front_place (list at p q) = at

abbrev mutual
  pub unions_at : Placed → List Union
  unions_at cut = []
  unions_at (close at) = []
  unions_at (word at w p) = unions_at p
  unions_at (list at p q) = inside_at p ++ unions_at q

  -- of what stands in the parentheses of a list
  pub inside_at : Placed → List Union
  inside_at cut = []
  inside_at (close at) = []
  inside_at (list at p q) = inside_at p ++ unions_at q
  inside_at (word at w p) = cond (bytes_eq (codes "either") w) (union_at (front_place p) (first_seen [] (words_in (parts_of p)))) (cond (is_among w without_types) [] (unions_at p))

union_erased : (at : ℕ) (ws : List Word) → all_written (union_at at ws) ≡ union_of ws
union_erased at [] = refl
union_erased at (w ∷ []) = refl
union_erased at (w ∷ u ∷ ws) = refl

headed_erased : (a b : Bool) (at : ℕ) (ws : List Word) (us : List Union) (vs : List (List Word)) → all_written us ≡ vs → all_written (cond a (union_at at ws) (cond b [] us)) ≡ cond a (union_of ws) (cond b [] vs)
headed_erased true b at ws us vs e = union_erased at ws
headed_erased false true at ws us vs e = refl
headed_erased false false at ws us vs e = e

joined_erased : (us vs : List Union) (xs ys : List (List Word)) → all_written us ≡ xs → all_written vs ≡ ys → all_written (us ++ vs) ≡ xs ++ ys
joined_erased us vs xs ys e f = map-append (λ (u : Union). u.is) us vs ∙ (λ i. e i ++ f i)

mutual
  pub unions_erased : (p : Placed) → all_written (unions_at p) ≡ unions_in_all (parts_of p)
  unions_erased cut = refl
  unions_erased (close at) = refl
  unions_erased (word at w p) = unions_erased p
  unions_erased (list at p q) = joined_erased (inside_at p) (unions_at q) (unions_in (group (parts_of p))) (unions_in_all (parts_of q)) (inside_erased p) (unions_erased q)

  pub inside_erased : (p : Placed) → all_written (inside_at p) ≡ unions_in (group (parts_of p))
  inside_erased cut = refl
  inside_erased (close at) = refl
  inside_erased (list at p q) = joined_erased (inside_at p) (unions_at q) (unions_in (group (parts_of p))) (unions_in_all (parts_of q)) (inside_erased p) (unions_erased q)
  inside_erased (word at w p) = headed_erased (bytes_eq (codes "either") w) (is_among w without_types) (front_place p) (first_seen [] (words_in (parts_of p))) (unions_at p) (unions_in_all (parts_of p)) (unions_erased p)

-- behind a name nothing is dropped
pub named_inside : (at : ℕ) (w : Word) (p : Placed) → is_name w ≡ true → inside_at (word at w p) ≡ unions_at p
named_inside at w p e = cond-false _ _ _ (no_keyword' w (codes "either") e refl) ∙ cond-false _ _ _ dropped
  where
    dropped : is_among w without_types ≡ false
    dropped i = no_key w (codes ":functions") e refl i || (no_key w (codes ":metric") e refl i || (no_key w (codes "increase") e refl i || (no_key w (codes "=") e refl i || false)))

abbrev pub union_place : Union → ℕ
union_place u = u.at

one_union : (at from to : ℕ) (ws : List Word) → from ≤ at → at < to → Climbs union_place from (union_at at ws) to
one_union at from to [] l m = omega arith
one_union at from to (w ∷ []) l m = omega arith
one_union at from to (w ∷ u ∷ ws) l m = (l, omega arith)

front_union : (p : Placed) (from to : ℕ) → Span from p to → Climbs union_place from (union_at (front_place p) (first_seen [] (words_in (parts_of p)))) to
front_union cut from to s = s
front_union (close at) from to s = fits (close at) from to s
front_union (word at w p) from to s = let a = s.0 in let b = fits p (suc at) to s.1 in one_union at from to (first_seen [] (words_in (parts_of (word at w p)))) a (omega arith)
front_union (list at p q) from to s =
    let a = s.0 in
    let b = fits p (suc at) s.1 s.2 in
    let c = fits q s.1 to s.3 in
    one_union at from to (first_seen [] (words_in (parts_of (list at p q)))) a (omega arith)

headed_climb : (a b : Bool) (at from to : ℕ) (us vs : List Union) → from ≤ to → Climbs union_place from us to → Climbs union_place from vs to → Climbs union_place from (cond a us (cond b [] vs)) to
headed_climb true b at from to us vs l c d = c
headed_climb false true at from to us vs l c d = l
headed_climb false false at from to us vs l c d = d

mutual
  pub unions_climb : (p : Placed) (from to : ℕ) → Span from p to → Climbs union_place from (unions_at p) to
  unions_climb cut from to s = s
  unions_climb (close at) from to s = fits (close at) from to s
  unions_climb (word at w p) from to s = let a = s.0 in climbs_from union_place (unions_at p) from (suc at) to (omega arith) (unions_climb p (suc at) to s.1)
  unions_climb (list at p q) from to s =
      let a = s.0 in
      climbs_join union_place (inside_at p) (unions_at q) from s.1 to (climbs_from union_place (inside_at p) from (suc at) s.1 (omega arith) (inside_climb p (suc at) s.1 s.2)) (unions_climb q s.1 to s.3)

  pub inside_climb : (p : Placed) (from to : ℕ) → Span from p to → Climbs union_place from (inside_at p) to
  inside_climb cut from to s = s
  inside_climb (close at) from to s = fits (close at) from to s
  inside_climb (list at p q) from to s =
      let a = s.0 in
      climbs_join union_place (inside_at p) (unions_at q) from s.1 to (climbs_from union_place (inside_at p) from (suc at) s.1 (omega arith) (inside_climb p (suc at) s.1 s.2)) (unions_climb q s.1 to s.3)
  inside_climb (word at w p) from to s =
      let a = s.0 in
      let f = fits p (suc at) to s.1 in
      headed_climb (bytes_eq (codes "either") w) (is_among w without_types) at from to (union_at (front_place p) (first_seen [] (words_in (parts_of p)))) (unions_at p) (omega arith)
      (climbs_from union_place (union_at (front_place p) (first_seen [] (words_in (parts_of p)))) from (suc at) to (omega arith) (front_union p (suc at) to s.1))
      (climbs_from union_place (unions_at p) from (suc at) to (omega arith) (unions_climb p (suc at) to s.1))
