-- Words put into a table one after another.
use Rattle.std.proofs.Common.{ℕ, suc, ◌≡◌, ◌+◌, ◌<◌, ◌≤◌, ◌^◌, ◌||◌, inl, inr, Bool, true, false, not, cond, nat_lt, List, [], ◌∷◌, ◌++◌, map, take, length, length-append, get_or, position, Some, None, Result, OnOk, refl, ap, sym, subst, ◌∙◌, append_assoc, true≢false, arith}
use Rattle.std.specs.List.{list_any, position_or_len}
use Rattle.std.specs.Str.{bytes_eq}
use Rattle.std.proofs.lemmas.Bool.{lt-ltb, ltb-true}
use Rattle.std.proofs.lemmas.List.{append-nil, take_more, take_all, map_more}
use Rattle.std.proofs.lemmas.Result.{on_ok_weaker}
use Rattle.htn_base.specs.Table.{with_word, number_of}
use Rattle.text_forms.specs.Words.{Word}
use Rattle.plan_texts.specs.Types.{Has}
use Rattle.plan_texts.proofs.Basics.{bytes_eq-true}
use Rattle.plan_texts.proofs.Places.{each-join}
use Rattle.plan_model.specs.task_networks.Spelling.{numbers}
use Rattle.slot_encoding.specs.EncodedNames.{joined}
use Rattle.order_encoder.proofs.NextSlot.{push_next}
use Rattle.slot_encoding.proofs.words.Lists.{each-weaker}
use Rattle.slot_encoding.specs.slot_declarations.Vocabulary.{Gains}

any-has : (w : Word) (ws : List Word) → list_any (bytes_eq w) ws ≡ true → Has ws w
any-has w [] e = absurd (true≢false (sym e))
any-has w (x ∷ ws) e = by (bytes_eq w x) refl e (any-has w ws)
  where
    by : (t : Bool) → bytes_eq w x ≡ t → (t || list_any (bytes_eq w) ws) ≡ true → (list_any (bytes_eq w) ws ≡ true → Has ws w) → Has (x ∷ ws) w
    by true f e r = inl (sym (bytes_eq-true w x f))
    by false f e r = inr (r e)

has-before : (ws : List Word) (w u : Word) → Has ws u → Has (ws ++ w ∷ []) u
has-before [] w u h = absurd h
has-before (x ∷ ws) w u (inl e) = inl e
has-before (x ∷ ws) w u (inr h) = inr (has-before ws w u h)

has-last : (ws : List Word) (w : Word) → Has (ws ++ w ∷ []) w
has-last [] w = inl refl
has-last (x ∷ ws) w = inr (has-last ws w)

-- what is found in a list is found at the same place where more stands behind it
module _ {X : Type 0} (p : X → Bool) where
  place-more : (xs more : List X) → position_or_len p xs < length xs → position_or_len p (xs ++ more) ≡ position_or_len p xs
  place-more [] more l = absurd (omega arith)
  place-more (x ∷ xs) more l = by (p x) l (place-more xs more)
    where
      by : (t : Bool) → cond (not t) (1 + position_or_len p xs) 0 < suc (length xs) → (position_or_len p xs < length xs → position_or_len p (xs ++ more) ≡ position_or_len p xs)
          → cond (not t) (1 + position_or_len p (xs ++ more)) 0 ≡ cond (not t) (1 + position_or_len p xs) 0
      by true l r = refl
      by false l r = ap (λ k. 1 + k) (r (omega arith))

  position-more : (xs more : List X) (k : ℕ) → position p xs ≡ Some k → position p (xs ++ more) ≡ Some k
  position-more xs more k = by (nat_lt (position_or_len p xs) (length xs)) refl
    where
      by : (t : Bool) → nat_lt (position_or_len p xs) (length xs) ≡ t → cond t (Some (position_or_len p xs)) None ≡ Some k → position p (xs ++ more) ≡ Some k
      by true e f =
          let l = ltb-true (position_or_len p xs) (length xs) e in
          let n = length-append xs more in
          ap (λ j. cond (nat_lt j (length (xs ++ more))) (Some j) None) (place-more xs more l)
          ∙ ap (λ t. cond t (Some (position_or_len p xs)) None) (lt-ltb (position_or_len p xs) (length (xs ++ more)) (omega (arith, l, n))) ∙ f
      by false e f = absurd cc

-- one word
pub gains-word : (w : Word) (old new : List Word) → new ≡ with_word old w → length new < 2 ^ 32 → Gains (w ∷ []) old new
gains-word w old new e l = by (list_any (bytes_eq w) old) refl e
  where
    by : (t : Bool) → list_any (bytes_eq w) old ≡ t → new ≡ cond t old (old ++ w ∷ []) → Gains (w ∷ []) old new
    by true f e = record { gained = (subst (λ ws. Has ws w) (sym e) (any-has w old f), tt); kept = λ u h. subst (λ ws. Has ws u) (sym e) h; numbers = λ u k h. subst (λ ws. number_of ws u ≡ Some k) (sym e) h; short = λ _. l }
    by false f e = record { gained = (subst (λ ws. Has ws w) (sym e) (has-last old w), tt); kept = λ u h. subst (λ ws. Has ws u) (sym e) (has-before old w u h); numbers = λ u k h. subst (λ ws. number_of ws u ≡ Some k) (sym e) (position-more (bytes_eq u) old (w ∷ []) k h); short = λ _. l }

pub gains-none : (old : List Word) → Gains [] old old
gains-none old = record { gained = tt; kept = λ w h. h; numbers = λ w k h. h; short = λ l. l }

pub gains-join : {a b old mid new : List Word} → Gains a old mid → Gains b mid new → Gains (a ++ b) old new
gains-join {a = a} {b = b} {old = old} {mid = mid} {new = new} g h = record {
  gained = each-join (Has new) a b (each-weaker (Has mid) (Has new) a (λ w k. h.kept w k) g.gained) h.gained;
  kept = λ w k. h.kept w (g.kept w k);
  numbers = λ w k e. h.numbers w k (g.numbers w k e);
  short = λ l. h.short (g.short l);
}

-- of the same words
pub gains-of : {a b old new : List Word} → a ≡ b → Gains a old new → Gains b old new
gains-of {old = old} {new = new} e g = subst (λ ws. Gains ws old new) e g

-- the same where a call succeeds
module _ {T E : Type 0} (r : Result T E) where
  pub ok-of : (a b old new : List Word) → a ≡ b → OnOk r (Gains a old new) → OnOk r (Gains b old new)
  ok-of a b old new e h = on_ok_weaker {P = Gains a old new} {Q = Gains b old new} r (λ g. gains-of e g) h

  pub ok-join : (a b old mid new : List Word) → Gains a old mid → OnOk r (Gains b mid new) → OnOk r (Gains (a ++ b) old new)
  ok-join a b old mid new g h = on_ok_weaker {P = Gains b mid new} {Q = Gains (a ++ b) old new} r (λ k. gains-join g k) h

joined-push : {X : Type 0} (f : X → List Word) (xs : List X) (x : X) → joined (map f (xs ++ x ∷ [])) ≡ joined (map f xs) ++ f x
joined-push f [] x = append-nil (f x)
joined-push f (z ∷ xs) x = ap (λ ys. f z ++ ys) (joined-push f xs x) ∙ sym (append_assoc (f z) (joined (map f xs)) (f x))

-- one more item of a list, with its words
pub gains-next : {X : Type 0} (f : X → List Word) (xs : List X) (i : ℕ) (d : X) {old now new : List Word}
    → i < length xs → Gains (joined (map f (take i xs))) old now → Gains (f (get_or xs i d)) now new → Gains (joined (map f (take (i + 1) xs))) old new
gains-next f xs i d l g h = gains-of (sym (ap (λ ys. joined (map f ys)) (take_more xs i d l) ∙ joined-push f (take i xs) (get_or xs i d))) (gains-join g h)

pub gains-all : {X : Type 0} (f : X → List Word) (xs : List X) (i : ℕ) {old new : List Word} → length xs ≤ i → Gains (joined (map f (take i xs))) old new → Gains (joined (map f xs)) old new
gains-all f xs i l g = gains-of (ap (λ ys. joined (map f ys)) (take_all i xs l)) g

-- the same where an item has one word
pub gains-next_word : {X : Type 0} (f : X → Word) (xs : List X) (i : ℕ) (d : X) {old now new : List Word}
    → i < length xs → Gains (map f (take i xs)) old now → Gains (f (get_or xs i d) ∷ []) now new → Gains (map f (take (i + 1) xs)) old new
gains-next_word f xs i d l g h = gains-of (sym (map_more f xs i d l)) (gains-join g h)

pub gains-all_words : {X : Type 0} (f : X → Word) (xs : List X) (i : ℕ) {old new : List Word} → length xs ≤ i → Gains (map f (take i xs)) old new → Gains (map f xs) old new
gains-all_words f xs i l g = gains-of (ap (map f) (take_all i xs l)) g

-- and where there is a word for each number
pub gains-next_number : (f : ℕ → Word) (k : ℕ) {old now new : List Word} → Gains (map f (numbers 1 k)) old now → Gains (f (1 + k) ∷ []) now new → Gains (map f (numbers 1 (k + 1))) old new
gains-next_number f k g h = gains-of (push_next f 1 k [] (map f (numbers 1 k)) (map f (numbers 1 k) ++ f (1 + k) ∷ []) (f (1 + k)) refl refl refl) (gains-join g h)

pub gains-all_numbers : (f : ℕ → Word) (k n : ℕ) {old new : List Word} → k ≡ n → Gains (map f (numbers 1 k)) old new → Gains (map f (numbers 1 n)) old new
gains-all_numbers f k n e g = gains-of (ap (λ m. map f (numbers 1 m)) e) g
