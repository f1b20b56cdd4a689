-- Bytes that are added to a batch one after another, and what comes of them.
use Rattle.std.proofs.Common.{ℕ, ◌≡◌, ◌+◌, ◌<◌, ◌≤◌, List, [], ◌∷◌, ◌++◌, length, take, get_or, ap, sym, subst, ◌∙◌, append_assoc}
use Rattle.std.proofs.lemmas.List.{append-nil}
use Rattle.plan_model.specs.task_networks.Spelling.{numbers}
use Rattle.text_forms.specs.sheets.Sheets.{Wrote}
use Rattle.text_forms.specs.declared.sheets.sheet.Sheet.{Sheet}
use Rattle.text_forms.proofs.sheets.Written.{wrote-as, wrote-nothing, wrote-then}
use Rattle.text_forms.specs.Lists.{Part, Parts, group, nothing, part}
use Rattle.text_forms.specs.Words.{Word}
use Rattle.text_forms.specs.Printing.{bytes, bytes_behind, headed}
use Rattle.pddl_printer.specs.declared.batch.Batch.{Batch}
use Rattle.pddl_printer.specs.Batches.{Added}
use Rattle.pddl_printer.specs.Behind.{behind, between, of_each}
use Rattle.pddl_printer.proofs.Each.{each-more, each-more-at, each-all}
use Rattle.pddl_printer.proofs.Groups.{closed}
use Rattle.pddl_printer.proofs.Ranges.{range-more}

pub added-as : {a b : List ℕ} {x y : Batch} {s t : Sheet} → a ≡ b → Added a x y s t → Added b x y s t
added-as {x = x} e d = record { first = d.first; rest = sym (ap (λ z. x.bytes.items ++ z) e) ∙ d.rest; wrote = d.wrote }

pub added-at : {a : List ℕ} {x y z : Batch} {s t u : Sheet} → y ≡ z → t ≡ u → Added a x y s t → Added a x z s u
added-at {a = a} {x = x} {z = z} {s = s} {t = t} e f d = subst (λ v. Added a x z s v) f (subst (λ w. Added a x w s t) e d)

pub added-then : {a b : List ℕ} {x y z : Batch} {s t u : Sheet} → Added a x y s t → Added b y z t u → Added (a ++ b) x z s u
added-then {a = a} {b = b} {x = x} {y = y} {z = z} d e = record {
  first = d.first ++ e.first;
  rest =
      sym (append_assoc x.bytes.items a b) ∙ ap (λ w. w ++ b) d.rest ∙ append_assoc d.first y.bytes.items b ∙ ap (λ w. d.first ++ w) e.rest
      ∙ sym (append_assoc d.first e.first z.bytes.items);
  wrote = wrote-then d.wrote e.wrote;
}

pub added-nothing : (x : Batch) (s : Sheet) → Added [] x x s s
added-nothing x s = record { first = []; rest = append-nil x.bytes.items; wrote = wrote-nothing s }

-- the bytes of equal values
pub added-of : {X : Type 0} (f : X → List ℕ) {i j : X} {x y : Batch} {s t : Sheet} → i ≡ j → Added (f i) x y s t → Added (f j) x y s t
added-of f e d = added-as (ap f e) d

-- one part behind a space, and two
pub added-one : (p : Part) {x y : Batch} {s t : Sheet} → Added (behind p) x y s t → Added (bytes_behind (part p nothing)) x y s t
added-one p d = added-as (ap (λ z. 32 ∷ z) (sym (append-nil (bytes p)))) d

pub added-two : (p q : Part) {x y z : Batch} {s t u : Sheet} → Added (behind p) x y s t → Added (behind q) y z t u → Added (bytes_behind (part p (part q nothing))) x z s u
added-two p q d e = added-then d (added-one q e)

-- a list behind a space: what opens it, its parts, and what closes it
pub added-headed : (k : Word) (ps : Parts) {x y z w : Batch} {s t u v : Sheet} → Added (32 ∷ 40 ∷ k) x y s t → Added (bytes_behind ps) y z t u → Added (41 ∷ []) z w u v → Added (behind (headed k ps)) x w s v
added-headed k ps a b c = added-as (append_assoc (32 ∷ 40 ∷ k) (bytes_behind ps) (41 ∷ [])) (added-then (added-then a b) c)

pub added-group : (ps : Parts) {x y z w : Batch} {s t u v : Sheet} → Added (32 ∷ 40 ∷ []) x y s t → Added (between ps) y z t u → Added (41 ∷ []) z w u v → Added (behind (group ps)) x w s v
added-group ps a b c = added-as (closed ps) (added-then a (added-then b c))

-- bytes that are put on the sheet where nothing waits any more
pub added-put : {a : List ℕ} {x y : Batch} {s t u : Sheet} → y.bytes.items ≡ [] → Wrote x.bytes.items s t → Wrote a t u → Added a x y s u
added-put {a = a} {x = x} {y = y} e v w = record {
  first = x.bytes.items ++ a;
  rest = sym (ap (λ z. (x.bytes.items ++ a) ++ z) e ∙ append-nil (x.bytes.items ++ a));
  wrote = wrote-then v w;
}

-- all that was added since nothing waited, once the rest was put
pub added-all : {a : List ℕ} {x y : Batch} {s t u : Sheet} → x.bytes.items ≡ [] → Added a x y s t → Wrote y.bytes.items t u → Wrote a s u
added-all {a = a} e d w = wrote-as (sym d.rest ∙ ap (λ z. z ++ a) e) (wrote-then d.wrote w)

-- one item more
pub each-added : {X : Type 0} (f : X → List ℕ) (xs : List X) (n : ℕ) (i : X) {x y z : Batch} {s t u : Sheet} → n < length xs → i ≡ get_or xs n i → Added (of_each f (take n xs)) x y s t → Added (f i) y z t u → Added (of_each f (take (n + 1) xs)) x z s u
each-added f xs n i l e d g = added-as (each-more f xs n i l e) (added-then d g)

-- the same where the item is read with a default
pub each-added-at : {X : Type 0} (f : X → List ℕ) (xs : List X) (n : ℕ) (i : X) {x y z : Batch} {s t u : Sheet} → n < length xs → Added (of_each f (take n xs)) x y s t → Added (f (get_or xs n i)) y z t u → Added (of_each f (take (n + 1) xs)) x z s u
each-added-at f xs n i l d g = added-as (each-more-at f xs n i l) (added-then d g)

-- all items
pub each-added-all : {X : Type 0} (f : X → List ℕ) (xs : List X) {ys : List X} (n : ℕ) {x y : Batch} {s t : Sheet} → length xs ≤ n → xs ≡ ys → Added (of_each f (take n xs)) x y s t → Added (of_each f ys) x y s t
each-added-all f xs n l e d = added-as (each-all f xs n l ∙ ap (of_each f) e) d

-- one number more
pub range-added : (f : ℕ → List ℕ) (i n : ℕ) {x y z : Batch} {s t u : Sheet} → Added (of_each f (numbers i n)) x y s t → Added (f (i + n)) y z t u → Added (of_each f (numbers i (n + 1))) x z s u
range-added f i n d g = added-as (range-more f i n) (added-then d g)
