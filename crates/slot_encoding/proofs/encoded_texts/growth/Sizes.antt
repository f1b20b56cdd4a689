-- How many bytes parts of a list have, and lists of parts that grow with the number of slots.
use Rattle.std.proofs.Common.{ℕ, ◌≡◌, ◌+◌, ◌*◌, ◌≤◌, List, [], ◌∷◌, ◌++◌, map, length, refl, ap, ◌∙◌, arith}
use Rattle.std.specs.Prelude.{sum_by}
use Rattle.std.proofs.lemmas.List.{length-append, map-append}
use Rattle.std.proofs.lemmas.List.Sums.{sum_by-cons}
use Rattle.std.proofs.Math.Nat.{mul-add, suc-mul}
use Rattle.text_forms.specs.Lists.{Part, Parts}
use Rattle.text_forms.specs.Words.{Word}
use Rattle.text_forms.specs.Printing.{bytes, bytes_behind, headed}
use Rattle.plan_texts.specs.Printed.{all_parts}
use Rattle.plan_texts.specs.Types.{EachIs}
use Rattle.plan_model.specs.task_networks.Spelling.{numbers}
use Rattle.plan_model.proofs.task_networks.Numbers.{length-numbers}
use Rattle.slot_encoding.proofs.encoded_texts.growth.Lines.{letters, IsLine, still, like, both, of_slots}

abbrev pub size : Part → ℕ
size p = length (bytes p)

-- each behind a space
abbrev pub size_all : List Part → ℕ
size_all ps = length (bytes_behind (all_parts ps))

pub size-cons : (p : Part) (ps : List Part) → size_all (p ∷ ps) ≡ 1 + size p + size_all ps
size-cons p ps = let e = length-append (bytes p) (bytes_behind (all_parts ps)) in omega (arith, e)

pub size-append : (ps qs : List Part) → size_all (ps ++ qs) ≡ size_all ps + size_all qs
size-append [] qs = omega arith
size-append (p ∷ ps) qs =
    let a = size-cons p (ps ++ qs) in
    let b = size-append ps qs in
    let c = size-cons p ps in
    omega (arith, a, b, c)

pub size-headed : (w : Word) (ps : Parts) → size (headed w ps) ≡ 2 + length w + length (bytes_behind ps)
size-headed w ps =
    let a = length-append w (bytes_behind ps ++ 41 ∷ []) in
    let b = length-append (bytes_behind ps) (41 ∷ []) in
    omega (arith, a, b)

-- part m x: what is printed for x with the words of m slots; base x: what is printed whatever they are
module _ {X : Type 0} (most : ℕ) (made : ℕ → X → Part) (base : X → Part) where
  abbrev items : ℕ → List X → ℕ
  items m xs = size_all (map (made m) xs)

  abbrev pub Still : X → Type 0
  Still x = (m : ℕ) → made m x ≡ base x

  abbrev pub AreLine : (ℕ → List X) → Type 0
  AreLine xs = IsLine most (λ m. size_all (map (made m) (xs m)))

  items-append : (m : ℕ) (xs ys : List X) → items m (xs ++ ys) ≡ items m xs + items m ys
  items-append m xs ys = ap size_all (map-append (made m) xs ys) ∙ size-append (map (made m) xs) (map (made m) ys)

  pub joined : (xs ys : ℕ → List X) → AreLine xs → AreLine ys → AreLine (λ m. xs m ++ ys m)
  joined xs ys one other = like (λ m. items m (xs m ++ ys m)) (λ m. items m (xs m) + items m (ys m)) (λ m l. items-append m (xs m) (ys m)) (both (λ m. items m (xs m)) (λ m. items m (ys m)) one other)

  stay : (xs : List X) → EachIs Still xs → (m : ℕ) → map (made m) xs ≡ map base xs
  stay [] e m = refl
  stay (x ∷ xs) e m = let a = e.0 m in let b = stay xs e.1 m in λ i. a i ∷ b i

  pub same : (xs : List X) → EachIs Still xs → AreLine (λ m. xs)
  same xs e = still (λ m. items m xs) (size_all (map base xs)) (λ m l. ap size_all (stay xs e m))

  -- one thing before others
  pub first : (x : X) (ys : ℕ → List X) → Still x → AreLine ys → AreLine (λ m. x ∷ ys m)
  first x ys e line = joined (λ m. x ∷ []) ys (same (x ∷ []) (e, tt)) line

  -- a thing for each slot, the places of which are so many numbers from the first on
  module _ (word : ℕ → ℕ → ℕ) (from k h : ℕ) (g : ℕ → X) (is : (m o : ℕ) → size (made m (g o)) ≡ k + h * word m o) where
    each-size : (m : ℕ) (ns : List ℕ) → items m (map g ns) ≡ length ns * (1 + k) + h * sum_by (word m) ns
    each-size m [] = omega arith
    each-size m (n ∷ ns) =
        let a = size-cons (made m (g n)) (map (made m) (map g ns)) in
        let b = is m n in
        let c = each-size m ns in
        let d = ap (λ z. h * z) (sum_by-cons (word m) n ns) ∙ mul-add h (word m n) (sum_by (word m) ns) in
        let e = suc-mul (length ns) (1 + k) in
        omega (arith, a, b, c, d, e)

    pub each-slot : ((m : ℕ) → m ≤ most → sum_by (word m) (numbers from m) ≡ letters m) → AreLine (λ m. map g (numbers from m))
    each-slot sums = of_slots (λ m. items m (map g (numbers from m))) (1 + k) h
        (λ m l. each-size m (numbers from m) ∙ (λ i. length-numbers from m i * (1 + k) + h * sums m l i))
