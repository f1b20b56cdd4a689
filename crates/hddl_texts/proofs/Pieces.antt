-- The bytes of lists of which one item more is printed: subtasks with their places, objects that are left out or not, lines.
use Rattle.std.proofs.Common.{ℕ, suc, ◌≡◌, ◌+◌, ◌<◌, ◌≤◌, Bool, true, false, cond, List, [], ◌∷◌, ◌++◌, map, filter, length, take, get_or, refl, ap, sym, ◌∙◌, append_assoc, arith}
use Rattle.std.proofs.lemmas.List.{append-nil, length-take-le, take_more}
use Rattle.std.proofs.lemmas.List.Elements.{filter_more}
use Rattle.text_forms.specs.Lists.{Part}
use Rattle.text_forms.specs.Words.{Word}
use Rattle.text_forms.specs.Printing.{bytes_behind, lines}
use Rattle.plan_texts.specs.Printed.{all_parts}
use Rattle.plan_model.specs.declared.networks.Child.{Child}
use Rattle.plan_model.specs.declared.values.Hddl.{Hddl}
use Rattle.pddl_printer.specs.Behind.{behind, line, of_each}
use Rattle.pddl_printer.proofs.Each.{of_each-append}
use Rattle.hddl_texts.specs.PrintedHddl.{subtask_part, subtasks_parts}

-- the items before this one, and it
next-item : {X : Type 0} (xs : List X) (n : ℕ) (x : X) → n < length xs → x ≡ get_or xs n x → take (n + 1) xs ≡ take n xs ++ x ∷ []
next-item xs n x l e = take_more xs n x l ∙ ap (λ y. take n xs ++ y ∷ []) (sym e)

module _ (h : Hddl) (scope : List Word) where
  abbrev text : ℕ → List Child → List ℕ
  text k cs = bytes_behind (subtasks_parts h scope k cs)

  subtasks-append : (k : ℕ) (cs ds : List Child) → text k (cs ++ ds) ≡ text k cs ++ text (k + length cs) ds
  subtasks-append k [] ds = let e : k ≡ k + 0 = omega arith in ap (λ m. text m ds) e
  subtasks-append k (c ∷ cs) ds =
      let e : suc k + length cs ≡ k + suc (length cs) = omega arith in
      ap (λ z. behind (subtask_part h scope k c) ++ z) (subtasks-append (suc k) cs ds ∙ ap (λ m. text (suc k) cs ++ text m ds) e)
      ∙ sym (append_assoc (behind (subtask_part h scope k c)) (text (suc k) cs) (text (k + suc (length cs)) ds))

  -- one subtask more
  pub subtasks-more : (cs : List Child) (n : ℕ) (c : Child) → n < length cs → c ≡ get_or cs n c → text 0 (take n cs) ++ behind (subtask_part h scope n c) ≡ text 0 (take (n + 1) cs)
  subtasks-more cs n c l e =
      let few : n ≤ length cs = omega (arith, l) in
      let place : 0 + length (take n cs) ≡ n = let t = length-take-le n cs few in omega (arith, t) in
      sym (ap (text 0) (next-item cs n c l e)
      ∙ subtasks-append 0 (take n cs) (c ∷ [])
      ∙ ap (λ m. text 0 (take n cs) ++ text m (c ∷ [])) place
      ∙ ap (λ z. text 0 (take n cs) ++ z) (append-nil (behind (subtask_part h scope n c))))

-- one item more, which is taken, or left out
module _ {X : Type 0} (f : X → List ℕ) (q : X → Bool) (xs : List X) (n : ℕ) (d : X) (l : n < length xs) where
  filtered : (b : Bool) → q (get_or xs n d) ≡ b → of_each f (filter q (take (n + 1) xs)) ≡ of_each f (filter q (take n xs)) ++ of_each f (cond b (get_or xs n d ∷ []) [])
  filtered b t =
      ap (of_each f) (filter_more q xs n d l)
      ∙ of_each-append f (filter q (take n xs)) (cond (q (get_or xs n d)) (get_or xs n d ∷ []) [])
      ∙ ap (λ c. of_each f (filter q (take n xs)) ++ of_each f (cond c (get_or xs n d ∷ []) [])) t

  pub item-taken : q (get_or xs n d) ≡ true → of_each f (filter q (take n xs)) ++ f (get_or xs n d) ≡ of_each f (filter q (take (n + 1) xs))
  item-taken t = sym (filtered true t ∙ ap (λ z. of_each f (filter q (take n xs)) ++ z) (append-nil (f (get_or xs n d))))

  pub item-left : q (get_or xs n d) ≡ false → of_each f (filter q (take n xs)) ≡ of_each f (filter q (take (n + 1) xs))
  item-left t = sym (filtered false t ∙ append-nil (of_each f (filter q (take n xs))))

-- lines, and lines behind them
line-then : (b r l : List ℕ) → ((b ++ 10 ∷ []) ++ r) ++ l ≡ b ++ (10 ∷ (r ++ l))
line-then b r l = simp append_assoc

pub lines-each : {X : Type 0} (f : X → Part) (xs : List X) (ps : List Part) → of_each (λ x. line (f x)) xs ++ lines (all_parts ps) ≡ lines (all_parts (map f xs ++ ps))
lines-each f [] ps = refl
lines-each f (x ∷ xs) ps = line-then (behind (f x)) (of_each (λ y. line (f y)) xs) (lines (all_parts ps)) ∙ ap (λ z. behind (f x) ++ (10 ∷ z)) (lines-each f xs ps)

pub lines-all : {X : Type 0} (f : X → Part) (xs : List X) → of_each (λ x. line (f x)) xs ≡ lines (all_parts (map f xs))
lines-all f [] = refl
lines-all f (x ∷ xs) = append_assoc (behind (f x)) (10 ∷ []) (of_each (λ y. line (f y)) xs) ∙ ap (λ z. behind (f x) ++ (10 ∷ z)) (lines-all f xs)

-- the lines of three lists
pub lines-of-three : {X Y Z : Type 0} (f : X → Part) (g : Y → Part) (k : Z → Part) (xs : List X) (ys : List Y) (zs : List Z)
    → of_each (λ x. line (f x)) xs ++ (of_each (λ y. line (g y)) ys ++ of_each (λ z. line (k z)) zs) ≡ lines (all_parts (map f xs ++ (map g ys ++ map k zs)))
lines-of-three f g k xs ys zs =
    let first = of_each (λ x. line (f x)) xs in
    ap (λ l. first ++ (of_each (λ y. line (g y)) ys ++ l)) (lines-all k zs)
    ∙ ap (λ l. first ++ l) (lines-each g ys (map k zs))
    ∙ lines-each f xs (map g ys ++ map k zs)
