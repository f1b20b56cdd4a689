-- What is put on a sheet for each number of a range, and for lists that are joined.
use Rattle.std.proofs.Common.{ℕ, zero, suc, ◌≡◌, ◌+◌, List, [], ◌∷◌, ◌++◌, map, refl, ap, sym, ◌∙◌, append_assoc, arith}
use Rattle.std.proofs.lemmas.List.{append-nil}
use Rattle.std.specs.List.{sum_by}
use Rattle.std.proofs.lemmas.List.Sums.{sum_by_push}
use Rattle.text_forms.specs.Lists.{Part}
use Rattle.text_forms.specs.Printing.{bytes_behind}
use Rattle.plan_model.specs.task_networks.Spelling.{numbers}
use Rattle.plan_texts.specs.Printed.{all_parts}
use Rattle.pddl_printer.specs.Behind.{behind, of_each}
use Rattle.pddl_printer.specs.WrittenOut.{joined}
use Rattle.text_forms.specs.sheets.Sheets.{Wrote}
use Rattle.text_forms.specs.declared.sheets.sheet.Sheet.{Sheet}
use Rattle.text_forms.proofs.sheets.Written.{wrote-as, wrote-then}
use Rattle.pddl_printer.proofs.Each.{of_each-append, behind-each}

numbers-next : (i n : ℕ) → numbers i (suc n) ≡ numbers i n ++ (i + n) ∷ []
numbers-next i zero = ap (λ x. x ∷ []) (let e : i ≡ i + 0 = omega arith in e)
numbers-next i (suc n) = ap (λ xs. i ∷ xs) (numbers-next (suc i) n) ∙ ap (λ x. i ∷ (numbers (suc i) n ++ x ∷ [])) (let e : suc i + n ≡ i + suc n = omega arith in e)

pub sum-next : (f : ℕ → ℕ) (i n : ℕ) → sum_by f (numbers i (n + 1)) ≡ sum_by f (numbers i n) + f (i + n)
sum-next f i n = let k : n + 1 ≡ suc n = omega arith in ap (λ m. sum_by f (numbers i m)) k ∙ ap (sum_by f) (numbers-next i n) ∙ sum_by_push f (numbers i n) (i + n)

-- one number more
pub range-more : (f : ℕ → List ℕ) (i n : ℕ) → of_each f (numbers i n) ++ f (i + n) ≡ of_each f (numbers i (n + 1))
range-more f i n =
    let k : n + 1 ≡ suc n = omega arith in
    sym (ap (λ m. of_each f (numbers i m)) k ∙ ap (of_each f) (numbers-next i n) ∙ of_each-append f (numbers i n) ((i + n) ∷ []) ∙ ap (λ z. of_each f (numbers i n) ++ z) (append-nil (f (i + n))))

pub range-next : (f : ℕ → List ℕ) (i n : ℕ) {s t u : Sheet} → Wrote (of_each f (numbers i n)) s t → Wrote (f (i + n)) t u → Wrote (of_each f (numbers i (n + 1))) s u
range-next f i n v w = wrote-as (range-more f i n) (wrote-then v w)

-- all of them
pub range-done : (f : ℕ → Part) (i n m : ℕ) {s t : Sheet} → n ≡ m → Wrote (of_each (λ o. behind (f o)) (numbers i n)) s t → Wrote (bytes_behind (all_parts (map f (numbers i m)))) s t
range-done f i n m e w = wrote-as (ap (λ k. of_each (λ o. behind (f o)) (numbers i k)) e ∙ behind-each f (numbers i m)) w

-- what is printed for a value made of each number
pub behind-made : {X : Type 0} (g : X → Part) (h : ℕ → X) (f : ℕ → Part) → ((o : ℕ) → f o ≡ g (h o)) → (ns : List ℕ) → bytes_behind (all_parts (map f ns)) ≡ bytes_behind (all_parts (map g (map h ns)))
behind-made g h f e [] = refl
behind-made g h f e (n ∷ ns) = ap (λ p. behind p ++ bytes_behind (all_parts (map f ns))) (e n) ∙ ap (λ z. behind (g (h n)) ++ z) (behind-made g h f e ns)

pub behind-append : {Y : Type 0} (g : Y → Part) (xs ys : List Y) → bytes_behind (all_parts (map g (xs ++ ys))) ≡ bytes_behind (all_parts (map g xs)) ++ bytes_behind (all_parts (map g ys))
behind-append g [] ys = refl
behind-append g (x ∷ xs) ys = ap (λ z. behind (g x) ++ z) (behind-append g xs ys) ∙ sym (append_assoc (behind (g x)) (bytes_behind (all_parts (map g xs))) (bytes_behind (all_parts (map g ys))))

pub behind-joined : {X Y : Type 0} (g : Y → Part) (h : X → List Y) (xs : List X) → of_each (λ x. bytes_behind (all_parts (map g (h x)))) xs ≡ bytes_behind (all_parts (map g (joined (map h xs))))
behind-joined g h [] = refl
behind-joined g h (x ∷ xs) = ap (λ z. bytes_behind (all_parts (map g (h x))) ++ z) (behind-joined g h xs) ∙ sym (behind-append g (h x) (joined (map h xs)))
