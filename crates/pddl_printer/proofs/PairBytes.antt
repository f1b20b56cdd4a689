-- That each two of some variables differ: the bytes of one pair, the rows of all, and how long they are.
use Rattle.std.proofs.Common.{ℕ, zero, suc, ◌≡◌, ◌+◌, ◌-◌, ◌*◌, ◌^◌, List, [], ◌∷◌, ◌++◌, codes, map, length, refl, ap, sym, ◌∙◌, append_assoc, arith}
use Rattle.std.specs.Prelude.{sum_by, min}
use Rattle.std.proofs.lemmas.List.{append-nil, length-append}
use Rattle.std.proofs.lemmas.List.Sums.{sum_by-cons}
use Rattle.std.proofs.Math.Nat.{suc-mul, mul-suc, mul-add, mul_comm}
use Rattle.text_forms.specs.Lists.{Part, name, nothing, part}
use Rattle.text_forms.specs.Words.{Word, word_at}
use Rattle.text_forms.specs.Printing.{bytes, headed}
use Rattle.plan_model.specs.task_networks.Spelling.{numbers}
use Rattle.plan_texts.specs.Declared.{Declared}
use Rattle.plan_texts.specs.Printed.{formula_part}
use Rattle.plan_texts.proofs.Equations.{part-Not, part-Equal}
use Rattle.plan_model.specs.declared.formulas.Formula.TheVariants.{Equal}
use Rattle.plan_model.specs.declared.terms.Term.TheVariants.{Var}
use Rattle.pddl_printer.specs.Behind.{behind, of_each}
use Rattle.pddl_printer.specs.Literals.{conditions_behind}
use Rattle.pddl_printer.specs.Splits.{unequal, all_differ, pair_with, open_with, next_with}
use Rattle.text_forms.specs.sheets.Sheets.{capped}
use Rattle.pddl_printer.proofs.CountedSheets.{times_capped}
use Rattle.pddl_printer.proofs.LiteralLengths.{behind-length}
use Rattle.pddl_printer.proofs.Ranges.{behind-made, behind-append}

pair-bytes : (a b : List ℕ) → pair_with a b ≡ 32 ∷ bytes (headed (codes "not") (part (headed (codes "=") (part (name (63 ∷ a)) (part (name (63 ∷ b)) nothing))) nothing))
pair-bytes a b =
    let e : codes " (not (= ?" ++ (a ++ (codes " ?" ++ (b ++ codes "))"))) ≡ 32 ∷ 40 ∷ (codes "not" ++ ((32 ∷ 40 ∷ (codes "=" ++ (((32 ∷ 63 ∷ a) ++ (32 ∷ 63 ∷ b)) ++ 41 ∷ []))) ++ 41 ∷ [])) = simp append_assoc in
    e ∙ ap (λ z. 32 ∷ 40 ∷ (codes "not" ++ ((32 ∷ 40 ∷ (codes "=" ++ (((32 ∷ 63 ∷ a) ++ z) ++ 41 ∷ []))) ++ 41 ∷ []))) (sym (append-nil (32 ∷ 63 ∷ b)))
    ∙ ap (λ z. 32 ∷ 40 ∷ (codes "not" ++ ((32 ∷ z) ++ 41 ∷ []))) (sym (append-nil (40 ∷ (codes "=" ++ (((32 ∷ 63 ∷ a) ++ ((32 ∷ 63 ∷ b) ++ [])) ++ 41 ∷ [])))))

pub closed : (a b : List ℕ) → open_with a b ++ codes "))" ≡ pair_with a b
closed a b = simp append_assoc

pub closed-next : (t a b : List ℕ) → (t ++ next_with a b) ++ codes "))" ≡ (t ++ codes "))") ++ pair_with a b
closed-next t a b = simp append_assoc

one-more : (n m k w l r d : ℕ) → n ≡ suc m → k ≡ suc n → r ≡ n * (14 + w) + 1 * l → d ≡ 7 * (n * m) + m * l → r + d ≡ 7 * (k * n) + n * (w + l)
one-more n m k w l r d e f x y =
    let a = mul-add n 14 w in
    let b = mul-add n w l in
    let g = ap (λ z. z * n) f ∙ suc-mul n n in
    let h = ap (λ z. n * z) e ∙ mul-suc n m in
    let j = ap (λ z. z * l) e ∙ suc-mul m l in
    omega (arith, a, b, g, h, j, x, y)

module _ (v : Declared) (s : List Word) where
  abbrev pub pair : ℕ → ℕ → Part
  pair a b = formula_part v (unequal a b) s

  pub pair-is : (a b : ℕ) → pair_with (word_at s a) (word_at s b) ≡ behind (pair a b)
  pair-is a b =
      pair-bytes (word_at s a) (word_at s b)
      ∙ ap behind (sym (part-Not v (Equal (Var a) (Var b)) s ∙ ap (λ p. headed (codes "not") (part p nothing)) (part-Equal v (Var a) (Var b) s)))

  pair-length : (a b : ℕ) → length (behind (pair a b)) ≡ (14 + length (word_at s a)) + 1 * length (word_at s b)
  pair-length a b = sym (ap length (pair-is a b)) ∙ simp length-append (omega arith)

  abbrev pub row : ℕ → List ℕ → List ℕ
  row a bs = conditions_behind v s (map (unequal a) bs)

  abbrev words : List ℕ → ℕ
  words bs = sum_by (λ b. length (word_at s b)) bs

  row-length : (a : ℕ) (bs : List ℕ) → length (row a bs) ≡ length bs * (14 + length (word_at s a)) + 1 * words bs
  row-length a bs = sym (ap length (behind-made (λ f. formula_part v f s) (unequal a) (pair a) (λ b. refl) bs)) ∙ behind-length (pair a) (14 + length (word_at s a)) 1 (λ b. length (word_at s b)) (pair-length a) bs

  differ-rows : (a : ℕ) (bs : List ℕ) → conditions_behind v s (all_differ (a ∷ bs)) ≡ row a bs ++ conditions_behind v s (all_differ bs)
  differ-rows a bs = behind-append (λ f. formula_part v f s) (map (unequal a) bs) (all_differ bs)

  -- 14 bytes for each two, so 7 for each of both orders, and each word as often as there are others
  pub differ-length : (bs : List ℕ) → length (conditions_behind v s (all_differ bs)) ≡ 7 * (length bs * (length bs - 1)) + (length bs - 1) * words bs
  differ-length [] = omega arith
  differ-length (a ∷ []) = omega arith
  differ-length (a ∷ b ∷ bs) =
      let f = λ (x : ℕ). length (word_at s x) in
      let n = length (b ∷ bs) in
      let less : n - 1 ≡ length bs = omega arith in
      let more : suc n - 1 ≡ n = omega arith in
      let e = ap length (differ-rows a (b ∷ bs)) ∙ length-append (row a (b ∷ bs)) (conditions_behind v s (all_differ (b ∷ bs))) in
      let g = differ-length (b ∷ bs) ∙ (λ i. 7 * (n * less i) + less i * words (b ∷ bs)) in
      e ∙ one-more n (length bs) (suc n) (f a) (words (b ∷ bs)) (length (row a (b ∷ bs))) (length (conditions_behind v s (all_differ (b ∷ bs)))) refl refl (row-length a (b ∷ bs)) g
      ∙ (λ i. 7 * (suc n * sym more i) + sym more i * sym (sum_by-cons f a (b ∷ bs)) i)

  -- what stands for each of some variables in turn, where the last of all has this number
  abbrev pub row_to : ℕ → ℕ → List ℕ
  row_to end a = row a (numbers (a + 1) (end - a))

  pub rows-then : (end n i m : ℕ) → i + (n + m) ≡ suc end → of_each (row_to end) (numbers i n) ++ conditions_behind v s (all_differ (numbers (i + n) m)) ≡ conditions_behind v s (all_differ (numbers i (n + m)))
  rows-then end zero i m e = (λ k. conditions_behind v s (all_differ (numbers (let z : i + 0 ≡ i = omega arith in z k) (let z : m ≡ 0 + m = omega arith in z k))))
  rows-then end (suc n) i m e =
      let rest = rows-then end n (suc i) m (omega (arith, e)) in
      let next : i + suc n ≡ suc i + n = omega arith in
      let behind_it : end - i ≡ n + m = omega (arith, e) in
      let one : i + 1 ≡ suc i = omega arith in
      let all : suc (n + m) ≡ suc n + m = omega arith in
      ap (λ k. (row_to end i ++ of_each (row_to end) (numbers (suc i) n)) ++ conditions_behind v s (all_differ (numbers k m))) next
      ∙ append_assoc (row_to end i) (of_each (row_to end) (numbers (suc i) n)) (conditions_behind v s (all_differ (numbers (suc i + n) m)))
      ∙ (λ k. row i (numbers (one k) (behind_it k)) ++ rest k)
      ∙ sym (differ-rows i (numbers (suc i) (n + m))) ∙ ap (λ k. conditions_behind v s (all_differ (numbers i k))) all

  pub rows-all : (end n : ℕ) → n ≡ end → of_each (row_to end) (numbers 1 n) ≡ conditions_behind v s (all_differ (numbers 1 end))
  rows-all end n e =
      sym (append-nil (of_each (row_to end) (numbers 1 n))) ∙ rows-then end n 1 0 (omega (arith, e))
      ∙ ap (λ k. conditions_behind v s (all_differ (numbers 1 k))) (let z : n + 0 ≡ end = omega (arith, e) in z)

-- how much is counted for them
pub differ-counted : (n l : ℕ) → capped (min (n * (n - 1) * 7) (2 ^ 64 - 1) + min ((n - 1) * capped l) (2 ^ 64 - 1)) ≡ capped (7 * (n * (n - 1)) + (n - 1) * l)
differ-counted n l = let e = times_capped (n - 1) l in let f = mul_comm (n * (n - 1)) 7 in omega (arith, e, f)
