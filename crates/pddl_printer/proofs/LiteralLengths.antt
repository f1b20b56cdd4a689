-- How long a literal is with an object in place of its variable: as long as with a thing that has no word, and for each place of the
-- variable as long as the word.
use Rattle.std.proofs.Common.{ℕ, ◌≡◌, ◌+◌, ◌*◌, Bool, true, false, cond, List, [], ◌∷◌, ◌++◌, map, length, codes, ap, sym, ◌∙◌, arith}
use Rattle.std.specs.Prelude.{◌==◌, sum_by}
use Rattle.std.proofs.lemmas.List.{length-append}
use Rattle.std.proofs.lemmas.List.Sums.{sum_by-cons}
use Rattle.std.proofs.Math.Nat.{add-mul, mul-add, suc-mul}
use Rattle.text_forms.specs.Lists.{Part}
use Rattle.text_forms.specs.Words.{Word, word_at}
use Rattle.text_forms.specs.Printing.{bytes_behind}
use Rattle.plan_texts.specs.Declared.{Declared}
use Rattle.plan_texts.specs.Printed.{all_parts, term_part}
use Rattle.plan_model.specs.declared.terms.Term.{Term}
use Rattle.plan_model.specs.declared.terms.Term.TheVariants.{Var, Obj}
use Rattle.plan_model.specs.declared.terms.Atom.{Atom}
use Rattle.pddl_printer.specs.declared.instances.Literal.{Literal}
use Rattle.pddl_printer.specs.declared.instances.Literal.TheVariants.{Held, Denied, Conditional}
use Rattle.pddl_printer.specs.WrittenOut.{placed, placed_atom}
use Rattle.pddl_printer.specs.Behind.{behind}
use Rattle.pddl_printer.specs.Literals.{inside, literal_part}
use Rattle.pddl_printer.specs.Holes.{is_hole, holes_among, holes}
use Rattle.pddl_printer.proofs.LiteralBytes.{held-bytes, denied-bytes, conditional-bytes}

module _ (v : Declared) (s : List Word) (depth none o : ℕ) (no : word_at v.objects none ≡ []) where
  abbrev letters : ℕ
  letters = length (word_at v.objects o)

  in-place : (b : Bool) (k : ℕ) → length (behind (term_part v s (cond b (Obj o) (Var k)))) ≡ length (behind (term_part v s (cond b (Obj none) (Var k)))) + cond b 1 0 * letters
  in-place true k = let e = ap length no in omega (arith, e)
  in-place false k = omega arith

  term : (t : Term) → length (behind (term_part v s (placed depth o t))) ≡ length (behind (term_part v s (placed depth none t))) + cond (is_hole depth t) 1 0 * letters
  term (Var k) = in-place (k == depth) k
  term (Obj x) = omega arith

  abbrev terms_at : ℕ → List Term → List ℕ
  terms_at x ts = bytes_behind (all_parts (map (term_part v s) (map (placed depth x) ts)))

  terms : (ts : List Term) → length (terms_at o ts) ≡ length (terms_at none ts) + holes_among depth ts * letters
  terms [] = omega arith
  terms (t ∷ ts) =
      let h : Term → ℕ = λ x. cond (is_hole depth x) 1 0 in
      let a = length-append (behind (term_part v s (placed depth o t))) (terms_at o ts) in
      let b = length-append (behind (term_part v s (placed depth none t))) (terms_at none ts) in
      let c = ap (λ n. n * letters) (sum_by-cons h t ts) ∙ add-mul (h t) (holes_among depth ts) letters in
      let d = term t in
      let e = terms ts in
      omega (arith, a, b, c, d, e)

  within : (a : Atom) → length (inside v s (placed_atom depth o a)) ≡ length (inside v s (placed_atom depth none a)) + holes_among depth a.args * letters
  within a =
      let w = word_at v.predicates a.predicate in
      let b = length-append w (terms_at o a.args) in
      let c = length-append w (terms_at none a.args) in
      let d = terms a.args in
      omega (arith, b, c, d)

  -- the bytes of one atom between constant ones, and of two
  around-one : (k l x y : List ℕ) (n : ℕ) → length x ≡ length y + n → length (k ++ (x ++ l)) ≡ length (k ++ (y ++ l)) + n
  around-one k l x y n e = simp length-append (omega (arith, e))

  around-two : (k l m x y z w : List ℕ) (n j : ℕ) → length x ≡ length y + n → length z ≡ length w + j → length (k ++ (x ++ (l ++ (z ++ m)))) ≡ length (k ++ (y ++ (l ++ (w ++ m)))) + (n + j)
  around-two k l m x y z w n j e f = simp length-append (omega (arith, e, f))

  pub literal-length : (l : Literal) → length (behind (literal_part v s depth l o)) ≡ length (behind (literal_part v s depth l none)) + holes depth l * letters
  literal-length (Held a) =
      sym (ap length (held-bytes v s (placed_atom depth o a.now))) ∙ around-one (32 ∷ 40 ∷ []) (41 ∷ []) (inside v s (placed_atom depth o a.now)) (inside v s (placed_atom depth none a.now)) (holes_among depth a.now.args * letters) (within a.now)
      ∙ ap (λ z. length z + holes_among depth a.now.args * letters) (held-bytes v s (placed_atom depth none a.now))
  literal-length (Denied a) =
      sym (ap length (denied-bytes v s (placed_atom depth o a.now))) ∙ around-one (codes " (not (") (codes "))") (inside v s (placed_atom depth o a.now)) (inside v s (placed_atom depth none a.now)) (holes_among depth a.now.args * letters) (within a.now)
      ∙ ap (λ z. length z + holes_among depth a.now.args * letters) (denied-bytes v s (placed_atom depth none a.now))
  literal-length (Conditional a k) =
      sym (ap length (conditional-bytes v s (placed_atom depth o a.now) (placed_atom depth o k.now)))
      ∙ around-two (codes " (when (") (codes ") (") (codes "))") (inside v s (placed_atom depth o a.now)) (inside v s (placed_atom depth none a.now)) (inside v s (placed_atom depth o k.now)) (inside v s (placed_atom depth none k.now)) (holes_among depth a.now.args * letters) (holes_among depth k.now.args * letters) (within a.now) (within k.now)
      ∙ (λ i. length (conditional-bytes v s (placed_atom depth none a.now) (placed_atom depth none k.now) i) + sym (add-mul (holes_among depth a.now.args) (holes_among depth k.now.args) letters) i)

-- the literals of each of some objects, where each is so long
pub behind-length : (f : ℕ → Part) (F h : ℕ) (k : ℕ → ℕ) → ((o : ℕ) → length (behind (f o)) ≡ F + h * k o) → (ns : List ℕ) → length (bytes_behind (all_parts (map f ns))) ≡ length ns * F + h * sum_by k ns
behind-length f F h k e [] = omega arith
behind-length f F h k e (n ∷ ns) =
    let a = length-append (behind (f n)) (bytes_behind (all_parts (map f ns))) in
    let b = e n in
    let c = behind-length f F h k e ns in
    let d = ap (λ z. h * z) (sum_by-cons k n ns) ∙ mul-add h (k n) (sum_by k ns) in
    let g = suc-mul (length ns) F in
    omega (arith, a, b, c, d, g)
