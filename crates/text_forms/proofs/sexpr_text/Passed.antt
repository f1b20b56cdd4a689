-- What is passed over in a text, and what is known behind it.
use Rattle.std.proofs.Common.{◌≡◌, ℕ, zero, suc, ◌+◌, ◌-◌, ◌≤◌, ◌<◌, Bool, true, false, length, get_or, Some, None, List, [], ◌∷◌, ◌++◌, refl, sym, ap, ◌∙◌, subst, arith}
use Rattle.std.proofs.lemmas.Bool.{eqb-true}
use Rattle.std.specs.Prelude.{◌==◌}
use Rattle.text_forms.specs.Bytes.{Class, blank, opening, closing, letter, class_of}
use Rattle.text_forms.specs.Faults.{open_after, code_at}
use Rattle.text_forms.specs.Least.{least, least_by, left_open}
use Rattle.text_forms.specs.Tokens.{start, stop, word, token, tokens_from}
use Rattle.text_forms.specs.declared.sexpr_text.marks.Marks.{Marks}
use Rattle.text_forms.specs.declared.sexpr_text.marks.Place.{Place}
use Rattle.text_forms.specs.sexpr_text.Places.{classes_at, tokens_at, begun, deeper, IsPassed, IsPlace, IsAsDeep, IsReadTo, AreMarks}
use Rattle.text_forms.proofs.sexpr_text.Depth.{classes_next}
use Rattle.text_forms.proofs.sexpr_text.Numbered.{place_next}

-- no comment goes on behind a byte that is not blank
no_comment : (b : ℕ) (s : Bool) → (b == 59) ≡ s → (class_of b ≡ blank → ⊥) → false ≡ (b == 59)
no_comment b false e h = sym e
no_comment b true e h = let same : b ≡ 59 = eqb-true b 59 e in absurd (h (ap class_of same))

classes_one : (text : List ℕ) (at : ℕ) (k : Class) → at < length text → k ≡ class_of (get_or text at 0) → (k ≡ blank → ⊥) → classes_at text at ≡ k ∷ classes_at text (at + 1)
classes_one text at k l e h = classes_next text false false at k l e (no_comment (get_or text at 0) _ refl (λ b. h (e ∙ b)))

-- a parenthesis
passed_one : (text : List ℕ) (at : ℕ) (k : Class) → at < length text → k ≡ class_of (get_or text at 0) → (k ≡ blank → ⊥) → tokens_from None at (k ∷ classes_at text (at + 1)) ≡ begun k at (at + 1) ++ tokens_at text (at + 1) → IsPassed text at (at + 1) k
passed_one text at k l e h made =
    let one = classes_one text at k l e h in
    record {
      later = omega arith;
      within = omega arith;
      tokens = ap (tokens_from None at) one ∙ made;
      faults = λ opens good. ap (least opens at) one ∙ ap (λ o. least_by o at (left_open 0 (open_after opens at k) (classes_at text (at + 1))) (least (open_after opens at k) (at + 1) (classes_at text (at + 1)))) good;
    }

pub passed_opening : (text : List ℕ) (at : ℕ) → at < length text → opening ≡ class_of (get_or text at 0) → IsPassed text at (at + 1) opening
passed_opening text at l e = passed_one text at opening l e (λ b. cc) refl

pub passed_closing : (text : List ℕ) (at : ℕ) → at < length text → closing ≡ class_of (get_or text at 0) → IsPassed text at (at + 1) closing
passed_closing text at l e = passed_one text at closing l e (λ b. cc) refl

pub passed_word : (text : List ℕ) (at end : ℕ) → at < length text → letter ≡ class_of (get_or text at 0) → at + 1 ≤ end → end ≤ length text → ((first : ℕ) → tokens_from (Some first) (at + 1) (classes_at text (at + 1)) ≡ token word first end ∷ tokens_at text end) → ((opens : List ℕ) → least opens (at + 1) (classes_at text (at + 1)) ≡ least opens end (classes_at text end)) → IsPassed text at end letter
passed_word text at end l e later within tokens faults =
    let one = classes_one text at letter l e (λ b. cc) in
    record {
      later = omega arith;
      within = within;
      tokens = ap (tokens_from None at) one ∙ tokens at;
      faults = λ opens good. ap (least opens at) one ∙ faults opens;
    }

pub deep_passed : (text : List ℕ) (p q : Place) (class : Class) → IsPassed text p.at q.at class → ((opens : List ℕ) → length opens ≡ p.depth → code_at opens class ≡ None) → ((opens : List ℕ) → length opens ≡ p.depth → length (open_after opens p.at class) ≡ q.depth) → IsAsDeep text p.depth p.at (classes_at text p.at) → IsAsDeep text q.depth q.at (classes_at text q.at)
deep_passed text p q class s good deep d = record {
  open_lists = open_after d.open_lists p.at class;
  deep = deep d.open_lists d.deep;
  same = sym (s.faults d.open_lists (good d.open_lists d.deep)) ∙ d.same;
}

pub closes_one : (opens : List ℕ) (at d : ℕ) → length opens ≡ d → length (open_after opens at closing) ≡ deeper stop d
closes_one [] at zero e = refl
closes_one [] at (suc d) e = absurd (omega arith)
closes_one (o ∷ opens) at zero e = absurd (omega arith)
closes_one (o ∷ opens) at (suc d) e = omega arith

pub one_less : (d : ℕ) → d - 1 ≡ deeper stop d
one_less zero = refl
one_less (suc d) = omega arith

-- with one more token, which stands between two places, the marks of any text are its marks again
abbrev pub GoesOnMarking : Place → Place → Marks → Marks → Type 0
GoesOnMarking p q old new = (text : List ℕ) → IsPlace text old.count p → IsPlace text (old.count + 1) q → AreMarks text old → AreMarks text new

-- what is known behind a token
module _ (text : List ℕ) (old new : Marks) (p q : Place) (read : IsReadTo text old p) (one : new.count ≡ old.count + 1) (on : GoesOnMarking p q old new) where
  read_on : IsPlace text (old.count + 1) q → IsAsDeep text q.depth q.at (classes_at text q.at) → IsReadTo text new q
  read_on next deep = record {
    place = subst (λ n. IsPlace text n q) (sym one) next;
    marks = on text read.place next read.marks;
    deep = deep;
  }

  pub read_opening : IsPassed text p.at q.at opening → ((opens : List ℕ) → length opens ≡ p.depth → code_at opens opening ≡ None) → q.depth ≡ p.depth + 1 → IsReadTo text new q
  read_opening s good e = read_on
      (place_next text old.count p q (token start p.at q.at) read.place s.tokens s.within (omega arith))
      (deep_passed text p q opening s good (λ opens l. omega arith) read.deep)

  pub read_closing : IsPassed text p.at q.at closing → ((opens : List ℕ) → length opens ≡ p.depth → code_at opens closing ≡ None) → q.depth ≡ deeper stop p.depth → IsReadTo text new q
  read_closing s good e = read_on
      (place_next text old.count p q (token stop p.at q.at) read.place s.tokens s.within e)
      (deep_passed text p q closing s good (λ opens l. closes_one opens p.at p.depth l ∙ sym e) read.deep)

  pub read_word : IsPassed text p.at q.at letter → q.depth ≡ p.depth → IsReadTo text new q
  read_word s e = read_on
      (place_next text old.count p q (token word p.at q.at) read.place s.tokens s.within e)
      (deep_passed text p q letter s (λ opens l. refl) (λ opens l. l ∙ sym e) read.deep)
