-- The bytes of one literal: those of its atoms, and the constant ones around them.
use Rattle.std.proofs.Common.{ℕ, ◌≡◌, List, [], ◌∷◌, ◌++◌, codes, map, ap, sym, ◌∙◌, append_assoc}
use Rattle.std.proofs.lemmas.List.{append-nil}
use Rattle.text_forms.specs.Words.{Word, word_at}
use Rattle.text_forms.specs.Printing.{bytes_behind}
use Rattle.plan_texts.specs.Declared.{Declared}
use Rattle.plan_texts.specs.Printed.{all_parts, term_part}
use Rattle.plan_model.specs.declared.terms.Atom.{Atom}
use Rattle.pddl_printer.specs.Behind.{behind}
use Rattle.pddl_printer.specs.Literals.{atom_part, inside, denied_part, conditional_part}

denied-is : (k w b : List ℕ) → (32 ∷ 40 ∷ (k ++ 32 ∷ 40 ∷ [])) ++ ((w ++ b) ++ (41 ∷ 41 ∷ [])) ≡ 32 ∷ 40 ∷ (k ++ ((32 ∷ ((40 ∷ (w ++ (b ++ 41 ∷ []))) ++ [])) ++ 41 ∷ []))
denied-is k w b =
    let e : (32 ∷ 40 ∷ (k ++ 32 ∷ 40 ∷ [])) ++ ((w ++ b) ++ (41 ∷ 41 ∷ [])) ≡ 32 ∷ 40 ∷ (k ++ ((32 ∷ (40 ∷ (w ++ (b ++ 41 ∷ [])))) ++ 41 ∷ [])) = simp append_assoc in
    e ∙ ap (λ z. 32 ∷ 40 ∷ (k ++ ((32 ∷ z) ++ 41 ∷ []))) (sym (append-nil (40 ∷ (w ++ (b ++ 41 ∷ [])))))

conditional-is : (k w b x d : List ℕ) → (32 ∷ 40 ∷ (k ++ 32 ∷ 40 ∷ [])) ++ ((w ++ b) ++ ((41 ∷ 32 ∷ 40 ∷ []) ++ ((x ++ d) ++ (41 ∷ 41 ∷ [])))) ≡ 32 ∷ 40 ∷ (k ++ (((32 ∷ (40 ∷ (w ++ (b ++ 41 ∷ [])))) ++ (32 ∷ ((40 ∷ (x ++ (d ++ 41 ∷ []))) ++ []))) ++ 41 ∷ []))
conditional-is k w b x d =
    let e : (32 ∷ 40 ∷ (k ++ 32 ∷ 40 ∷ [])) ++ ((w ++ b) ++ ((41 ∷ 32 ∷ 40 ∷ []) ++ ((x ++ d) ++ (41 ∷ 41 ∷ [])))) ≡ 32 ∷ 40 ∷ (k ++ (((32 ∷ (40 ∷ (w ++ (b ++ 41 ∷ [])))) ++ (32 ∷ (40 ∷ (x ++ (d ++ 41 ∷ []))))) ++ 41 ∷ [])) = simp append_assoc in
    e ∙ ap (λ z. 32 ∷ 40 ∷ (k ++ (((32 ∷ (40 ∷ (w ++ (b ++ 41 ∷ [])))) ++ (32 ∷ z)) ++ 41 ∷ []))) (sym (append-nil (40 ∷ (x ++ (d ++ 41 ∷ [])))))

module _ (v : Declared) (scope : List Word) where
  abbrev terms : Atom → List ℕ
  terms a = bytes_behind (all_parts (map (term_part v scope) a.args))

  pub held-bytes : (a : Atom) → (32 ∷ 40 ∷ []) ++ (inside v scope a ++ 41 ∷ []) ≡ behind (atom_part v scope a)
  held-bytes a = ap (λ z. 32 ∷ 40 ∷ z) (append_assoc (word_at v.predicates a.predicate) (terms a) (41 ∷ []))

  pub denied-bytes : (a : Atom) → codes " (not (" ++ (inside v scope a ++ codes "))") ≡ behind (denied_part v scope a)
  denied-bytes a = denied-is (codes "not") (word_at v.predicates a.predicate) (terms a)

  pub conditional-bytes : (a k : Atom) → codes " (when (" ++ (inside v scope a ++ (codes ") (" ++ (inside v scope k ++ codes "))"))) ≡ behind (conditional_part v scope a k)
  conditional-bytes a k = conditional-is (codes "when") (word_at v.predicates a.predicate) (terms a) (word_at v.predicates k.predicate) (terms k)
