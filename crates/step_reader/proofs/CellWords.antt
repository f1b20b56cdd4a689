-- The cells of words.
use Rattle.std.proofs.Common.{ℕ, zero, suc, ◌≡◌, ◌+◌, ◌<◌, ◌≤◌, inl, inr, refl, sym, subst, arith}
use Rattle.std.proofs.Common.{List, [], ◌∷◌, ◌++◌, length, map, get_or, take, Contains}
use Rattle.std.proofs.lemmas.List.{take_more}
use Rattle.std.specs.Prelude.{codes}
use Rattle.std.specs.Fmt.{digits}
use Rattle.htn_base.specs.Escapes.{slot_word}
use Rattle.plan_model.proofs.task_networks.Lists.{Contains-here, Contains-later, head_or_tail, not-in_empty}
use Rattle.step_reader.specs.Cells.{IsCellWord, AreCellWords}

module _ (b : ℕ) where
  named_push : (words : List (List ℕ)) (slots : List ℕ) (word : List ℕ) (k : ℕ) → AreCellWords b words slots → IsCellWord b word k
      → AreCellWords b (words ++ word ∷ []) (slots ++ k ∷ [])
  named_push [] [] word k are is = (is, tt)
  named_push [] (x ∷ slots) word k are is = absurd are
  named_push (w ∷ words) [] word k are is = absurd are
  named_push (w ∷ words) (x ∷ slots) word k are is = (are.0, named_push words slots word k are.1 is)

  -- with the slot of one word more
  pub named_next : (words : List (List ℕ)) (slots : List ℕ) (i : ℕ) (word : List ℕ) (k : ℕ) → i < length words
      → AreCellWords b (take i words) slots → IsCellWord b (get_or words i word) k → AreCellWords b (take (i + 1) words) (slots ++ k ∷ [])
  named_next words slots i word k l are is =
      let more = named_push (take i words) slots (get_or words i word) k are is in
      subst (λ ws. AreCellWords b ws (slots ++ k ∷ [])) (sym (take_more words i word l)) more

  -- where the slots are there, so is each
  pub named_at : (words : List (List ℕ)) (slots : List ℕ) (i : ℕ) (word : List ℕ) → i < length words → AreCellWords b words slots
      → (k : ℕ) × IsCellWord b (get_or words i word) k
  named_at [] slots i word l are = absurd (omega arith)
  named_at (w ∷ words) [] i word l are = absurd are
  named_at (w ∷ words) (k ∷ slots) zero word l are = (k, are.0)
  named_at (w ∷ words) (k ∷ slots) (suc i) word l are = named_at words slots i word (omega arith) are.1

  -- the words of cells name these
  pub own_words : (cells : List ℕ) → ((x : ℕ) → Contains cells x → x ≤ b) → AreCellWords b (map slot_word cells) cells
  own_words [] within = tt
  own_words (k ∷ cells) within =
      let rest = own_words cells (λ x c. within x (Contains-later k cells x c)) in
      ((within k (Contains-here k cells), refl), rest)

  pub words_are : (words : List (List ℕ)) (cells : List ℕ) → AreCellWords b words cells → words ≡ map slot_word cells
  words_are [] [] are = refl
  words_are [] (k ∷ cells) are = absurd are
  words_are (w ∷ words) [] are = absurd are
  words_are (w ∷ words) (k ∷ cells) are = let here = are.0.1 in let rest = words_are words cells are.1 in λ i. here i ∷ rest i

  pub each_within : (words : List (List ℕ)) (cells : List ℕ) → AreCellWords b words cells → (x : ℕ) → Contains cells x → x ≤ b
  each_within words [] are x c = absurd (not-in_empty x c)
  each_within [] (k ∷ cells) are x c = absurd are
  each_within (w ∷ words) (k ∷ cells) are x c = elim (head_or_tail k cells x c) [
    | inl e ↦ subst (λ z. z ≤ b) e are.0.0
    | inr d ↦ each_within words cells are.1 x d
  ]

-- the word of the cell below all others
pub lowest_word : slot_word 0 ≡ codes "htn_s0"
unfolding digits
lowest_word = refl
