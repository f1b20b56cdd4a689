-- The slots of words, and the parts of a step's words.
use Rattle.std.proofs.Common.{ℕ, zero, suc, ◌≡◌, ◌+◌, ◌<◌, inl, inr, refl, sym, subst, arith}
use Rattle.std.proofs.Common.{List, [], ◌∷◌, ◌++◌, length, map, get_or, take, Contains}
use Rattle.std.proofs.lemmas.List.{take_more}
use Rattle.htn_base.specs.Escapes.{slot_word}
use Rattle.plan_model.proofs.task_networks.Lists.{Contains-here, Contains-later, head_or_tail, not-in_empty}
use Rattle.step_reader.specs.Arguments.{IsSlot, IsNamedBy, AreNamedBy}

module _ (b : ℕ) where
  named_push : (words : List (List ℕ)) (slots : List ℕ) (word : List ℕ) (k : ℕ) → AreNamedBy b words slots → IsNamedBy b word k
      → AreNamedBy b (words ++ word ∷ []) (slots ++ k ∷ [])
  named_push [] [] word k are is = (is, tt)
  named_push [] (x ∷ slots) word k are is = absurd are
  named_push (w ∷ words) [] word k are is = absurd are
  named_push (w ∷ words) (x ∷ slots) word k are is = (are.0, named_push words slots word k are.1 is)

  -- with the slot of one word more
  pub named_next : (words : List (List ℕ)) (slots : List ℕ) (i : ℕ) (word : List ℕ) (k : ℕ) → i < length words
      → AreNamedBy b (take i words) slots → IsNamedBy b (get_or words i word) k → AreNamedBy b (take (i + 1) words) (slots ++ k ∷ [])
  named_next words slots i word k l are is =
      let more = named_push (take i words) slots (get_or words i word) k are is in
      subst (λ ws. AreNamedBy b ws (slots ++ k ∷ [])) (sym (take_more words i word l)) more

  -- where the slots are there, so is each
  pub named_at : (words : List (List ℕ)) (slots : List ℕ) (i : ℕ) (word : List ℕ) → i < length words → AreNamedBy b words slots
      → (k : ℕ) × IsNamedBy b (get_or words i word) k
  named_at [] slots i word l are = absurd (omega arith)
  named_at (w ∷ words) [] i word l are = absurd are
  named_at (w ∷ words) (k ∷ slots) zero word l are = (k, are.0)
  named_at (w ∷ words) (k ∷ slots) (suc i) word l are = named_at words slots i word (omega arith) are.1

  -- the words of slots name these
  pub own_words : (slots : List ℕ) → ((x : ℕ) → Contains slots x → IsSlot b x) → AreNamedBy b (map slot_word slots) slots
  own_words [] within = tt
  own_words (k ∷ slots) within =
      let rest = own_words slots (λ x c. within x (Contains-later k slots x c)) in
      ((within k (Contains-here k slots), refl), rest)

  pub words_are : (words : List (List ℕ)) (slots : List ℕ) → AreNamedBy b words slots → words ≡ map slot_word slots
  words_are [] [] are = refl
  words_are [] (k ∷ slots) are = absurd are
  words_are (w ∷ words) [] are = absurd are
  words_are (w ∷ words) (k ∷ slots) are = let here = are.0.1 in let rest = words_are words slots are.1 in λ i. here i ∷ rest i

  pub each_within : (words : List (List ℕ)) (slots : List ℕ) → AreNamedBy b words slots → (x : ℕ) → Contains slots x → IsSlot b x
  each_within words [] are x c = absurd (not-in_empty x c)
  each_within [] (k ∷ slots) are x c = absurd are
  each_within (w ∷ words) (k ∷ slots) are x c = elim (head_or_tail k slots x c) [
    | inl e ↦ subst (IsSlot b) e are.0.0
    | inr d ↦ each_within words slots are.1 x d
  ]

-- a list is cut in one way where the first parts are as long
pub cut_once : {A : Type 0} (xs ys us vs : List A) → length xs ≡ length ys → xs ++ us ≡ ys ++ vs → (xs ≡ ys) × (us ≡ vs)
cut_once [] [] us vs l e = (refl, e)
cut_once [] (y ∷ ys) us vs l e = absurd (omega arith)
cut_once (x ∷ xs) [] us vs l e = absurd (omega arith)
cut_once (x ∷ xs) (y ∷ ys) us vs l e = let r = cut_once xs ys us vs (omega arith) cc in let f = r.0 in (cc, r.1)
