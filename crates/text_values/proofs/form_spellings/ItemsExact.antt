-- Lists of what is read by the word at its front: the values to which they are bound are those that the parts spell.
use Rattle.std.proofs.Common.{◌≡◌, ◌↔◌, ℕ, Bool, true, false, codes, Ok, List, [], ◌∷◌, refl, sym, subst, if◌then◌else◌}
use Rattle.text_forms.specs.Lists.{Part, Parts, name, group, nothing, part}
use Rattle.text_forms.specs.Placed.{Placed, cut, close, word, list, parts_of}
use Rattle.text_forms.specs.Words.{Word}
use Rattle.plan_texts.specs.Sections.{bundle}
use Rattle.plan_texts.specs.Together.{Together}
use Rattle.plan_texts.specs.TypedLists.{Each}
use Rattle.plan_texts.proofs.Basics.{bytes_eq-true}
use Rattle.gd_reader.specs.Answers.{◌>>=◌, word_due}
use Rattle.gd_reader.specs.Terms.{Names}
use Rattle.gd_reader.proofs.Keeping.{keeps_same}
use Rattle.hddl_reader.specs.Networks.{is_word, Headed, one_of, all_of, some_of}
use Rattle.text_values.proofs.form_spellings.Bundled.{bundle_and, bundle_one}
use Rattle.text_values.proofs.form_spellings.KeptWords.{Reads, reads_then, reads_map}
use Rattle.text_values.proofs.form_spellings.TermsIn.{same}

-- what is read by the word at its front, with the words that its values need
module _ {E R X : Type 0} (Is : E → X → Part → Type 0) (IsBound : Names → E → R → X → Type 0) where
  abbrev pub ItemExact : Parts → R → Names → Type 0
  ItemExact ps r table = (e : E) (x : X) → IsBound table e r x ↔ Is e x (group ps)

  abbrev pub ListExact : Parts → List R → Names → Type 0
  ListExact ps rs table = (e : E) (xs : List X) → Together (IsBound table e) rs xs ↔ Each (Is e) xs ps

  pub none_exact : (table : Names) → ListExact nothing [] table
  none_exact table e [] = (λ b. tt, λ b. tt)
  none_exact table e (x ∷ xs) = (λ b. absurd b, λ b. absurd b)

  pub one_more_exact : (qs ps : Parts) (r : R) (rs : List R) (table : Names) → ItemExact qs r table → ListExact ps rs table → ListExact (part (group qs) ps) (r ∷ rs) table
  one_more_exact qs ps r rs table one is e [] = (λ b. absurd b, λ b. absurd b)
  one_more_exact qs ps r rs table one is e (x ∷ xs) = (λ b. ((one e x).0 b.0, (is e xs).0 b.1), λ b. ((one e x).1 b.0, (is e xs).1 b.1))

  module _ (headed : Headed R) (each : (names : Names) (place at : ℕ) (w : Word) (p : Placed) → Reads names (headed names place at w p) (ItemExact (part (name w) (parts_of p)))) where
    pub one_of_exact : (p : Placed) (names : Names) (place : ℕ) → Reads names (one_of headed names place p) (ItemExact (parts_of p))
    unfolding word_due
    one_of_exact cut names place = tt
    one_of_exact (close at) names place = tt
    one_of_exact (list at p q) names place = tt
    one_of_exact (word at w p) names place = each names place at w p

    pub all_of_exact : (p : Placed) (names : Names) → Reads names (all_of headed names p) (ListExact (parts_of p))
    all_of_exact cut names = tt
    all_of_exact (close at) names = (keeps_same names, λ table k. none_exact table)
    all_of_exact (word at w p) names = tt
    all_of_exact (list at p q) names =
        reads_then same (ItemExact (parts_of p)) (ListExact (part (group (parts_of p)) (parts_of q))) names (one_of headed names at p) (λ x. all_of headed x.1 q >>= (λ xs. Ok (x.0 ∷ xs.0, xs.1))) (one_of_exact p names at)
        (λ x. reads_map (ListExact (parts_of q)) (λ xs table. ItemExact (parts_of p) x.0 table → ListExact (part (group (parts_of p)) (parts_of q)) xs table) x.1 (all_of headed x.1 q) (λ xs. x.0 ∷ xs) (all_of_exact q x.1)
        (λ xs table is one. one_more_exact (parts_of p) (parts_of q) x.0 xs table one is))

    pub some_of_exact : (p : Placed) (names : Names) (place : ℕ) → Reads names (some_of headed names place p) (ListExact (bundle (group (parts_of p))))
    unfolding some_of
    some_of_exact cut names place = tt
    some_of_exact (close at) names place = (keeps_same names, λ table k. none_exact table)
    some_of_exact (list at p q) names place = tt
    some_of_exact (word at w p) names place = go (is_word (codes "and") w) refl
      where
        go : (b : Bool) → is_word (codes "and") w ≡ b → Reads names (if b then all_of headed names p else headed names place at w p >>= (λ x. Ok (x.0 ∷ [], x.1))) (ListExact (bundle (group (part (name w) (parts_of p)))))
        go true e = subst (λ ps. Reads names (all_of headed names p) (ListExact ps)) (sym (bundle_and w (parts_of p) (bytes_eq-true w (codes "and") e))) (all_of_exact p names)
        go false e =
            subst (λ ps. Reads names (headed names place at w p >>= (λ x. Ok (x.0 ∷ [], x.1))) (ListExact ps)) (sym (bundle_one w (parts_of p) e))
            (reads_map (ItemExact (part (name w) (parts_of p))) (ListExact (part (group (part (name w) (parts_of p))) nothing)) names (headed names place at w p) (λ x. x ∷ []) (each names place at w p)
            (λ x table is. one_more_exact (part (name w) (parts_of p)) nothing x [] table is (none_exact table)))
