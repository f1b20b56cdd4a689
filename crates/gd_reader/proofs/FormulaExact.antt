-- Formulas are read exactly.
use Rattle.std.proofs.Common.{◌≡◌, ℕ, Ok, Err, Result, [], ◌∷◌, refl, sym, ◌∙◌, ap, subst}
use Rattle.gd_reader.specs.Forms.{Form, wrong}
use Rattle.text_forms.specs.Placed.{Placed, cut, close, word, list}
use Rattle.text_forms.specs.Words.{Word}
use Rattle.gd_reader.specs.declared.formulas.RawFormula.{RawFormula}
use Rattle.gd_reader.specs.declared.formulas.RawFormula.TheVariants as raw
use Rattle.gd_reader.specs.declared.stop.Stop.{Stop}
use Rattle.gd_reader.specs.declared.stop.Stop.TheVariants.{Departs}
use Rattle.gd_reader.specs.declared.typed_lists.ListKind.TheVariants.{Parameters}
use Rattle.gd_reader.specs.declared.words.Head.{Head}
use Rattle.gd_reader.specs.declared.words.Head.TheVariants as head
use Rattle.gd_reader.specs.Answers.{◌>>=◌, word_or_end, list_due, end_due}
use Rattle.gd_reader.specs.Formulas.{inside, formulas, one, two, bound, headed, formula_read}
use Rattle.gd_reader.specs.Grammar.{inside_form, formulas_form, one_form, two_form, bound_form, formula_form}
use Rattle.gd_reader.specs.ListGrammar.{params_form}
use Rattle.gd_reader.specs.TermGrammar.{terms_form, end_form, two_terms_form}
use Rattle.gd_reader.specs.Terms.{Names, two_terms, atom}
use Rattle.gd_reader.specs.TypedLists.{listed}
use Rattle.gd_reader.specs.Words.{head_of}
use Rattle.gd_reader.proofs.Exact.{Tells, IsExact, exact_cut, exact_close, exact_no_word, exact_no_list, exact_behind, exact_list, exact_alone, exact_map}
use Rattle.gd_reader.proofs.ListExact.{listed_exact}
use Rattle.gd_reader.proofs.Steps.{inside_is}
use Rattle.gd_reader.proofs.TermExact.{end_exact, atom_exact, two_terms_exact}

-- the form behind a word at the front of a formula
abbrev headed_form : Head → Placed → Form
headed_form h p = elim h [
  | head.And ↦ formulas_form p
  | head.Or ↦ formulas_form p
  | head.Not ↦ one_form p
  | head.Imply ↦ two_form p
  | head.Forall ↦ bound_form p
  | head.Exists ↦ bound_form p
  | head.Equal ↦ two_terms_form p
  | head.Plain ↦ terms_form p
  | head.Wrong ↦ wrong
]

inside_word : (names : Names) (at : ℕ) (w : Word) (p : Placed) → inside names (word at w p) ≡ headed (head_of w) names at w p
inside_word names at w p = inside_is names (word at w p) ∙ (unfold word_or_end in refl)

-- by what the word begins, where what stands behind it is read exactly
module _ (names : Names) (at : ℕ) (w : Word) (p : Placed) (many : IsExact formulas_form (formulas names) p) (one' : IsExact one_form (one names) p) (two' : IsExact two_form (two names) p) (bound' : IsExact bound_form (bound names) p) where
  behind_word : (h : Head) (here : head_of w ≡ h) (form : Placed → Form) (rest : Placed → Result (RawFormula × Names) Stop) → ((p : Placed) → headed h names at w p ≡ rest p) → IsExact form rest p
      → ((r : Result (RawFormula × Names) Stop) → Tells (form p) r → Tells (headed_form h p) r) → IsExact inside_form (inside names) (word at w p)
  unfolding inside
  behind_word h here form rest is x conv =
      exact_behind inside_form (inside names) refl at w p form rest (λ p. inside_word names at w p ∙ ap (λ h. headed h names at w p) here ∙ is p) x
      (λ t. subst (λ h. Tells (headed_form h p) (rest p)) (sym here) (conv (rest p) t))

  by_head : (h : Head) → head_of w ≡ h → IsExact inside_form (inside names) (word at w p)
  unfolding inside headed
  by_head head.And here = behind_word head.And here formulas_form (λ p. formulas names p >>= (λ fs. Ok (raw.And fs.0, fs.1))) (λ p. refl) (exact_map formulas_form (formulas names) _ p many) (λ r t. t)
  by_head head.Or here = behind_word head.Or here formulas_form (λ p. formulas names p >>= (λ fs. Ok (raw.Or fs.0, fs.1))) (λ p. refl) (exact_map formulas_form (formulas names) _ p many) (λ r t. t)
  by_head head.Not here = behind_word head.Not here one_form (λ p. one names p >>= (λ f. Ok (raw.Not f.0, f.1))) (λ p. refl) (exact_map one_form (one names) _ p one') (λ r t. t)
  by_head head.Imply here = behind_word head.Imply here two_form (λ p. two names p >>= (λ fs. Ok (raw.Imply fs.0.0 fs.0.1, fs.1))) (λ p. refl) (exact_map two_form (two names) _ p two') (λ r t. t)
  by_head head.Forall here = behind_word head.Forall here bound_form (λ p. bound names p >>= (λ b. Ok (raw.Forall b.0.0 b.0.1, b.1))) (λ p. refl) (exact_map bound_form (bound names) _ p bound') (λ r t. t)
  by_head head.Exists here = behind_word head.Exists here bound_form (λ p. bound names p >>= (λ b. Ok (raw.Exists b.0.0 b.0.1, b.1))) (λ p. refl) (exact_map bound_form (bound names) _ p bound') (λ r t. t)
  by_head head.Equal here = behind_word head.Equal here two_terms_form (λ p. two_terms names p >>= (λ xs. Ok (raw.Equal xs.0.0 xs.0.1, xs.1))) (λ p. refl) (exact_map two_terms_form (two_terms names) _ p (two_terms_exact p names)) (λ r t. t)
  by_head head.Plain here = behind_word head.Plain here terms_form (λ p. atom names at w p >>= (λ a. Ok (raw.Holds a.0, a.1))) (λ p. refl) (exact_map terms_form (atom names at w) _ p (atom_exact p names at w)) (λ r t. t)
  by_head head.Wrong here =
      exact_no_word inside_form (inside names) refl at w p 8 (λ p. inside_word names at w p ∙ ap (λ h. headed h names at w p) here)
      (subst (λ h. ((headed_form h p).Whole → ⊥) × ((headed_form h p).Begins → ⊥)) (sym here) (λ w. w, λ b. b))

mutual
  unfolding inside formulas one two bound

  pub inside_exact : (p : Placed) (names : Names) → IsExact inside_form (inside names) p
  inside_exact cut names = exact_cut inside_form (inside names) refl (λ w. w, tt)
  inside_exact (close at) names = exact_close inside_form (inside names) refl at (Ok (raw.And [], names)) refl tt (tt, tt)
  inside_exact (list at p q) names = exact_no_list inside_form (inside names) refl at p q 8 (λ p q. refl) (λ w. w, λ b. b)
  inside_exact (word at w p) names = by_head names at w p (formulas_exact p names) (one_exact p names) (two_exact p names) (bound_exact p names) (head_of w) refl

  formulas_exact : (p : Placed) (names : Names) → IsExact formulas_form (formulas names) p
  formulas_exact cut names = exact_cut formulas_form (formulas names) refl (λ w. w, tt)
  formulas_exact (close at) names = exact_close formulas_form (formulas names) refl at (Ok ([], names)) refl tt (tt, tt)
  formulas_exact (word at w p) names = exact_no_word formulas_form (formulas names) refl at w p 8 (λ p. refl) (λ w. w, λ b. b)
  formulas_exact (list at p q) names =
      exact_list formulas_form (formulas names) refl at p q (inside names) (λ f q. formulas f.1 q >>= (λ fs. Ok (f.0 ∷ fs.0, fs.1))) inside_form formulas_form (λ p q. refl)
      (inside_exact p names) (λ f e. exact_map formulas_form (formulas f.1) _ q (formulas_exact q f.1)) (λ t. t)

  one_exact : (p : Placed) (names : Names) → IsExact one_form (one names) p
  one_exact cut names = exact_cut one_form (one names) refl (λ w. w, tt)
  one_exact (close at) names = exact_close one_form (one names) refl at (Err (Departs 8 at)) refl refl (λ w. w, λ b. b)
  one_exact (word at w p) names = exact_no_word one_form (one names) refl at w p 8 (λ p. refl) (λ w. w, λ b. b)
  one_exact (list at p q) names =
      exact_list one_form (one names) refl at p q (inside names) (λ f q. end_due q >>= (λ _. Ok f)) inside_form end_form (λ p q. refl)
      (inside_exact p names) (λ f e. exact_map end_form end_due (λ _. f) q (end_exact q)) (λ t. t)

  two_exact : (p : Placed) (names : Names) → IsExact two_form (two names) p
  two_exact cut names = exact_cut two_form (two names) refl (λ w. w, tt)
  two_exact (close at) names = exact_close two_form (two names) refl at (Err (Departs 8 at)) refl refl (λ w. w, λ b. b)
  two_exact (word at w p) names = exact_no_word two_form (two names) refl at w p 8 (λ p. refl) (λ w. w, λ b. b)
  two_exact (list at p q) names =
      exact_list two_form (two names) refl at p q (inside names) (λ f q. one f.1 q >>= (λ g. Ok ((f.0, g.0), g.1))) inside_form one_form (λ p q. refl)
      (inside_exact p names) (λ f e. exact_map one_form (one f.1) _ q (one_exact q f.1)) (λ t. t)

  bound_exact : (p : Placed) (names : Names) → IsExact bound_form (bound names) p
  bound_exact cut names = exact_cut bound_form (bound names) refl (λ w. w, tt)
  bound_exact (close at) names = exact_close bound_form (bound names) refl at (Err (Departs 8 at)) refl refl (λ w. w, λ b. b)
  bound_exact (word at w p) names = exact_no_word bound_form (bound names) refl at w p 8 (λ p. refl) (λ w. w, λ b. b)
  bound_exact (list at p q) names =
      exact_list bound_form (bound names) refl at p q (listed Parameters names) (λ vs q. one vs.1 q >>= (λ f. Ok ((vs.0, f.0), f.1))) (params_form Parameters []) one_form (λ p q. refl)
      (listed_exact p Parameters names) (λ vs e. exact_map one_form (one vs.1) _ q (one_exact q vs.1)) (λ t. t)

pub formula_exact : (p : Placed) (names : Names) → IsExact formula_form (formula_read names) p
unfolding formula_read list_due
formula_exact cut names = exact_cut formula_form (formula_read names) refl (λ w. w, tt)
formula_exact (close at) names = exact_close formula_form (formula_read names) refl at (Err (Departs 8 at)) refl refl (λ w. w, λ b. b)
formula_exact (word at w p) names = exact_no_word formula_form (formula_read names) refl at w p 8 (λ p. refl) (λ w. w, λ b. b)
formula_exact (list at p q) names = exact_alone formula_form (formula_read names) refl at p q inside_form (inside names) (λ p q. refl) (inside_exact p names) (λ t. t)
