-- Effects are read exactly.
use Rattle.std.proofs.Common.{◌≡◌, ℕ, Ok, Err, Result, [], ◌∷◌, refl, sym, ◌∙◌, ap, subst}
use Rattle.gd_reader.specs.Forms.{Form, wrong}
use Rattle.text_forms.specs.Placed.{Placed, cut, close, word, list}
use Rattle.text_forms.specs.Words.{Word}
use Rattle.gd_reader.specs.declared.effects.RawEffect.{RawEffect}
use Rattle.gd_reader.specs.declared.effects.RawEffect.TheVariants as raw
use Rattle.gd_reader.specs.declared.stop.Stop.{Stop}
use Rattle.gd_reader.specs.declared.stop.Stop.TheVariants.{Departs}
use Rattle.gd_reader.specs.declared.typed_lists.ListKind.TheVariants.{Parameters}
use Rattle.gd_reader.specs.declared.words.EffectHead.{EffectHead}
use Rattle.gd_reader.specs.declared.words.EffectHead.TheVariants as head
use Rattle.gd_reader.specs.Answers.{◌>>=◌, word_or_end, list_due, end_due, passed}
use Rattle.gd_reader.specs.Effects.{effect_inside, effects, one_effect, guarded, bound_effect, deleted, effect_headed, effect_read}
use Rattle.gd_reader.specs.Formulas.{inside}
use Rattle.gd_reader.specs.Grammar.{inside_form, deleted_form, effect_inside_form, effects_form, one_effect_form, guarded_form, bound_effect_form, effect_form}
use Rattle.gd_reader.specs.ListGrammar.{params_form}
use Rattle.gd_reader.specs.TermGrammar.{terms_form, end_form, applied_form, passed_form}
use Rattle.gd_reader.specs.Terms.{Names, atom, applied}
use Rattle.gd_reader.specs.TypedLists.{listed}
use Rattle.gd_reader.specs.Words.{effect_head_of}
use Rattle.gd_reader.proofs.EffectSteps.{effect_inside_is}
use Rattle.gd_reader.proofs.Exact.{Tells, IsExact, exact_cut, exact_close, exact_no_word, exact_no_list, exact_behind, exact_list, exact_alone, exact_map}
use Rattle.gd_reader.proofs.FormulaExact.{inside_exact}
use Rattle.gd_reader.proofs.ListExact.{listed_exact}
use Rattle.gd_reader.proofs.TermExact.{end_exact, passed_exact, atom_exact, applied_exact}

deleted_exact : (p : Placed) (names : Names) → IsExact deleted_form (deleted names) p
unfolding deleted
deleted_exact cut names = exact_cut deleted_form (deleted names) refl (λ w. w, tt)
deleted_exact (close at) names = exact_close deleted_form (deleted names) refl at (Err (Departs 8 at)) refl refl (λ w. w, λ b. b)
deleted_exact (word at w p) names = exact_no_word deleted_form (deleted names) refl at w p 8 (λ p. refl) (λ w. w, λ b. b)
deleted_exact (list at p q) names =
    exact_list deleted_form (deleted names) refl at p q (applied names) (λ a q. end_due q >>= (λ _. Ok a)) applied_form end_form (λ p q. refl)
    (applied_exact p names) (λ a e. exact_map end_form end_due (λ _. a) q (end_exact q)) (λ t. t)

-- the form behind a word at the front of an effect
abbrev headed_form : EffectHead → Placed → Form
headed_form h p = elim h [
  | head.And ↦ effects_form p
  | head.Forall ↦ bound_effect_form p
  | head.When ↦ guarded_form p
  | head.Not ↦ deleted_form p
  | head.Increase ↦ passed_form p
  | head.Plain ↦ terms_form p
  | head.Wrong ↦ wrong
]

inside_word : (names : Names) (at : ℕ) (w : Word) (p : Placed) → effect_inside names (word at w p) ≡ effect_headed (effect_head_of w) names at w p
inside_word names at w p = effect_inside_is names (word at w p) ∙ (unfold word_or_end in refl)

-- by what the word begins, where what stands behind it is read exactly
module _ (names : Names) (at : ℕ) (w : Word) (p : Placed) (many : IsExact effects_form (effects names) p) (guarded' : IsExact guarded_form (guarded names) p) (bound' : IsExact bound_effect_form (bound_effect names) p) where
  behind_word : (h : EffectHead) (here : effect_head_of w ≡ h) (form : Placed → Form) (rest : Placed → Result (RawEffect × Names) Stop) → ((p : Placed) → effect_headed h names at w p ≡ rest p) → IsExact form rest p
      → ((r : Result (RawEffect × Names) Stop) → Tells (form p) r → Tells (headed_form h p) r) → IsExact effect_inside_form (effect_inside names) (word at w p)
  unfolding effect_inside
  behind_word h here form rest is x conv =
      exact_behind effect_inside_form (effect_inside names) refl at w p form rest (λ p. inside_word names at w p ∙ ap (λ h. effect_headed h names at w p) here ∙ is p) x
      (λ t. subst (λ h. Tells (headed_form h p) (rest p)) (sym here) (conv (rest p) t))

  by_head : (h : EffectHead) → effect_head_of w ≡ h → IsExact effect_inside_form (effect_inside names) (word at w p)
  unfolding effect_inside effect_headed
  by_head head.And here = behind_word head.And here effects_form (λ p. effects names p >>= (λ es. Ok (raw.And es.0, es.1))) (λ p. refl) (exact_map effects_form (effects names) _ p many) (λ r t. t)
  by_head head.Forall here = behind_word head.Forall here bound_effect_form (λ p. bound_effect names p >>= (λ b. Ok (raw.Forall b.0.0 b.0.1, b.1))) (λ p. refl) (exact_map bound_effect_form (bound_effect names) _ p bound') (λ r t. t)
  by_head head.When here = behind_word head.When here guarded_form (λ p. guarded names p >>= (λ g. Ok (raw.When g.0.0 g.0.1, g.1))) (λ p. refl) (exact_map guarded_form (guarded names) _ p guarded') (λ r t. t)
  by_head head.Not here = behind_word head.Not here deleted_form (λ p. deleted names p >>= (λ a. Ok (raw.Delete a.0, a.1))) (λ p. refl) (exact_map deleted_form (deleted names) _ p (deleted_exact p names)) (λ r t. t)
  by_head head.Increase here = behind_word head.Increase here passed_form (λ p. passed p >>= (λ _. Ok (raw.And [], names))) (λ p. refl) (exact_map passed_form passed (λ _. (raw.And [], names)) p (passed_exact p)) (λ r t. t)
  by_head head.Plain here = behind_word head.Plain here terms_form (λ p. atom names at w p >>= (λ a. Ok (raw.Add a.0, a.1))) (λ p. refl) (exact_map terms_form (atom names at w) _ p (atom_exact p names at w)) (λ r t. t)
  by_head head.Wrong here =
      exact_no_word effect_inside_form (effect_inside names) refl at w p 8 (λ p. inside_word names at w p ∙ ap (λ h. effect_headed h names at w p) here)
      (subst (λ h. ((headed_form h p).Whole → ⊥) × ((headed_form h p).Begins → ⊥)) (sym here) (λ w. w, λ b. b))

mutual
  unfolding effect_inside effects one_effect guarded bound_effect

  pub effect_inside_exact : (p : Placed) (names : Names) → IsExact effect_inside_form (effect_inside names) p
  effect_inside_exact cut names = exact_cut effect_inside_form (effect_inside names) refl (λ w. w, tt)
  effect_inside_exact (close at) names = exact_close effect_inside_form (effect_inside names) refl at (Ok (raw.And [], names)) refl tt (tt, tt)
  effect_inside_exact (list at p q) names = exact_no_list effect_inside_form (effect_inside names) refl at p q 8 (λ p q. refl) (λ w. w, λ b. b)
  effect_inside_exact (word at w p) names = by_head names at w p (effects_exact p names) (guarded_exact p names) (bound_exact p names) (effect_head_of w) refl

  effects_exact : (p : Placed) (names : Names) → IsExact effects_form (effects names) p
  effects_exact cut names = exact_cut effects_form (effects names) refl (λ w. w, tt)
  effects_exact (close at) names = exact_close effects_form (effects names) refl at (Ok ([], names)) refl tt (tt, tt)
  effects_exact (word at w p) names = exact_no_word effects_form (effects names) refl at w p 8 (λ p. refl) (λ w. w, λ b. b)
  effects_exact (list at p q) names =
      exact_list effects_form (effects names) refl at p q (effect_inside names) (λ f q. effects f.1 q >>= (λ fs. Ok (f.0 ∷ fs.0, fs.1))) effect_inside_form effects_form (λ p q. refl)
      (effect_inside_exact p names) (λ f e. exact_map effects_form (effects f.1) _ q (effects_exact q f.1)) (λ t. t)

  one_exact : (p : Placed) (names : Names) → IsExact one_effect_form (one_effect names) p
  one_exact cut names = exact_cut one_effect_form (one_effect names) refl (λ w. w, tt)
  one_exact (close at) names = exact_close one_effect_form (one_effect names) refl at (Err (Departs 8 at)) refl refl (λ w. w, λ b. b)
  one_exact (word at w p) names = exact_no_word one_effect_form (one_effect names) refl at w p 8 (λ p. refl) (λ w. w, λ b. b)
  one_exact (list at p q) names =
      exact_list one_effect_form (one_effect names) refl at p q (effect_inside names) (λ f q. end_due q >>= (λ _. Ok f)) effect_inside_form end_form (λ p q. refl)
      (effect_inside_exact p names) (λ f e. exact_map end_form end_due (λ _. f) q (end_exact q)) (λ t. t)

  guarded_exact : (p : Placed) (names : Names) → IsExact guarded_form (guarded names) p
  guarded_exact cut names = exact_cut guarded_form (guarded names) refl (λ w. w, tt)
  guarded_exact (close at) names = exact_close guarded_form (guarded names) refl at (Err (Departs 8 at)) refl refl (λ w. w, λ b. b)
  guarded_exact (word at w p) names = exact_no_word guarded_form (guarded names) refl at w p 8 (λ p. refl) (λ w. w, λ b. b)
  guarded_exact (list at p q) names =
      exact_list guarded_form (guarded names) refl at p q (inside names) (λ f q. one_effect f.1 q >>= (λ g. Ok ((f.0, g.0), g.1))) inside_form one_effect_form (λ p q. refl)
      (inside_exact p names) (λ f e. exact_map one_effect_form (one_effect f.1) _ q (one_exact q f.1)) (λ t. t)

  bound_exact : (p : Placed) (names : Names) → IsExact bound_effect_form (bound_effect names) p
  bound_exact cut names = exact_cut bound_effect_form (bound_effect names) refl (λ w. w, tt)
  bound_exact (close at) names = exact_close bound_effect_form (bound_effect names) refl at (Err (Departs 8 at)) refl refl (λ w. w, λ b. b)
  bound_exact (word at w p) names = exact_no_word bound_effect_form (bound_effect names) refl at w p 8 (λ p. refl) (λ w. w, λ b. b)
  bound_exact (list at p q) names =
      exact_list bound_effect_form (bound_effect names) refl at p q (listed Parameters names) (λ vs q. one_effect vs.1 q >>= (λ f. Ok ((vs.0, f.0), f.1))) (params_form Parameters []) one_effect_form (λ p q. refl)
      (listed_exact p Parameters names) (λ vs e. exact_map one_effect_form (one_effect vs.1) _ q (one_exact q vs.1)) (λ t. t)

pub effect_exact : (p : Placed) (names : Names) → IsExact effect_form (effect_read names) p
unfolding effect_read list_due
effect_exact cut names = exact_cut effect_form (effect_read names) refl (λ w. w, tt)
effect_exact (close at) names = exact_close effect_form (effect_read names) refl at (Err (Departs 8 at)) refl refl (λ w. w, λ b. b)
effect_exact (word at w p) names = exact_no_word effect_form (effect_read names) refl at w p 8 (λ p. refl) (λ w. w, λ b. b)
effect_exact (list at p q) names = exact_alone effect_form (effect_read names) refl at p q effect_inside_form (effect_inside names) (λ p q. refl) (effect_inside_exact p names) (λ t. t)
