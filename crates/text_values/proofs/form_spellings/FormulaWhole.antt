-- A form that spells a formula is whole.
use Rattle.std.proofs.Common.{ℕ, ◌≡◌, inl, inr, List, [], ◌∷◌, ◌++◌, map, codes, refl, sym, ap, subst, ◌∙◌}
use Rattle.gd_reader.specs.Forms.{Form, wrong}
use Rattle.text_forms.specs.Lists.{Part, Parts, name, group, nothing, part}
use Rattle.text_forms.specs.Placed.{Placed, cut, close, word, list, parts_of, IsWhole}
use Rattle.text_forms.specs.Words.{Word, is_variable}
use Rattle.plan_texts.specs.Declared.{Declared, variable}
use Rattle.plan_texts.specs.Formulas.{IsParam, formula_step, IsFormula}
use Rattle.plan_texts.specs.TypedLists.{Each, EachTyped, skipped}
use Rattle.htn_base.specs.Different.{AreDifferent}
use Rattle.plan_texts.specs.Types.{EachIs}
use Rattle.plan_texts.proofs.Places.{each-append}
use Rattle.plan_texts.proofs.Readings.{formula_roll}
use Rattle.plan_texts.proofs.Spelled.{each_is-map}
use Rattle.plan_model.specs.declared.terms.Param.{Param}
use Rattle.plan_model.specs.declared.formulas.Formula.{Formula, roll-Formula}
use Rattle.plan_model.specs.declared.formulas.Formula.TheFolds.{rec-roll-Formula, map-Formula, ind-Formula}
use Rattle.plan_model.specs.declared.formulas.Formula.TheOpen.{Formula-F}
use Rattle.gd_reader.specs.declared.typed_lists.ListKind.TheVariants.{Parameters}
use Rattle.gd_reader.specs.declared.words.Head.{Head}
use Rattle.gd_reader.specs.declared.words.Head.TheVariants as head
use Rattle.gd_reader.specs.Grammar.{inside_form, formulas_form, one_form, two_form, bound_form}
use Rattle.gd_reader.specs.ListGrammar.{params_form}
use Rattle.gd_reader.specs.TermGrammar.{terms_form, end_form, two_terms_form}
use Rattle.gd_reader.specs.Words.{head_of}
use Rattle.text_values.specs.form_spellings.Fresh.{fresh_step, AreFresh}
use Rattle.text_values.specs.form_spellings.SpellsSome.{HaveLetters}
use Rattle.text_values.proofs.form_spellings.Freshness.{all_new}
use Rattle.text_values.proofs.form_spellings.ListsWhole.{params_whole, parameter_declares}
use Rattle.text_values.proofs.form_spellings.PartsWhole.{no_nothing, end_whole, Good, part_whole, headed_whole, terms_whole, two_whole}
use Rattle.text_values.proofs.form_spellings.WordTests.{false_true, name_head, key_heads}

-- the form behind a word at the front
abbrev pub headed_form : Head → Placed → Form
headed_form h p = elim h [
  | head.And ↦ formulas_form p
  | head.Or ↦ formulas_form p
  | head.Not ↦ one_form p
  | head.Imply ↦ two_form p
  | head.Forall ↦ bound_form p
  | head.Exists ↦ bound_form p
  | head.Equal ↦ two_terms_form p
  | head.Plain ↦ terms_form p
  | head.Wrong ↦ wrong
]

keyed : (h : Head) (k : Word) (at : ℕ) (R : Placed) → head_of k ≡ h → (headed_form h R).Whole → (inside_form (word at k R)).Whole
keyed h k at R e g = subst (λ h. (headed_form h R).Whole) (sym e) g

one_whole : (R : Placed) (q : Part) → IsWhole R → parts_of R ≡ part q nothing → Good inside_form q → (one_form R).Whole
one_whole R q w e g = part_whole inside_form one_form end_form (λ at S T a b. (a, b)) R q nothing w e g (λ T w e. end_whole T w e)

two_formulas_whole : (R : Placed) (q r : Part) → IsWhole R → parts_of R ≡ part q (part r nothing) → Good inside_form q → Good inside_form r → (two_form R).Whole
two_formulas_whole R q r w e g h = part_whole inside_form two_form one_form (λ at S T a b. (a, b)) R q (part r nothing) w e g (λ T w e. one_whole T r w e h)

module _ (v : Declared) where
  natural : (X : Type 0) (u : X → Formula) (k : Formula → Type 0) (x : Formula-F X) → fresh_step v (λ p. k (u p)) x ≡ fresh_step v k (map-Formula X Formula u x)
  natural X u k (Formula-F.Holds a) = refl
  natural X u k (Formula-F.Equal s t) = refl
  natural X u k (Formula-F.Not f) = refl
  natural X u k (Formula-F.And fs) = each_is-map u k fs
  natural X u k (Formula-F.Or fs) = each_is-map u k fs
  natural X u k (Formula-F.Imply f g) = refl
  natural X u k (Formula-F.Forall xs f) = refl
  natural X u k (Formula-F.Exists xs f) = refl

  pub fresh_roll : (x : Formula-F Formula) → AreFresh v (roll-Formula x) ≡ fresh_step v (AreFresh v) x
  fresh_roll x = rec-roll-Formula (Type 0) (λ X u k layer. fresh_step v k layer) natural x

  pub bound_letters : (xs : List Param) (ps : Parts) → EachTyped (IsParam v) xs ps → HaveLetters (map (variable v) xs)
  bound_letters [] ps e = tt
  bound_letters (x ∷ xs) nothing e = absurd e
  bound_letters (x ∷ xs) (part p ps) e = (λ g. false_true (ap is_variable (sym g) ∙ e.0.1), bound_letters xs (skipped ps) e.1)

  pub params_good : (xs : List Param) → AreDifferent (map (variable v) xs) → (S : Placed) → IsWhole S → EachTyped (IsParam v) xs (parts_of S) → (params_form Parameters [] S).Whole
  params_good xs d S w e = params_whole (IsParam v) Parameters (variable v) (parameter_declares v) S xs [] w e (all_new (map (variable v) xs) d)

  bound_whole : (xs : List Param) (R : Placed) (ps : Parts) (q : Part) → AreDifferent (map (variable v) xs) → EachTyped (IsParam v) xs ps → IsWhole R → parts_of R ≡ part (group ps) (part q nothing) → Good inside_form q → (bound_form R).Whole
  bound_whole xs R ps q d i w e g =
      part_whole (params_form Parameters []) bound_form one_form (λ at S T a b. (a, b)) R (group ps) (part q nothing) w e
      (λ S w e. params_good xs d S w (subst (EachTyped (IsParam v) xs) (sym e) i)) (λ T w e. one_whole T q w e g)

  abbrev pub Claim : Formula → Type 0
  Claim f = (scope : List Word) (q : Part) → HaveLetters scope → IsFormula v f scope q → AreFresh v f → Good inside_form q

  each_whole : (fs : List ((f : Formula) × Claim f)) (scope : List Word) (R : Placed) → HaveLetters scope → IsWhole R → Each (λ f. IsFormula v f scope) (map (λ e. e.0) fs) (parts_of R) → EachIs (AreFresh v) (map (λ e. e.0) fs) → (formulas_form R).Whole
  each_whole fs scope cut s w e f = w
  each_whole fs scope (close at) s w e f = tt
  each_whole [] scope (word at u R) s w e f = absurd e
  each_whole (g ∷ fs) scope (word at u R) s w e f = absurd (g.1 scope (name u) s e.0 f.0)
  each_whole [] scope (list at S R) s w e f = absurd e
  each_whole (g ∷ fs) scope (list at S R) s w e f = (g.1 scope (group (parts_of S)) s e.0 f.0 S w.0 refl, each_whole fs scope R s w.1 e.1 f.1)

  level : (y : Formula-F ((f : Formula) × Claim f)) (scope : List Word) (q : Part) → HaveLetters scope
      → formula_step v (IsFormula v) (map-Formula ((f : Formula) × Claim f) Formula (λ e. e.0) y) scope q → fresh_step v (AreFresh v) (map-Formula ((f : Formula) × Claim f) Formula (λ e. e.0) y) → Good inside_form q
  level (Formula-F.Holds a) scope q s e n =
      headed_whole inside_form e.0 q e.1 e.2 (λ at R w d. keyed head.Plain e.0 at R (name_head e.0 e.3) (terms_whole v scope s R a.args w (subst (Each _ a.args) (sym d) e.5)))
  level (Formula-F.Equal t u) scope q s e n =
      headed_whole inside_form (codes "=") q _ e.2 (λ at R w d. keyed head.Equal (codes "=") at R key_heads.6 (two_whole v scope s R t u e.0 e.1 w d e.3 e.4))
  level (Formula-F.Not f) scope q s e n =
      headed_whole inside_form (codes "not") q _ e.1 (λ at R w d. keyed head.Not (codes "not") at R key_heads.2 (one_whole R e.0 w d (f.1 scope e.0 s e.2 n)))
  level (Formula-F.And fs) scope q s (inl e) n =
      headed_whole inside_form (codes "and") q e.0 e.1 (λ at R w d. keyed head.And (codes "and") at R key_heads.0 (each_whole fs scope R s w (subst (Each _ _) (sym d) e.2) n))
  level (Formula-F.And fs) scope q s (inr e) n = subst (Good inside_form) (sym e.1) empty
    where
      empty : (S : Placed) → IsWhole S → parts_of S ≡ nothing → (inside_form S).Whole
      empty cut w d = w
      empty (close at) w d = tt
      empty (word at u R) w d = no_nothing d
      empty (list at S R) w d = no_nothing d
  level (Formula-F.Or fs) scope q s e n =
      headed_whole inside_form (codes "or") q e.0 e.1 (λ at R w d. keyed head.Or (codes "or") at R key_heads.1 (each_whole fs scope R s w (subst (Each _ _) (sym d) e.2) n))
  level (Formula-F.Imply f g) scope q s e n =
      headed_whole inside_form (codes "imply") q _ e.2 (λ at R w d. keyed head.Imply (codes "imply") at R key_heads.3 (two_formulas_whole R e.0 e.1 w d (f.1 scope e.0 s e.3 n.0) (g.1 scope e.1 s e.4 n.1)))
  level (Formula-F.Forall xs f) scope q s e n =
      let more = each-append _ scope (map (variable v) xs) s (bound_letters xs e.0 e.3) in
      headed_whole inside_form (codes "forall") q _ e.2 (λ at R w d. keyed head.Forall (codes "forall") at R key_heads.4 (bound_whole xs R e.0 e.1 n.0 e.3 w d (f.1 (scope ++ map (variable v) xs) e.1 more e.4 n.1)))
  level (Formula-F.Exists xs f) scope q s e n =
      let more = each-append _ scope (map (variable v) xs) s (bound_letters xs e.0 e.3) in
      headed_whole inside_form (codes "exists") q _ e.2 (λ at R w d. keyed head.Exists (codes "exists") at R key_heads.5 (bound_whole xs R e.0 e.1 n.0 e.3 w d (f.1 (scope ++ map (variable v) xs) e.1 more e.4 n.1)))

  pub formula_good : (f : Formula) → Claim f
  formula_good = ind-Formula Claim (λ x y is. subst (λ z. Claim (roll-Formula z)) is (claim (map-Formula ((f : Formula) × Claim f) Formula (λ e. e.0) y) (level y)))
    where
      claim : (x : Formula-F Formula) → ((scope : List Word) (q : Part) → HaveLetters scope → formula_step v (IsFormula v) x scope q → fresh_step v (AreFresh v) x → Good inside_form q) → Claim (roll-Formula x)
      claim x h scope q s e n = h scope q s (subst (λ (z : List Word → Part → Type 0). z scope q) (formula_roll v x) e) (subst (λ (z : Type 0). z) (fresh_roll x) n)
