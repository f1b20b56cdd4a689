-- The parts from which an effect is read spell it, once bound.
use Rattle.std.proofs.Common.{◌≡◌, ℕ, inl, inr, Ok, Err, Result, List, [], ◌∷◌, ◌++◌, map, refl, ap, sym, subst}
use Rattle.text_forms.specs.Lists.{Part, Parts, name, group, nothing, part}
use Rattle.text_forms.specs.Placed.{Placed, cut, close, word, list, parts_of}
use Rattle.text_forms.specs.Words.{Word}
use Rattle.plan_texts.specs.Declared.{Declared, variable}
use Rattle.plan_texts.specs.Formulas.{IsApplied, IsParam, IsFormula, IsEffect}
use Rattle.plan_texts.specs.TypedLists.{Each, EachTyped}
use Rattle.plan_texts.proofs.Layers.{effect-Add, effect-Delete, effect-Both, effect-Each_one, effect-When}
use Rattle.plan_model.specs.declared.terms.Term.{Term}
use Rattle.plan_model.specs.declared.terms.Param.{Param}
use Rattle.plan_model.specs.declared.formulas.Formula.{Formula}
use Rattle.plan_model.specs.declared.effects.Effect.{Effect}
use Rattle.plan_model.specs.declared.effects.Effect.TheVariants as effect
use Rattle.gd_reader.specs.declared.effects.RawEffect.{RawEffect, roll-RawEffect}
use Rattle.gd_reader.specs.declared.effects.RawEffect.TheFolds.{rec-roll-RawEffect, map-RawEffect}
use Rattle.gd_reader.specs.declared.effects.RawEffect.TheOpen.{RawEffect-F}
use Rattle.gd_reader.specs.declared.effects.RawEffect.TheVariants as raw
use Rattle.gd_reader.specs.declared.effects.RawEffect.TheVariants.{rolls-Add, rolls-Delete, rolls-And, rolls-Forall, rolls-When}
use Rattle.gd_reader.specs.declared.formulas.RawFormula.{RawFormula}
use Rattle.gd_reader.specs.declared.stop.Stop.{Stop}
use Rattle.gd_reader.specs.declared.term.RawAtom.{RawAtom}
use Rattle.gd_reader.specs.declared.typed_lists.ListKind.TheVariants.{Parameters}
use Rattle.gd_reader.specs.declared.typed_lists.RawParam.{RawParam}
use Rattle.gd_reader.specs.declared.words.EffectHead.{EffectHead}
use Rattle.gd_reader.specs.declared.words.EffectHead.TheVariants as head
use Rattle.gd_reader.specs.Answers.{◌>>=◌, end_due, passed}
use Rattle.gd_reader.specs.Effects.{effect_inside, effects, one_effect, guarded, bound_effect, deleted, effect_headed}
use Rattle.gd_reader.specs.Formulas.{inside}
use Rattle.gd_reader.specs.Terms.{Names, atom, applied}
use Rattle.gd_reader.specs.TypedLists.{listed}
use Rattle.gd_reader.specs.Words.{effect_head_of}
use Rattle.gd_reader.proofs.Keeping.{keeps_same}
use Rattle.plan_texts.specs.Together.{Together}
use Rattle.text_values.specs.form_spellings.Bound.{IsBoundAtom, IsBoundParam, IsBoundFormula, bound_effect_step, IsBoundEffect}
use Rattle.text_values.proofs.form_spellings.EffectsIn.{inside_word}
use Rattle.text_values.proofs.form_spellings.FormulasBound.{FormulaBound, inside_bound, pairs-map, no_pairs, coerce}
use Rattle.text_values.proofs.form_spellings.KeptWords.{Reads, reads_then, reads_map, reads_end}
use Rattle.text_values.proofs.form_spellings.ListsBound.{ListBound, listed_bound, parameter_fits}
use Rattle.text_values.proofs.form_spellings.TermsBound.{AtomBound, AppliedBound, atom_bound, applied_bound}
use Rattle.text_values.proofs.form_spellings.TermsIn.{same}
use Rattle.text_values.proofs.form_spellings.WordTests.{EffectWord, effect_word}

module _ (v : Declared) (table : Names) where
  natural : (X : Type 0) (u : X → RawEffect) (k : RawEffect → List Word → Effect → Type 0) (x : RawEffect-F X) → bound_effect_step v table (λ p. k (u p)) x ≡ bound_effect_step v table k (map-RawEffect X RawEffect u x)
  natural X u k (RawEffect-F.Add a) = refl
  natural X u k (RawEffect-F.Delete a) = refl
  natural X u k (RawEffect-F.And rs) = λ i scope e. (gs : List Effect) × (e ≡ effect.And gs) × pairs-map u (λ r g. k r scope g) rs gs i
  natural X u k (RawEffect-F.Forall xs r) = refl
  natural X u k (RawEffect-F.When r s) = refl

  -- one level
  unroll : (x : RawEffect-F RawEffect) (r : RawEffect) → roll-RawEffect x ≡ r → (scope : List Word) (e : Effect) → IsBoundEffect v table r scope e → bound_effect_step v table (IsBoundEffect v table) x scope e
  unroll x r is scope e b =
      subst (λ (z : List Word → Effect → Type 0). z scope e) (rec-roll-RawEffect (List Word → Effect → Type 0) (λ X u k layer. bound_effect_step v table k layer) natural x) (subst (λ r. IsBoundEffect v table r scope e) (sym is) b)

  pub bound_roll : (x : RawEffect-F RawEffect) (r : RawEffect) → roll-RawEffect x ≡ r → (scope : List Word) (e : Effect) → bound_effect_step v table (IsBoundEffect v table) x scope e → IsBoundEffect v table r scope e
  bound_roll x r is scope e b =
      subst (λ r. IsBoundEffect v table r scope e) is
      (subst (λ (z : List Word → Effect → Type 0). z scope e) (sym (rec-roll-RawEffect (List Word → Effect → Type 0) (λ X u k layer. bound_effect_step v table k layer) natural x)) b)

-- once bound, it is spelled by what stands in the parentheses
abbrev pub EffectBound : Parts → RawEffect → Names → Type 0
EffectBound ps r table = (v : Declared) (scope : List Word) (e : Effect) → IsBoundEffect v table r scope e → IsEffect v e scope (group ps)

abbrev ManyBound : Parts → List RawEffect → Names → Type 0
ManyBound ps rs table = (v : Declared) (scope : List Word) (es : List Effect) → Together (λ r e. IsBoundEffect v table r scope e) rs es → Each (λ e. IsEffect v e scope) es ps

abbrev OneBound : Parts → RawEffect → Names → Type 0
OneBound ps r table = (v : Declared) (scope : List Word) (e : Effect) → IsBoundEffect v table r scope e → (q : Part) × (ps ≡ part q nothing) × IsEffect v e scope q

abbrev GuardedBound : Parts → RawFormula × RawEffect → Names → Type 0
GuardedBound ps x table = (v : Declared) (scope : List Word) (f : Formula) (e : Effect) → IsBoundFormula v table x.0 scope f → IsBoundEffect v table x.1 scope e → (q : Part) × (r : Part) × (ps ≡ part q (part r nothing)) × IsFormula v f scope q × IsEffect v e scope r

abbrev QuantifiedBound : Parts → List RawParam × RawEffect → Names → Type 0
QuantifiedBound ps x table = (v : Declared) (scope : List Word) (xs : List Param) (e : Effect) → Together (IsBoundParam v table) x.0 xs → IsBoundEffect v table x.1 (scope ++ map (variable v) xs) e
    → (rs : Parts) × (q : Part) × (ps ≡ part (group rs) (part q nothing)) × EachTyped (IsParam v) xs rs × IsEffect v e (scope ++ map (variable v) xs) q

abbrev DeletedBound : Parts → RawAtom → Names → Type 0
DeletedBound ps a table = (v : Declared) (scope : List Word) (n : ℕ) (xs : List Term) → IsBoundAtom v table scope a n xs → (q : Part) × (ps ≡ part q nothing) × IsApplied v scope n xs q

deleted_bound : (p : Placed) (names : Names) → Reads names (deleted names p) (DeletedBound (parts_of p))
unfolding deleted
deleted_bound cut names = tt
deleted_bound (close at) names = tt
deleted_bound (word at w p) names = tt
deleted_bound (list at p q) names =
    reads_then same (AppliedBound p) (DeletedBound (part (group (parts_of p)) (parts_of q))) names (applied names p) (λ a. end_due q >>= (λ _. Ok a)) (applied_bound p names)
    (λ a. reads_end (λ b table. AppliedBound p a.0 table → DeletedBound (part (group (parts_of p)) (parts_of q)) b table) q a (λ e table is v scope n xs d. (group (parts_of p), ap (part (group (parts_of p))) e, is v scope n xs d)))

abbrev whole : Word → Placed → Parts
whole w p = part (name w) (parts_of p)

-- an increase is the empty effect
passed_bound : (w : Word) (p : Placed) → EffectWord head.Increase w → (table : Names) → EffectBound (whole w p) (raw.And []) table
passed_bound w p e table v scope f d =
    let u = unroll v table (RawEffect-F.And []) (raw.And []) (rolls-And []) scope f d in
    subst (λ f. IsEffect v f scope (group (whole w p))) (sym u.1) (coerce (sym (effect-Both v scope (group (whole w p)) u.0)) (inr (no_pairs (λ r g. IsBoundEffect v table r scope g) u.0 u.2, inr (parts_of p, ap (λ w. group (whole w p)) e))))

nothing_bound : (table : Names) → EffectBound nothing (raw.And []) table
nothing_bound table v scope f d =
    let u = unroll v table (RawEffect-F.And []) (raw.And []) (rolls-And []) scope f d in
    subst (λ f. IsEffect v f scope (group nothing)) (sym u.1) (coerce (sym (effect-Both v scope (group nothing) u.0)) (inr (no_pairs (λ r g. IsBoundEffect v table r scope g) u.0 u.2, inl refl)))

-- behind the word at the front
headed_bound : (h : EffectHead) (names : Names) (at : ℕ) (w : Word) (p : Placed) → EffectWord h w → Reads names (effects names p) (ManyBound (parts_of p)) → Reads names (guarded names p) (GuardedBound (parts_of p))
    → Reads names (bound_effect names p) (QuantifiedBound (parts_of p)) → Reads names (effect_headed h names at w p) (EffectBound (whole w p))
unfolding effect_headed
headed_bound head.And names at w p e a b c = reads_map (ManyBound (parts_of p)) (EffectBound (whole w p)) names (effects names p) raw.And a
    (λ rs table is v scope f d.
    let u = unroll v table (RawEffect-F.And rs) (raw.And rs) (rolls-And rs) scope f d in
    subst (λ f. IsEffect v f scope (group (whole w p))) (sym u.1) (coerce (sym (effect-Both v scope (group (whole w p)) u.0)) (inl (parts_of p, ap (λ w. group (whole w p)) e, is v scope u.0 u.2))))
headed_bound head.Forall names at w p e a b c = reads_map (QuantifiedBound (parts_of p)) (EffectBound (whole w p)) names (bound_effect names p) (λ x. raw.Forall x.0 x.1) c
    (λ x table is v scope f d.
    let u = unroll v table (RawEffect-F.Forall x.0 x.1) (raw.Forall x.0 x.1) (rolls-Forall x.0 x.1) scope f d in
    let g = is v scope u.0 u.1 u.3 u.4 in
    subst (λ f. IsEffect v f scope (group (whole w p))) (sym u.2) (coerce (sym (effect-Each_one v scope (group (whole w p)) u.0 u.1)) (g.0, g.1, (λ i. group (part (name (e i)) (g.2 i))), g.3, g.4)))
headed_bound head.When names at w p e a b c = reads_map (GuardedBound (parts_of p)) (EffectBound (whole w p)) names (guarded names p) (λ x. raw.When x.0 x.1) b
    (λ x table is v scope f d.
    let u = unroll v table (RawEffect-F.When x.0 x.1) (raw.When x.0 x.1) (rolls-When x.0 x.1) scope f d in
    let g = is v scope u.0 u.1 u.3 u.4 in
    subst (λ f. IsEffect v f scope (group (whole w p))) (sym u.2) (coerce (sym (effect-When v scope (group (whole w p)) u.0 u.1)) (g.0, g.1, (λ i. group (part (name (e i)) (g.2 i))), g.3, g.4)))
headed_bound head.Not names at w p e a b c = reads_map (DeletedBound (parts_of p)) (EffectBound (whole w p)) names (deleted names p) raw.Delete (deleted_bound p names)
    (λ x table is v scope f d.
    let u = unroll v table (RawEffect-F.Delete x) (raw.Delete x) (rolls-Delete x) scope f d in
    let g = is v scope u.0 u.1 u.3 in
    subst (λ f. IsEffect v f scope (group (whole w p))) (sym u.2) (coerce (sym (effect-Delete v scope (group (whole w p)) (record { predicate = u.0; args = u.1 }))) (g.0, (λ i. group (part (name (e i)) (g.1 i))), g.2)))
headed_bound head.Increase names at w p e a b c = go (passed p)
  where
    go : (r : Result (Unit {0}) Stop) → Reads names (r >>= (λ _. Ok (raw.And [], names))) (EffectBound (whole w p))
    go (Ok x) = (keeps_same names, λ table k. passed_bound w p e table)
    go (Err s) = tt
headed_bound head.Plain names at w p e a b c = reads_map (AtomBound w p) (EffectBound (whole w p)) names (atom names at w p) raw.Add (atom_bound p names at w e)
    (λ x table is v scope f d.
    let u = unroll v table (RawEffect-F.Add x) (raw.Add x) (rolls-Add x) scope f d in
    subst (λ f. IsEffect v f scope (group (whole w p))) (sym u.2) (coerce (sym (effect-Add v scope (group (whole w p)) (record { predicate = u.0; args = u.1 }))) (is v scope u.0 u.1 u.3)))
headed_bound head.Wrong names at w p e a b c = tt

none : (table : Names) → ManyBound nothing [] table
none table v scope [] d = tt
none table v scope (f ∷ fs) d = absurd d

one_more : (p q : Placed) (r : RawEffect) (rs : List RawEffect) (table : Names) → ManyBound (parts_of q) rs table → EffectBound (parts_of p) r table → ManyBound (part (group (parts_of p)) (parts_of q)) (r ∷ rs) table
one_more p q r rs table is one v scope [] d = absurd d
one_more p q r rs table is one v scope (f ∷ fs) d = (one v scope f d.0, is v scope fs d.1)

abbrev ParamsBound : Placed → List RawParam → Names → Type 0
ParamsBound p = ListBound IsParam IsBoundParam Parameters parameter_fits p

mutual
  unfolding effect_inside effects one_effect guarded bound_effect

  pub effect_inside_bound : (p : Placed) (names : Names) → Reads names (effect_inside names p) (EffectBound (parts_of p))
  effect_inside_bound cut names = tt
  effect_inside_bound (close at) names = (keeps_same names, λ table k. nothing_bound table)
  effect_inside_bound (list at p q) names = tt
  effect_inside_bound (word at w p) names =
      subst (λ r. Reads names r (EffectBound (whole w p))) (sym (inside_word names at w p)) (headed_bound (effect_head_of w) names at w p (effect_word w) (effects_bound p names) (guarded_bound p names) (quantified_bound p names))

  effects_bound : (p : Placed) (names : Names) → Reads names (effects names p) (ManyBound (parts_of p))
  effects_bound cut names = tt
  effects_bound (close at) names = (keeps_same names, λ table k. none table)
  effects_bound (word at w p) names = tt
  effects_bound (list at p q) names =
      reads_then same (EffectBound (parts_of p)) (ManyBound (part (group (parts_of p)) (parts_of q))) names (effect_inside names p) (λ f. effects f.1 q >>= (λ fs. Ok (f.0 ∷ fs.0, fs.1))) (effect_inside_bound p names)
      (λ f. reads_map (ManyBound (parts_of q)) (λ fs table. EffectBound (parts_of p) f.0 table → ManyBound (part (group (parts_of p)) (parts_of q)) fs table) f.1 (effects f.1 q) (λ fs. f.0 ∷ fs) (effects_bound q f.1) (λ fs table is one. one_more p q f.0 fs table is one))

  one_bound : (p : Placed) (names : Names) → Reads names (one_effect names p) (OneBound (parts_of p))
  one_bound cut names = tt
  one_bound (close at) names = tt
  one_bound (word at w p) names = tt
  one_bound (list at p q) names =
      reads_then same (EffectBound (parts_of p)) (OneBound (part (group (parts_of p)) (parts_of q))) names (effect_inside names p) (λ f. end_due q >>= (λ _. Ok f)) (effect_inside_bound p names)
      (λ f. reads_end (λ g table. EffectBound (parts_of p) f.0 table → OneBound (part (group (parts_of p)) (parts_of q)) g table) q f (λ e table is v scope g d. (group (parts_of p), ap (part (group (parts_of p))) e, is v scope g d)))

  guarded_bound : (p : Placed) (names : Names) → Reads names (guarded names p) (GuardedBound (parts_of p))
  guarded_bound cut names = tt
  guarded_bound (close at) names = tt
  guarded_bound (word at w p) names = tt
  guarded_bound (list at p q) names =
      reads_then same (FormulaBound (parts_of p)) (GuardedBound (part (group (parts_of p)) (parts_of q))) names (inside names p) (λ f. one_effect f.1 q >>= (λ g. Ok ((f.0, g.0), g.1))) (inside_bound p names)
      (λ f. reads_map (OneBound (parts_of q)) (λ x table. FormulaBound (parts_of p) f.0 table → GuardedBound (part (group (parts_of p)) (parts_of q)) x table) f.1 (one_effect f.1 q) (λ g. (f.0, g)) (one_bound q f.1)
      (λ g table is one v scope h i d d'. let j = is v scope i d' in (group (parts_of p), j.0, ap (part (group (parts_of p))) j.1, one v scope h d, j.2)))

  quantified_bound : (p : Placed) (names : Names) → Reads names (bound_effect names p) (QuantifiedBound (parts_of p))
  quantified_bound cut names = tt
  quantified_bound (close at) names = tt
  quantified_bound (word at w p) names = tt
  quantified_bound (list at p q) names =
      reads_then same (ParamsBound p) (QuantifiedBound (part (group (parts_of p)) (parts_of q))) names (listed Parameters names p) (λ vs. one_effect vs.1 q >>= (λ f. Ok ((vs.0, f.0), f.1))) (listed_bound IsParam IsBoundParam Parameters parameter_fits p names)
      (λ vs. reads_map (OneBound (parts_of q)) (λ x table. ParamsBound p vs.0 table → QuantifiedBound (part (group (parts_of p)) (parts_of q)) x table) vs.1 (one_effect vs.1 q) (λ f. (vs.0, f)) (one_bound q vs.1)
      (λ f table is one v scope xs h d d'. let j = is v (scope ++ map (variable v) xs) h d' in (parts_of p, j.0, ap (part (group (parts_of p))) j.1, one v xs d, j.2)))
