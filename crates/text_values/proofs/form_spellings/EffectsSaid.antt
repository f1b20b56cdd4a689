-- An effect that the parts spell is one to which what is read of them is bound.
use Rattle.std.proofs.Common.{◌≡◌, ℕ, Ok, Err, Result, List, [], ◌∷◌, ◌++◌, map, sym, subst}
use Rattle.text_forms.specs.Lists.{Part, Parts, name, group, nothing, part}
use Rattle.text_forms.specs.Placed.{Placed, cut, close, word, list, parts_of}
use Rattle.text_forms.specs.Words.{Word}
use Rattle.plan_texts.specs.Declared.{Declared, variable}
use Rattle.plan_texts.specs.Formulas.{IsApplied, IsParam, IsFormula, IsEffect}
use Rattle.plan_texts.specs.TypedLists.{Each, EachTyped}
use Rattle.plan_model.specs.declared.terms.Term.{Term}
use Rattle.plan_model.specs.declared.terms.Param.{Param}
use Rattle.plan_model.specs.declared.formulas.Formula.{Formula}
use Rattle.plan_model.specs.declared.effects.Effect.{Effect}
use Rattle.gd_reader.specs.declared.effects.RawEffect.{RawEffect}
use Rattle.gd_reader.specs.declared.effects.RawEffect.TheOpen.{RawEffect-F}
use Rattle.gd_reader.specs.declared.effects.RawEffect.TheVariants as raw
use Rattle.gd_reader.specs.declared.effects.RawEffect.TheVariants.{rolls-Add, rolls-Delete, rolls-And, rolls-Forall, rolls-When}
use Rattle.gd_reader.specs.declared.formulas.RawFormula.{RawFormula}
use Rattle.gd_reader.specs.declared.stop.Stop.{Stop}
use Rattle.gd_reader.specs.declared.term.RawAtom.{RawAtom}
use Rattle.gd_reader.specs.declared.typed_lists.ListKind.TheVariants.{Parameters}
use Rattle.gd_reader.specs.declared.typed_lists.RawParam.{RawParam}
use Rattle.gd_reader.specs.declared.words.EffectHead.{EffectHead}
use Rattle.gd_reader.specs.declared.words.EffectHead.TheVariants as head
use Rattle.gd_reader.specs.Answers.{◌>>=◌, end_due, passed}
use Rattle.gd_reader.specs.Effects.{effect_inside, effects, one_effect, guarded, bound_effect, deleted, effect_headed}
use Rattle.gd_reader.specs.Formulas.{inside}
use Rattle.gd_reader.specs.Terms.{Names, atom, applied}
use Rattle.gd_reader.specs.TypedLists.{listed}
use Rattle.gd_reader.specs.Words.{effect_head_of}
use Rattle.gd_reader.proofs.Keeping.{keeps_same}
use Rattle.plan_texts.specs.Together.{Together}
use Rattle.text_values.specs.form_spellings.Bound.{IsBoundAtom, IsBoundParam, IsBoundFormula, IsBoundEffect}
use Rattle.text_values.proofs.form_spellings.EffectsBound.{bound_roll}
use Rattle.text_values.proofs.form_spellings.EffectsIn.{inside_word}
use Rattle.text_values.proofs.form_spellings.FormulasSaid.{FormulaSaid, inside_said}
use Rattle.text_values.proofs.form_spellings.KeptWords.{Reads, reads_then, reads_map, reads_end}
use Rattle.text_values.proofs.form_spellings.ListsSaid.{ListSaid, listed_said, parameter_binds}
use Rattle.text_values.proofs.form_spellings.Opened.{OpenedEffect, opened_effect, empty_effect}
use Rattle.text_values.proofs.form_spellings.PartsWhole.{front_is, back_is, within_is}
use Rattle.text_values.proofs.form_spellings.TermsSaid.{AtomSaid, atom_said, applied_said}
use Rattle.text_values.proofs.form_spellings.TermsIn.{same}
use Rattle.text_values.proofs.form_spellings.WordTests.{EffectWord, effect_word}

-- what stands in the parentheses spells only values to which it is bound
abbrev pub EffectSaid : Parts → RawEffect → Names → Type 0
EffectSaid ps r table = (v : Declared) (scope : List Word) (e : Effect) → IsEffect v e scope (group ps) → IsBoundEffect v table r scope e

abbrev ManySaid : Parts → List RawEffect → Names → Type 0
ManySaid ps rs table = (v : Declared) (scope : List Word) (es : List Effect) → Each (λ e. IsEffect v e scope) es ps → Together (λ r e. IsBoundEffect v table r scope e) rs es

abbrev OneSaid : Parts → RawEffect → Names → Type 0
OneSaid ps r table = (v : Declared) (scope : List Word) (e : Effect) (q : Part) → ps ≡ part q nothing → IsEffect v e scope q → IsBoundEffect v table r scope e

abbrev GuardedSaid : Parts → RawFormula × RawEffect → Names → Type 0
GuardedSaid ps x table = (v : Declared) (scope : List Word) (f : Formula) (e : Effect) (q r : Part) → ps ≡ part q (part r nothing) → IsFormula v f scope q → IsEffect v e scope r → IsBoundFormula v table x.0 scope f × IsBoundEffect v table x.1 scope e

abbrev QuantifiedSaid : Parts → List RawParam × RawEffect → Names → Type 0
QuantifiedSaid ps x table = (v : Declared) (scope : List Word) (xs : List Param) (e : Effect) (rs : Parts) (q : Part) → ps ≡ part (group rs) (part q nothing) → EachTyped (IsParam v) xs rs → IsEffect v e (scope ++ map (variable v) xs) q
    → Together (IsBoundParam v table) x.0 xs × IsBoundEffect v table x.1 (scope ++ map (variable v) xs) e

abbrev DeletedSaid : Parts → RawAtom → Names → Type 0
DeletedSaid ps a table = (v : Declared) (scope : List Word) (n : ℕ) (xs : List Term) (q : Part) → ps ≡ part q nothing → IsApplied v scope n xs q → IsBoundAtom v table scope a n xs

deleted_said : (p : Placed) (names : Names) → Reads names (deleted names p) (DeletedSaid (parts_of p))
unfolding deleted
deleted_said cut names = tt
deleted_said (close at) names = tt
deleted_said (word at w p) names = tt
deleted_said (list at p q) names =
    reads_then same (AtomSaid (parts_of p)) (DeletedSaid (part (group (parts_of p)) (parts_of q))) names (applied names p) (λ a. end_due q >>= (λ _. Ok a)) (applied_said p names)
    (λ a. reads_end (λ b table. AtomSaid (parts_of p) a.0 table → DeletedSaid (part (group (parts_of p)) (parts_of q)) b table) q a (λ _ table is v scope n xs r e d. is v scope n xs (subst (IsApplied v scope n xs) (sym (front_is e)) d)))

abbrev whole : Word → Placed → Parts
whole w p = part (name w) (parts_of p)

-- behind the word at the front
headed_said : (h : EffectHead) (names : Names) (at : ℕ) (w : Word) (p : Placed) → EffectWord h w → ((v : Declared) (scope : List Word) (e : Effect) → IsEffect v e scope (group (whole w p)) → OpenedEffect v scope h w (parts_of p) e)
    → Reads names (effects names p) (ManySaid (parts_of p)) → Reads names (guarded names p) (GuardedSaid (parts_of p)) → Reads names (bound_effect names p) (QuantifiedSaid (parts_of p)) → Reads names (effect_headed h names at w p) (EffectSaid (whole w p))
unfolding effect_headed
headed_said head.And names at w p e view a b c = reads_map (ManySaid (parts_of p)) (EffectSaid (whole w p)) names (effects names p) raw.And a
    (λ rs table is v scope f d. let o = view v scope f d in bound_roll v table (RawEffect-F.And rs) (raw.And rs) (rolls-And rs) scope f (o.0, o.1, is v scope o.0 o.2))
headed_said head.Forall names at w p e view a b c = reads_map (QuantifiedSaid (parts_of p)) (EffectSaid (whole w p)) names (bound_effect names p) (λ x. raw.Forall x.0 x.1) c
    (λ x table is v scope f d.
    let o = view v scope f d in
    let i = is v scope o.0 o.1 o.3.0 o.3.1 o.3.2 o.3.3 o.3.4 in
    bound_roll v table (RawEffect-F.Forall x.0 x.1) (raw.Forall x.0 x.1) (rolls-Forall x.0 x.1) scope f (o.0, o.1, o.2, i.0, i.1))
headed_said head.When names at w p e view a b c = reads_map (GuardedSaid (parts_of p)) (EffectSaid (whole w p)) names (guarded names p) (λ x. raw.When x.0 x.1) b
    (λ x table is v scope f d.
    let o = view v scope f d in
    let i = is v scope o.0 o.1 o.3.0 o.3.1 o.3.2 o.3.3 o.3.4 in
    bound_roll v table (RawEffect-F.When x.0 x.1) (raw.When x.0 x.1) (rolls-When x.0 x.1) scope f (o.0, o.1, o.2, i.0, i.1))
headed_said head.Not names at w p e view a b c = reads_map (DeletedSaid (parts_of p)) (EffectSaid (whole w p)) names (deleted names p) raw.Delete (deleted_said p names)
    (λ x table is v scope f d. let o = view v scope f d in bound_roll v table (RawEffect-F.Delete x) (raw.Delete x) (rolls-Delete x) scope f (o.0, o.1, o.2, is v scope o.0 o.1 o.3.0 o.3.1 o.3.2))
headed_said head.Increase names at w p e view a b c = go (passed p)
  where
    go : (r : Result (Unit {0}) Stop) → Reads names (r >>= (λ _. Ok (raw.And [], names))) (EffectSaid (whole w p))
    go (Ok x) = (keeps_same names, λ table k v scope f d. bound_roll v table (RawEffect-F.And []) (raw.And []) (rolls-And []) scope f ([], view v scope f d, tt))
    go (Err s) = tt
headed_said head.Plain names at w p e view a b c = reads_map (AtomSaid (whole w p)) (EffectSaid (whole w p)) names (atom names at w p) raw.Add (atom_said p names at w e)
    (λ x table is v scope f d. let o = view v scope f d in bound_roll v table (RawEffect-F.Add x) (raw.Add x) (rolls-Add x) scope f (o.0, o.1, o.2, is v scope o.0 o.1 o.3))
headed_said head.Wrong names at w p e view a b c = tt

nothing_said : (table : Names) → EffectSaid nothing (raw.And []) table
nothing_said table v scope f d = bound_roll v table (RawEffect-F.And []) (raw.And []) (rolls-And []) scope f ([], empty_effect v scope f d, tt)

none : (table : Names) → ManySaid nothing [] table
none table v scope [] d = tt
none table v scope (f ∷ fs) d = absurd d

one_more : (p q : Placed) (r : RawEffect) (rs : List RawEffect) (table : Names) → ManySaid (parts_of q) rs table → EffectSaid (parts_of p) r table → ManySaid (part (group (parts_of p)) (parts_of q)) (r ∷ rs) table
one_more p q r rs table is one v scope [] d = absurd d
one_more p q r rs table is one v scope (f ∷ fs) d = (one v scope f d.0, is v scope fs d.1)

abbrev ParamsSaid : Placed → List RawParam → Names → Type 0
ParamsSaid p = ListSaid IsParam IsBoundParam Parameters parameter_binds p

mutual
  unfolding effect_inside effects one_effect guarded bound_effect

  pub effect_inside_said : (p : Placed) (names : Names) → Reads names (effect_inside names p) (EffectSaid (parts_of p))
  effect_inside_said cut names = tt
  effect_inside_said (close at) names = (keeps_same names, λ table k. nothing_said table)
  effect_inside_said (list at p q) names = tt
  effect_inside_said (word at w p) names =
      subst (λ r. Reads names r (EffectSaid (whole w p))) (sym (inside_word names at w p))
      (headed_said (effect_head_of w) names at w p (effect_word w) (λ v scope f d. opened_effect v scope f w (parts_of p) d) (effects_said p names) (guarded_said p names) (quantified_said p names))

  effects_said : (p : Placed) (names : Names) → Reads names (effects names p) (ManySaid (parts_of p))
  effects_said cut names = tt
  effects_said (close at) names = (keeps_same names, λ table k. none table)
  effects_said (word at w p) names = tt
  effects_said (list at p q) names =
      reads_then same (EffectSaid (parts_of p)) (ManySaid (part (group (parts_of p)) (parts_of q))) names (effect_inside names p) (λ f. effects f.1 q >>= (λ fs. Ok (f.0 ∷ fs.0, fs.1))) (effect_inside_said p names)
      (λ f. reads_map (ManySaid (parts_of q)) (λ fs table. EffectSaid (parts_of p) f.0 table → ManySaid (part (group (parts_of p)) (parts_of q)) fs table) f.1 (effects f.1 q) (λ fs. f.0 ∷ fs) (effects_said q f.1) (λ fs table is one. one_more p q f.0 fs table is one))

  one_said : (p : Placed) (names : Names) → Reads names (one_effect names p) (OneSaid (parts_of p))
  one_said cut names = tt
  one_said (close at) names = tt
  one_said (word at w p) names = tt
  one_said (list at p q) names =
      reads_then same (EffectSaid (parts_of p)) (OneSaid (part (group (parts_of p)) (parts_of q))) names (effect_inside names p) (λ f. end_due q >>= (λ _. Ok f)) (effect_inside_said p names)
      (λ f. reads_end (λ g table. EffectSaid (parts_of p) f.0 table → OneSaid (part (group (parts_of p)) (parts_of q)) g table) q f (λ _ table is v scope g r e d. is v scope g (subst (IsEffect v g scope) (sym (front_is e)) d)))

  guarded_said : (p : Placed) (names : Names) → Reads names (guarded names p) (GuardedSaid (parts_of p))
  guarded_said cut names = tt
  guarded_said (close at) names = tt
  guarded_said (word at w p) names = tt
  guarded_said (list at p q) names =
      reads_then same (FormulaSaid (parts_of p)) (GuardedSaid (part (group (parts_of p)) (parts_of q))) names (inside names p) (λ f. one_effect f.1 q >>= (λ g. Ok ((f.0, g.0), g.1))) (inside_said p names)
      (λ f. reads_map (OneSaid (parts_of q)) (λ x table. FormulaSaid (parts_of p) f.0 table → GuardedSaid (part (group (parts_of p)) (parts_of q)) x table) f.1 (one_effect f.1 q) (λ g. (f.0, g)) (one_said q f.1)
      (λ g table is one v scope h i r s e d d'. (one v scope h (subst (IsFormula v h scope) (sym (front_is e)) d), is v scope i s (back_is e) d')))

  quantified_said : (p : Placed) (names : Names) → Reads names (bound_effect names p) (QuantifiedSaid (parts_of p))
  quantified_said cut names = tt
  quantified_said (close at) names = tt
  quantified_said (word at w p) names = tt
  quantified_said (list at p q) names =
      reads_then same (ParamsSaid p) (QuantifiedSaid (part (group (parts_of p)) (parts_of q))) names (listed Parameters names p) (λ vs. one_effect vs.1 q >>= (λ f. Ok ((vs.0, f.0), f.1))) (listed_said IsParam IsBoundParam Parameters parameter_binds p names)
      (λ vs. reads_map (OneSaid (parts_of q)) (λ x table. ParamsSaid p vs.0 table → QuantifiedSaid (part (group (parts_of p)) (parts_of q)) x table) vs.1 (one_effect vs.1 q) (λ f. (vs.0, f)) (one_said q vs.1)
      (λ f table is one v scope xs h rs r e d d'. (one v xs (subst (EachTyped (IsParam v) xs) (sym (within_is (front_is e))) d), is v (scope ++ map (variable v) xs) h r (back_is e) d')))
