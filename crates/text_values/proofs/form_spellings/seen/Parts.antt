-- The unions of the parts of a task, a method, an action or a network that were read are those that the parts write.
use Rattle.std.proofs.Common.{◌≡◌, ◌∙◌, ◌⊎◌, inl, inr, ℕ, Bool, true, false, if◌then◌else◌, Ok, Err, Option, Some, List, [], ◌++◌, refl, sym, subst}
use Rattle.std.specs.Option.{is_some}
use Rattle.text_forms.specs.Placed.{Placed, cut, close, word, list}
use Rattle.text_forms.specs.Words.{Word}
use Rattle.plan_texts.specs.Types.{EachIs}
use Rattle.gd_reader.specs.declared.effects.RawEffect.{RawEffect}
use Rattle.gd_reader.specs.declared.effects.RawEffect.TheVariants as raw_effect
use Rattle.gd_reader.specs.declared.formulas.RawFormula.{RawFormula}
use Rattle.gd_reader.specs.declared.formulas.RawFormula.TheVariants as raw_formula
use Rattle.gd_reader.specs.declared.stop.Stop.TheVariants.{Departs}
use Rattle.gd_reader.specs.declared.term.RawTerm.{RawTerm}
use Rattle.gd_reader.specs.declared.typed_lists.ListKind.TheVariants as list_kind
use Rattle.gd_reader.specs.declared.typed_lists.RawParam.{RawParam}
use Rattle.gd_reader.specs.Answers.{◌>>=◌, word_due}
use Rattle.gd_reader.specs.Effects.{effect_inside}
use Rattle.gd_reader.specs.Formulas.{inside}
use Rattle.gd_reader.specs.Terms.{Names, applied}
use Rattle.gd_reader.specs.TypedLists.{listed}
use Rattle.gd_reader.proofs.Keeping.{keeps_same}
use Rattle.hddl_reader.specs.declared.parts.Part.{Part}
use Rattle.hddl_reader.specs.declared.parts.Part.TheVariants as part
use Rattle.hddl_reader.specs.declared.parts.Parted.{Parted}
use Rattle.hddl_reader.specs.declared.parts.Parted.TheVariants as parted
use Rattle.hddl_reader.specs.declared.parts.RawParts.{RawParts}
use Rattle.hddl_reader.specs.Networks.{declared, sub_headed, pair_headed, con_headed, some_of}
use Rattle.hddl_reader.specs.Parts.{part_table, part_of, no_parts, stands, part_read, may_end, parts, parts_from}
use Rattle.hddl_reader.specs.Sections.{named_parts}
use Rattle.text_values.specs.form_spellings.Written.{Union, params_unions, formula_unions, effect_unions}
use Rattle.text_values.proofs.form_spellings.KeptWords.{Reads, reads_then, reads_map, reads_weaken, reads_end}
use Rattle.text_values.proofs.form_spellings.ReadFields.{table_has, keyed}
use Rattle.text_values.proofs.form_spellings.TermsBound.{NameBound}
use Rattle.text_values.proofs.form_spellings.TermsExact.{declared_bound}
use Rattle.text_values.proofs.form_spellings.TermsIn.{same}
use Rattle.text_values.proofs.form_spellings.WordTests.{false_true}
use Rattle.text_values.proofs.form_spellings.seen.Adding.{Same, same_by, Adds, adds_none, adds_all, adds_front, adds_back, adds_then, in_option, fills}
use Rattle.text_values.proofs.form_spellings.seen.Effects.{EffectSeen, effect_inside_seen, no_effect_unions}
use Rattle.text_values.proofs.form_spellings.seen.Erased.{unions_at, inside_at}
use Rattle.text_values.proofs.form_spellings.seen.Formulas.{FormulaSeen, inside_seen, true_unions}
use Rattle.text_values.proofs.form_spellings.seen.Lists.{InsideSeen, parameters_seen}
use Rattle.text_values.proofs.form_spellings.seen.Networks.{subtasks_none, pairs_none, constraints_none}
use Rattle.text_values.proofs.form_spellings.seen.Terms.{NoneInside, none_inside_end, applied_none}

-- what is kept of a part
abbrev pub kept : Bool → List Union → List Union
kept true us = us
kept false us = []

-- which of them have conditions and effects that are kept
abbrev pub has_condition : Parted → Bool
has_condition parted.Task = false
has_condition parted.Network = false
has_condition parted.Method = true
has_condition parted.Action = true

abbrev pub has_effect : Parted → Bool
has_effect parted.Task = false
has_effect parted.Network = false
has_effect parted.Method = false
has_effect parted.Action = true

module _ (table : Names) where
  abbrev params_in : RawParts → List Union
  params_in y = in_option (params_unions table) y.params

  abbrev pre_in : Parted → RawParts → List Union
  pre_in of y = kept (has_condition of) (in_option (formula_unions table) y.pre)

  abbrev eff_in : Parted → RawParts → List Union
  eff_in of y = kept (has_effect of) (in_option (effect_unions table) y.eff)

  abbrev pub parts_unions : Parted → RawParts → List Union
  parts_unions of y = params_in y ++ (pre_in of y ++ eff_in of y)

abbrev may_stand : Parted → Part → Bool
may_stand of part.Parameters = true
may_stand of part.Task = true
may_stand of part.Precondition = has_condition of
may_stand of part.NoPrecondition = true
may_stand of part.Effect = has_effect of
may_stand of part.NoEffect = true
may_stand of part.Subtasks = true
may_stand of part.OrderedSubtasks = true
may_stand of part.Ordering = true
may_stand of part.Constraints = true

part_stands : (of : Parted) (w : Word) (x : Part) → part_of of w ≡ Some x → may_stand of x ≡ true
unfolding part_of
part_stands of w x e = table_has (λ w x. may_stand of x ≡ true) (part_table of) w x (all of) e
  where
    all : (of : Parted) → EachIs (λ (t : Word × Part). may_stand of t.1 ≡ true) (part_table of)
    all parted.Task = (refl, (refl, (refl, tt)))
    all parted.Action = (refl, (refl, (refl, tt)))
    all parted.Method = (refl, (refl, (refl, (refl, (refl, (refl, (refl, (refl, (refl, (refl, tt))))))))))
    all parted.Network = (refl, (refl, (refl, (refl, (refl, (refl, (refl, (refl, tt))))))))

-- a part is put to those in front of it
abbrev Step : Parted → Part → RawParts → List Union → RawParts → Names → Type 0
Step of x st us r table = stands st x ≡ false → may_stand of x ≡ true → Adds (parts_unions table of st) (parts_unions table of r) us

-- a part that is kept, or has none
fills_kept : {X : Type 0} (b : Bool) (f : X → List Union) (o : Option X) (x : X) (us : List Union) → is_some o ≡ false → Same (f x) us → (b ≡ true) ⊎ (us ≡ []) → Adds (kept b (in_option f o)) (kept b (f x)) us
fills_kept true f o x us e is h = fills f o x us e is
fills_kept false f o x us e is (inl h) = false_true h
fills_kept false f o x us e is (inr h) = subst (Adds [] []) (sym h) (adds_none [])

unchanged : (xs us : List Union) → us ≡ [] → Adds xs xs us
unchanged xs us e = subst (Adds xs xs) (sym e) (adds_none xs)

module _ (of : Parted) (st : RawParts) where
  put_params : (xs : List RawParam) (us : List Union) (table : Names) → Same (params_unions table xs) us → is_some st.params ≡ false → Adds (parts_unions table of st) (parts_unions table of (record st { params = Some xs })) us
  put_params xs us table is e = adds_front (params_in table st) (params_unions table xs) us (pre_in table of st ++ eff_in table of st) (fills (params_unions table) st.params xs us e is)

  put_pre : (f : RawFormula) (us : List Union) (table : Names) → Same (formula_unions table f) us → (has_condition of ≡ true) ⊎ (us ≡ []) → is_some st.pre ≡ false → Adds (parts_unions table of st) (parts_unions table of (record st { pre = Some f })) us
  put_pre f us table is h e =
      adds_back (params_in table st) (pre_in table of st ++ eff_in table of st) (kept (has_condition of) (formula_unions table f) ++ eff_in table of st) us
      (adds_front (pre_in table of st) (kept (has_condition of) (formula_unions table f)) us (eff_in table of st) (fills_kept (has_condition of) (formula_unions table) st.pre f us e is h))

  put_eff : (f : RawEffect) (us : List Union) (table : Names) → Same (effect_unions table f) us → (has_effect of ≡ true) ⊎ (us ≡ []) → is_some st.eff ≡ false → Adds (parts_unions table of st) (parts_unions table of (record st { eff = Some f })) us
  put_eff f us table is h e =
      adds_back (params_in table st) (pre_in table of st ++ eff_in table of st) (pre_in table of st ++ kept (has_effect of) (effect_unions table f)) us
      (adds_back (pre_in table of st) (eff_in table of st) (kept (has_effect of) (effect_unions table f)) us (fills_kept (has_effect of) (effect_unions table) st.eff f us e is h))

  part_seen : (x : Part) (names : Names) (at : ℕ) (p : Placed) → Reads names (part_read x st names at p) (Step of x st (inside_at p))
  unfolding part_read stands
  part_seen part.Parameters names at p = reads_map (InsideSeen p) (Step of part.Parameters st (inside_at p)) names (listed list_kind.Parameters names p) (λ x. record st { params = Some x }) (parameters_seen p names)
      (λ x table is e m. put_params x (inside_at p) table is e)
  part_seen part.Task names at p = reads_map (NoneInside p) (Step of part.Task st (inside_at p)) names (applied names p) (λ x. record st { task = Some x }) (applied_none p names)
      (λ x table is e m. unchanged (parts_unions table of st) (inside_at p) is)
  part_seen part.Precondition names at p = reads_map (FormulaSeen (inside_at p)) (Step of part.Precondition st (inside_at p)) names (inside names p) (λ x. record st { pre = Some x }) (inside_seen p names)
      (λ x table is e m. put_pre x (inside_at p) table is (inl m) e)
  part_seen part.NoPrecondition names at p = reads_end (Step of part.NoPrecondition st (inside_at p)) p (record st { pre = Some (raw_formula.And []) }, names)
      (λ n table e m. put_pre (raw_formula.And []) (inside_at p) table (same_by (formula_unions table (raw_formula.And [])) (inside_at p) (true_unions table ∙ sym (none_inside_end p n))) (inr (none_inside_end p n)) e)
  part_seen part.Effect names at p = reads_map (EffectSeen (inside_at p)) (Step of part.Effect st (inside_at p)) names (effect_inside names p) (λ x. record st { eff = Some x }) (effect_inside_seen p names)
      (λ x table is e m. put_eff x (inside_at p) table is (inl m) e)
  part_seen part.NoEffect names at p = reads_end (Step of part.NoEffect st (inside_at p)) p (record st { eff = Some (raw_effect.And []) }, names)
      (λ n table e m. put_eff (raw_effect.And []) (inside_at p) table (same_by (effect_unions table (raw_effect.And [])) (inside_at p) (no_effect_unions table ∙ sym (none_inside_end p n))) (inr (none_inside_end p n)) e)
  part_seen part.Subtasks names at p = reads_map (NoneInside p) (Step of part.Subtasks st (inside_at p)) names (some_of sub_headed names at p) (λ x. record st { subs = Some x }) (subtasks_none p names at)
      (λ x table is e m. unchanged (parts_unions table of st) (inside_at p) is)
  part_seen part.OrderedSubtasks names at p = reads_map (NoneInside p) (Step of part.OrderedSubtasks st (inside_at p)) names (some_of sub_headed names at p) (λ x. record st { subs = Some x; ordered = true }) (subtasks_none p names at)
      (λ x table is e m. unchanged (parts_unions table of st) (inside_at p) is)
  part_seen part.Ordering names at p = reads_map (NoneInside p) (Step of part.Ordering st (inside_at p)) names (some_of pair_headed names at p) (λ x. record st { pairs = Some x }) (pairs_none p names at)
      (λ x table is e m. unchanged (parts_unions table of st) (inside_at p) is)
  part_seen part.Constraints names at p = reads_map (NoneInside p) (Step of part.Constraints st (inside_at p)) names (some_of con_headed names at p) (λ x. record st { constraints = Some x }) (constraints_none p names at)
      (λ x table is e m. unchanged (parts_unions table of st) (inside_at p) is)

-- what is added to the parts in front
abbrev pub PartsAdd : Parted → RawParts → List Union → RawParts → Names → Type 0
PartsAdd of st us y table = Adds (parts_unions table of st) (parts_unions table of y) us

mutual
  unfolding parts parts_from

  pub parts_seen : (p : Placed) (of : Parted) (st : RawParts) (names : Names) → Reads names (parts of st names p) (PartsAdd of st (unions_at p))
  parts_seen cut of st names = tt
  parts_seen (close at) of st names = go (may_end of st)
    where
      go : (b : Bool) → Reads names (if b then Ok (st, names) else Err (Departs 8 at)) (PartsAdd of st [])
      go true = (keeps_same names, λ table k. adds_none (parts_unions table of st))
      go false = tt
  parts_seen (list at p q) of st names = tt
  parts_seen (word at w p) of st names =
      keyed (PartsAdd of st (unions_at p)) names (part_of of w) (stands st) at w (λ x. parts_from of x st names p) (λ x e f. from_seen p of x st names (part_stands of w x e) f)

  from_seen : (p : Placed) (of : Parted) (x : Part) (st : RawParts) (names : Names) → may_stand of x ≡ true → stands st x ≡ false → Reads names (parts_from of x st names p) (PartsAdd of st (unions_at p))
  from_seen cut of x st names m f = tt
  from_seen (close at) of x st names m f = tt
  from_seen (word at w p) of x st names m f = tt
  from_seen (list at p q) of x st names m f =
      reads_then same (Step of x st (inside_at p)) (PartsAdd of st (unions_at (list at p q))) names (part_read x st names at p) (λ r. parts of r.0 r.1 q) (part_seen of st x names at p)
      (λ r. reads_weaken (PartsAdd of r.0 (unions_at q)) (λ y table. Step of x st (inside_at p) r.0 table → PartsAdd of st (unions_at (list at p q)) y table) r.1 (parts of r.0 r.1 q) (parts_seen q of r.0 r.1)
      (λ y table is step. adds_then (parts_unions table of st) (parts_unions table of r.0) (parts_unions table of y) (inside_at p) (unions_at q) (step f m) is))

-- a name and its parts
abbrev pub NamedSeen : Parted → List Union → RawTerm × RawParts → Names → Type 0
NamedSeen of us x table = Same (parts_unions table of x.1) us

none_yet : (of : Parted) (table : Names) → parts_unions table of no_parts ≡ []
none_yet parted.Task table = refl
none_yet parted.Network table = refl
none_yet parted.Method table = refl
none_yet parted.Action table = refl

pub all_parts : (of : Parted) (us : List Union) (y : RawParts) (table : Names) → PartsAdd of no_parts us y table → Same (parts_unions table of y) us
all_parts of us y table a = adds_all (parts_unions table of y) us (subst (λ old. Adds old (parts_unions table of y) us) (none_yet of table) a)

pub named_seen : (of : Parted) (p : Placed) (names : Names) → Reads names (named_parts of names p) (NamedSeen of (unions_at p))
unfolding named_parts word_due
named_seen of cut names = tt
named_seen of (close at) names = tt
named_seen of (list at p q) names = tt
named_seen of (word at w p) names =
    reads_then same (NameBound w) (NamedSeen of (unions_at p)) names (declared 8 names at w) (λ h. parts of no_parts h.1 p >>= (λ x. Ok ((h.0, x.0), x.1))) (declared_bound 8 names at w)
    (λ h. reads_map (PartsAdd of no_parts (unions_at p)) (λ x table. NameBound w h.0 table → NamedSeen of (unions_at p) x table) h.1 (parts of no_parts h.1 p) (λ y. (h.0, y)) (parts_seen p of no_parts h.1) (λ y table is one. all_parts of (unions_at p) y table is))
