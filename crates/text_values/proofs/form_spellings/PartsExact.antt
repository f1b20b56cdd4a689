-- The parts of a task, a method, an action or a network, each as it is found under its keywords.
use Rattle.std.proofs.Common.{◌≡◌, ◌∙◌, ◌↔◌, ℕ, Bool, true, false, if◌then◌else◌, ◌||◌, cond, Ok, Err, Option, Some, None, List, [], refl, sym, ap, subst}
use Rattle.text_forms.specs.Lists.{Part, Parts, name, group, nothing, part}
use Rattle.text_forms.specs.Placed.{Placed, cut, close, word, list, parts_of}
use Rattle.text_forms.specs.Words.{Word, is_among, first_place}
use Rattle.plan_texts.specs.Networks.{subtasks, ordered_subtasks, ordering, constraints, task, IsOrdered}
use Rattle.plan_texts.specs.Sections.{parameters, precondition, effect, found, stands, bundle}
use Rattle.plan_texts.specs.Schemas.{AreParams}
use Rattle.plan_texts.specs.Together.{Together}
use Rattle.plan_texts.specs.TypedLists.{EachTyped}
use Rattle.plan_texts.specs.Types.{EachIs}
use Rattle.plan_texts.specs.Declared.{Declared}
use Rattle.plan_texts.specs.Formulas.{IsParam}
use Rattle.plan_model.specs.declared.terms.Param.{Param}
use Rattle.gd_reader.specs.declared.effects.RawEffect.{RawEffect}
use Rattle.gd_reader.specs.declared.effects.RawEffect.TheVariants as raw_effect
use Rattle.gd_reader.specs.declared.formulas.RawFormula.{RawFormula}
use Rattle.gd_reader.specs.declared.formulas.RawFormula.TheVariants as raw_formula
use Rattle.gd_reader.specs.declared.stop.Stop.TheVariants.{Departs}
use Rattle.gd_reader.specs.declared.term.RawAtom.{RawAtom}
use Rattle.gd_reader.specs.declared.typed_lists.ListKind.TheVariants as list_kind
use Rattle.gd_reader.specs.declared.typed_lists.RawParam.{RawParam}
use Rattle.gd_reader.specs.Effects.{effect_inside}
use Rattle.gd_reader.specs.Formulas.{inside}
use Rattle.gd_reader.specs.Terms.{Names, applied}
use Rattle.gd_reader.specs.TypedLists.{listed}
use Rattle.gd_reader.proofs.Keeping.{keeps_same}
use Rattle.hddl_reader.specs.declared.networks.RawCon.{RawCon}
use Rattle.hddl_reader.specs.declared.networks.RawPair.{RawPair}
use Rattle.hddl_reader.specs.declared.networks.RawSub.{RawSub}
use Rattle.hddl_reader.specs.declared.parts.Part.{Part as Kind}
use Rattle.hddl_reader.specs.declared.parts.Part.TheVariants as kind
use Rattle.hddl_reader.specs.declared.parts.Parted.{Parted}
use Rattle.hddl_reader.specs.declared.parts.Parted.TheVariants as parted
use Rattle.hddl_reader.specs.declared.parts.RawParts.{RawParts}
use Rattle.hddl_reader.specs.Networks.{sub_headed, pair_headed, con_headed, some_of}
use Rattle.hddl_reader.specs.Parts.{part_table, part_of, stands as has_part, part_read, may_end, parts, parts_from}
use Rattle.hddl_reader.specs.Sections.{or_none, or_true, or_nothing}
use Rattle.text_values.specs.form_spellings.Bound.{IsBoundParam}
use Rattle.text_values.proofs.form_spellings.ConstraintsExact.{IsCon, IsReadCon, constraints_exact}
use Rattle.text_values.proofs.form_spellings.ItemsExact.{ListExact, none_exact}
use Rattle.text_values.proofs.form_spellings.KeptWords.{Reads, reads_then, reads_map, reads_weaken, reads_end}
use Rattle.text_values.proofs.form_spellings.PartsWhole.{within_is}
use Rattle.text_values.proofs.form_spellings.PairsExact.{IsReadPair, pairs_exact}
use Rattle.text_values.proofs.form_spellings.ReadFields.{FieldIs, StepIs, field_ends, field_step, table_has, keyed}
use Rattle.text_values.proofs.form_spellings.SubtasksExact.{IsSub, IsReadSub, subtasks_exact}
use Rattle.text_values.proofs.form_spellings.TermsExact.{no_typed, ParamsExact, parameters_exact, FormulaExact, formula_exact, no_formula, EffectExact, effect_exact, no_effect, CalledExact, applied_called}
use Rattle.text_values.proofs.form_spellings.TermsIn.{same}

-- parameters in their parentheses
abbrev AreParamsExact : Part → List RawParam → Names → Type 0
AreParamsExact q rs table = (v : Declared) (xs : List Param) → Together (IsBoundParam v table) rs xs ↔ AreParams v xs q

in_parentheses : (ps : Parts) (rs : List RawParam) (table : Names) → ParamsExact ps rs table → AreParamsExact (group ps) rs table
in_parentheses ps rs table is v xs = (λ b. (ps, refl, (is v xs).0 b), λ a. (is v xs).1 (subst (EachTyped (IsParam v) xs) (sym (within_is a.1)) a.2))

no_params : (table : Names) → AreParamsExact (group nothing) [] table
no_params table = in_parentheses nothing [] table (no_typed IsParam IsBoundParam table)

abbrev pub task_place : List Word → Word → Option ℕ
task_place tasks u = first_place u tasks

-- What each field says of the part that is found.
abbrev ParamsSay : Names → Part → Option (List RawParam) → Type 0
ParamsSay table q o = AreParamsExact q (or_none o) table

abbrev pub HeadSays : Names → Part → Option RawAtom → Type 0
HeadSays table q None = q ≡ group nothing
HeadSays table q (Some a) = CalledExact task_place q a table

abbrev FormulaSays : Names → Part → Option RawFormula → Type 0
FormulaSays table q o = FormulaExact q (or_true o) table

abbrev EffectSays : Names → Part → Option RawEffect → Type 0
EffectSays table q o = EffectExact q (or_nothing o) table

abbrev SubsSay : Names → Part → Option (List RawSub) → Type 0
SubsSay table q o = ListExact IsSub IsReadSub (bundle q) (or_none o) table

abbrev PairsSay : Names → Part → Option (List RawPair) → Type 0
PairsSay table q o = ListExact IsOrdered IsReadPair (bundle q) (or_none o) table

abbrev ConsSay : Names → Part → Option (List RawCon) → Type 0
ConsSay table q o = ListExact IsCon IsReadCon (bundle q) (or_none o) table

-- parts y that are read of these, where st stood in front
pub record PartsAre (of : Parted) (st : RawParts) (ps : Parts) (y : RawParts) (table : Names) : Type 0 where
  pub params : FieldIs (ParamsSay table (found parameters ps)) st.params y.params
  pub head : FieldIs (HeadSays table (found task ps)) st.task y.task
  pub pre : FieldIs (FormulaSays table (found precondition ps)) st.pre y.pre
  pub eff : FieldIs (EffectSays table (found effect ps)) st.eff y.eff
  pub subs : FieldIs (SubsSay table (found subtasks ps)) st.subs y.subs
  pub pairs : FieldIs (PairsSay table (found ordering ps)) st.pairs y.pairs
  pub cons : FieldIs (ConsSay table (found constraints ps)) st.constraints y.constraints
  pub ordered : y.ordered ≡ (st.ordered || stands ordered_subtasks ps)
  pub ends : may_end of y ≡ true

none_left : (of : Parted) (st : RawParts) (table : Names) → may_end of st ≡ true → PartsAre of st nothing st table
none_left of st table e = record {
  params = field_ends (ParamsSay table (group nothing)) (no_params table) st.params;
  head = field_ends (HeadSays table (group nothing)) refl st.task;
  pre = field_ends (FormulaSays table (group nothing)) (no_formula table) st.pre;
  eff = field_ends (EffectSays table (group nothing)) (no_effect table) st.eff;
  subs = field_ends (SubsSay table (group nothing)) (none_exact IsSub IsReadSub table) st.subs;
  pairs = field_ends (PairsSay table (group nothing)) (none_exact IsOrdered IsReadPair table) st.pairs;
  cons = field_ends (ConsSay table (group nothing)) (none_exact IsCon IsReadCon table) st.constraints;
  ordered = sym (or_false st.ordered);
  ends = e;
}
  where
    or_false : (b : Bool) → (b || false) ≡ b
    or_false true = refl
    or_false false = refl

-- which fields a part fills: parameters, task, precondition, effect, subtasks, pairs, constraints, and whether subtasks are ordered
abbrev Flags : Type 0
Flags = Bool × Bool × Bool × Bool × Bool × Bool × Bool × Bool

abbrev flags : Kind → Flags
flags kind.Parameters = (true, false, false, false, false, false, false, false)
flags kind.Task = (false, true, false, false, false, false, false, false)
flags kind.Precondition = (false, false, true, false, false, false, false, false)
flags kind.NoPrecondition = (false, false, true, false, false, false, false, false)
flags kind.Effect = (false, false, false, true, false, false, false, false)
flags kind.NoEffect = (false, false, false, true, false, false, false, false)
flags kind.Subtasks = (false, false, false, false, true, false, false, false)
flags kind.OrderedSubtasks = (false, false, false, false, true, false, false, true)
flags kind.Ordering = (false, false, false, false, false, true, false, false)
flags kind.Constraints = (false, false, false, false, false, false, true, false)

abbrev flags_of : Word → Flags
flags_of w = (is_among w parameters, is_among w task, is_among w precondition, is_among w effect, is_among w subtasks, is_among w ordering, is_among w constraints, is_among w ordered_subtasks)

flagged : (of : Parted) (w : Word) (x : Kind) → part_of of w ≡ Some x → flags_of w ≡ flags x
unfolding part_of
flagged of w x e = table_has (λ w x. flags_of w ≡ flags x) (part_table of) w x (all of) e
  where
    all : (of : Parted) → EachIs (λ (t : Word × Kind). flags_of t.0 ≡ flags t.1) (part_table of)
    all parted.Task = (refl, (refl, (refl, tt)))
    all parted.Action = (refl, (refl, (refl, tt)))
    all parted.Method = (refl, (refl, (refl, (refl, (refl, (refl, (refl, (refl, (refl, (refl, tt))))))))))
    all parted.Network = (refl, (refl, (refl, (refl, (refl, (refl, (refl, (refl, tt))))))))

abbrev OrderIs : Bool → Bool → Bool → Type 0
OrderIs true before after = after ≡ true
OrderIs false before after = after ≡ before

-- a step from st to r with the part q
record Stepped (f : Flags) (st : RawParts) (q : Part) (r : RawParts) (table : Names) : Type 0 where
  params : StepIs (λ x. ParamsSay table q (Some x)) f.0 st.params r.params
  head : StepIs (λ x. HeadSays table q (Some x)) f.1 st.task r.task
  pre : StepIs (λ x. FormulaSays table q (Some x)) f.2 st.pre r.pre
  eff : StepIs (λ x. EffectSays table q (Some x)) f.3 st.eff r.eff
  subs : StepIs (λ x. SubsSay table q (Some x)) f.4 st.subs r.subs
  pairs : StepIs (λ x. PairsSay table q (Some x)) f.5 st.pairs r.pairs
  cons : StepIs (λ x. ConsSay table q (Some x)) f.6 st.constraints r.constraints
  ordered : OrderIs f.7 st.ordered r.ordered

-- by whether the keyword is one of these
part_step : {X : Type 0} (Says : Part → Option X → Type 0) (ks : List Word) (w : Word) (q : Part) (ps : Parts) (b : Bool) → is_among w ks ≡ b → (o r after : Option X) → StepIs (λ x. Says q (Some x)) b o r
    → FieldIs (Says (found ks ps)) r after → FieldIs (Says (found ks (part (name w) (part q ps)))) o after
part_step Says ks w q ps b e o r after s f =
    field_step (Says (found ks (part (name w) (part q ps)))) (Says (found ks ps)) (λ x. Says q (Some x)) b
    (λ t x own. subst (λ c. Says (cond c q (found ks ps)) (Some x)) (sym (e ∙ t)) own) (λ t o own. subst (λ c. Says (cond c q (found ks ps)) o) (sym (e ∙ t)) own) o r after s f

order_step : (b before middle after c d : Bool) → d ≡ b → OrderIs b before middle → after ≡ (middle || c) → after ≡ (before || (d || c))
order_step true true middle after c d e s f = f ∙ ap (λ m. m || c) s
order_step true false middle after c d e s f = f ∙ ap (λ m. m || c) s ∙ sym (ap (λ d. d || c) e)
order_step false before middle after c d e s f = f ∙ (λ i. s i || (sym e i || c))

step_of : (of : Parted) (f : Flags) (w : Word) (st r y : RawParts) (q : Part) (ps : Parts) (table : Names) → flags_of w ≡ f → Stepped f st q r table → PartsAre of r ps y table → PartsAre of st (part (name w) (part q ps)) y table
step_of of f w st r y q ps table e s h = record {
  params = part_step (ParamsSay table) parameters w q ps f.0 (ap (λ (f : Flags). f.0) e) st.params r.params y.params s.params h.params;
  head = part_step (HeadSays table) task w q ps f.1 (ap (λ (f : Flags). f.1) e) st.task r.task y.task s.head h.head;
  pre = part_step (FormulaSays table) precondition w q ps f.2 (ap (λ (f : Flags). f.2) e) st.pre r.pre y.pre s.pre h.pre;
  eff = part_step (EffectSays table) effect w q ps f.3 (ap (λ (f : Flags). f.3) e) st.eff r.eff y.eff s.eff h.eff;
  subs = part_step (SubsSay table) subtasks w q ps f.4 (ap (λ (f : Flags). f.4) e) st.subs r.subs y.subs s.subs h.subs;
  pairs = part_step (PairsSay table) ordering w q ps f.5 (ap (λ (f : Flags). f.5) e) st.pairs r.pairs y.pairs s.pairs h.pairs;
  cons = part_step (ConsSay table) constraints w q ps f.6 (ap (λ (f : Flags). f.6) e) st.constraints r.constraints y.constraints s.cons h.cons;
  ordered = order_step f.7 st.ordered r.ordered y.ordered (stands ordered_subtasks ps) (is_among w ordered_subtasks) (ap (λ (f : Flags). f.7) e) s.ordered h.ordered;
  ends = h.ends;
}

abbrev StepOf : Kind → RawParts → Placed → RawParts → Names → Type 0
StepOf x st p r table = has_part st x ≡ false → Stepped (flags x) st (group (parts_of p)) r table

part_exact : (x : Kind) (st : RawParts) (names : Names) (at : ℕ) (p : Placed) → Reads names (part_read x st names at p) (StepOf x st p)
unfolding part_read has_part
part_exact kind.Parameters st names at p = reads_map (ParamsExact (parts_of p)) (StepOf kind.Parameters st p) names (listed list_kind.Parameters names p) (λ x. record st { params = Some x }) (parameters_exact p names)
    (λ x table is e. record { params = (e, (x, refl, in_parentheses (parts_of p) x table is)); head = refl; pre = refl; eff = refl; subs = refl; pairs = refl; cons = refl; ordered = refl })
part_exact kind.Task st names at p = reads_map (CalledExact task_place (group (parts_of p))) (StepOf kind.Task st p) names (applied names p) (λ x. record st { task = Some x }) (applied_called task_place p names)
    (λ x table is e. record { params = refl; head = (e, (x, refl, is)); pre = refl; eff = refl; subs = refl; pairs = refl; cons = refl; ordered = refl })
part_exact kind.Precondition st names at p = reads_map (FormulaExact (group (parts_of p))) (StepOf kind.Precondition st p) names (inside names p) (λ x. record st { pre = Some x }) (formula_exact p names)
    (λ x table is e. record { params = refl; head = refl; pre = (e, (x, refl, is)); eff = refl; subs = refl; pairs = refl; cons = refl; ordered = refl })
part_exact kind.NoPrecondition st names at p = reads_end (StepOf kind.NoPrecondition st p) p (record st { pre = Some (raw_formula.And []) }, names)
    (λ n table e. record { params = refl; head = refl; pre = (e, (raw_formula.And [], refl, subst (λ ps. FormulaExact (group ps) (raw_formula.And []) table) (sym n) (no_formula table))); eff = refl; subs = refl; pairs = refl; cons = refl; ordered = refl })
part_exact kind.Effect st names at p = reads_map (EffectExact (group (parts_of p))) (StepOf kind.Effect st p) names (effect_inside names p) (λ x. record st { eff = Some x }) (effect_exact p names)
    (λ x table is e. record { params = refl; head = refl; pre = refl; eff = (e, (x, refl, is)); subs = refl; pairs = refl; cons = refl; ordered = refl })
part_exact kind.NoEffect st names at p = reads_end (StepOf kind.NoEffect st p) p (record st { eff = Some (raw_effect.And []) }, names)
    (λ n table e. record { params = refl; head = refl; pre = refl; eff = (e, (raw_effect.And [], refl, subst (λ ps. EffectExact (group ps) (raw_effect.And []) table) (sym n) (no_effect table))); subs = refl; pairs = refl; cons = refl; ordered = refl })
part_exact kind.Subtasks st names at p = reads_map (ListExact IsSub IsReadSub (bundle (group (parts_of p)))) (StepOf kind.Subtasks st p) names (some_of sub_headed names at p) (λ x. record st { subs = Some x }) (subtasks_exact p names at)
    (λ x table is e. record { params = refl; head = refl; pre = refl; eff = refl; subs = (e, (x, refl, is)); pairs = refl; cons = refl; ordered = refl })
part_exact kind.OrderedSubtasks st names at p = reads_map (ListExact IsSub IsReadSub (bundle (group (parts_of p)))) (StepOf kind.OrderedSubtasks st p) names (some_of sub_headed names at p) (λ x. record st { subs = Some x; ordered = true }) (subtasks_exact p names at)
    (λ x table is e. record { params = refl; head = refl; pre = refl; eff = refl; subs = (e, (x, refl, is)); pairs = refl; cons = refl; ordered = refl })
part_exact kind.Ordering st names at p = reads_map (ListExact IsOrdered IsReadPair (bundle (group (parts_of p)))) (StepOf kind.Ordering st p) names (some_of pair_headed names at p) (λ x. record st { pairs = Some x }) (pairs_exact p names at)
    (λ x table is e. record { params = refl; head = refl; pre = refl; eff = refl; subs = refl; pairs = (e, (x, refl, is)); cons = refl; ordered = refl })
part_exact kind.Constraints st names at p = reads_map (ListExact IsCon IsReadCon (bundle (group (parts_of p)))) (StepOf kind.Constraints st p) names (some_of con_headed names at p) (λ x. record st { constraints = Some x }) (constraints_exact p names at)
    (λ x table is e. record { params = refl; head = refl; pre = refl; eff = refl; subs = refl; pairs = refl; cons = (e, (x, refl, is)); ordered = refl })

mutual
  unfolding parts parts_from

  pub parts_exact : (p : Placed) (of : Parted) (st : RawParts) (names : Names) → Reads names (parts of st names p) (PartsAre of st (parts_of p))
  parts_exact cut of st names = tt
  parts_exact (close at) of st names = go (may_end of st) refl
    where
      go : (b : Bool) → may_end of st ≡ b → Reads names (if b then Ok (st, names) else Err (Departs 8 at)) (PartsAre of st nothing)
      go true e = (keeps_same names, λ table k. none_left of st table e)
      go false e = tt
  parts_exact (list at p q) of st names = tt
  parts_exact (word at w p) of st names =
      keyed (PartsAre of st (part (name w) (parts_of p))) names (part_of of w) (has_part st) at w (λ x. parts_from of x st names p) (λ x e f. behind_exact p of x w st names (flagged of w x e) f)

  behind_exact : (p : Placed) (of : Parted) (x : Kind) (w : Word) (st : RawParts) (names : Names) → flags_of w ≡ flags x → has_part st x ≡ false → Reads names (parts_from of x st names p) (PartsAre of st (part (name w) (parts_of p)))
  behind_exact cut of x w st names f e = tt
  behind_exact (close at) of x w st names f e = tt
  behind_exact (word at u p) of x w st names f e = tt
  behind_exact (list at p q) of x w st names f e =
      reads_then same (StepOf x st p) (PartsAre of st (part (name w) (part (group (parts_of p)) (parts_of q)))) names (part_read x st names at p) (λ r. parts of r.0 r.1 q) (part_exact x st names at p)
      (λ r. reads_weaken (PartsAre of r.0 (parts_of q)) (λ y table. StepOf x st p r.0 table → PartsAre of st (part (name w) (part (group (parts_of p)) (parts_of q))) y table) r.1 (parts of r.0 r.1 q) (parts_exact q of r.0 r.1)
      (λ y table is step. step_of of (flags x) w st r.0 y (group (parts_of p)) (parts_of q) table f (step e) is))
