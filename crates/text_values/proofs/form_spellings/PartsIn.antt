-- What holds of the names and places of the parts of tasks, methods, actions and networks.
use Rattle.std.proofs.Common.{ℕ, Bool, true, false, if◌then◌else◌, Ok, Err, [], Some, IfSome}
use Rattle.text_forms.specs.Placed.{Placed, cut, close, word, list}
use Rattle.gd_reader.specs.declared.effects.RawEffect.TheVariants as raw_effect
use Rattle.gd_reader.specs.declared.formulas.RawFormula.TheVariants as raw_formula
use Rattle.gd_reader.specs.declared.stop.Stop.TheVariants.{Departs}
use Rattle.gd_reader.specs.declared.typed_lists.ListKind.TheVariants as list_kind
use Rattle.gd_reader.specs.Effects.{effect_inside}
use Rattle.gd_reader.specs.Formulas.{inside}
use Rattle.gd_reader.specs.Terms.{Names, applied}
use Rattle.gd_reader.specs.TypedLists.{listed}
use Rattle.gd_reader.proofs.Keeping.{keeps_same}
use Rattle.hddl_reader.specs.declared.parts.Part.{Part}
use Rattle.hddl_reader.specs.declared.parts.Part.TheVariants as part
use Rattle.hddl_reader.specs.declared.parts.Parted.{Parted}
use Rattle.hddl_reader.specs.declared.parts.RawParts.{RawParts}
use Rattle.hddl_reader.specs.Networks.{sub_headed, pair_headed, con_headed, some_of}
use Rattle.hddl_reader.specs.Parts.{part_of, no_parts, stands, keyword_by, part_read, may_end, parts, parts_from}
use Rattle.text_values.proofs.form_spellings.EffectsIn.{EffectIn, effect_inside_in, no_effect_in}
use Rattle.text_values.proofs.form_spellings.Facts.{Facts, Fronted, AllSeen}
use Rattle.text_values.proofs.form_spellings.FormulasIn.{FormulaIn, inside_in, true_in}
use Rattle.text_values.proofs.form_spellings.KeptWords.{Reads, reads_then, reads_map, reads_weaken, reads_by, reads_end}
use Rattle.text_values.proofs.form_spellings.ListsIn.{ParamsIn, listed_in}
use Rattle.text_values.proofs.form_spellings.NetworksIn.{SubIn, OrderIn, ConIn, EachIn, sub_in, pair_in, con_in, some_of_in}
use Rattle.text_values.proofs.form_spellings.TermsIn.{AtomIn, same, applied_in}

module _ (F : Facts) where
  pub record PartsAre (st : RawParts) (table : Names) : Type 0 where
    pub params : IfSome st.params (λ xs. ParamsIn F true xs table)
    pub task : IfSome st.task (λ a. AtomIn F a table)
    pub pre : IfSome st.pre (λ f. FormulaIn F f table)
    pub eff : IfSome st.eff (λ e. EffectIn F e table)
    pub subs : IfSome st.subs (λ xs. EachIn F (SubIn F) xs table)
    pub pairs : IfSome st.pairs (λ xs. EachIn F (OrderIn F) xs table)
    pub constraints : IfSome st.constraints (λ xs. EachIn F (ConIn F) xs table)

  -- parts that are put to others
  abbrev pub PutTo : RawParts → RawParts → Names → Type 0
  PutTo st y table = PartsAre st table → PartsAre y table

  pub none_are : (table : Names) → PartsAre no_parts table
  none_are table = record { params = tt; task = tt; pre = tt; eff = tt; subs = tt; pairs = tt; constraints = tt }

  part_in : (x : Part) (st : RawParts) (names : Names) (at : ℕ) (p : Placed) → Fronted F at p → AllSeen F p → Reads names (part_read x st names at p) (PutTo st)
  unfolding part_read
  part_in part.Parameters st names at p f s = reads_map (ParamsIn F true) (PutTo st) names (listed list_kind.Parameters names p) (λ x. record st { params = Some x }) (listed_in F p list_kind.Parameters names s)
      (λ x table is h. record { params = is; task = h.task; pre = h.pre; eff = h.eff; subs = h.subs; pairs = h.pairs; constraints = h.constraints })
  part_in part.Task st names at p f s = reads_map (AtomIn F) (PutTo st) names (applied names p) (λ x. record st { task = Some x }) (applied_in F p names s)
      (λ x table is h. record { params = h.params; task = is; pre = h.pre; eff = h.eff; subs = h.subs; pairs = h.pairs; constraints = h.constraints })
  part_in part.Precondition st names at p f s = reads_map (FormulaIn F) (PutTo st) names (inside names p) (λ x. record st { pre = Some x }) (inside_in F p names s)
      (λ x table is h. record { params = h.params; task = h.task; pre = is; eff = h.eff; subs = h.subs; pairs = h.pairs; constraints = h.constraints })
  part_in part.NoPrecondition st names at p f s = reads_end (PutTo st) p (record st { pre = Some (raw_formula.And []) }, names)
      (λ _ table h. record { params = h.params; task = h.task; pre = true_in F table; eff = h.eff; subs = h.subs; pairs = h.pairs; constraints = h.constraints })
  part_in part.Effect st names at p f s = reads_map (EffectIn F) (PutTo st) names (effect_inside names p) (λ x. record st { eff = Some x }) (effect_inside_in F p names s)
      (λ x table is h. record { params = h.params; task = h.task; pre = h.pre; eff = is; subs = h.subs; pairs = h.pairs; constraints = h.constraints })
  part_in part.NoEffect st names at p f s = reads_end (PutTo st) p (record st { eff = Some (raw_effect.And []) }, names)
      (λ _ table h. record { params = h.params; task = h.task; pre = h.pre; eff = no_effect_in F table; subs = h.subs; pairs = h.pairs; constraints = h.constraints })
  part_in part.Subtasks st names at p f s = reads_map (EachIn F (SubIn F)) (PutTo st) names (some_of sub_headed names at p) (λ x. record st { subs = Some x }) (some_of_in F sub_headed (SubIn F) (sub_in F) p names at f s)
      (λ x table is h. record { params = h.params; task = h.task; pre = h.pre; eff = h.eff; subs = is; pairs = h.pairs; constraints = h.constraints })
  part_in part.OrderedSubtasks st names at p f s = reads_map (EachIn F (SubIn F)) (PutTo st) names (some_of sub_headed names at p) (λ x. record st { subs = Some x; ordered = true }) (some_of_in F sub_headed (SubIn F) (sub_in F) p names at f s)
      (λ x table is h. record { params = h.params; task = h.task; pre = h.pre; eff = h.eff; subs = is; pairs = h.pairs; constraints = h.constraints })
  part_in part.Ordering st names at p f s = reads_map (EachIn F (OrderIn F)) (PutTo st) names (some_of pair_headed names at p) (λ x. record st { pairs = Some x }) (some_of_in F pair_headed (OrderIn F) (pair_in F) p names at f s)
      (λ x table is h. record { params = h.params; task = h.task; pre = h.pre; eff = h.eff; subs = h.subs; pairs = is; constraints = h.constraints })
  part_in part.Constraints st names at p f s = reads_map (EachIn F (ConIn F)) (PutTo st) names (some_of con_headed names at p) (λ x. record st { constraints = Some x }) (some_of_in F con_headed (ConIn F) (con_in F) p names at f s)
      (λ x table is h. record { params = h.params; task = h.task; pre = h.pre; eff = h.eff; subs = h.subs; pairs = h.pairs; constraints = is })

  mutual
    unfolding parts parts_from

    pub parts_in : (p : Placed) (kind : Parted) (st : RawParts) (names : Names) → AllSeen F p → Reads names (parts kind st names p) (PutTo st)
    parts_in cut kind st names s = tt
    parts_in (close at) kind st names s = go (may_end kind st)
      where
        go : (b : Bool) → Reads names (if b then Ok (st, names) else Err (Departs 8 at)) (PutTo st)
        go true = (keeps_same names, λ table k h. h)
        go false = tt
    parts_in (list at p q) kind st names s = tt
    parts_in (word at w p) kind st names s = reads_by (PutTo st) names (keyword_by (part_of kind w) (stands st) at w) (λ x. parts_from kind x st names p) (λ x. from_in p kind x st names s.1)

    from_in : (p : Placed) (kind : Parted) (x : Part) (st : RawParts) (names : Names) → AllSeen F p → Reads names (parts_from kind x st names p) (PutTo st)
    from_in cut kind x st names s = tt
    from_in (close at) kind x st names s = tt
    from_in (word at w p) kind x st names s = tt
    from_in (list at p q) kind x st names s =
        reads_then same (PutTo st) (PutTo st) names (part_read x st names at p) (λ r. parts kind r.0 r.1 q) (part_in x st names at p s.0 s.1)
        (λ r. reads_weaken (PutTo r.0) (λ y table. PutTo st r.0 table → PutTo st y table) r.1 (parts kind r.0 r.1 q) (parts_in q kind r.0 r.1 s.2) (λ y table is one h. is (one h)))
