-- The parts of tasks, methods, actions and networks are read in the order of the text.
use Rattle.std.proofs.Common.{ℕ, ◌≤◌, ◌<◌, suc, Bool, true, false, if◌then◌else◌, Ok, Err, List, [], ◌∷◌, Option, Some, None, IfSome, arith}
use Rattle.text_forms.specs.Placed.{Placed, cut, close, word, list}
use Rattle.plan_texts.specs.Types.{EachIs}
use Rattle.plan_texts.proofs.Places.{each-join}
use Rattle.gd_reader.specs.declared.effects.RawEffect.{RawEffect}
use Rattle.gd_reader.specs.declared.effects.RawEffect.TheVariants as raw_effect
use Rattle.gd_reader.specs.declared.formulas.RawFormula.{RawFormula}
use Rattle.gd_reader.specs.declared.formulas.RawFormula.TheVariants as raw_formula
use Rattle.gd_reader.specs.declared.stop.Stop.TheVariants.{Departs}
use Rattle.gd_reader.specs.declared.term.RawTerm.{RawTerm}
use Rattle.gd_reader.specs.declared.typed_lists.ListKind.TheVariants as list_kind
use Rattle.gd_reader.specs.declared.typed_lists.RawParam.{RawParam}
use Rattle.gd_reader.specs.Effects.{effect_inside}
use Rattle.gd_reader.specs.Formulas.{inside}
use Rattle.gd_reader.specs.Terms.{Names, applied}
use Rattle.gd_reader.specs.TypedLists.{listed}
use Rattle.gd_reader.proofs.Keeping.{keeps_same}
use Rattle.hddl_reader.specs.declared.networks.RawCon.{RawCon}
use Rattle.hddl_reader.specs.declared.networks.RawPair.{RawPair}
use Rattle.hddl_reader.specs.declared.networks.RawSub.{RawSub}
use Rattle.hddl_reader.specs.declared.parts.Part.{Part}
use Rattle.hddl_reader.specs.declared.parts.Part.TheVariants as part
use Rattle.hddl_reader.specs.declared.parts.Parted.{Parted}
use Rattle.hddl_reader.specs.declared.parts.RawParts.{RawParts}
use Rattle.hddl_reader.specs.Networks.{sub_headed, pair_headed, con_headed, some_of, Headed}
use Rattle.hddl_reader.specs.Parts.{part_of, no_parts, stands, keyword_by, part_read, may_end, parts, parts_from}
use Rattle.hddl_reader.specs.Sections.{or_none, or_true, or_nothing, network_of}
use Rattle.text_values.specs.form_spellings.InOrder.{IsPlainName, AreParameters, IsNetworkInOrder}
use Rattle.text_values.specs.form_spellings.Rising.{IsAtomInOrder, IsPairInOrder, IsConInOrder, id_at, ids}
use Rattle.text_values.proofs.form_spellings.KeptWords.{Reads, reads_then, reads_map, reads_weaken, reads_by, reads_end}
use Rattle.text_values.proofs.form_spellings.TermsIn.{same}
use Rattle.text_values.proofs.form_spellings.order.Chains.{Placing, Chain, HeadedAt, IsWide, chain_each, chain_climbs, some_of_chain}
use Rattle.text_values.proofs.form_spellings.order.Climbs.{Climbs, climbs_from, climbs_join, climbs_rise}
use Rattle.text_values.proofs.form_spellings.order.Effects.{EffectInOrder, no_effect_in_order, applied_in_order, effect_inside_in_order}
use Rattle.text_values.proofs.form_spellings.order.Formulas.{FormulaInOrder, AtomInOrder, true_in_order, inside_in_order}
use Rattle.text_values.proofs.form_spellings.order.Lists.{ListInOrder, no_list, parameters_are, listed_in_order}
use Rattle.text_values.proofs.form_spellings.order.Networks.{SubAt, PairAt, ConAt, sub_at, sub_wide, pair_at, pair_wide, con_at, con_wide}
use Rattle.text_values.proofs.form_spellings.order.Spans.{Rising, behind_word, inside_list, behind_list}
use Rattle.text_values.proofs.form_spellings.order.Terms.{term_place}

-- somewhere in a text
abbrev pub Chained : {X : Type 0} → Placing X → List X → Names → Type 0
Chained P xs table = (from : ℕ) × (to : ℕ) × Chain P from to xs table

pub record PartsAre (st : RawParts) (table : Names) : Type 0 where
  pub params : IfSome st.params (λ xs. AreParameters table xs)
  pub task : IfSome st.task (λ a. AtomInOrder a table)
  pub pre : IfSome st.pre (λ f. FormulaInOrder f table)
  pub eff : IfSome st.eff (λ e. EffectInOrder e table)
  pub subs : IfSome st.subs (λ xs. Chained SubAt xs table)
  pub pairs : IfSome st.pairs (λ xs. Chained PairAt xs table)
  pub constraints : IfSome st.constraints (λ xs. Chained ConAt xs table)

-- parts that are put to others
abbrev pub PutTo : RawParts → RawParts → Names → Type 0
PutTo st y table = PartsAre st table → PartsAre y table

pub none_are : (table : Names) → PartsAre no_parts table
none_are table = record { params = tt; task = tt; pre = tt; eff = tt; subs = tt; pairs = tt; constraints = tt }

-- what stands in the list behind a keyword
some_in : {X : Type 0} (P : Placing X) → IsWide P → (headed : Headed X) → HeadedAt P headed → (at : ℕ) (p q : Placed) (names : Names) → Rising (list at p q) → Reads names (some_of headed names at p) (Chained P)
some_in P wide headed each at p q names s =
    reads_weaken (Chain P s.0 s.2.1) (Chained P) names (some_of headed names at p) (some_of_chain P wide headed each p names at s.0 s.2.1 s.2.0 s.2.2) (λ xs table c. (s.0, s.2.1, c))

part_in : (x : Part) (st : RawParts) (names : Names) (at : ℕ) (p q : Placed) → Rising (list at p q) → Reads names (part_read x st names at p) (PutTo st)
unfolding part_read
part_in part.Parameters st names at p q s = reads_map (ListInOrder list_kind.Parameters) (PutTo st) names (listed list_kind.Parameters names p) (λ x. record st { params = Some x }) (listed_in_order p list_kind.Parameters names (inside_list at p q s))
    (λ x table is h. record { params = parameters_are table x is; task = h.task; pre = h.pre; eff = h.eff; subs = h.subs; pairs = h.pairs; constraints = h.constraints })
part_in part.Task st names at p q s = reads_map AtomInOrder (PutTo st) names (applied names p) (λ x. record st { task = Some x }) (applied_in_order p names (inside_list at p q s))
    (λ x table is h. record { params = h.params; task = is; pre = h.pre; eff = h.eff; subs = h.subs; pairs = h.pairs; constraints = h.constraints })
part_in part.Precondition st names at p q s = reads_map FormulaInOrder (PutTo st) names (inside names p) (λ x. record st { pre = Some x }) (inside_in_order p names (inside_list at p q s))
    (λ x table is h. record { params = h.params; task = h.task; pre = is; eff = h.eff; subs = h.subs; pairs = h.pairs; constraints = h.constraints })
part_in part.NoPrecondition st names at p q s = reads_end (PutTo st) p (record st { pre = Some (raw_formula.And []) }, names)
    (λ _ table h. record { params = h.params; task = h.task; pre = true_in_order table; eff = h.eff; subs = h.subs; pairs = h.pairs; constraints = h.constraints })
part_in part.Effect st names at p q s = reads_map EffectInOrder (PutTo st) names (effect_inside names p) (λ x. record st { eff = Some x }) (effect_inside_in_order p names (inside_list at p q s))
    (λ x table is h. record { params = h.params; task = h.task; pre = h.pre; eff = is; subs = h.subs; pairs = h.pairs; constraints = h.constraints })
part_in part.NoEffect st names at p q s = reads_end (PutTo st) p (record st { eff = Some (raw_effect.And []) }, names)
    (λ _ table h. record { params = h.params; task = h.task; pre = h.pre; eff = no_effect_in_order table; subs = h.subs; pairs = h.pairs; constraints = h.constraints })
part_in part.Subtasks st names at p q s = reads_map (Chained SubAt) (PutTo st) names (some_of sub_headed names at p) (λ x. record st { subs = Some x }) (some_in SubAt sub_wide sub_headed sub_at at p q names s)
    (λ x table is h. record { params = h.params; task = h.task; pre = h.pre; eff = h.eff; subs = is; pairs = h.pairs; constraints = h.constraints })
part_in part.OrderedSubtasks st names at p q s = reads_map (Chained SubAt) (PutTo st) names (some_of sub_headed names at p) (λ x. record st { subs = Some x; ordered = true }) (some_in SubAt sub_wide sub_headed sub_at at p q names s)
    (λ x table is h. record { params = h.params; task = h.task; pre = h.pre; eff = h.eff; subs = is; pairs = h.pairs; constraints = h.constraints })
part_in part.Ordering st names at p q s = reads_map (Chained PairAt) (PutTo st) names (some_of pair_headed names at p) (λ x. record st { pairs = Some x }) (some_in PairAt pair_wide pair_headed pair_at at p q names s)
    (λ x table is h. record { params = h.params; task = h.task; pre = h.pre; eff = h.eff; subs = h.subs; pairs = is; constraints = h.constraints })
part_in part.Constraints st names at p q s = reads_map (Chained ConAt) (PutTo st) names (some_of con_headed names at p) (λ x. record st { constraints = Some x }) (some_in ConAt con_wide con_headed con_at at p q names s)
    (λ x table is h. record { params = h.params; task = h.task; pre = h.pre; eff = h.eff; subs = h.subs; pairs = h.pairs; constraints = is })

mutual
  unfolding parts parts_from

  pub parts_in_order : (p : Placed) (kind : Parted) (st : RawParts) (names : Names) → Rising p → Reads names (parts kind st names p) (PutTo st)
  parts_in_order cut kind st names s = tt
  parts_in_order (close at) kind st names s = go (may_end kind st)
    where
      go : (b : Bool) → Reads names (if b then Ok (st, names) else Err (Departs 8 at)) (PutTo st)
      go true = (keeps_same names, λ table k h. h)
      go false = tt
  parts_in_order (list at p q) kind st names s = tt
  parts_in_order (word at w p) kind st names s = reads_by (PutTo st) names (keyword_by (part_of kind w) (stands st) at w) (λ x. parts_from kind x st names p) (λ x. from_in p kind x st names (behind_word at w p s))

  from_in : (p : Placed) (kind : Parted) (x : Part) (st : RawParts) (names : Names) → Rising p → Reads names (parts_from kind x st names p) (PutTo st)
  from_in cut kind x st names s = tt
  from_in (close at) kind x st names s = tt
  from_in (word at w p) kind x st names s = tt
  from_in (list at p q) kind x st names s =
      reads_then same (PutTo st) (PutTo st) names (part_read x st names at p) (λ r. parts kind r.0 r.1 q) (part_in x st names at p q s)
      (λ r. reads_weaken (PutTo r.0) (λ y table. PutTo st r.0 table → PutTo st y table) r.1 (parts kind r.0 r.1 q) (parts_in_order q kind r.0 r.1 (behind_list at p q s)) (λ y table is one h. is (one h)))

-- what the parts of a head and a network say
pub list_or_none : (table : Names) (o : Option (List RawParam)) → IfSome o (λ xs. AreParameters table xs) → AreParameters table (or_none o)
list_or_none table None h = parameters_are table [] (no_list list_kind.Parameters table)
list_or_none table (Some xs) h = h

pub or_true_in_order : (table : Names) (o : Option RawFormula) → IfSome o (λ f. FormulaInOrder f table) → FormulaInOrder (or_true o) table
or_true_in_order table None h = true_in_order table
or_true_in_order table (Some f) h = h

pub or_nothing_in_order : (table : Names) (o : Option RawEffect) → IfSome o (λ e. EffectInOrder e table) → EffectInOrder (or_nothing o) table
or_nothing_in_order table None h = no_effect_in_order table
or_nothing_in_order table (Some e) h = h

pub chained_or_none : {X : Type 0} (P : Placing X) (table : Names) (o : Option (List X)) → IfSome o (λ xs. Chained P xs table) → Chained P (or_none o) table
chained_or_none P table None h = (0, 0, omega arith)
chained_or_none P table (Some xs) h = h

ids_climb : (from to : ℕ) (ss : List RawSub) (table : Names) → Chain SubAt from to ss table → Climbs term_place from (ids ss) to
ids_climb from to [] table c = c
ids_climb from to (s ∷ ss) table c = let a = c.1.opens in climbs_join term_place (id_at s.id) (ids ss) from c.0 to (climbs_from term_place (id_at s.id) from (suc s.at) c.0 (omega arith) c.1.id) (ids_climb c.0 to ss table c.2)

ids_plain : (from to : ℕ) (ss : List RawSub) (table : Names) → Chain SubAt from to ss table → EachIs (IsPlainName table) (ids ss)
ids_plain from to [] table c = tt
ids_plain from to (s ∷ ss) table c = each-join (IsPlainName table) (id_at s.id) (ids ss) (one s.id c.1.id_word) (ids_plain c.0 to ss table c.2)
  where
    one : (o : Option RawTerm) → IfSome o (IsPlainName table) → EachIs (IsPlainName table) (id_at o)
    one None h = tt
    one (Some t) h = (h, tt)

abbrev sub_place : RawSub → ℕ
sub_place s = s.at

abbrev pair_place : RawPair → ℕ
pair_place x = x.at

abbrev con_place : RawCon → ℕ
con_place c = c.left.at

sub_within : (from to : ℕ) (s : RawSub) (table : Names) → SubAt from to s table → (from ≤ s.at) × (s.at < to)
sub_within from to s table is = (is.opens, is.closes)

pair_within : (from to : ℕ) (x : RawPair) (table : Names) → PairAt from to x table → (from ≤ x.at) × (x.at < to)
pair_within from to x table is = let a = is.first in let b = is.second in let c = is.closes in (is.opens, omega arith)

con_within : (from to : ℕ) (c : RawCon) (table : Names) → ConAt from to c table → (from ≤ c.left.at) × (c.left.at < to)
con_within from to c table is = let a = is.first in let b = is.closes in (is.opens, omega arith)

abbrev opening : RawPair → RawTerm
opening x = record { name = x.first.name; variable = false; at = x.at }

pair_rises : (from to : ℕ) (x : RawPair) (table : Names) → PairAt from to x table → IsPairInOrder x
pair_rises from to x table is = climbs_rise term_place (opening x ∷ x.first ∷ x.then ∷ []) from to (is.opens, (is.first, (is.second, is.closes)))

con_rises : (from to : ℕ) (c : RawCon) (table : Names) → ConAt from to c table → IsConInOrder c
con_rises from to c table is = climbs_rise term_place (c.left ∷ c.right ∷ []) from to (is.opens, (is.first, is.closes))

pub net_in_order : (st : RawParts) (table : Names) → PartsAre st table → IsNetworkInOrder table (network_of st)
net_in_order st table h =
    let ss = chained_or_none SubAt table st.subs h.subs in
    let xs = chained_or_none PairAt table st.pairs h.pairs in
    let cs = chained_or_none ConAt table st.constraints h.constraints in
    record {
      ids_plain = ids_plain ss.0 ss.1 (or_none st.subs) table ss.2;
      ids_in_order = climbs_rise term_place (ids (or_none st.subs)) ss.0 ss.1 (ids_climb ss.0 ss.1 (or_none st.subs) table ss.2);
      subs_in_order = climbs_rise sub_place (or_none st.subs) ss.0 ss.1 (chain_climbs SubAt sub_place table (λ from to s is. sub_within from to s table is) ss.0 ss.1 (or_none st.subs) ss.2);
      each_sub = chain_each SubAt (λ (s : RawSub). IsAtomInOrder s.atom) table (λ from to s is. is.atom) ss.0 ss.1 (or_none st.subs) ss.2;
      pairs_in_order = climbs_rise pair_place (or_none st.pairs) xs.0 xs.1 (chain_climbs PairAt pair_place table (λ from to x is. pair_within from to x table is) xs.0 xs.1 (or_none st.pairs) xs.2);
      each_pair = chain_each PairAt IsPairInOrder table (λ from to x is. pair_rises from to x table is) xs.0 xs.1 (or_none st.pairs) xs.2;
      constraints_in_order = climbs_rise con_place (or_none st.constraints) cs.0 cs.1 (chain_climbs ConAt con_place table (λ from to x is. con_within from to x table is) cs.0 cs.1 (or_none st.constraints) cs.2);
      each_constraint = chain_each ConAt IsConInOrder table (λ from to c is. con_rises from to c table is) cs.0 cs.1 (or_none st.constraints) cs.2;
    }
