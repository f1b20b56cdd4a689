-- Tasks, actions, methods and the network of a problem to which what was read is bound are those that its parts spell.
use Rattle.std.proofs.Common.{◌≡◌, ◌∙◌, ◌↔◌, ◌++◌, true, length, codes, Ok, Option, Some, None, List, [], map, refl, sym, ap, subst}
use Rattle.std.specs.Option.{option_map}
use Rattle.text_forms.specs.Lists.{Part, Parts, name, part}
use Rattle.text_forms.specs.Placed.{Placed, cut, close, word, list, parts_of, IsWhole}
use Rattle.text_forms.specs.Printing.{headed}
use Rattle.text_forms.specs.Words.{Word, is_name}
use Rattle.text_forms.specs.form_grammar.Codes.{Whole}
use Rattle.text_forms.specs.form_grammar.Rows.{form}
use Rattle.text_forms.specs.form_grammar.Sections as grammar
use Rattle.text_forms.specs.form_grammar.Sections.{section_rows}
use Rattle.text_forms.proofs.form_grammar.Meaning.{form_whole}
use Rattle.plan_texts.specs.Declared.{Declared, named, variable}
use Rattle.plan_texts.specs.Formulas.{IsFormula, IsEffect}
use Rattle.plan_texts.specs.Networks.{ordered_subtasks, task, chain_if, id_word, ids_by_place, IsTask, IsMethod, IsTop, IsHeadOf, IsNetwork}
use Rattle.plan_texts.specs.Schemas.{AreParams, IsAction}
use Rattle.plan_texts.specs.Sections.{found, stands, parameters, precondition, effect}
use Rattle.plan_texts.proofs.Members.{length-map}
use Rattle.plan_model.specs.declared.networks.Child.{Child}
use Rattle.plan_model.specs.declared.networks.Constraint.{Constraint}
use Rattle.plan_model.specs.declared.networks.Pair.{Pair}
use Rattle.plan_model.specs.declared.schemas.MethodSchema.{MethodSchema}
use Rattle.gd_reader.specs.declared.term.RawAtom.{RawAtom}
use Rattle.gd_reader.specs.declared.term.RawTerm.{RawTerm}
use Rattle.gd_reader.specs.Answers.{◌>>=◌, word_due}
use Rattle.gd_reader.specs.Terms.{Names}
use Rattle.hddl_reader.specs.declared.parts.Parted.{Parted}
use Rattle.hddl_reader.specs.declared.parts.Parted.TheVariants as parted
use Rattle.hddl_reader.specs.declared.parts.RawParts.{RawParts}
use Rattle.hddl_reader.specs.declared.sections.RawMethod.{RawMethod}
use Rattle.hddl_reader.specs.Networks.{declared}
use Rattle.hddl_reader.specs.Parts.{no_parts, is_there, may_end, parts}
use Rattle.hddl_reader.specs.Sections.{or_none, or_true, head_of, network_of, action_of, method_of, named_parts}
use Rattle.hddl_reader.proofs.PartsSaid.{parted_of, parts_said}
use Rattle.text_values.specs.form_spellings.BoundNetworks.{IsBoundNetwork}
use Rattle.text_values.specs.form_spellings.BoundSchemas.{IsBoundTask, IsBoundAction, IsBoundMethod, IsBoundTop}
use Rattle.text_values.proofs.form_spellings.ItemsExact.{ItemExact}
use Rattle.text_values.proofs.form_spellings.KeptWords.{Reads, reads_then, reads_map, reads_weaken}
use Rattle.text_values.proofs.form_spellings.ListsWhole.{name_is}
use Rattle.text_values.proofs.form_spellings.PartsExact.{task_place, HeadSays, PartsAre, parts_exact}
use Rattle.text_values.proofs.form_spellings.PartsListed.{Listed, pieces, all_left, listed_to}
use Rattle.text_values.proofs.form_spellings.PartsWhole.{front_is, back_is, within_is}
use Rattle.text_values.proofs.form_spellings.TermsBound.{NameBound}
use Rattle.text_values.proofs.form_spellings.TermsExact.{ok_whole, reads_also, declared_bound, CalledExact}
use Rattle.text_values.proofs.form_spellings.TermsIn.{same}
use Rattle.text_values.proofs.form_spellings.WordTests.{false_true}

-- parts as they are found, each at most once under its keyword
abbrev pub PartsKnown : Parted → Parts → RawParts → Names → Type 0
PartsKnown of ps y table = PartsAre of no_parts ps y table × Listed (pieces (parted_of of)) ps

abbrev Ended : Parted → Placed → Type 0
Ended of p = IsWhole p × Listed (pieces (parted_of of)) (parts_of p)

pub parts_known : (of : Parted) (p : Placed) (names : Names) → Reads names (parts of no_parts names p) (λ y table. IsWhole p × PartsKnown of (parts_of p) y table)
parts_known of p names =
    reads_weaken (λ y table. PartsAre of no_parts (parts_of p) y table × Ended of p) (λ y table. IsWhole p × PartsKnown of (parts_of p) y table) names (parts of no_parts names p) also (λ y table is. (is.1.0, (is.0, is.1.1)))
  where
    known : Whole (form section_rows (grammar.parts (parted_of of) []) p) → Ended of p
    known w = (form_whole section_rows p (grammar.parts (parted_of of) []) w, listed_to p (parted_of of) [] (pieces (parted_of of)) (all_left (parted_of of)) w)

    also : Reads names (parts of no_parts names p) (λ y table. PartsAre of no_parts (parts_of p) y table × Ended of p)
    also = reads_also (PartsAre of no_parts (parts_of p)) (Ended of p) names (parts of no_parts names p) (parts_exact p of no_parts names)
        (λ x e. known (ok_whole (parts of no_parts names p) x (form section_rows (grammar.parts (parted_of of) []) p) e (parts_said of p names)))

-- a name and its parts
abbrev pub NamedKnown : Parted → Parts → RawTerm × RawParts → Names → Type 0
NamedKnown of ps x table = (w : Word) × (es : Parts) × (ps ≡ part (name w) es) × NameBound w x.0 table × PartsKnown of es x.1 table

pub named_known : (of : Parted) (p : Placed) (names : Names) → Reads names (named_parts of names p) (λ x table. IsWhole p × NamedKnown of (parts_of p) x table)
unfolding named_parts word_due
named_known of cut names = tt
named_known of (close at) names = tt
named_known of (list at p q) names = tt
named_known of (word at w p) names =
    reads_then same (NameBound w) (λ x table. IsWhole p × NamedKnown of (part (name w) (parts_of p)) x table) names (declared 8 names at w) (λ h. parts of no_parts h.1 p >>= (λ x. Ok ((h.0, x.0), x.1))) (declared_bound 8 names at w)
    (λ h. reads_map (λ y table. IsWhole p × PartsKnown of (parts_of p) y table) (λ x table. NameBound w h.0 table → IsWhole p × NamedKnown of (part (name w) (parts_of p)) x table) h.1 (parts of no_parts h.1 p) (λ y. (h.0, y)) (parts_known of p h.1)
    (λ y table is one. (is.0, (w, parts_of p, refl, one, is.1))))

module _ (w : Word) (es : Parts) (n : RawTerm) (y : RawParts) (table : Names) (one : NameBound w n table) where
  abbrev Front : Word → Parts
  Front key = part (name key) (part (name w) es)

  -- a declaration behind its keyword
  abbrev Written : Word → Word → Parts → Type 0
  Written key u qs = headed key (part (name w) es) ≡ headed key (part (name u) qs)

  same_front : (key u : Word) → u ≡ named table n.name → Written key u es
  same_front key u e = ap (λ u. headed key (part (name u) es)) (sym (e ∙ one.0))

  same_name : (u : Word) → u ≡ named table n.name → is_name u ≡ true
  same_name u e = ap is_name (e ∙ one.0) ∙ one.1

  read_name : (key u : Word) (qs : Parts) → Written key u qs → u ≡ named table n.name
  read_name key u qs e = sym (one.0 ∙ name_is (front_is (back_is (within_is e))))

  read_entries : (key u : Word) (qs : Parts) → Written key u qs → qs ≡ es
  read_entries key u qs e = sym (back_is (back_is (within_is e)))

  pub task_exact : PartsKnown parted.Task es y table → ItemExact IsTask (λ table v. IsBoundTask v table) (Front (codes ":task")) (head_of n y) table
  task_exact (h, l) v t = (to, from)
    where
      to : IsBoundTask v table (head_of n y) t → IsTask v t (headed (codes ":task") (part (name w) es))
      to b = record {
        entries = es;
        is = same_front (codes ":task") (named v.names t.name) b.0;
        named = same_name (named v.names t.name) b.0;
        form = l.0;
        params = (h.params v t.params).0 b.1;
        no_pre = l.1.1.0;
        no_eff = l.1.1.1.0;
      }

      from : IsTask v t (headed (codes ":task") (part (name w) es)) → IsBoundTask v table (head_of n y) t
      from i =
          let e = read_entries (codes ":task") (named v.names t.name) i.entries i.is in
          (read_name (codes ":task") (named v.names t.name) i.entries i.is, (h.params v t.params).1 (subst (λ es. AreParams v t.params (found parameters es)) e i.params))

  pub action_exact : PartsKnown parted.Action es y table → ItemExact IsAction (λ table v. IsBoundAction v table) (Front (codes ":action")) (action_of n y) table
  action_exact (h, l) v a = (to, from)
    where
      to : IsBoundAction v table (action_of n y) a → IsAction v a (headed (codes ":action") (part (name w) es))
      to b = record {
        entries = es;
        is = same_front (codes ":action") (named v.names a.name) b.name;
        named = same_name (named v.names a.name) b.name;
        form = l.0;
        params = (h.params v a.params).0 b.params;
        pre = (h.pre v (map (variable v) a.params) a.pre).0 b.pre;
        eff = (h.eff v (map (variable v) a.params) a.eff).0 b.eff;
      }

      from : IsAction v a (headed (codes ":action") (part (name w) es)) → IsBoundAction v table (action_of n y) a
      from i =
          let e = read_entries (codes ":action") (named v.names a.name) i.entries i.is in
          record {
            name = read_name (codes ":action") (named v.names a.name) i.entries i.is;
            params = (h.params v a.params).1 (subst (λ es. AreParams v a.params (found parameters es)) e i.params);
            pre = (h.pre v (map (variable v) a.params) a.pre).1 (subst (λ es. IsFormula v a.pre (map (variable v) a.params) (found precondition es)) e i.pre);
            eff = (h.eff v (map (variable v) a.params) a.eff).1 (subst (λ es. IsEffect v a.eff (map (variable v) a.params) (found effect es)) e i.eff);
          }

-- the subtasks, pairs and constraints of a network
module _ (of : Parted) (es : Parts) (y : RawParts) (table : Names) (h : PartsAre of no_parts es y table) (v : Declared) (tasks actions : List Word) where
  network_exact : (scope : List Word) (cs : List Child) (ps : List Pair) (xs : List Constraint) → IsBoundNetwork v table tasks actions scope (network_of y) cs ps xs ↔ IsNetwork v tasks actions scope (ids_by_place v cs) cs ps xs es
  network_exact scope cs ps xs = (to, from)
    where
      same_chain : chain_if y.ordered (length cs) ≡ chain_if (stands ordered_subtasks es) (length (ids_by_place v cs))
      same_chain i = chain_if (h.ordered i) (sym (length-map (λ (c : Child). id_word v c.id) cs) i)

      to : IsBoundNetwork v table tasks actions scope (network_of y) cs ps xs → IsNetwork v tasks actions scope (ids_by_place v cs) cs ps xs es
      to b = record {
        children_spelled = (h.subs (v, tasks, actions, scope) cs).0 b.subtasks;
        ordered = record { written = b.written; pairs_are = b.pairs_are ∙ ap (λ z. z ++ b.written) same_chain; pairs_spelled = (h.pairs (ids_by_place v cs) b.written).0 b.ordering };
        constraints_spelled = (h.cons (v, scope) xs).0 b.limits;
      }

      from : IsNetwork v tasks actions scope (ids_by_place v cs) cs ps xs es → IsBoundNetwork v table tasks actions scope (network_of y) cs ps xs
      from i = record {
        subtasks = (h.subs (v, tasks, actions, scope) cs).1 i.children_spelled;
        written = i.ordered.written;
        pairs_are = i.ordered.pairs_are ∙ ap (λ z. z ++ i.ordered.written) (sym same_chain);
        ordering = (h.pairs (ids_by_place v cs) i.ordered.written).1 i.ordered.pairs_spelled;
        limits = (h.cons (v, scope) xs).1 i.constraints_spelled;
      }

-- the task of a method was read
pub method_there : (es : Parts) (y : RawParts) (table : Names) → PartsAre parted.Method no_parts es y table → (a : RawAtom) × (y.task ≡ Some a) × CalledExact task_place (found task es) a table
unfolding may_end
method_there es y table h = go y.task refl h.head h.ends
  where
    go : (o : Option RawAtom) → y.task ≡ o → HeadSays table (found task es) o → is_there o ≡ true → (a : RawAtom) × (y.task ≡ Some a) × CalledExact task_place (found task es) a table
    go None e s t = false_true t
    go (Some a) e s t = (a, e, s)

abbrev pub method_with : RawTerm → RawParts → RawAtom → RawMethod
method_with n y a = record { head = head_of n y; task = a; pre = or_true y.pre; net = network_of y }

pub method_is : (n : RawTerm) (y : RawParts) (a : RawAtom) → y.task ≡ Some a → method_of n y ≡ Some (method_with n y a)
method_is n y a e = ap (λ o. option_map (method_with n y) o) e

-- declared words, tasks and actions
abbrev Methods : Type 0
Methods = Declared × List Word × List Word

abbrev pub IsMethodOf : Methods → MethodSchema → Part → Type 0
IsMethodOf e = IsMethod e.0 e.1 e.2

abbrev pub IsReadMethod : Names → Methods → RawMethod → MethodSchema → Type 0
IsReadMethod table e = IsBoundMethod e.0 table e.1 e.2

module _ (w : Word) (es : Parts) (n : RawTerm) (y : RawParts) (table : Names) (one : NameBound w n table) where
  pub method_exact : (a : RawAtom) → CalledExact task_place (found task es) a table → PartsKnown parted.Method es y table → ItemExact IsMethodOf IsReadMethod (Front w es n y table one (codes ":method")) (method_with n y a) table
  method_exact a c (h, l) (v, tasks, actions) m = (to, from)
    where
      net : IsBoundNetwork v table tasks actions (map (variable v) m.params) (network_of y) m.children m.pairs m.constraints ↔ IsNetwork v tasks actions (map (variable v) m.params) (ids_by_place v m.children) m.children m.pairs m.constraints es
      net = network_exact parted.Method es y table h v tasks actions (map (variable v) m.params) m.children m.pairs m.constraints

      to : IsBoundMethod v table tasks actions (method_with n y a) m → IsMethod v tasks actions m (headed (codes ":method") (part (name w) es))
      to b = record {
        entries = es;
        is = same_front w es n y table one (codes ":method") (named v.names m.name) b.name;
        named = same_name w es n y table one (named v.names m.name) b.name;
        form = l.0;
        params = (h.params v m.params).0 b.params;
        head = (c v tasks (map (variable v) m.params) m.task m.task_args).0 b.head;
        pre = (h.pre v (map (variable v) m.params) m.pre).0 b.pre;
        network = net.0 b.network;
      }

      from : IsMethod v tasks actions m (headed (codes ":method") (part (name w) es)) → IsBoundMethod v table tasks actions (method_with n y a) m
      from i =
          let e = read_entries w es n y table one (codes ":method") (named v.names m.name) i.entries i.is in
          record {
            name = read_name w es n y table one (codes ":method") (named v.names m.name) i.entries i.is;
            params = (h.params v m.params).1 (subst (λ es. AreParams v m.params (found parameters es)) e i.params);
            head = (c v tasks (map (variable v) m.params) m.task m.task_args).1 (subst (λ es. IsHeadOf v tasks actions (map (variable v) m.params) m.task m.task_args (found task es)) e i.head);
            pre = (h.pre v (map (variable v) m.params) m.pre).1 (subst (λ es. IsFormula v m.pre (map (variable v) m.params) (found precondition es)) e i.pre);
            network = net.1 (subst (IsNetwork v tasks actions (map (variable v) m.params) (ids_by_place v m.children) m.children m.pairs m.constraints) e i.network);
          }

pub top_exact : (es : Parts) (y : RawParts) (table : Names) → PartsKnown parted.Network es y table → (v : Declared) (tasks actions : List Word) (m : MethodSchema)
    → IsBoundTop v table tasks actions (or_none y.params) (network_of y) m ↔ IsTop v tasks actions m es
top_exact es y table (h, l) v tasks actions m = (to, from)
  where
    net : IsBoundNetwork v table tasks actions (map (variable v) m.params) (network_of y) m.children m.pairs m.constraints ↔ IsNetwork v tasks actions (map (variable v) m.params) (ids_by_place v m.children) m.children m.pairs m.constraints es
    net = network_exact parted.Network es y table h v tasks actions (map (variable v) m.params) m.children m.pairs m.constraints

    to : IsBoundTop v table tasks actions (or_none y.params) (network_of y) m → IsTop v tasks actions m es
    to b = record { named = b.name; task = b.task; task_args = b.task_args; pre = b.pre; form = l.0; params = (h.params v m.params).0 b.params_bound; network = net.0 b.network }

    from : IsTop v tasks actions m es → IsBoundTop v table tasks actions (or_none y.params) (network_of y) m
    from i = record { name = i.named; task = i.task; task_args = i.task_args; pre = i.pre; params_bound = (h.params v m.params).1 i.params; network = net.1 i.network }
