-- What was read of a predicate, a task, an action, a method or a problem's network is bound to exactly what it spells.
use Rattle.std.proofs.Common.{◌≡◌, ◌↔◌, ℕ, codes, Ok, Option, sym, subst}
use Rattle.text_forms.specs.Placed.{Placed, parts_of, IsWhole}
use Rattle.text_forms.specs.Printing.{headed}
use Rattle.plan_texts.specs.Networks.{IsMethod}
use Rattle.plan_texts.specs.Schemas.{IsPredicate}
use Rattle.gd_reader.specs.declared.term.RawTerm.{RawTerm}
use Rattle.gd_reader.specs.Terms.{Names, Keeps}
use Rattle.hddl_reader.specs.declared.parts.Parted.{Parted}
use Rattle.hddl_reader.specs.declared.parts.Parted.TheVariants as parted
use Rattle.hddl_reader.specs.declared.parts.RawParts.{RawParts}
use Rattle.hddl_reader.specs.declared.sections.RawHead.{RawHead}
use Rattle.hddl_reader.specs.declared.sections.RawMethod.{RawMethod}
use Rattle.hddl_reader.specs.Networks.{one_of}
use Rattle.hddl_reader.specs.Parts.{no_parts, parts}
use Rattle.hddl_reader.specs.Sections.{predicate_headed, named_parts}
use Rattle.text_values.specs.form_spellings.ReadSchemas.{IsReadPredicate, IsReadTask, IsReadAction, IsBoundIfThere, IsReadMethod, IsReadTop}
use Rattle.text_values.specs.form_spellings.SpellsSome.{StandUpToEnd}
use Rattle.text_values.proofs.form_spellings.FactsExact.{IsReadPredicate as IsBoundTo, one_predicate_exact, predicate_whole}
use Rattle.text_values.proofs.form_spellings.ItemsExact.{ItemExact}
use Rattle.text_values.proofs.form_spellings.NamesIn.{stands}
use Rattle.text_values.proofs.form_spellings.NetworksRead.{with_end}
use Rattle.text_values.proofs.form_spellings.SchemasExact.{PartsKnown, parts_known, NamedKnown, named_known, top_exact}
use Rattle.text_values.proofs.form_spellings.SectionsExact.{task_of, action_of_parts, method_of_parts}

pub predicates_read : (place : ℕ) (names left later : Names) (p : Placed) (r : RawHead) → one_of predicate_headed names place p ≡ Ok (r, left) → Keeps left later → IsReadPredicate later r p
predicates_read place names left later p r e k v x =
    with_end (stands (λ r table. IsWhole p) names left (one_of predicate_headed names place p) r e (predicate_whole p names place) later k) (stands (ItemExact IsPredicate IsBoundTo (parts_of p)) names left (one_of predicate_headed names place p) r e (one_predicate_exact p names place) later k v x)

-- what is known of a name and its parts
known : (of : Parted) (names left later : Names) (p : Placed) (r : RawTerm × RawParts) → named_parts of names p ≡ Ok (r, left) → Keeps left later → IsWhole p × NamedKnown of (parts_of p) r later
known of names left later p r e k = stands (λ x table. IsWhole p × NamedKnown of (parts_of p) x table) names left (named_parts of names p) r e (named_known of p names) later k

pub tasks_read : (names left later : Names) (p : Placed) (r : RawTerm × RawParts) → named_parts parted.Task names p ≡ Ok (r, left) → Keeps left later → IsReadTask later r p
tasks_read names left later p r e k v x = let h = known parted.Task names left later p r e k in with_end h.0 (task_of (parts_of p) r later h.1 v x)

pub actions_read : (names left later : Names) (p : Placed) (r : RawTerm × RawParts) → named_parts parted.Action names p ≡ Ok (r, left) → Keeps left later → IsReadAction later r p
actions_read names left later p r e k v x = let h = known parted.Action names left later p r e k in with_end h.0 (action_of_parts (parts_of p) r later h.1 v x)

pub methods_read : (names left later : Names) (p : Placed) (r : RawTerm × RawParts) → named_parts parted.Method names p ≡ Ok (r, left) → Keeps left later → IsReadMethod later r p
methods_read names left later p r e k v tasks actions x =
    let h = known parted.Method names left later p r e k in
    let m = method_of_parts (parts_of p) r later h.1 in
    subst (λ (o : Option RawMethod). IsBoundIfThere v later tasks actions o x ↔ StandUpToEnd (λ ps. IsMethod v tasks actions x (headed (codes ":method") ps)) p) (sym m.1) (with_end h.0 (m.2 (v, tasks, actions) x))

pub tops_read : (names left later : Names) (p : Placed) (r : RawParts) → parts parted.Network no_parts names p ≡ Ok (r, left) → Keeps left later → IsReadTop later r p
tops_read names left later p r e k v tasks actions x =
    let h = stands (λ y table. IsWhole p × PartsKnown parted.Network (parts_of p) y table) names left (parts parted.Network no_parts names p) r e (parts_known parted.Network p names) later k in
    with_end h.0 (top_exact (parts_of p) r later h.1 v tasks actions x)
