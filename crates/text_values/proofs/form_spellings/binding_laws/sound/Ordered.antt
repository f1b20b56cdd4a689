-- The networks of the value of a domain and a problem without faults: sound, and without a cycle.
use Rattle.std.proofs.Common.{ℕ, ◌≡◌, [], ◌++◌, length, refl, sym, subst}
use Rattle.gd_reader.specs.Terms.{Names}
use Rattle.hddl_reader.specs.declared.sections.Language.{Language}
use Rattle.hddl_reader.specs.declared.sections.RawDomain.{RawDomain}
use Rattle.hddl_reader.specs.declared.sections.RawProblem.{RawProblem}
use Rattle.plan_model.specs.plan_meaning.Laws.{AreOrdered}
use Rattle.plan_model.specs.Pairs.{pair}
use Rattle.plan_model.specs.declared.values.Hddl.{Hddl}
use Rattle.plan_texts.specs.SoundProblem.{NamesSubtasks, all_methods}
use Rattle.plan_texts.specs.Types.{EachIs}
use Rattle.plan_texts.proofs.SoundProblems.{each-contains}
use Rattle.name_binding.specs.declared.known.Known.{Known}
use Rattle.hddl_bind.specs.Callables.{Declared}
use Rattle.name_binding.specs.Formulas.{formula_faults}
use Rattle.name_binding.specs.Typed.{params_faults}
use Rattle.hddl_bind.specs.Networks.{network_faults}
use Rattle.hddl_bind.specs.Actions.{actions_faults}
use Rattle.hddl_bind.specs.DeclaredNames.{objects_declared, second_objects}
use Rattle.hddl_bind.specs.DomainSchemas.{typed_faults}
use Rattle.hddl_bind.specs.Facts.{facts_faults}
use Rattle.hddl_bind.specs.Methods.{methods_faults}
use Rattle.hddl_bind.specs.ProblemParts.{top_scope, top_faults, parts_faults}
use Rattle.hddl_bind.specs.WholeDomains.{DomainBinding, IsObject, bound_by, faults_by}
use Rattle.hddl_bind.specs.WholeProblems.{ProblemBinding, with_start, IsStart, hddl_bound}
use Rattle.hddl_bind.specs.WholeProblems as problem
use Rattle.text_values.specs.form_spellings.binding_laws.SoundValues.{IsOrderedBoth}
use Rattle.text_values.specs.form_spellings.binding_laws.WholeFaults.{AreInOrder}
use Rattle.text_values.specs.form_spellings.binding_laws.WholeValues.{OfAllBound}
use Rattle.text_values.proofs.form_spellings.binding_laws.FromOrder.{network_in}
use Rattle.text_values.proofs.form_spellings.binding_laws.WholeValues as whole
use Rattle.text_values.proofs.form_spellings.binding_laws.Written.{none_right}
use Rattle.text_values.proofs.form_spellings.binding_laws.sound.GoodNetworks.{IsGoodNetwork, network_good, methods_good}

module _ (before left : Names) (d : RawDomain) (p : RawProblem) (is : AreInOrder before (with_start left) d p) (object : ℕ) (of_object : IsObject before object) (l : Language) (x : DomainBinding l object d) (ex : faults_by l object d x ≡ [])
    (start : ℕ) (of_start : IsStart (with_start left) start) (y : ProblemBinding (bound_by l object d x) p) (ey : problem.faults_by (bound_by l object d x) p y ≡ []) where
  abbrev value : Hddl
  value = hddl_bound (bound_by l object d x) y.unions p left start

  abbrev known : Known
  known = whole.known before left d p is object of_object l x ex start of_start y ey

  abbrev more_known : Known
  more_known = whole.more_known before left d p is object of_object l x ex start of_start y ey

  abbrev callables : Declared
  callables = whole.callables before left d p is object of_object l x ex start of_start y ey

  pub parts_none : parts_faults more_known callables p y.cycle ≡ []
  parts_none = none_right (second_objects (objects_declared d.constants) p.objects) (parts_faults more_known callables p y.cycle) ey

  pub top_none : network_faults callables more_known.objects (top_scope p) p.net y.cycle ≡ []
  top_none =
      let facts = none_right (params_faults more_known.types p.objects) (facts_faults more_known p.init ++ (formula_faults more_known [] p.goal ++ top_faults more_known callables p y.cycle)) parts_none in
      let goal = none_right (facts_faults more_known p.init) (formula_faults more_known [] p.goal ++ top_faults more_known callables p y.cycle) facts in
      let top = none_right (formula_faults more_known [] p.goal) (top_faults more_known callables p y.cycle) goal in
      none_right (params_faults more_known.types p.params) (network_faults callables more_known.objects (top_scope p) p.net y.cycle) top

  top_good : IsGoodNetwork (with_start left) value.top
  top_good = network_good (with_start left) callables more_known.objects (top_scope p) p.net y.cycle value.top (network_in (with_start left) is.differ p.net is.problem.words.net is.problem.net.ids_in_order) is.problem.net y.is_cycle top_none refl refl

  pub methods_none : methods_faults known callables d.methods x.cycles ≡ []
  methods_none =
      let none = whole.schemas_none before left d p is object of_object l x ex start of_start y ey in
      none_right (actions_faults known d.actions) (methods_faults known callables d.methods x.cycles) (none_right (typed_faults known.types d) (actions_faults known d.actions ++ methods_faults known callables d.methods x.cycles) none)

  pub all_good : EachIs (IsGoodNetwork (with_start left)) (all_methods value)
  all_good = (top_good, methods_good (with_start left) callables is.differ known d.methods x.cycles is.domain.words.methods is.domain.methods x.are_cycles methods_none)

  pub ordered : AreOrdered value
  ordered s c =
      let good = each-contains (IsGoodNetwork (with_start left)) (all_methods value) all_good s c in
      (λ i j h. each-contains (NamesSubtasks (length s.children)) s.pairs good.sound.pairs (pair i j) h, good.acyclic)

pub is_ordered_both : OfAllBound IsOrderedBoth
is_ordered_both before left d p l b h is (object, of_object, (x, ex, same)) (start, of_start, (y, ey, is_value)) =
    let r = subst (λ b. (y : ProblemBinding b p) × (problem.faults_by b p y ≡ []) × (h ≡ hddl_bound b y.unions p left start)) same (y, ey, is_value) in
    subst AreOrdered (sym r.2) (ordered before left d p is object of_object l x ex start of_start r.0 r.1)
