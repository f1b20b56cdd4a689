-- What texts first name, and in which order, is what was read of them, by its offsets.
use Rattle.std.proofs.Common.{◌≡◌, ◌∙◌, ℕ, true, ◌&&◌, codes, Some, None, Option, List, [], ◌∷◌, ◌++◌, map, refl, sym, ap, subst}
use Rattle.std.proofs.lemmas.List.Sorted.{Contains-permutation, IsPermutation-sym}
use Rattle.std.specs.Cmp.Lexicographic.{pointwise}
use Rattle.std.specs.List.{flat_map}
use Rattle.std.specs.List.Sorted.{IsPermutation}
use Rattle.std.specs.Str.{bytes_eq}
use Rattle.htn_base.specs.declared.name.Name.{Name}
use Rattle.text_forms.specs.Lists.{Parts}
use Rattle.text_forms.specs.Words.{Word}
use Rattle.plan_texts.specs.Domains.{IsDefinition}
use Rattle.plan_texts.specs.FirstSeen.{type_words_in, type_items, types_in_order, but_first, pairs_from, unions_in_all, first_unions, unions_in_order}
use Rattle.plan_texts.specs.TypedLists.{first_seen}
use Rattle.plan_texts.proofs.Basics.{bytes_eq-refl}
use Rattle.plan_texts.proofs.Members.{contains-has, has-contains}
use Rattle.gd_reader.specs.Terms.{Names, Keeps}
use Rattle.hddl_reader.specs.declared.parts.RawParts.{RawParts}
use Rattle.hddl_reader.specs.declared.sections.Definition.TheVariants as definition
use Rattle.hddl_reader.specs.declared.sections.Language.{Language}
use Rattle.hddl_reader.specs.declared.sections.RawDomain.{RawDomain}
use Rattle.hddl_reader.specs.declared.sections.RawHead.{RawHead}
use Rattle.hddl_reader.specs.declared.sections.RawProblem.{RawProblem}
use Rattle.hddl_reader.specs.declared.raw_sections.RawSections.{RawSections}
use Rattle.hddl_reader.specs.Definitions.{domain_of, or_empty, problem_of, IsRead}
use Rattle.hddl_reader.specs.Sections.{or_none}
use Rattle.text_values.specs.form_spellings.SeenInOrder.{type_parts, IsWrittenAs, AreSorted, AreSeen, AllAreSeen}
use Rattle.text_values.specs.form_spellings.Written.{Written, Union, all_written, type_words, item_written, params_unions, head_unions, method_unions, action_unions, domain_unions, problem_unions}
use Rattle.text_values.proofs.form_spellings.TextsRead.{read_of}
use Rattle.text_values.proofs.form_spellings.order.Climbs.{Climbs, climbs_rise}
use Rattle.text_values.proofs.form_spellings.seen.Adding.{Same, same_then, adds_all, contained, in_option}
use Rattle.text_values.proofs.form_spellings.seen.Definitions.{SeenOf, text_seen}
use Rattle.text_values.proofs.form_spellings.seen.Erased.{unions_at, unions_erased, unions_climb}
use Rattle.text_values.proofs.form_spellings.seen.Heads.{formula_or_true}
use Rattle.text_values.proofs.form_spellings.seen.Sections.{section_words, section_words_erased, section_words_climb, sections_unions, network_in}
use Rattle.text_values.proofs.form_spellings.seen.Sorted.{place, kept_same, kept_both}
use Rattle.text_values.proofs.form_spellings.seen.TypeWords.{items_seen}

-- A list that was read, by what the text shows at rising places.
pub record IsShown {X : Type 0} (read : List (Written X)) (text : List X) : Type 0 where
  pub ordered : List (Written X)
  pub from : ℕ
  pub to : ℕ
  pub climbs : Climbs place from ordered to
  pub same : Same read ordered
  pub text_is : text ≡ all_written ordered

written_as : {X : Type 0} (read : List (Written X)) (text : List X) → IsShown read text → IsWrittenAs read text
written_as read text s = record { ordered = s.ordered; rise = climbs_rise place s.ordered s.from s.to s.climbs; same = contained read s.ordered s.same; text_is = s.text_is }

permuted : {X : Type 0} (xs ys : List X) → IsPermutation xs ys → Same ys xs
permuted xs ys p x = (
  λ h. contains-has xs x (Contains-permutation ys xs x (IsPermutation-sym xs ys p) (has-contains ys x h)),
  λ h. contains-has ys x (Contains-permutation xs ys x p (has-contains xs x h)),
)

-- words of types
pub words_kept : (read words : List (Written Word)) (text seen : List Word) → IsShown read text → AreSorted read words → first_seen seen (all_written words) ≡ first_seen seen text
words_kept read words text seen s a =
    kept_same bytes_eq bytes_eq-refl first_seen (λ seen. refl) (λ seen x xs. refl) words s.ordered seen s.from s.to a.rise s.climbs (same_then words read s.ordered (permuted read words a.same) s.same)
    ∙ ap (first_seen seen) (sym s.text_is)

-- unions
alike : (us : List Word) → pointwise bytes_eq us us ≡ true
alike [] = refl
alike (w ∷ us) = λ i. bytes_eq-refl w i && alike us i

unions_kept : (read us : List Union) (text : List (List Word)) (seen : List (List Word)) → IsShown read text → AreSorted read us → first_unions seen (all_written us) ≡ first_unions seen text
unions_kept read us text seen s a =
    kept_same (pointwise bytes_eq) alike first_unions (λ seen. refl) (λ seen x xs. refl) us s.ordered seen s.from s.to a.rise s.climbs (same_then us read s.ordered (permuted read us a.same) s.same)
    ∙ ap (first_unions seen) (sym s.text_is)

-- What the fields that were read say.
module _ (table : Names) where
  heads_or_none : (o : Option (List RawHead)) → flat_map (head_unions table) (or_none o) ≡ in_option (flat_map (head_unions table)) o
  heads_or_none None = refl
  heads_or_none (Some hs) = refl

  network_or_empty : (o : Option RawParts) → params_unions table (or_none (or_empty o).params) ≡ in_option (network_in table) o
  network_or_empty None = refl
  network_or_empty (Some y) = refl

  domain_fields : (x : Name × RawSections) → domain_unions table (domain_of x) ≡ sections_unions table definition.Domain x.1
  domain_fields x = ap (λ us. us ++ (flat_map (head_unions table) x.1.tasks ++ (flat_map (action_unions table) x.1.actions ++ flat_map (method_unions table) x.1.methods))) (heads_or_none x.1.predicates)

  problem_fields : (x : Name × RawSections) → problem_unions table (problem_of x) ≡ sections_unions table definition.Problem x.1
  problem_fields x i = network_or_empty x.1.network i ++ formula_or_true table x.1.goal i

types_shown : (x : Name × RawSections) (table : Names) (ss : Parts) → SeenOf definition.Domain ss x table → IsShown (type_words table (domain_of x).types) (type_words_in (type_parts ss))
types_shown x table ss (q, r, e, s) = record {
  ordered = section_words q;
  from = r.0;
  to = r.1;
  climbs = section_words_climb q r.0 r.1 r.2;
  same = s.types;
  text_is = ap (λ ps. type_words_in (type_parts ps)) (sym e) ∙ sym (section_words_erased q);
}

domain_shown : (x : Name × RawSections) (table : Names) (ss : Parts) → SeenOf definition.Domain ss x table → IsShown (domain_unions table (domain_of x)) (unions_in_all ss)
domain_shown x table ss (q, r, e, s) = record {
  ordered = unions_at q;
  from = r.0;
  to = r.1;
  climbs = unions_climb q r.0 r.1 r.2;
  same = subst (λ us. Same us (unions_at q)) (sym (domain_fields table x)) (adds_all (sections_unions table definition.Domain x.1) (unions_at q) s.unions);
  text_is = ap unions_in_all (sym e) ∙ sym (unions_erased q);
}

problem_shown : (x : Name × RawSections) (table : Names) (ss : Parts) → SeenOf definition.Problem ss x table → IsShown (problem_unions table (problem_of x)) (unions_in_all ss)
problem_shown x table ss (q, r, e, s) = record {
  ordered = unions_at q;
  from = r.0;
  to = r.1;
  climbs = unions_climb q r.0 r.1 r.2;
  same = subst (λ us. Same us (unions_at q)) (sym (problem_fields table x)) (adds_all (sections_unions table definition.Problem x.1) (unions_at q) s.unions);
  text_is = ap unions_in_all (sym e) ∙ sym (unions_erased q);
}

-- What was read of two texts is in the order of their sections.
module _ (table : Names) (d : RawDomain) (p : RawProblem) (domain problem : Parts) (ws : IsShown (type_words table d.types) (type_words_in (type_parts domain))) (is : type_items (type_parts domain) ≡ map (item_written table) d.types)
    (us : IsShown (domain_unions table d) (unions_in_all domain)) (vs : IsShown (problem_unions table p) (unions_in_all problem)) where
  both_kept : (xs ys : List Union) → AreSorted (domain_unions table d) xs → AreSorted (problem_unions table p) ys → unions_in_order domain problem ≡ first_unions [] (all_written xs ++ all_written ys)
  both_kept xs ys a b =
      kept_both (pointwise bytes_eq) alike first_unions (λ seen. refl) (λ seen x xs. refl) (unions_in_all domain) (all_written xs) (unions_in_all problem) (all_written ys) []
      (sym (unions_kept (domain_unions table d) xs (unions_in_all domain) [] us a)) (λ seen. sym (unions_kept (problem_unions table p) ys (unions_in_all problem) seen vs b))

  all_seen : AreSeen table d p domain problem
  all_seen = record {
    words_are = written_as (type_words table d.types) (type_words_in (type_parts domain)) ws;
    items_are = is;
    in_domain = written_as (domain_unions table d) (unions_in_all domain) us;
    in_problem = written_as (problem_unions table p) (unions_in_all problem) vs;
    types = λ words a. ap (λ us. codes "object" ∷ us) (sym (words_kept (type_words table d.types) words (type_words_in (type_parts domain)) (codes "object" ∷ []) ws a));
    pairs = ap (pairs_from 1 (types_in_order (type_parts domain)) (but_first (types_in_order (type_parts domain)))) is;
    unions = both_kept;
  }

-- the items of the section of types
text_items : (l : Language) (text : List ℕ) (names left later : Names) (x : Name × RawSections) → IsRead l definition.Domain names text x left → Keeps left later → (w : Word) (ss : Parts) → IsDefinition (codes "domain") text w ss
    → type_items (type_parts ss) ≡ map (item_written later) (domain_of x).types
text_items l text names left later x is keeps w ss i = items_seen (type_parts ss) (domain_of x).types later (read_of l definition.Domain (codes "domain") text names left later x is keeps w ss i).1.types

pub texts_seen : AllAreSeen
texts_seen l domain problem table d p r u v t =
    let dr = r.domain_read in
    let pr = r.problem_read in
    let ds = text_seen l definition.Domain (codes "domain") domain r.before_domain r.behind_domain table dr.0 dr.2 r.keeps_domain u t.domain_sections t.domain_text in
    let ps = text_seen l definition.Problem (codes "problem") problem r.before_problem r.behind_problem table pr.0 pr.2 r.keeps_problem v t.problem_sections t.problem_text in
    let items = text_items l domain r.before_domain r.behind_domain table dr.0 dr.2 r.keeps_domain u t.domain_sections t.domain_text in
    subst (λ d. AreSeen table d p t.domain_sections t.problem_sections) (sym dr.1) (subst (λ p. AreSeen table (domain_of dr.0) p t.domain_sections t.problem_sections) (sym pr.1)
    (all_seen table (domain_of dr.0) (problem_of pr.0) t.domain_sections t.problem_sections (types_shown dr.0 table t.domain_sections ds) items (domain_shown dr.0 table t.domain_sections ds) (problem_shown pr.0 table t.problem_sections ps)))
