-- What is bound of a domain and a problem is in the order of what was read.
use Rattle.std.proofs.Common.{ℕ, ◌≡◌, ◌<◌, inl, inr, List, [], ◌∷◌, ◌++◌, map, length, Option, Some, None, refl, sym, ap, subst, ◌∙◌}
use Rattle.std.specs.Prelude.{codes, unwrap_or}
use Rattle.std.specs.List.{fold}
use Rattle.std.specs.List.Sorted.{IsPermutation}
use Rattle.std.proofs.lemmas.List.{length-map, map-append}
use Rattle.std.proofs.lemmas.List.Sums.{fold-append}
use Rattle.std.proofs.lemmas.List.Sorted.{Contains-permutation, IsPermutation-sym, IsPermutation-map}
use Rattle.htn_base.specs.Different.{AreDifferent}
use Rattle.htn_base.specs.Table.{with_word}
use Rattle.text_forms.specs.Words.{Word, word_at}
use Rattle.text_forms.specs.Words as words
use Rattle.gd_reader.specs.Terms.{Names}
use Rattle.gd_reader.specs.declared.term.RawTerm.{RawTerm}
use Rattle.gd_reader.specs.declared.typed_lists.RawParam.{RawParam}
use Rattle.hddl_reader.specs.declared.sections.Language.{Language}
use Rattle.hddl_reader.specs.declared.sections.Language.TheVariants as language
use Rattle.hddl_reader.specs.declared.sections.RawDomain.{RawDomain}
use Rattle.hddl_reader.specs.declared.sections.RawProblem.{RawProblem}
use Rattle.plan_model.specs.declared.values.Hddl.{Hddl}
use Rattle.plan_texts.specs.FirstSeen.{place_or_zero, first_unions}
use Rattle.plan_texts.specs.SpellsHddl.{hddl_words, hddl_types, hddl_unions}
use Rattle.plan_texts.specs.TypedLists.{first_seen}
use Rattle.plan_texts.specs.Types.{EachIs}
use Rattle.plan_texts.proofs.Unique.{map-map}
use Rattle.text_values.specs.form_spellings.HddlInOrder.{IsBoundInOrder}
use Rattle.text_values.specs.form_spellings.InTable.{IsIn}
use Rattle.text_values.specs.form_spellings.Rising as rising
use Rattle.text_values.specs.form_spellings.SeenInOrder.{AreSorted, types_of, pairs_of}
use Rattle.text_values.specs.form_spellings.Written.{Union, all_written, word_written, type_words, item_written}
use Rattle.text_values.specs.form_spellings.Written as written
use Rattle.text_values.proofs.form_spellings.seen.Bound.{bound_is_of_texts}
use Rattle.text_values.proofs.form_spellings.seen.Mapped.{unions_mapped}
use Rattle.text_values.proofs.form_spellings.seen.TypeLists.{mapped_rise}
use Rattle.hddl_reader.specs.names.Faults.{HasDomainFault, HasProblemFault, HasNoFault}
use Rattle.htn_base.specs.Lists.{Has}
use Rattle.hddl_reader.specs.names.Standing.{InDomain, InProblem}
use Rattle.hddl_reader.specs.names.Uses.{Scope, declares}
use Rattle.hddl_reader.specs.names.Words.{term_word}
use Rattle.name_binding.specs.Places as numbers
use Rattle.name_binding.specs.Kinds.{Kinds, kind_faults}
use Rattle.name_binding.specs.Mentions.{mentioned, own_word}
use Rattle.name_binding.specs.Parents.{place_of}
use Rattle.name_binding.specs.Unions.{members_of, AreWith}
use Rattle.name_binding.specs.declared.unions.Either.{Either}
use Rattle.hddl_bind.specs.WholeDomains.{DomainBinding, IsObject, bound_by, faults_by}
use Rattle.hddl_bind.specs.WholeProblems.{ProblemBinding, with_start, hddl_bound}
use Rattle.hddl_bind.specs.WholeProblems as problem
use Rattle.hddl_bind.specs.WholeUnions.{domain_unions, problem_unions}
use Rattle.text_values.specs.form_spellings.binding_laws.InOrder.{IsTypedName}
use Rattle.text_values.specs.form_spellings.binding_laws.Kinds.{AreTypesOf, AreTermsIn}
use Rattle.text_values.specs.form_spellings.binding_laws.Numbers.{words_of}
use Rattle.text_values.specs.form_spellings.binding_laws.SeenBound.{IsInSeenOrder, IsOfTexts}
use Rattle.text_values.specs.form_spellings.binding_laws.TypeWords.{AreTypesIn}
use Rattle.text_values.specs.form_spellings.binding_laws.WholeFaults.{AreInOrder}
use Rattle.text_values.specs.form_spellings.binding_laws.WholeValues.{OfAllBound}
use Rattle.text_values.proofs.form_spellings.binding_laws.BoundTypes.{own_at, parent_at, in_table}
use Rattle.text_values.proofs.form_spellings.binding_laws.NumberedTypes.{in_domain, in_problem, no_spot}
use Rattle.text_values.proofs.form_spellings.binding_laws.Numbered.{contains_has, has_contains}
use Rattle.text_values.proofs.form_spellings.binding_laws.Ones.{each_has, has_each, each_both, each_mapped}
use Rattle.text_values.proofs.form_spellings.binding_laws.Places.{have_one_place, same_word}
use Rattle.text_values.proofs.form_spellings.binding_laws.TypeWords.{has_types, has_types_in_order}
use Rattle.text_values.proofs.form_spellings.binding_laws.WholeFaults.{types_in, domain_none, problem_none}
use Rattle.text_values.proofs.form_spellings.binding_laws.WholeValues.{is_bound_both}
use Rattle.text_values.proofs.form_spellings.binding_laws.WordsInUse.{type_words_are}
use Rattle.text_values.proofs.form_spellings.binding_laws.Written.{has_kind_faults}
use Rattle.text_values.proofs.form_spellings.binding_laws.seen.Pairs.{IsPlaced, pairs_are}
use Rattle.text_values.proofs.form_spellings.binding_laws.seen.Unions.{said, Agree, AreTypes, domain_agrees, problem_agrees}

-- the words of a section of types, as binding and as reading has them
same_mentioned : (xs : List RawParam) → mentioned xs ≡ rising.mentioned xs
same_mentioned [] = refl
same_mentioned (x ∷ xs) = ap (λ ts. own_word x ∷ (x.ty ++ ts)) (same_mentioned xs)

zero_or : (o : Option ℕ) → place_or_zero o ≡ unwrap_or o 0
zero_or None = refl
zero_or (Some k) = refl

module _ (before left : Names) (d : RawDomain) (p : RawProblem) (is : AreInOrder before (with_start left) d p) (object : ℕ) (of_object : IsObject before object) (l : Language) (x : DomainBinding l object d) (ex : faults_by l object d x ≡ [])
    (start : ℕ) (y : ProblemBinding (bound_by l object d x) p) (ey : problem.faults_by (bound_by l object d x) p y ≡ []) where
  abbrev names : Names
  names = with_start left

  abbrev kinds : Kinds
  kinds = x.kinds

  -- without unions
  abbrev types_alone : Kinds
  types_alone = record { types = kinds.types; unions = [] }

  abbrev value : Hddl
  value = hddl_bound (bound_by l object d x) y.unions p left start

  abbrev W : List Word
  W = words_of names kinds.types

  in_types : AreTypesIn names object d.types
  in_types = types_in before names d p is object of_object

  abbrev texts : List RawTerm
  texts = x.are_kinds.types.0

  are_types : AreTypesOf names d kinds × AreDifferent W
  are_types = has_types names object d kinds in_types x.are_kinds.types

  of_alone : AreTypesOf names d types_alone
  of_alone = let of = are_types.0 in record { differ = of.differ; known = of.known; words = of.words }

  no_domain : HasNoFault (HasDomainFault l names d)
  no_domain = domain_none before names d p is object of_object l x ex

  no_problem : HasNoFault (HasProblemFault names d p)
  no_problem = problem_none before names d p is object of_object l x y ey

  abbrev rest : List Word
  rest = first_seen (codes "object" ∷ []) (map (term_word names) texts)

  first : W ≡ codes "object" ∷ rest
  first = ap (words_of names) x.are_kinds.types.2 ∙ has_types_in_order names object d texts in_types x.are_kinds.types.1

  type_words_said : hddl_types value ≡ W
  type_words_said = type_words_are names kinds.types

  -- types
  words_sorted : AreSorted (type_words names d.types) (map (word_written names) texts)
  words_sorted = record {
    same = subst (λ ts. IsPermutation (map (word_written names) ts) (map (word_written names) texts)) (same_mentioned d.types) (IsPermutation-map (word_written names) (mentioned d.types) texts x.are_kinds.types.1.same);
    rise = mapped_rise (word_written names) texts x.are_kinds.types.1.rise;
  }

  types_seen : hddl_types value ≡ types_of (all_written (map (word_written names) texts))
  types_seen = type_words_said ∙ first ∙ ap types_of (map-map (word_written names) (λ w. w.is) texts)

  -- pairs
  same_place : (n : ℕ) → n < length names → place_or_zero (words.first_place (word_at names n) W) ≡ unwrap_or (numbers.first_place n kinds.types) 0
  same_place n l = ap place_or_zero (have_one_place names n kinds.types are_types.0.differ l are_types.0.known).0 ∙ zero_or (numbers.first_place n kinds.types)

  placed : EachIs (IsPlaced names kinds.types d.types W are_types.1) d.types
  placed = has_each (IsPlaced names kinds.types d.types W are_types.1) d.types one
    where
      one : (z : RawParam) → Has d.types z → IsPlaced names kinds.types d.types W are_types.1 z
      one z h =
          let own = own_at names object d (hddl_words value) kinds in_types are_types.0 are_types.1 rest first is.domain.types (λ at c. no_domain at 12 (HasDomainFault.type_cycle c)) z h in
          let typed = each_has (IsTypedName names) d.types z is.domain.types h in
          record { own_below = own.0; own_is = own.1; one = typed.one_type; each = has_each _ z.ty parent }
        where
          parent : (t : RawTerm) → Has z.ty t → (place_of kinds.types t ≡ place_or_zero (words.first_place (term_word names t) W)) × ((place_or_zero (words.first_place (term_word names t) W) < length W) × (word_at W (place_or_zero (words.first_place (term_word names t) W)) ≡ term_word names t))
          parent t i =
              let none : (at : ℕ) → _ = λ at c. no_domain at 12 (HasDomainFault.type_cycle c) in
              let in_names = in_table names object d (hddl_words value) kinds in_types are_types.0 are_types.1 rest first is.domain.types none z h in
              let s = same_place t.name.number (each_has (λ (t : RawTerm). IsIn names t.name) z.ty t in_names.1 i) in
              let stands = parent_at names object d (hddl_words value) kinds in_types are_types.0 are_types.1 rest first is.domain.types none z t h i in
              (sym s, subst (λ k. (k < length W) × (word_at W k ≡ term_word names t)) (sym s) stands)

  pairs_seen : value.types.parents ≡ pairs_of (hddl_types value) (map (item_written names) d.types)
  pairs_seen =
      pairs_are names kinds.types d.types W are_types.1 placed (codes "object") rest first (sym (length-map kinds.types (word_at names)))
      ∙ ap (λ ws. pairs_of ws (map (item_written names) d.types)) (sym type_words_said)

  -- unions
  of_domain_types : (here : Scope) (z : RawParam) → InDomain names d here (declares z) → AreTypes names d types_alone of_alone are_types.1 z.ty
  of_domain_types here z s =
      let terms : AreTermsIn names z.ty = elim (in_domain names types_alone d is.domain here z s) [ inl w ↦ w.types_in | inr w ↦ w.0 ] in
      (terms, no_spot (kind_faults types_alone z.ty) (λ code at h. no_domain at 11 (HasDomainFault.unknown_type (here, z, s, ((has_kind_faults names d types_alone z.ty code at of_alone terms).0 h).1))))

  of_problem_types : (here : Scope) (z : RawParam) → InProblem names p here (declares z) → AreTypes names d kinds are_types.0 are_types.1 z.ty
  of_problem_types here z s =
      let terms : AreTermsIn names z.ty = elim (in_problem names kinds p is.problem here z s) [ inl w ↦ w.types_in | inr w ↦ w.0 ] in
      (terms, no_spot (kind_faults kinds z.ty) (λ code at h. no_problem at 11 (HasProblemFault.unknown_type (here, z, s, ((has_kind_faults names d kinds z.ty code at are_types.0 terms).0 h).1))))

  abbrev ew : Either → Union
  ew = said names d kinds are_types.0 are_types.1

  abbrev Bounded : Either → Type 0
  Bounded e = EachIs (λ n. n < length W) e.members

  module _ (found : List Either) (old new : List (List ℕ)) (are : AreWith found old new) (us : List Union) (same : map ew found ≡ us) (known : EachIs Bounded found) where
    unions_sorted : AreSorted us (map ew are.sorted)
    unions_sorted = record { same = subst (λ us. IsPermutation us (map ew are.sorted)) same (IsPermutation-map ew found are.sorted are.same); rise = mapped_rise ew are.sorted are.rise }

    sorted_known : EachIs Bounded are.sorted
    sorted_known = has_each Bounded are.sorted (λ e h. each_has Bounded found e known (contains_has found e (Contains-permutation are.sorted found e (IsPermutation-sym found are.sorted are.same) (has_contains are.sorted e h))))

    members_known : EachIs (EachIs (λ n. n < length W)) (map members_of are.sorted)
    members_known = each_mapped members_of (EachIs (λ n. n < length W)) are.sorted sorted_known

  in_words : (es : List Either) → map (map (word_at W)) (map members_of es) ≡ all_written (map ew es)
  in_words es = sym (map-map members_of (map (word_at W)) es) ∙ map-map ew (λ w. w.is) es

  agree_d : Agree names d types_alone of_alone are_types.1 (domain_unions types_alone d) (written.domain_unions names d)
  agree_d = domain_agrees names d types_alone of_alone are_types.1 d of_domain_types

  agree_p : Agree names d kinds are_types.0 are_types.1 (problem_unions kinds p) (written.problem_unions names p)
  agree_p = problem_agrees names d kinds are_types.0 are_types.1 p of_problem_types

  abbrev ds : List Either
  ds = x.are_kinds.unions.sorted

  abbrev ps : List Either
  ps = y.are_unions.sorted

  members_all : EachIs (EachIs (λ n. n < length W)) (map members_of ds ++ map members_of ps)
  members_all =
      each_both (EachIs (λ n. n < length W)) (map members_of ds) (map members_of ps)
      (members_known (domain_unions types_alone d) [] kinds.unions x.are_kinds.unions (written.domain_unions names d) agree_d.same agree_d.known)
      (members_known (problem_unions kinds p) kinds.unions y.unions y.are_unions (written.problem_unions names p) agree_p.same agree_p.known)

  table_is : y.unions ≡ fold with_word [] (map members_of ds ++ map members_of ps)
  table_is = y.are_unions.unions ∙ ap (λ us. fold with_word us (map members_of ps)) x.are_kinds.unions.unions ∙ sym (fold-append with_word [] (map members_of ds) (map members_of ps))

  unions_seen : hddl_unions value ≡ first_unions [] (all_written (map ew ds) ++ all_written (map ew ps))
  unions_seen =
      ap (λ ws. map (map (word_at ws)) y.unions) type_words_said ∙ ap (map (map (word_at W))) table_is
      ∙ unions_mapped (word_at W) (λ n. n < length W) (λ i j k l. same_word W i j are_types.1 k l) (map members_of ds ++ map members_of ps) members_all
      ∙ ap (first_unions []) (map-append (map (word_at W)) (map members_of ds) (map members_of ps) ∙ (λ i. in_words ds i ++ in_words ps i))

  pub in_order : IsBoundInOrder names d p value
  in_order = record {
    words = map (word_written names) texts;
    words_sorted = words_sorted;
    types = types_seen;
    pairs = pairs_seen;
    of_domain = map ew ds;
    of_domain_sorted = unions_sorted (domain_unions types_alone d) [] kinds.unions x.are_kinds.unions (written.domain_unions names d) agree_d.same agree_d.known;
    of_problem = map ew ps;
    of_problem_sorted = unions_sorted (problem_unions kinds p) kinds.unions y.unions y.are_unions (written.problem_unions names p) agree_p.same agree_p.known;
    unions = unions_seen;
  }

pub is_in_seen_order : OfAllBound IsInSeenOrder
is_in_seen_order before left d p l b h is (object, of_object, (x, ex, same)) (start, of_start, (y, ey, is_value)) =
    let r = subst (λ b. (y : ProblemBinding b p) × (problem.faults_by b p y ≡ []) × (h ≡ hddl_bound b y.unions p left start)) same (y, ey, is_value) in
    subst (IsBoundInOrder (with_start left) d p) (sym r.2) (in_order before left d p is object of_object l x ex start r.0 r.1)

pub is_of_texts : OfAllBound IsOfTexts
is_of_texts before left d p domain text r u v b h is db pb =
    bound_is_of_texts domain text (with_start left) d p r u v h (is_bound_both before left d p language.Hddl b h is db pb) (is_in_seen_order before left d p language.Hddl b h is db pb)
