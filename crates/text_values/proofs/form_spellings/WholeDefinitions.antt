-- Domains and problems as whole texts: the two grammars are one.
use Rattle.std.proofs.Common.{◌≡◌, inl, inr, true, Option, Some, None, List, [], codes, refl, sym, subst}
use Rattle.std.specs.Prelude.{◌↔◌}
use Rattle.text_forms.specs.Lists.{Part, Parts, name, group, nothing, part}
use Rattle.text_forms.specs.Placed.{Placed, cut, close, word, list, parts_of, IsWhole}
use Rattle.text_forms.specs.Printing.{headed}
use Rattle.text_forms.specs.Words.{Word, is_name}
use Rattle.text_forms.specs.form_grammar.Codes.{Whole}
use Rattle.text_forms.specs.form_grammar.Definitions.{definition_form}
use Rattle.text_forms.specs.form_grammar.Rows.{form, stop}
use Rattle.text_forms.specs.form_grammar.Sections.{Language, hddl, pddl, Definition, domain, problem, section_rows, sections, define, header, kind, title, title_end, definition_word}
use Rattle.text_forms.specs.form_grammar.Texts.{text_form, one_list, the_end}
use Rattle.text_forms.proofs.form_grammar.Meaning.{form_whole, whole_then, then_whole}
use Rattle.plan_texts.specs.Domains.{IsNameIfThere}
use Rattle.plan_texts.specs.Sections.{section, parts_in, one_in, only, content, are_sections, problem_once, domain_many}
use Rattle.plan_texts.specs.SpellsHddl.{hddl_many, hddl_problem_once}
use Rattle.text_values.specs.form_spellings.SpellsSomeParts.{AreNetworkParts, IsSomeFormula}
use Rattle.text_values.specs.form_spellings.SpellsSomeSections.{EveryPart, IsThere, AreSomeDomainSections, AreSomeProblemSections, AreSomeHddlProblemSections, IsDefined, SpellsSomeDefinition}
use Rattle.text_values.proofs.form_spellings.NetworksWhole.{in_front, list_in_front}
use Rattle.text_values.proofs.form_spellings.PartsWhole.{no_nothing}
use Rattle.text_values.proofs.form_spellings.Pieces as pieces
use Rattle.text_values.proofs.form_spellings.RowTests.{by_cons, by_here, declared_then, then_declared}
use Rattle.text_values.proofs.form_spellings.SectionTables.{AllSections, IfThere, Firsts, first_has, all_have, all_from}
use Rattle.text_values.proofs.form_spellings.SectionsListed.{once_of, SaysAt, Listed, there, all_left, sections_to, sections_from}
use Rattle.text_values.proofs.form_spellings.Topics.{requires, type_list, object_list, predicate_list, init, topic_to}
use Rattle.text_values.proofs.form_spellings.WordTests.{false_true}

-- a section that need not stand
filled : (P : Word → Parts → Type 0) (k : Word) (o : Option Parts) → P k nothing → IfThere P k o → P k (parts_in o)
filled P k None e h = e
filled P k (Some qs) e h = h

emptied : (P : Word → Parts → Type 0) (k : Word) (o : Option Parts) → P k (parts_in o) → IfThere P k o
emptied P k None h = tt
emptied P k (Some qs) h = h

none_stand : (Q R : Part → Type 0) (ps : Parts) → ((p : Part) → Q p → ⊥) → EveryPart Q ps → EveryPart R ps
none_stand Q R nothing n e = tt
none_stand Q R (part p ps) n e = absurd (n p e.0)

abbrev AllListed : Language → Definition → Parts → Type 0
AllListed l d ps = Listed l d [] (once_of l d) ps

hddl_domain_to : (ps : Parts) → AllListed hddl domain ps → AreSomeDomainSections hddl_many ps
hddl_domain_to ps i = let P = SaysAt hddl domain in record {
  form = i.0;
  requires = filled P (codes ":requirements") _ (topic_to requires (close 0) tt) (first_has P (codes ":requirements") ps i.1);
  types = filled P (codes ":types") _ (topic_to type_list (close 0) tt) (first_has P (codes ":types") ps i.1);
  constants = filled P (codes ":constants") _ (topic_to object_list (close 0) tt) (first_has P (codes ":constants") ps i.1);
  predicates = filled P (codes ":predicates") _ (topic_to predicate_list (close 0) tt) (first_has P (codes ":predicates") ps i.1);
  actions = all_have P (codes ":action") ps i.1;
  tasks = all_have P (codes ":task") ps i.1;
  methods = all_have P (codes ":method") ps i.1;
}

pddl_domain_to : (ps : Parts) → AllListed pddl domain ps → AreSomeDomainSections domain_many ps
pddl_domain_to ps i = let P = SaysAt pddl domain in record {
  form = i.0;
  requires = filled P (codes ":requirements") _ (topic_to requires (close 0) tt) (first_has P (codes ":requirements") ps i.1);
  types = filled P (codes ":types") _ (topic_to type_list (close 0) tt) (first_has P (codes ":types") ps i.1);
  constants = filled P (codes ":constants") _ (topic_to object_list (close 0) tt) (first_has P (codes ":constants") ps i.1);
  predicates = filled P (codes ":predicates") _ (topic_to predicate_list (close 0) tt) (first_has P (codes ":predicates") ps i.1);
  actions = all_have P (codes ":action") ps i.1;
  tasks = none_stand (λ p. P (codes ":task") (content p)) _ (only (codes ":task") ps) (λ p e. e) (all_have P (codes ":task") ps i.1);
  methods = none_stand (λ p. P (codes ":method") (content p)) _ (only (codes ":method") ps) (λ p e. e) (all_have P (codes ":method") ps i.1);
}

module _ (l : Language) (many : List Word) (ps : Parts) (s : AreSomeDomainSections many ps) where
  domain_firsts : Firsts (SaysAt l domain) (once_of l domain) ps
  domain_firsts =
      let P = SaysAt l domain in (
        emptied P (codes ":requirements") (section (codes ":requirements") ps) s.requires,
        (
          emptied P (codes ":types") (section (codes ":types") ps) s.types,
          (
            emptied P (codes ":constants") (section (codes ":constants") ps) s.constants,
            (
              emptied P (codes ":predicates") (section (codes ":predicates") ps) s.predicates,
              (emptied P (codes ":functions") (section (codes ":functions") ps) tt, tt),
            ),
          ),
        ),
      )

hddl_domain_from : (ps : Parts) → AreSomeDomainSections hddl_many ps → AllListed hddl domain ps
hddl_domain_from ps s =
    (s.form, all_from (SaysAt hddl domain) ps (once_of hddl domain) hddl_many (all_left hddl domain).differ s.form (domain_firsts hddl hddl_many ps s) (s.actions, (s.tasks, (s.methods, tt))), refl)

pddl_domain_from : (ps : Parts) → AreSomeDomainSections domain_many ps → AllListed pddl domain ps
pddl_domain_from ps s = (s.form, all_from (SaysAt pddl domain) ps (once_of pddl domain) domain_many (all_left pddl domain).differ s.form (domain_firsts pddl domain_many ps s) (s.actions, tt), refl)

-- the sections of a problem
module _ (l : Language) where
  name_to : (o : Option Parts) → IfThere (SaysAt l problem) (codes ":domain") o → IsNameIfThere o
  name_to None h = tt
  name_to (Some qs) h = h

  name_from : (o : Option Parts) → IsNameIfThere o → IfThere (SaysAt l problem) (codes ":domain") o
  name_from None h = tt
  name_from (Some qs) h = h

  goal_to : (o : Option Parts) → IfThere (SaysAt l problem) (codes ":goal") o → IsSomeFormula (one_in o)
  goal_to None h = pieces.piece_to pieces.formula (close 0) tt
  goal_to (Some qs) h = h

  goal_from : (o : Option Parts) → IsSomeFormula (one_in o) → IfThere (SaysAt l problem) (codes ":goal") o
  goal_from None h = tt
  goal_from (Some qs) h = h

  problem_to : (once : List Word) (ps : Parts) → are_sections once [] ps ≡ true → AllSections (SaysAt l problem) ps → AreSomeProblemSections once ps
  problem_to once ps f a =
      let P = SaysAt l problem in
      let facts = filled P (codes ":init") (section (codes ":init") ps) (topic_to init (close 0) tt) (first_has P (codes ":init") ps a) in
      record {
        form = f;
        requires = filled P (codes ":requirements") _ (topic_to requires (close 0) tt) (first_has P (codes ":requirements") ps a);
        of_domain = name_to _ (first_has P (codes ":domain") ps a);
        objects = filled P (codes ":objects") _ (topic_to object_list (close 0) tt) (first_has P (codes ":objects") ps a);
        init_form = facts.0;
        init = facts.1;
        goal = goal_to _ (first_has P (codes ":goal") ps a);
      }

  problem_firsts : (once : List Word) (ps : Parts) → AreSomeProblemSections once ps → Firsts (SaysAt l problem) problem_once ps
  problem_firsts once ps s =
      let P = SaysAt l problem in (
        name_from (section (codes ":domain") ps) s.of_domain,
        (
          emptied P (codes ":requirements") (section (codes ":requirements") ps) s.requires,
          (
            emptied P (codes ":objects") (section (codes ":objects") ps) s.objects,
            (
              emptied P (codes ":init") (section (codes ":init") ps) (s.init_form, s.init),
              (goal_from (section (codes ":goal") ps) s.goal, (emptied P (codes ":metric") (section (codes ":metric") ps) tt, tt)),
            ),
          ),
        ),
      )

pddl_problem_to : (ps : Parts) → AllListed pddl problem ps → AreSomeProblemSections problem_once ps
pddl_problem_to ps i = problem_to pddl problem_once ps i.0 i.1

pddl_problem_from : (ps : Parts) → AreSomeProblemSections problem_once ps → AllListed pddl problem ps
pddl_problem_from ps s = (s.form, all_from (SaysAt pddl problem) ps problem_once [] (all_left pddl problem).differ s.form (problem_firsts pddl problem_once ps s) tt, refl)

top_to : (o : Option Parts) → there o ≡ true → IfThere (SaysAt hddl problem) (codes ":htn") o → IsThere AreNetworkParts o
top_to None e h = false_true e
top_to (Some qs) e h = h

top_from : (o : Option Parts) → IsThere AreNetworkParts o → (there o ≡ true) × IfThere (SaysAt hddl problem) (codes ":htn") o
top_from None h = absurd h
top_from (Some qs) h = (refl, h)

hddl_problem_to : (ps : Parts) → AllListed hddl problem ps → AreSomeHddlProblemSections hddl_problem_once ps
hddl_problem_to ps i = record { common = problem_to hddl hddl_problem_once ps i.0 i.1; top = top_to (section (codes ":htn") ps) i.2 (first_has (SaysAt hddl problem) (codes ":htn") ps i.1) }

hddl_problem_from : (ps : Parts) → AreSomeHddlProblemSections hddl_problem_once ps → AllListed hddl problem ps
hddl_problem_from ps s =
    let t = top_from (section (codes ":htn") ps) s.top in
    (s.common.form, all_from (SaysAt hddl problem) ps hddl_problem_once [] (all_left hddl problem).differ s.common.form (t.1, problem_firsts hddl hddl_problem_once ps s.common) tt, t.0)

-- ( define ( KIND NAME ) .. )
module _ (l : Language) (d : Definition) (Are : Parts → Type 0) (same : (ps : Parts) → AllListed l d ps ↔ Are ps) where
  abbrev Headed : Parts → Type 0
  Headed ps = (w : Word) × (ps ≡ part (name (definition_word d)) (part (name w) nothing)) × (is_name w ≡ true)

  title_to : (k : Word) (q : Placed) → k ≡ definition_word d → Whole (form section_rows title q) → Headed (part (name k) (parts_of q))
  title_to k cut e h = absurd h
  title_to k (close at) e h = absurd h
  title_to k (list at S T) e h = absurd h
  title_to k (word at w r) e h = let n = then_declared section_rows w 5 title_end at r h in (w, (λ j. part (name (e j)) (part (name w) (ended r n.1 j))), n.0)
    where
      ended : (r : Placed) → Whole (form section_rows title_end r) → parts_of r ≡ nothing
      ended cut h = absurd h
      ended (close at) h = refl
      ended (word at w r) h = absurd h
      ended (list at S T) h = absurd h

  kind_to : (q : Placed) → Whole (form section_rows (kind d) q) → Headed (parts_of q)
  kind_to cut h = absurd h
  kind_to (close at) h = absurd h
  kind_to (list at S T) h = absurd h
  kind_to (word at k r) h = elim (by_cons section_rows (definition_word d) k title [] (λ w. stop 5) at r h) [
    | inl e ↦ title_to k r e.0 e.1
    | inr e ↦ absurd e.1
  ]

  kind_from : (q : Placed) → IsWhole q → Headed (parts_of q) → Whole (form section_rows (kind d) q)
  kind_from q w a =
      in_front (λ q. Whole (form section_rows (kind d) q)) q (definition_word d) (part (name a.0) nothing) w a.1
      (λ at r w e. by_here section_rows (definition_word d) (definition_word d) title [] (λ w. stop 5) at r refl
      (in_front (λ r. Whole (form section_rows title r)) r a.0 nothing w e (λ at s w f. declared_then section_rows a.0 5 title_end at s a.2 (ended s w f))))
    where
      ended : (r : Placed) → IsWhole r → parts_of r ≡ nothing → Whole (form section_rows title_end r)
      ended cut w e = w
      ended (close at) w e = tt
      ended (word at u r) w e = no_nothing e
      ended (list at S T) w e = no_nothing e

  abbrev Defined : Parts → Type 0
  Defined ps = (w : Word) × (sections : Parts) × (ps ≡ part (name (codes "define")) (part (headed (definition_word d) (part (name w) nothing)) sections)) × (is_name w ≡ true) × Are sections

  header_to : (u : Word) (q : Placed) → u ≡ codes "define" → Whole (form section_rows (header l d) q) → Defined (part (name u) (parts_of q))
  header_to u cut e h = absurd h
  header_to u (close at) e h = absurd h
  header_to u (word at k r) e h = absurd h
  header_to u (list at S T) e h =
      let b = whole_then (form section_rows (kind d) S) (form section_rows (sections l d []) T) h in
      let k = kind_to S b.0 in
      (k.0, parts_of T, (λ j. part (name (e j)) (part (group (k.1 j)) (parts_of T))), k.2, (same (parts_of T)).0 (sections_to l d T [] (once_of l d) (all_left l d) b.1))

  define_to : (q : Placed) → Whole (form section_rows (define l d) q) → Defined (parts_of q)
  define_to cut h = absurd h
  define_to (close at) h = absurd h
  define_to (list at S T) h = absurd h
  define_to (word at u r) h = elim (by_cons section_rows (codes "define") u (header l d) [] (λ w. stop 5) at r h) [
    | inl e ↦ header_to u r e.0 e.1
    | inr e ↦ absurd e.1
  ]

  define_from : (q : Placed) → IsWhole q → Defined (parts_of q) → Whole (form section_rows (define l d) q)
  define_from q w (n, ss, e, named, a) =
      in_front (λ q. Whole (form section_rows (define l d) q)) q (codes "define") (part (headed (definition_word d) (part (name n) nothing)) ss) w e
      (λ at r w f. by_here section_rows (codes "define") (codes "define") (header l d) [] (λ w. stop 5) at r refl
      (list_in_front (λ r. Whole (form section_rows (header l d) r)) r (part (name (definition_word d)) (part (name n) nothing)) ss w f
      (λ at S T s i t j. then_whole (form section_rows (kind d) S) (form section_rows (sections l d []) T) (kind_from S s (n, i, named))
      (sections_from l d T [] (once_of l d) (all_left l d) t ((same (parts_of T)).1 (subst Are (sym j) a))))))

  nothing_behind : (q : Placed) → Whole (text_form section_rows (one_list 5 (define l d)) the_end q) → q ≡ cut
  nothing_behind cut h = refl
  nothing_behind (close at) h = absurd h
  nothing_behind (word at w r) h = absurd h
  nothing_behind (list at S T) h = absurd h

  text_to : (p : Placed) → Whole (definition_form l d p) → IsDefined (definition_word d) Are p
  text_to cut h = absurd h
  text_to (close at) h = absurd h
  text_to (word at w r) h = absurd h
  text_to (list at q r) h =
      let b = whole_then (form section_rows (define l d) q) (text_form section_rows (one_list 5 (define l d)) the_end r) h in
      let g = define_to q b.0 in
      (g.0, g.1, (form_whole section_rows q (define l d) b.0, g.2, nothing_behind r b.1), g.3, g.4)

  text_from : (p : Placed) → IsDefined (definition_word d) Are p → Whole (definition_form l d p)
  text_from cut (w, ss, i, n, a) = absurd i
  text_from (close at) (w, ss, i, n, a) = absurd i
  text_from (word at u r) (w, ss, i, n, a) = absurd i
  text_from (list at q r) (w, ss, i, n, a) =
      then_whole (form section_rows (define l d) q) (text_form section_rows (one_list 5 (define l d)) the_end r) (define_from q i.0 (w, ss, i.1, n, a))
      (subst (λ r. Whole (text_form section_rows (one_list 5 (define l d)) the_end r)) (sym i.2) tt)

  pub text_exact : (p : Placed) → Whole (definition_form l d p) ↔ IsDefined (definition_word d) Are p
  text_exact p = (text_to p, text_from p)

pub whole_definitions : (l : Language) (d : Definition) (p : Placed) → Whole (definition_form l d p) ↔ SpellsSomeDefinition l d p
whole_definitions hddl domain = text_exact hddl domain (AreSomeDomainSections hddl_many) (λ ps. (hddl_domain_to ps, hddl_domain_from ps))
whole_definitions hddl problem = text_exact hddl problem (AreSomeHddlProblemSections hddl_problem_once) (λ ps. (hddl_problem_to ps, hddl_problem_from ps))
whole_definitions pddl domain = text_exact pddl domain (AreSomeDomainSections domain_many) (λ ps. (pddl_domain_to ps, pddl_domain_from ps))
whole_definitions pddl problem = text_exact pddl problem (AreSomeProblemSections problem_once) (λ ps. (pddl_problem_to ps, pddl_problem_from ps))
