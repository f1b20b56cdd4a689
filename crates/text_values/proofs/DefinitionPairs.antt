-- Whole domains and problems are read alike, into whichever tables.
use Rattle.std.proofs.Common.{ℕ, Ok, Result, List, Option, Some, None, codes, sym, subst}
use Rattle.htn_base.specs.declared.name.Name.{Name}
use Rattle.text_forms.specs.Placed.{Placed, cut, close, word, list, parts_at}
use Rattle.gd_reader.specs.declared.stop.Stop.{Stop}
use Rattle.gd_reader.specs.Answers.{◌>>=◌, word_due, list_due, end_due}
use Rattle.gd_reader.specs.Terms.{Names, Keeps}
use Rattle.hddl_reader.specs.declared.parts.RawParts.{RawParts}
use Rattle.hddl_reader.specs.declared.sections.Definition.{Definition}
use Rattle.hddl_reader.specs.declared.sections.Definition.TheVariants as definition
use Rattle.hddl_reader.specs.declared.sections.Language.{Language}
use Rattle.hddl_reader.specs.declared.sections.RawDomain.{RawDomain}
use Rattle.hddl_reader.specs.declared.sections.RawProblem.{RawProblem}
use Rattle.hddl_reader.specs.declared.raw_sections.RawSections.{RawSections}
use Rattle.hddl_reader.specs.Networks.{declared}
use Rattle.hddl_reader.specs.Sections.{sections, no_sections}
use Rattle.hddl_reader.specs.Definitions.{coded, key_due, definition_word, title, definition_inside, nothing_due, definition_read, domain_of, problem_of, or_empty, IsRead, IsDomainRead, IsProblemRead}
use Rattle.text_values.proofs.Alike.{AlikeDomain, AlikeProblem, Both}
use Rattle.text_values.proofs.Pairs.{Tie, Tied, after, built, behind_same, here}
use Rattle.text_values.proofs.TermPairs.{TermTie}
use Rattle.text_values.proofs.NetworkPairs.{declared_tied}
use Rattle.text_values.proofs.PartPairs.{AlikeParts, none_alike}
use Rattle.text_values.proofs.SectionPairs.{AlikeSections, PutTie, none_stand, or_none_alike, or_true_alike, net_alike, params_alike, sections_tied}

-- nothing is asked of the name of what is defined
abbrev TitleTie : Tie Name
TitleTie x y t u = Unit {0}

abbrev DefinitionTie : Tie (Name × RawSections)
DefinitionTie x y t u = AlikeSections t u x.1 y.1

title_tied : (d : Definition) (p : Placed) (n m : Names) → Tied n m (title d n p) (title d m p) TitleTie
unfolding title
title_tied d p n m =
    behind_same TitleTie n m (key_due (definition_word d) p) (λ q. coded 5 (word_due q) >>= (λ v. declared 5 n v.0 v.1 >>= (λ h. coded 5 (end_due v.2) >>= (λ _. Ok (h.0.name, h.1)))))
    (λ q. coded 5 (word_due q) >>= (λ v. declared 5 m v.0 v.1 >>= (λ h. coded 5 (end_due v.2) >>= (λ _. Ok (h.0.name, h.1)))))
    (λ q. behind_same TitleTie n m (coded 5 (word_due q)) (λ v. declared 5 n v.0 v.1 >>= (λ h. coded 5 (end_due v.2) >>= (λ _. Ok (h.0.name, h.1)))) (λ v. declared 5 m v.0 v.1 >>= (λ h. coded 5 (end_due v.2) >>= (λ _. Ok (h.0.name, h.1))))
    (λ v. after TermTie TitleTie n m (declared 5 n v.0 v.1) (declared 5 m v.0 v.1) (λ h. coded 5 (end_due v.2) >>= (λ _. Ok (h.0.name, h.1))) (λ h. coded 5 (end_due v.2) >>= (λ _. Ok (h.0.name, h.1))) (declared_tied 5 n m v.0 v.1)
    (λ h g. behind_same (λ x y t u. TermTie h.0 g.0 t u → TitleTie x y t u) h.1 g.1 (coded 5 (end_due v.2)) (λ _. Ok (h.0.name, h.1)) (λ _. Ok (g.0.name, g.1))
    (λ _. here (λ x y t u. TermTie h.0 g.0 t u → TitleTie x y t u) h.1 g.1 h.0.name g.0.name (λ t u one. tt)))))

-- the title and the sections, behind define
abbrev headed : Language → Definition → Names → Placed × Placed → Result ((Name × RawSections) × Names) Stop
headed l d names g = title d names g.0 >>= (λ t. sections l d no_sections t.1 g.1 >>= (λ st. Ok ((t.0, st.0), st.1)))

inside_tied : (l : Language) (d : Definition) (p : Placed) (n m : Names) → Tied n m (definition_inside l d n p) (definition_inside l d m p) DefinitionTie
unfolding definition_inside
inside_tied l d p n m =
    behind_same DefinitionTie n m (key_due (codes "define") p) (λ q. coded 5 (list_due q) >>= (λ g. headed l d n g)) (λ q. coded 5 (list_due q) >>= (λ g. headed l d m g))
    (λ q. behind_same DefinitionTie n m (coded 5 (list_due q)) (λ g. headed l d n g) (λ g. headed l d m g)
    (λ g. after TitleTie DefinitionTie n m (title d n g.0) (title d m g.0) (λ t. sections l d no_sections t.1 g.1 >>= (λ st. Ok ((t.0, st.0), st.1))) (λ t. sections l d no_sections t.1 g.1 >>= (λ st. Ok ((t.0, st.0), st.1))) (title_tied d g.0 n m)
    (λ x y. built (PutTie no_sections no_sections) (λ v w t u. TitleTie x.0 y.0 t u → DefinitionTie v w t u) x.1 y.1 (sections l d no_sections x.1 g.1) (sections l d no_sections y.1 g.1) (λ st. (x.0, st)) (λ st. (y.0, st))
    (sections_tied g.1 l d no_sections no_sections x.1 y.1) (λ v w t u is one. is (none_stand t u)))))

definition_tied : (l : Language) (d : Definition) (p : Placed) (n m : Names) → Tied n m (definition_read l d n p) (definition_read l d m p) DefinitionTie
unfolding definition_read
definition_tied l d cut n m = tt
definition_tied l d (close at) n m = tt
definition_tied l d (word at w p) n m = tt
definition_tied l d (list at p q) n m =
    after DefinitionTie DefinitionTie n m (definition_inside l d n p) (definition_inside l d m p) (λ x. nothing_due q >>= (λ _. Ok x)) (λ x. nothing_due q >>= (λ _. Ok x)) (inside_tied l d p n m)
    (λ x y. behind_same (λ v w t u. DefinitionTie x.0 y.0 t u → DefinitionTie v w t u) x.1 y.1 (nothing_due q) (λ _. Ok x) (λ _. Ok y) (λ _. here (λ v w t u. DefinitionTie x.0 y.0 t u → DefinitionTie v w t u) x.1 y.1 x.0 y.0 (λ t u is. is)))

-- what was read of one text
sections_alike : (l : Language) (d : Definition) (text : List ℕ) (n m left over : Names) (x y : Name × RawSections) → IsRead l d n text x left → IsRead l d m text y over → (t u : Names) → Keeps left t → Keeps over u → AlikeSections t u x.1 y.1
sections_alike l d text n m left over x y one other t u k h =
    (subst (λ (z : Type 0). z) (λ i. Tied n m (one.gives i) (other.gives i) DefinitionTie) (definition_tied l d (parts_at text 0) n m)).2 t u k h

parts_alike : (t u : Names) (o v : Option RawParts) → Both (AlikeParts t u) o v → AlikeParts t u (or_empty o) (or_empty v)
parts_alike t u None None h = none_alike t u
parts_alike t u None (Some y) h = absurd h
parts_alike t u (Some x) None h = absurd h
parts_alike t u (Some x) (Some y) h = h

domain_alike : (t u : Names) (x y : Name × RawSections) → AlikeSections t u x.1 y.1 → AlikeDomain t u (domain_of x) (domain_of y)
domain_alike t u x y h = record {
  types = or_none_alike _ x.1.types y.1.types h.types;
  constants = or_none_alike _ x.1.constants y.1.constants h.constants;
  predicates = or_none_alike _ x.1.predicates y.1.predicates h.predicates;
  tasks = h.tasks;
  methods = h.methods;
  actions = h.actions;
}

problem_alike : (t u : Names) (x y : Name × RawSections) → AlikeSections t u x.1 y.1 → AlikeProblem t u (problem_of x) (problem_of y)
problem_alike t u x y h =
    let network = parts_alike t u x.1.network y.1.network h.network in
    record {
      objects = or_none_alike _ x.1.objects y.1.objects h.objects;
      params = params_alike t u (or_empty x.1.network) (or_empty y.1.network) network;
      net = net_alike t u (or_empty x.1.network) (or_empty y.1.network) network;
      init = or_none_alike _ x.1.init y.1.init h.init;
      goal = or_true_alike t u x.1.goal y.1.goal h.goal;
    }

pub domains_alike : (l : Language) (text : List ℕ) (n m : Names) (d e : RawDomain) (left over : Names) → IsDomainRead l n text (d, left) → IsDomainRead l m text (e, over) → (t u : Names) → Keeps left t → Keeps over u → AlikeDomain t u d e
domains_alike l text n m d e left over (x, is, read) (y, are, also) t u k h =
    subst (λ (z : Type 0). z) (λ i. AlikeDomain t u (sym is i) (sym are i)) (domain_alike t u x y (sections_alike l definition.Domain text n m left over x y read also t u k h))

pub problems_alike : (l : Language) (text : List ℕ) (n m : Names) (p q : RawProblem) (left over : Names) → IsProblemRead l n text (p, left) → IsProblemRead l m text (q, over) → (t u : Names) → Keeps left t → Keeps over u → AlikeProblem t u p q
problems_alike l text n m p q left over (x, is, read) (y, are, also) t u k h =
    subst (λ (z : Type 0). z) (λ i. AlikeProblem t u (sym is i) (sym are i)) (problem_alike t u x y (sections_alike l definition.Problem text n m left over x y read also t u k h))
