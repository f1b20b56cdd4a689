-- A value that is bound in order is that of the two texts.
use Rattle.std.proofs.Common.{◌≡◌, ◌∙◌, List, map, sym, ap}
use Rattle.text_forms.specs.Lists.{Parts}
use Rattle.text_forms.specs.Words.{Word}
use Rattle.plan_texts.specs.Declared.{named, type_words, union_words}
use Rattle.plan_texts.specs.FirstSeen.{types_in_order, pairs_in_order, unions_in_order}
use Rattle.plan_model.specs.declared.types.Types.{Types}
use Rattle.gd_reader.specs.Terms.{Names}
use Rattle.hddl_reader.specs.declared.sections.Language.TheVariants as language
use Rattle.hddl_reader.specs.declared.sections.RawDomain.{RawDomain}
use Rattle.hddl_reader.specs.declared.sections.RawProblem.{RawProblem}
use Rattle.text_values.specs.form_spellings.HddlInOrder.{AreBoundInOrder, BoundHddlIsOfTexts}
use Rattle.text_values.specs.form_spellings.PddlInOrder.{BoundPddlIsOfTexts}
use Rattle.text_values.specs.form_spellings.SeenInOrder.{type_parts, pairs_of, AreSeen}
use Rattle.text_values.specs.form_spellings.Written.{item_written}
use Rattle.text_values.proofs.form_spellings.TextsRead.{hddl_spelled, pddl_spelled}
use Rattle.text_values.proofs.form_spellings.seen.Theorem.{texts_seen}

-- what is bound in order is in the order of the sections
module _ (table : Names) (d : RawDomain) (p : RawProblem) (domain problem : Parts) (a : AreSeen table d p domain problem) (names : List Word) (t : Types) (i : AreBoundInOrder table d p names t) where
  types_are : type_words names t ≡ types_in_order (type_parts domain)
  types_are = i.types ∙ sym (a.types i.words i.words_sorted)

  pairs_are : t.parents ≡ pairs_in_order (type_parts domain)
  pairs_are = i.pairs ∙ ap (λ ts. pairs_of ts (map (item_written table) d.types)) types_are ∙ sym a.pairs

  unions_are : union_words names t ≡ unions_in_order domain problem
  unions_are = i.unions ∙ sym (a.unions i.of_domain i.of_problem i.of_domain_sorted i.of_problem_sorted)

pub bound_is_of_texts : BoundHddlIsOfTexts
bound_is_of_texts domain problem table d p r df pf h b i =
    let s = hddl_spelled domain problem table d p r df pf h b in
    let a = texts_seen language.Hddl domain problem table d p r (named h.names h.domain) (named h.names h.problem) s.texts in
    record {
      domain_faultless = df;
      problem_faultless = pf;
      spelled = s;
      ordered = record {
        types = types_are table d p s.texts.domain_sections s.texts.problem_sections a h.names h.types i;
        pairs = pairs_are table d p s.texts.domain_sections s.texts.problem_sections a h.names h.types i;
        unions = unions_are table d p s.texts.domain_sections s.texts.problem_sections a h.names h.types i;
      };
    }

pub bound_pddl_is_of_texts : BoundPddlIsOfTexts
bound_pddl_is_of_texts domain problem table d p r df pf c b i =
    let s = pddl_spelled domain problem table d p r df pf c b in
    let a = texts_seen language.Pddl domain problem table d p r (named c.names c.domain) (named c.names c.problem) s.texts in
    record {
      domain_faultless = df;
      problem_faultless = pf;
      spelled = s;
      ordered = record {
        types = types_are table d p s.texts.domain_sections s.texts.problem_sections a c.names c.types i;
        pairs = pairs_are table d p s.texts.domain_sections s.texts.problem_sections a c.names c.types i;
        unions = unions_are table d p s.texts.domain_sections s.texts.problem_sections a c.names c.types i;
      };
    }
