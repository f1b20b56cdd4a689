-- The two texts that are printed for a PDDL value.
-- Source: appendix A (grammar) of Fox and Long, "PDDL2.1", JAIR 20, 2003, level 1; the lines are this project's.
use Rattle.std.specs.Prelude.{ℕ, List, [], ◌∷◌, map, codes}
use Rattle.text_forms.specs.Lists.{Part, Parts, name, group, nothing, part}
use Rattle.text_forms.specs.Words.{Word, word_at}
use Rattle.text_forms.specs.Printing.{headed, page}
use Rattle.plan_texts.specs.Declared.{Declared, named, variable}
use Rattle.plan_texts.specs.SpellsPddl.{pddl_words}
use Rattle.plan_texts.specs.Printed.{all_parts, typed_parts, applied_part, params_parts, formula_part, effect_part}
use Rattle.plan_model.specs.declared.terms.Term.TheVariants.{Obj}
use Rattle.plan_model.specs.declared.types.Parent.{Parent}
use Rattle.plan_model.specs.declared.types.Object.{Object}
use Rattle.plan_model.specs.declared.schemas.Predicate.{Predicate}
use Rattle.plan_model.specs.declared.schemas.ActionSchema.{ActionSchema}
use Rattle.plan_model.specs.declared.terms.GroundAtom.{GroundAtom}
use Rattle.plan_model.specs.declared.values.Pddl.{Pddl}

module _ (v : Declared) where
  abbrev pub object_words : Object → Word × List Word
  object_words x = (named v.names x.name, word_at v.types x.ty ∷ [])

  abbrev pub parent_words : Parent → Word × List Word
  parent_words x = (word_at v.types x.child, word_at v.types x.parent ∷ [])

  abbrev pub predicate_part : Predicate → Part
  predicate_part d = headed (named v.names d.name) (params_parts v d.params)

  abbrev pub action_part : ActionSchema → Part
  action_part a =
      headed (codes ":action") (part (name (named v.names a.name))
      (part (name (codes ":parameters")) (part (group (params_parts v a.params))
      (part (name (codes ":precondition")) (part (formula_part v a.pre (map (variable v) a.params))
      (part (name (codes ":effect")) (part (effect_part v a.eff (map (variable v) a.params)) nothing)))))))

  abbrev pub fact_part : GroundAtom → Part
  fact_part g = applied_part v [] g.predicate (map Obj g.args)

abbrev pub domain_parts : Pddl → Parts
domain_parts c =
    part (headed (codes ":requirements") (part (name (codes ":adl")) nothing))
    (part (headed (codes ":types") (typed_parts (map (parent_words (pddl_words c)) c.types.parents)))
    (part (headed (codes ":constants") (typed_parts (map (object_words (pddl_words c)) c.objects)))
    (part (headed (codes ":predicates") (all_parts (map (predicate_part (pddl_words c)) c.predicates)))
    (all_parts (map (action_part (pddl_words c)) c.actions)))))

abbrev pub problem_parts : Pddl → Parts
problem_parts c =
    part (headed (codes ":domain") (part (name (named c.names c.domain)) nothing))
    (part (headed (codes ":objects") nothing)
    (part (headed (codes ":init") (all_parts (map (fact_part (pddl_words c)) c.init)))
    (part (headed (codes ":goal") (part (formula_part (pddl_words c) c.goal []) nothing)) nothing)))

abbrev pub domain_text : Pddl → List ℕ
domain_text c = page (codes "domain") (named c.names c.domain) (domain_parts c)

abbrev pub problem_text : Pddl → List ℕ
problem_text c = page (codes "problem") (named c.names c.problem) (problem_parts c)
