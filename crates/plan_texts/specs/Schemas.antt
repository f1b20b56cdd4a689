-- What spells objects, predicates, actions and facts.
-- Source: appendix A (grammar) of Fox and Long, "PDDL2.1", JAIR 20, 2003, level 1: constants and objects, predicates, actions, initial state.
use Rattle.std.specs.Prelude.{◌≡◌, Bool, true, List, [], map, codes, Option}
use Rattle.text_forms.specs.Lists.{Part, Parts, name, group, part}
use Rattle.text_forms.specs.Words.{is_name}
use Rattle.text_forms.specs.Printing.{headed}
use Rattle.plan_texts.specs.Declared.{Declared, named, variable}
use Rattle.plan_texts.specs.TypedLists.{EachTyped}
use Rattle.plan_texts.specs.Formulas.{IsApplied, IsType, IsParam, IsFormula, IsEffect}
use Rattle.plan_texts.specs.Sections.{are_entries, found, parameters, precondition, effect, action_entries}
use Rattle.plan_model.specs.declared.terms.Term.TheVariants.{Obj}
use Rattle.plan_model.specs.declared.terms.Param.{Param}
use Rattle.plan_model.specs.declared.types.Object.{Object}
use Rattle.plan_model.specs.declared.schemas.Predicate.{Predicate}
use Rattle.plan_model.specs.declared.schemas.ActionSchema.{ActionSchema}
use Rattle.plan_model.specs.declared.terms.GroundAtom.{GroundAtom}

module _ (v : Declared) where
  -- a word of a list of constants or of objects, with its type
  abbrev pub IsObject : Bool → Object → Part → Option Part → Type 0
  IsObject constant x p said = (p ≡ name (named v.names x.name)) × (is_name (named v.names x.name) ≡ true) × IsType v x.ty said × (x.constant ≡ constant)

  -- ( NAME vlist )
  abbrev pub IsPredicate : Predicate → Part → Type 0
  IsPredicate d p = (ps : Parts) × (p ≡ headed (named v.names d.name) ps) × (is_name (named v.names d.name) ≡ true) × EachTyped (IsParam v) d.params ps

  -- ( vlist )
  abbrev pub AreParams : List Param → Part → Type 0
  AreParams xs p = (ps : Parts) × (p ≡ group ps) × EachTyped (IsParam v) xs ps

  -- ( :action NAME apart* )
  pub record IsAction (a : ActionSchema) (p : Part) : Type 0 where
    pub entries : Parts
    pub is : p ≡ headed (codes ":action") (part (name (named v.names a.name)) entries)
    pub named : is_name (named v.names a.name) ≡ true
    pub form : are_entries action_entries entries ≡ true
    pub params : AreParams a.params (found parameters entries)
    pub pre : IsFormula v a.pre (map (variable v) a.params) (found precondition entries)
    pub eff : IsEffect v a.eff (map (variable v) a.params) (found effect entries)

  -- ( NAME NAME* )
  abbrev pub IsFact : GroundAtom → Part → Type 0
  IsFact g p = IsApplied v [] g.predicate (map Obj g.args) p
