-- The printed actions of the source's actions and of checks are sound.
use Rattle.std.proofs.Common.{ℕ, suc, ◌≡◌, ◌<◌, List, [], ◌∷◌, ◌++◌, map, length, codes, sym, subst, ◌∙◌, arith}
use Rattle.text_forms.specs.Words.{Word}
use Rattle.plan_model.specs.declared.options.Style.{Style}
use Rattle.plan_model.specs.declared.terms.Term.TheVariants.{Var}
use Rattle.plan_model.specs.declared.terms.Atom.{Atom}
use Rattle.plan_model.specs.declared.terms.Param.{Param}
use Rattle.plan_model.specs.declared.formulas.Formula.{Formula}
use Rattle.plan_model.specs.declared.formulas.Formula.TheVariants.{Holds}
use Rattle.plan_model.specs.declared.effects.Effect.{Effect}
use Rattle.plan_model.specs.declared.schemas.ActionSchema.{ActionSchema}
use Rattle.plan_model.specs.declared.values.Compiled.{Compiled}
use Rattle.plan_texts.specs.Declared.{Declared, variable}
use Rattle.htn_base.specs.Different.{AreDifferent}
use Rattle.plan_texts.specs.Types.{Has, EachIs}
use Rattle.plan_texts.specs.SpellsHddl.{hddl_words}
use Rattle.plan_texts.specs.Printable.{IsInForce, IsSoundAtom, AreSoundParams, IsSound, IsSoundEffect}
use Rattle.plan_texts.specs.SoundValue.{IsSoundHddl, arities, scope_of}
use Rattle.plan_texts.proofs.Members.{has-contains, length-map}
use Rattle.plan_texts.proofs.Places.{each-join}
use Rattle.plan_model.specs.task_networks.Spelling.{numbers}
use Rattle.plan_model.proofs.task_networks.Numbers.{length-numbers, numbers_to}
use Rattle.slot_encoding.specs.EncodedActions.{is_free, freeing, waiting, held_work, source_condition, work_action}
use Rattle.slot_encoding.specs.EncodedWords.{param_words, formula_words, HasEncodedWords}
use Rattle.slot_encoding.proofs.words.Lists.{each-map}
use Rattle.slot_encoding.proofs.words.PrintedWords.{printed_words, printed_arities}
use Rattle.slot_encoding.proofs.words.PredicatePlaces.{HasArity}
use Rattle.slot_encoding.proofs.words.SoundEquations.{sound-Holds, sound-And, sound-Add, sound-Delete, sound-Both}
use Rattle.slot_encoding.proofs.words.SlotScopes.{action_scope, scope-named, scope_x_apart, length-scope, params_sound}
use Rattle.slot_encoding.proofs.words.SlotParts.{free_sound, here, waits, clears}
use Rattle.slot_encoding.proofs.words.ActionParts.{condition_sound}

-- what is asked of a printed action, its name aside
pub record IsSoundAction (v : Declared) (ar : List ℕ) (a : ActionSchema) : Type 0 where
  pub params : AreSoundParams v ar a.params
  pub pre : IsSound v ar a.pre (map (variable v) a.params)
  pub eff : IsSoundEffect v ar a.eff (map (variable v) a.params)

module _ (c : Compiled) (names : List Word) (b : ℕ) (style : Style) (sound : IsSoundHddl c.hddl) (has : HasEncodedWords c b names) where
  abbrev v' : Declared
  v' = printed_words c names b

  abbrev ar' : List ℕ
  ar' = printed_arities c names b

  -- what is held goes
  pub freeing_sound : (scope : List Word) → AreDifferent (scope ++ codes "htn_x" ∷ []) → 0 < length scope → (held : Atom) → IsSoundAtom v' ar' scope held.predicate held.args → (depth : ℕ) → depth ≡ length scope
      → EachIs (λ e. IsSoundEffect v' ar' e scope) (freeing c names b style held depth)
  freeing_sound scope apart some held s depth same = (
    sound-Delete v' ar' scope held s,
    (
      sound-Add v' ar' scope (is_free c names b style 0) (free_sound c names b sound has scope (Var 0) (here c names b sound has scope apart 0 some)),
      clears c names b sound has scope apart depth same style 0 some,
    ),
  )

  module _ (word : List ℕ) (predicate : ℕ) (params : List Param) (pre : Formula) (change : List Effect) (arity : HasArity c names b predicate (suc (length params)))
      (params_known : EachIs (Has names) (param_words c.hddl.names params)) (are : AreSoundParams (hddl_words c.hddl) (arities c.hddl) params)
      (pre_sound : IsSound (hddl_words c.hddl) (arities c.hddl) pre (scope_of c.hddl params)) (pre_known : EachIs (Has names) (formula_words c.hddl.names pre)) where
    abbrev pub work_scope : List Word
    work_scope = action_scope c names b sound has 0 params (omega arith) tt params_known are

    long : length work_scope ≡ suc (length params)
    long = let e = length-scope c names b sound has 0 params (omega arith) tt params_known are in omega arith

    apart : AreDifferent (work_scope ++ codes "htn_x" ∷ [])
    apart = scope_x_apart c names b sound has 0 params (omega arith) tt params_known are

    abbrev held : Atom
    held = held_work c names b style predicate (length params)

    held_sound : IsSoundAtom v' ar' work_scope held.predicate held.args
    held_sound = (
      arity.0,
      length-map Var (numbers 0 (suc (length params))) ∙ length-numbers 0 (suc (length params)) ∙ sym arity.1,
      each-map (IsInForce v' ar' work_scope) Var (numbers 0 (suc (length params))) (λ k m. here c names b sound has work_scope apart k (let r = (numbers_to 0 (suc (length params)) k (has-contains (numbers 0 (suc (length params))) k m)).1 in let e = long in omega arith)),
    )

    abbrev action : ActionSchema
    action = work_action c names b style word predicate params pre change

    depth_is : suc (length params) ≡ length work_scope
    depth_is = sym long

    some : 0 < length work_scope
    some = let e = long in omega arith

    pub work_sound : EachIs (λ e. IsSoundEffect v' ar' e work_scope) change → IsSoundAction v' ar' action
    work_sound changes =
        let named = scope-named c names b sound has 0 params (omega arith) tt params_known are in
        let parts = each-join (λ f. IsSound v' ar' f work_scope) (Holds held ∷ waiting c names b style (suc (length params))) (source_condition c names b style 1 pre)
        (sound-Holds v' ar' work_scope held held_sound, waits c names b sound has work_scope apart (suc (length params)) depth_is style 0 some)
        (condition_sound c names b style sound has 0 params (omega arith) tt params_known are pre pre_sound pre_known) in
        let effects = each-join (λ e. IsSoundEffect v' ar' e work_scope) (freeing c names b style held (suc (length params))) change (freeing_sound work_scope apart some held held_sound (suc (length params)) depth_is) changes in
        record {
          params = params_sound c names b sound has 0 params (omega arith) tt params_known are;
          pre = subst (IsSound v' ar' action.pre) (sym named) (sound-And v' ar' work_scope _ parts);
          eff = subst (IsSoundEffect v' ar' action.eff) (sym named) (sound-Both v' ar' work_scope _ effects);
        }
