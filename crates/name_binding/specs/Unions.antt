-- The unions that typed lists, formulas and effects write, in the order of the raw values.
-- Source: PDDL 2.1 (Fox and Long, JAIR 20, 2003, level 1) for `either`; which types a union has is this project's.
use Rattle.std.specs.Prelude.{ℕ, ◌++◌, List, [], ◌∷◌, flat_map, map, fold, ◌≡◌, Option, Some, None}
use Rattle.std.specs.List.Sorted.{IsPermutation, IsNonDecreasingBy}
use Rattle.htn_base.specs.Table.{with_word}
use Rattle.gd_reader.specs.declared.term.RawTerm.{RawTerm}
use Rattle.gd_reader.specs.declared.typed_lists.RawParam.{RawParam}
use Rattle.gd_reader.specs.declared.formulas.RawFormula.{RawFormula}
use Rattle.gd_reader.specs.declared.formulas.RawFormula.TheFolds.{fold-RawFormula}
use Rattle.gd_reader.specs.declared.formulas.RawFormula.TheOpen.{RawFormula-F}
use Rattle.gd_reader.specs.declared.effects.RawEffect.{RawEffect}
use Rattle.gd_reader.specs.declared.effects.RawEffect.TheFolds.{fold-RawEffect}
use Rattle.gd_reader.specs.declared.effects.RawEffect.TheOpen.{RawEffect-F}
use Rattle.name_binding.specs.declared.unions.Either.{Either}
use Rattle.name_binding.specs.Kinds.{Kinds, members_written}

-- two or more different types are a union
abbrev pub union_at : ℕ → List ℕ → List Either
union_at at [] = []
union_at at (n ∷ []) = []
union_at at (n ∷ m ∷ ns) = record { at = at; members = n ∷ m ∷ ns } ∷ []

abbrev pub joined : List (List Either) → List Either
joined [] = []
joined (us ∷ uss) = us ++ joined uss

-- these stand in front of the others
abbrev pub StartsWith : List Either → List Either → Type 0
StartsWith front all = (rest : List Either) × (all ≡ front ++ rest)

module _ (kinds : Kinds) where
  abbrev pub unions_said : List RawTerm → List Either
  unions_said [] = []
  unions_said (t ∷ ts) = union_at t.at (members_written kinds (t ∷ ts))

  abbrev pub unions_behind : RawParam → List Either
  unions_behind p = unions_said p.ty

  abbrev pub params_unions : List RawParam → List Either
  params_unions ps = flat_map unions_behind ps

  abbrev pub formula_step : RawFormula-F (List Either) → List Either
  formula_step (RawFormula-F.Holds a) = []
  formula_step (RawFormula-F.Equal s t) = []
  formula_step (RawFormula-F.Not us) = us
  formula_step (RawFormula-F.And uss) = joined uss
  formula_step (RawFormula-F.Or uss) = joined uss
  formula_step (RawFormula-F.Imply us vs) = us ++ vs
  formula_step (RawFormula-F.Forall xs us) = params_unions xs ++ us
  formula_step (RawFormula-F.Exists xs us) = params_unions xs ++ us

  abbrev pub formula_unions : RawFormula → List Either
  formula_unions = fold-RawFormula (List Either) formula_step

  abbrev pub effect_step : RawEffect-F (List Either) → List Either
  effect_step (RawEffect-F.Add a) = []
  effect_step (RawEffect-F.Delete a) = []
  effect_step (RawEffect-F.And uss) = joined uss
  effect_step (RawEffect-F.Forall xs us) = params_unions xs ++ us
  effect_step (RawEffect-F.When f us) = formula_unions f ++ us

  abbrev pub effect_unions : RawEffect → List Either
  effect_unions = fold-RawEffect (List Either) effect_step

abbrev pub members_of : Either → List ℕ
members_of e = e.members

-- the unions with these, as their first words follow one another in the text, each once
pub record AreWith (found : List Either) (old new : List (List ℕ)) : Type 0 where
  pub sorted : List Either
  pub same : IsPermutation found sorted
  pub rise : IsNonDecreasingBy (λ e. e.at) sorted
  pub unions : new ≡ fold with_word old (map members_of sorted)

-- putting this one to the unions changes nothing
abbrev pub IsThere : List (List ℕ) → Option Either → Type 0
IsThere unions None = Unit {0}
IsThere unions (Some e) = with_word unions e.members ≡ unions
