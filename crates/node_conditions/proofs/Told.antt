-- What is asked of a node, as a run of the pass tells it.
use Rattle.std.proofs.Common.{ℕ, ◌≡◌, ◌↔◌, Bool, List, [], Option, Some, None, MatchOption, option_map, sym, subst, ◌∙◌, arith}
use Rattle.plan_model.specs.declared.terms.GroundAtom.{GroundAtom}
use Rattle.plan_model.specs.declared.values.Compiled.{Compiled}
use Rattle.plan_model.specs.Typing.{InType}
use Rattle.plan_model.specs.plan_meaning.Truth.{State}
use Rattle.plan_model.specs.plan_meaning.Network.{InTypeOf}
use Rattle.problem_index.specs.declared.world.World.{World}
use Rattle.ground_state.specs.Clauses.{IsInType}
use Rattle.tree_core.specs.Tables.{Row}
use Rattle.tree_core.specs.Labels.{labels}
use Rattle.state_history.specs.declared.history.History.{History}
use Rattle.state_history.specs.Flips.{truth_in}
use Rattle.state_history.specs.Histories.{state_in}
use Rattle.value_choices.specs.Choices.{IsFirst}
use Rattle.gap_pass.specs.Conditions.{IsGreatestOrNone}
use Rattle.node_conditions.specs.declared.demand.Demand.{Demand}
use Rattle.node_conditions.specs.declared.greatest.Stand.{Stand}
use Rattle.node_conditions.specs.declared.demand.Demand.TheVariants.{Nothing, Never, Action, Method}
use Rattle.node_conditions.specs.Demands.{IsFree, IsMet}
use Rattle.node_conditions.specs.declared.choosing.Found.{Found}
use Rattle.node_conditions.specs.Looks.{HoldsNever, IsFound, IsStand, IsTheStand}
use Rattle.node_conditions.specs.Standing.{told, RowStands}
use Rattle.node_conditions.specs.Stands.{Somehow, Tells, AreFirstAt}

met_freely : (InType : ℕ → ℕ → Type 0) (S : State) (demand : Demand) → IsFree demand → (values : List ℕ) → IsMet InType S demand values
    → IsMet InType S demand []
met_freely InType S Nothing f values m = m
met_freely InType S Never f values m = m
met_freely InType S (Action pre args) f values m = m
met_freely InType S (Method plan known condition) f values m = absurd f

-- the demand is what the rows ask of the node
abbrev pub Asks : Compiled → List (Row labels) → ℕ → Demand → Type 0
Asks c rows k demand = (truth : GroundAtom → Bool) (values : List ℕ) → RowStands c rows k (told truth) values
    ↔ IsMet (InTypeOf c) (told truth) demand values

module _ (stands : ℕ → List ℕ → ℕ → Type 0) (c : Compiled) (world : World) (rows : List (Row labels)) (history : History)
    (t : Tells stands c world rows history)
    (k : ℕ) (demand : Demand) (asks : Asks c rows k demand) where
  abbrev pub At : ℕ → List ℕ → Type 0
  At j values = IsMet (IsInType world) (state_in history j) demand values

  same_types : IsInType world ≡ InTypeOf c
  same_types = λ i. InType (t.types i) (t.objects i)

  pub stands_met : (j : ℕ) (values : List ℕ) → stands k values j → At j values
  stands_met j values s =
      subst (λ (z : ℕ → ℕ → Type 0). IsMet z (state_in history j) demand values) (sym same_types) ((asks
      (truth_in history.flips j) values).0 ((t.tells k values j).0 s))

  pub met_stands : (j : ℕ) (values : List ℕ) → At j values → stands k values j
  met_stands j values m =
      (t.tells k values j).1 ((asks (truth_in history.flips j) values).1 (subst (λ (z : ℕ → ℕ
      → Type 0). IsMet z (state_in history j) demand values) same_types m))

  pub first_stands : (j : ℕ) (values : List ℕ) → IsFirst (At j) values → AreFirstAt stands k j values
  first_stands j values f s = record {
    is = met_stands j values f.is;
    none_before = λ others o p. f.none_before others (stands_met j others o) p;
  }

  pub never_stands : (j : ℕ) (values : List ℕ) → ((others : List ℕ) → At j others → ⊥) → AreFirstAt stands k j values
  never_stands j values n s = absurd (n s.0 (stands_met j s.0 s.1))

  -- nothing precedes the empty list
  pub free_stands : (j : ℕ) (values : List ℕ) → IsFree demand → values ≡ [] → AreFirstAt stands k j values
  free_stands j values f e s = subst (λ (z : List ℕ). IsFirst (λ v. stands k v j) z) (sym e) (record {
    is = met_stands j [] (met_freely (IsInType world) (state_in history j) demand f s.0 (stands_met j s.0 s.1));
    none_before = λ others o p. (let l = p.smaller in omega arith);
  })

  pub greatest_stands : (most : ℕ) (found : Option Stand) → IsTheStand At most found
      → IsGreatestOrNone (Somehow stands k) most (option_map (λ (s : Stand). s.gap) found)
  greatest_stands most None h = λ i l s. h i l s.0 (stands_met i s.0 s.1)
  greatest_stands most (Some stand) h = record {
    within = h.within;
    holds = (stand.values, met_stands stand.gap stand.values h.first.is);
    greatest = λ i l s. h.greatest i l s.0 (stands_met i s.0 s.1);
  }

  pub found_first : (gap : ℕ) (found : Found) (taken : Option (List ℕ)) → taken ≡ found.values → IsFound At gap found
      → (values : List ℕ) → taken ≡ Some values
      → AreFirstAt stands k gap values
  found_first gap found taken e h values f =
      first_stands gap values (subst (λ (z : Option (List ℕ)). MatchOption z (HoldsNever At found.since gap) (IsFirst (At gap))) (sym e
      ∙ f) h)

  pub found_never : (gap : ℕ) (found : Found) (taken : Option (List ℕ)) → taken ≡ found.values → IsFound At gap found
      → (values : List ℕ) → taken ≡ None
      → AreFirstAt stands k gap values
  found_never gap found taken e h values f =
      let n : HoldsNever At found.since gap = subst (λ (z : Option (List ℕ)). MatchOption z (HoldsNever At found.since gap) (IsFirst
      (At gap))) (sym e ∙ f) h in
      never_stands gap values (n.never gap n.since_is (omega arith))

  pub stand_first : (most : ℕ) (found : Option Stand) → IsTheStand At most found → (stand : Stand) → found ≡ Some stand
      → AreFirstAt stands k stand.gap stand.values
  stand_first most found h stand e = (let s : IsStand At most stand = subst (IsTheStand At most) e h in first_stands stand.gap stand.values s.first)
