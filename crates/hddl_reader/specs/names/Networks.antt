-- Faults of one network: an id that no subtask has (19), a cycle (20), too many subtasks (21).
-- Source: Höller et al., "HDDL", AAAI 2020, ordering of a task network; the limit is this project's.
use Rattle.std.specs.Prelude.{ℕ, suc, ◌≡◌, ◌<◌, ◌≤◌, ◌⊎◌, true, List, [], ◌∷◌, ◌++◌, Option, Some, None, length, slice_get}
use Rattle.htn_base.specs.Limits.{most_subtasks}
use Rattle.text_forms.specs.Words.{Word}
use Rattle.plan_model.specs.task_networks.Order.{Precedes}
use Rattle.gd_reader.specs.declared.term.RawTerm.{RawTerm}
use Rattle.gd_reader.specs.Terms.{Names}
use Rattle.hddl_reader.specs.declared.networks.RawNet.{RawNet}
use Rattle.hddl_reader.specs.declared.networks.RawPair.{RawPair}
use Rattle.hddl_reader.specs.declared.networks.RawSub.{RawSub}
use Rattle.htn_base.specs.Lists.{One, IsFirst}
use Rattle.hddl_reader.specs.names.Words.{WordAt, term_word, term_at}

module _ (names : Names) where
  abbrev pub id_at : Option RawTerm → List WordAt
  id_at None = []
  id_at (Some t) = term_at names t ∷ []

  -- the ids of subtasks, each with its place
  abbrev pub ids : List RawSub → List WordAt
  ids [] = []
  ids (s ∷ ss) = id_at s.id ++ ids ss

  abbrev pub HasId : Word → RawSub → Type 0
  HasId w s = One (λ (x : WordAt). x.word ≡ w) (id_at s.id)

  module _ (n : RawNet) where
    -- 19: the word of a pair that no subtask has as its id
    abbrev pub IsUnknownId : ℕ → RawTerm → Type 0
    IsUnknownId at t = (t.at ≡ at) × (One (HasId (term_word names t)) n.subs → ⊥)

    abbrev pub UnknownSubtaskId : ℕ → Type 0
    UnknownSubtaskId at = One (λ (x : RawPair). IsUnknownId at x.first ⊎ IsUnknownId at x.then) n.pairs

    -- subtask i is the first with the id
    pub record IsSubtask (t : RawTerm) (i : ℕ) : Type 0 where
      pub front : List RawSub
      pub sub : RawSub
      pub rest : List RawSub
      pub parts : n.subs ≡ front ++ sub ∷ rest
      pub number : length front ≡ i
      pub has_id : HasId (term_word names t) sub
      pub none_before : One (HasId (term_word names t)) front → ⊥

    -- the two numbers are those of a pair
    abbrev pub IsPair : RawPair → ℕ → ℕ → Type 0
    IsPair x i j = IsSubtask x.first i × IsSubtask x.then j

    -- each subtask before the next, where the network is ordered
    abbrev pub IsChained : ℕ → ℕ → Type 0
    IsChained i j = (n.ordered ≡ true) × (j ≡ suc i) × (j < length n.subs)

    -- the chain and these written pairs; a pair with an unknown id is of no two subtasks
    abbrev pub IsOrdered : List RawPair → ℕ → ℕ → Type 0
    IsOrdered pairs i j = IsChained i j ⊎ One (λ x. IsPair x i j) pairs

    -- a pair closes a cycle with the chain and the earlier pairs
    abbrev pub ClosesOrder : List RawPair → RawPair → Type 0
    ClosesOrder earlier x = (i : ℕ) × (j : ℕ) × IsPair x i j × ((i ≡ j) ⊎ Precedes (IsOrdered earlier) j i)

    -- 20: the parenthesis of the first pair that closes one, in a network within the limit
    abbrev pub CyclicOrder : ℕ → Type 0
    CyclicOrder at = (length n.subs ≤ most_subtasks) × ((x : RawPair) × (x.at ≡ at) × IsFirst ClosesOrder n.pairs x)

-- 21: the parenthesis of the first subtask past the limit
abbrev pub TooManySubtasks : RawNet → ℕ → Type 0
TooManySubtasks n at = (s : RawSub) × (slice_get n.subs most_subtasks ≡ Some s) × (s.at ≡ at)
