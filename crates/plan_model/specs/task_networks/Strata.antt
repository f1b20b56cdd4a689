-- Edges between tasks: reaching, groups, bad cycles and the one that is named, tail recursion, rankings.
-- Source: this project's, after the tail-recursive problems of Alford et al., "Bound to Plan", ICAPS 2016, and the stratifications of the same authors' earlier work.
use Rattle.std.specs.Prelude.{ℕ, ◌≡◌, ◌<◌, ◌≤◌, ◌⊎◌, List, [], ◌∷◌, ◌++◌, length, Contains}

-- an edge goes from the task of a method to a child that is a task.
-- They are listed by the method's place, then the child's number, each once
module _ {Task Edge : Type 0} (source target : Edge → Task) (edges : List Edge) where
  -- the edges lead from x to y, one after another
  abbrev pub IsWalk : Task → List Edge → Task → Type 0
  IsWalk x [] y = x ≡ y
  IsWalk x (e ∷ walk) y = (source e ≡ x) × Contains edges e × IsWalk (target e) walk y

  -- y is x, or a walk leads there
  abbrev pub Reaches : Task → Task → Type 0
  Reaches x y = (walk : List Edge) × IsWalk x walk y

  -- the same, or each reaches the other
  abbrev pub IsOneGroup : Task → Task → Type 0
  IsOneGroup x y = Reaches x y × Reaches y x

  -- at the first edge in which two walks differ, this one's is listed earlier
  pub record ComesFirst (walk other : List Edge) : Type 0 where
    pub common : List Edge
    pub edge : Edge
    pub rest : List Edge
    pub other_edge : Edge
    pub other_rest : List Edge
    pub is : walk ≡ common ++ edge ∷ rest
    pub other_is : other ≡ common ++ other_edge ∷ other_rest
    pub before : List Edge
    pub after : List Edge
    pub parts : edges ≡ before ++ edge ∷ after
    pub later : Contains after other_edge

  -- an edge is bad where its child isn't last
  module _ (IsBad : Edge → Type 0) where
    -- a bad edge, and a walk from its end back to its start
    abbrev pub IsBadCycle : Edge → List Edge → Type 0
    IsBadCycle e walk = Contains edges e × IsBad e × IsWalk (target e) walk (source e)

    abbrev pub IsTailRecursive : Type 0
    IsTailRecursive = (e : Edge) (walk : List Edge) → IsBadCycle e walk → ⊥

    -- each edge goes down, or isn't bad and doesn't go up
    abbrev pub IsLawfulRanking : (Task → ℕ) → Type 0
    IsLawfulRanking rank = (e : Edge) → Contains edges e → (rank (target e) < rank (source e)) ⊎ ((IsBad e → ⊥) × (rank (target e) ≤ rank (source e)))

    -- the bad cycle that is named: with the first bad edge that closes one, and of the shortest walks back the one that comes first
    pub record IsNamedCycle (e : Edge) (walk : List Edge) : Type 0 where
      pub cycle : IsBadCycle e walk
      pub before : List Edge
      pub after : List Edge
      pub parts : edges ≡ before ++ e ∷ after
      pub none_before : (d : Edge) (back : List Edge) → Contains before d → IsBadCycle d back → ⊥
      pub shortest : (back : List Edge) → IsWalk (target e) back (source e) → length walk ≤ length back
      pub first : (back : List Edge) → IsWalk (target e) back (source e) → length back ≡ length walk → (walk ≡ back) ⊎ ComesFirst walk back
