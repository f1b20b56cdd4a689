-- What the lists of the queue say, and what is put into it and taken out.
-- Source: this project's.
use Rattle.std.specs.Prelude.{ℕ, suc, ◌≡◌, ◌<◌, ◌≤◌, ◌-◌, ◌⊎◌, ◌↔◌, List, Option, None, Some, slice_index, slice_get, true, Contains}
use Rattle.std.specs.Ordering.{nat_cmp, ordering_then}
use Rattle.std.specs.declared.cmp.Ordering.{Ordering}
use Rattle.std.specs.BTreeSet.{contains}
use Rattle.schedule_queue.specs.declared.queue.Queue.{Queue}
use Rattle.schedule_queue.specs.Given.{WaitsIn}

abbrev pub unfinished_at : Queue → ℕ → ℕ
unfinished_at queue = slice_index queue.unfinished.items

abbrev pub blocked_at : Queue → ℕ → ℕ
blocked_at queue = slice_index queue.blocked.items

-- by gap, then by address
abbrev pub by_gap : ℕ × ℕ → ℕ × ℕ → Ordering
by_gap p q = ordering_then (nat_cmp p.0 q.0) (nat_cmp p.1 q.1)

-- the node of the address waits in the gap
abbrev pub Holds : Queue → ℕ → ℕ → Type 0
Holds queue gap k = contains by_gap queue.waiting (gap, k) ≡ true

-- one less at each of these
pub record AreLowered (addresses old new : List ℕ) : Type 0 where
  pub falls : (k : ℕ) → Contains addresses k → slice_index new k ≡ slice_index old k - 1
  pub stays : (k : ℕ) → (Contains addresses k → ⊥) → slice_index new k ≡ slice_index old k

-- nothing but what waits has changed
pub record HasSameCounts (old new : Queue) : Type 0 where
  pub unfinished : new.unfinished ≡ old.unfinished
  pub blocked : new.blocked ≡ old.blocked
  pub passed : new.passed ≡ old.passed

module _ (actions gaps : List ℕ) where
  -- the node waits, where nothing blocks it and it is no primitive
  pub record IsOffered (address : ℕ) (old new : Queue) : Type 0 where
    pub same : HasSameCounts old new
    pub holds : (gap k : ℕ) → Holds new gap k
        ↔ (Holds old gap k ⊎ ((k ≡ address) × (blocked_at old address ≡ 0) × WaitsIn actions gaps address gap))

  -- those of these wait
  pub record AreOffered (addresses : List ℕ) (old new : Queue) : Type 0 where
    pub same : HasSameCounts old new
    pub holds : (gap k : ℕ) → Holds new gap k
        ↔ (Holds old gap k ⊎ (Contains addresses k × (blocked_at old k ≡ 0) × WaitsIn actions gaps k gap))

-- nothing waits in a gap that has come
abbrev pub IsEarly : Queue → Type 0
IsEarly queue = (gap k : ℕ) → Holds queue gap k → queue.passed < gap

-- the first of those that wait, in a gap that has come, is out
pub record IsOut (old new : Queue) (address : ℕ) : Type 0 where
  pub same : HasSameCounts old new
  pub gap : ℕ
  pub held : Holds old gap address
  pub come : gap ≤ old.passed
  pub least : (g k : ℕ) → Holds old g k → (gap < g) ⊎ ((gap ≡ g) × (address ≤ k))
  pub rest : (g k : ℕ) → Holds new g k ↔ (Holds old g k × ((gap ≡ g) × (address ≡ k) → ⊥))

-- or none is there, and all is as it was
abbrev pub IsPopped : Queue → Queue → Option ℕ → Type 0
IsPopped old new None = IsEarly old × (new ≡ old)
IsPopped old new (Some address) = IsOut old new address

-- the primitive of the gap is taken
pub record IsTurnOf (actions : List ℕ) (old new : Queue) (address : ℕ) : Type 0 where
  pub early : IsEarly old
  pub is : slice_get actions old.passed ≡ Some address
  pub unfinished : new.unfinished ≡ old.unfinished
  pub blocked : new.blocked ≡ old.blocked
  pub waiting : new.waiting ≡ old.waiting
  pub passed : new.passed ≡ suc old.passed

abbrev pub IsNext : List ℕ → Queue → Queue → Option ℕ → Type 0
IsNext actions old new None = IsEarly old × (slice_get actions old.passed ≡ None)
IsNext actions old new (Some address) = IsOut old new address ⊎ IsTurnOf actions old new address
