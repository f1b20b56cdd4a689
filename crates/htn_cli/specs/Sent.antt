use Rattle.std.specs.Prelude.{◌≡◌, ℕ, ◌+◌, ◌<◌, ◌≤◌, List, ◌++◌, length, take, drop, Option, option_map}
use Rattle.outside_io.specs.Count.{HasRisen, Rises}
use Rattle.outside_io.specs.Sink.{SinkState}
use Rattle.outside_io.specs.declared.sink.WriteError.{WriteError}
use Rattle.outside_io.specs.declared.sink.WriteError.TheVariants.{Failed, Memory}

-- bytes that were written after those that were there, where that is told
abbrev pub with_more : Option (List ℕ) → List ℕ → Option (List ℕ)
with_more written more = option_map (λ bytes. bytes ++ more) written

-- a sink that took a text whole
pub record TakesWhole (text : List ℕ) (old new : SinkState) : Type 0 where
  pub written : new.written ≡ with_more old.written text
  pub faults : new.faults ≡ old.faults
  pub refused : new.refused ≡ old.refused

-- a sink that took the first bytes of a text
pub record TakesPart (text : List ℕ) (old new : SinkState) : Type 0 where
  pub taken : List ℕ
  pub left : List ℕ
  pub parts : text ≡ taken ++ left
  pub written : new.written ≡ with_more old.written taken

-- a sink that took the first bytes of a text, and then failed
pub record TakesThenFails (text : List ℕ) (old new : SinkState) : Type 0 where
  pub part : TakesPart text old new
  pub faults : Rises old.faults new.faults
  pub refused : new.refused ≡ old.refused

-- a sink that took the first bytes of a text, and then found no memory
pub record TakesThenStarves (text : List ℕ) (old new : SinkState) : Type 0 where
  pub part : TakesPart text old new
  pub faults : new.faults ≡ old.faults
  pub refused : Rises old.refused new.refused

abbrev pub StopsAt : List ℕ → SinkState → SinkState → WriteError → Type 0
StopsAt text old new Failed = TakesThenFails text old new
StopsAt text old new Memory = TakesThenStarves text old new

-- a line that was told as far as the sink took it: whole, where neither count rose
pub record Told (line : List ℕ) (old new : SinkState) : Type 0 where
  pub part : TakesPart line old new
  pub whole : (HasRisen old.faults new.faults → ⊥) → (HasRisen old.refused new.refused → ⊥) → new.written ≡ with_more old.written line

-- a sink that took the next `count` bytes of a text of which `done` were taken before
pub record TakesNext (text : List ℕ) (done : ℕ) (old new : SinkState) (count : ℕ) : Type 0 where
  pub some : 0 < count
  pub within : done + count ≤ length text
  pub written : new.written ≡ with_more old.written (take count (drop done text))
  pub faults : new.faults ≡ old.faults
  pub refused : new.refused ≡ old.refused
