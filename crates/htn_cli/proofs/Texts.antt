use Rattle.std.proofs.Common.{◌≡◌, ℕ, ◌+◌, ◌≤◌, List, [], ◌++◌, length, take, drop, Option, Some, None, refl, sym, ap, ◌∙◌, append_assoc}
use Rattle.std.proofs.Math.Seq.{take-add}
use Rattle.std.proofs.lemmas.List.{append-nil, take-append-drop}
use Rattle.outside_io.specs.Count.{Rises}
use Rattle.outside_io.specs.Sink.{SinkState, WriteRefused}
use Rattle.outside_io.specs.declared.sink.WriteError.{WriteError}
use Rattle.outside_io.specs.declared.sink.WriteError.TheVariants.{Failed, Memory}
use Rattle.htn_cli.specs.Sent.{with_more, TakesWhole, TakesPart, TakesNext, StopsAt, Told}

pub with_more-nil : (written : Option (List ℕ)) → with_more written [] ≡ written
with_more-nil None = refl
with_more-nil (Some bytes) = ap Some (append-nil bytes)

pub with_more-with_more : (written : Option (List ℕ)) (first second : List ℕ) → with_more (with_more written first) second ≡ with_more written (first ++ second)
with_more-with_more None first second = refl
with_more-with_more (Some bytes) first second = ap Some (append_assoc bytes first second)

-- the sink took the first `done` bytes of a text, and nothing failed
pub record IsSentTo (text : List ℕ) (done : ℕ) (old new : SinkState) : Type 0 where
  pub within : done ≤ length text
  pub written : new.written ≡ with_more old.written (take done text)
  pub faults : new.faults ≡ old.faults
  pub refused : new.refused ≡ old.refused

pub IsSentTo-next : (text : List ℕ) (done count : ℕ) (old mid new : SinkState) → IsSentTo text done old mid → TakesNext text done mid new count → IsSentTo text (done + count) old new
IsSentTo-next text done count old mid new sent next =
    record {
      within = next.within;
      written = next.written ∙ ap (λ w. with_more w (take count (drop done text))) sent.written ∙ with_more-with_more old.written (take done text) (take count (drop done text)) ∙ ap (with_more old.written) (sym (take-add done count text));
      faults = next.faults ∙ sent.faults;
      refused = next.refused ∙ sent.refused;
    }

part_sent : (text : List ℕ) (done : ℕ) (old new : SinkState) → new.written ≡ with_more old.written (take done text) → TakesPart text old new
part_sent text done old new written = record { taken = take done text; left = drop done text; parts = sym (take-append-drop done text); written = written }

Rises-after : (old mid new : ℕ) → mid ≡ old → Rises mid new → Rises old new
Rises-after old mid new e rises = rw (← e) rises

-- a write that is refused stops the text where it is
pub StopsAt-sent : (text : List ℕ) (done : ℕ) (old mid new : SinkState) (error : WriteError) → IsSentTo text done old mid → WriteRefused mid new error → StopsAt text old new error
StopsAt-sent text done old mid new Failed sent fails =
    record { part = part_sent text done old new (fails.written ∙ sent.written); faults = Rises-after _ _ _ sent.faults fails.faults; refused = fails.refused ∙ sent.refused }
StopsAt-sent text done old mid new Memory sent starves =
    record { part = part_sent text done old new (starves.written ∙ sent.written); faults = starves.faults ∙ sent.faults; refused = Rises-after _ _ _ sent.refused starves.refused }

-- one text after another
pub TakesWhole-append : (first second : List ℕ) (old mid new : SinkState) → TakesWhole first old mid → TakesWhole second mid new → TakesWhole (first ++ second) old new
TakesWhole-append first second old mid new one two =
    record {
      written = two.written ∙ ap (λ w. with_more w second) one.written ∙ with_more-with_more old.written first second;
      faults = two.faults ∙ one.faults;
      refused = two.refused ∙ one.refused;
    }

TakesPart-first : (first second : List ℕ) (old new : SinkState) → TakesPart first old new → TakesPart (first ++ second) old new
TakesPart-first first second old new p =
    record { taken = p.taken; left = p.left ++ second; parts = ap (λ t. t ++ second) p.parts ∙ append_assoc p.taken p.left second; written = p.written }

TakesPart-second : (first second : List ℕ) (old mid new : SinkState) → TakesWhole first old mid → TakesPart second mid new → TakesPart (first ++ second) old new
TakesPart-second first second old mid new one p =
    record {
      taken = first ++ p.taken;
      left = p.left;
      parts = ap (λ t. first ++ t) p.parts ∙ sym (append_assoc first p.taken p.left);
      written = p.written ∙ ap (λ w. with_more w p.taken) one.written ∙ with_more-with_more old.written first p.taken;
    }

pub StopsAt-first : (first second : List ℕ) (old new : SinkState) (error : WriteError) → StopsAt first old new error → StopsAt (first ++ second) old new error
StopsAt-first first second old new Failed stops = record { part = TakesPart-first first second old new stops.part; faults = stops.faults; refused = stops.refused }
StopsAt-first first second old new Memory stops = record { part = TakesPart-first first second old new stops.part; faults = stops.faults; refused = stops.refused }

pub StopsAt-second : (first second : List ℕ) (old mid new : SinkState) (error : WriteError) → TakesWhole first old mid → StopsAt second mid new error → StopsAt (first ++ second) old new error
StopsAt-second first second old mid new Failed one stops =
    record { part = TakesPart-second first second old mid new one stops.part; faults = Rises-after _ _ _ one.faults stops.faults; refused = stops.refused ∙ one.refused }
StopsAt-second first second old mid new Memory one stops =
    record { part = TakesPart-second first second old mid new one stops.part; faults = stops.faults ∙ one.faults; refused = Rises-after _ _ _ one.refused stops.refused }

-- what is told of a line, however its sending ended
pub Told-whole : (line : List ℕ) (old new : SinkState) → TakesWhole line old new → Told line old new
Told-whole line old new whole =
    record { part = record { taken = line; left = []; parts = sym (append-nil line); written = whole.written }; whole = λ _ _. whole.written }

pub Told-stops : (line : List ℕ) (old new : SinkState) (error : WriteError) → StopsAt line old new error → Told line old new
Told-stops line old new Failed stops = record { part = stops.part; whole = λ calm _. absurd (calm stops.faults.has_risen) }
Told-stops line old new Memory stops = record { part = stops.part; whole = λ _ calm. absurd (calm stops.refused.has_risen) }

pub Told-nothing : (sink : SinkState) → Told [] sink sink
Told-nothing sink = Told-whole [] sink sink (record { written = sym (with_more-nil sink.written); faults = refl; refused = refl })
