-- A place and a fault, written piece by piece with what stands around them.
use Rattle.std.proofs.Common.{◌≡◌, ℕ, List, ◌++◌, codes, decimal, refl, subst, append_assoc}
use Rattle.outside_io.specs.Sink.{SinkState}
use Rattle.outside_io.specs.declared.sink.WriteError.{WriteError}
use Rattle.text_values.specs.FaultWords.{fault_word}
use Rattle.htn_cli.specs.Faults.{place_text, fault_text}
use Rattle.htn_cli.specs.Sent.{TakesWhole, StopsAt}
use Rattle.htn_cli.specs.declared.faults.Place.{Place}
use Rattle.htn_cli.proofs.Texts.{TakesWhole-append, StopsAt-first, StopsAt-second}

module _ (before : List ℕ) (place : Place) (after name : List ℕ) (name_is : name ≡ place.name.now) where
  abbrev start : List ℕ
  start = before ++ name ++ codes ":"

  place_is : (number : List ℕ) → number ≡ decimal place.at → start ++ (number ++ after) ≡ before ++ place_text place ++ after
  place_is number is = rw (name_is, is) (simp append_assoc refl)

  -- it stopped before the offset, or in it
  pub stops_before_offset : (old new : SinkState) (error : WriteError) → StopsAt start old new error → StopsAt (before ++ place_text place ++ after) old new error
  stops_before_offset old new error stops = subst (λ z. StopsAt z old new error) (place_is (decimal place.at) refl) (StopsAt-first start (decimal place.at ++ after) old new error stops)

  pub stops_in_offset : (number : List ℕ) → number ≡ decimal place.at → (old mid new : SinkState) (error : WriteError) → TakesWhole start old mid → StopsAt (number ++ after) mid new error
      → StopsAt (before ++ place_text place ++ after) old new error
  stops_in_offset number is old mid new error whole stops = subst (λ z. StopsAt z old new error) (place_is number is) (StopsAt-second start (number ++ after) old mid new error whole stops)

module _ (before : List ℕ) (place : Place) (code : ℕ) (after : List ℕ) where
  abbrev placed : List ℕ
  placed = before ++ place_text place ++ codes ": fault "

  abbrev all : List ℕ
  all = before ++ fault_text place code ++ after

  fault_is : placed ++ ((decimal code ++ codes " ") ++ (fault_word code ++ after)) ≡ all
  fault_is = go (place_text place) (codes ": fault ") (decimal code) (codes " ") (fault_word code)
    where
      go : (a b c d e : List ℕ) → (before ++ a ++ b) ++ ((c ++ d) ++ (e ++ after)) ≡ before ++ (a ++ b ++ c ++ d ++ e) ++ after
      go a b c d e = simp append_assoc refl

  -- it stopped in the place, before the word of the code, or behind
  pub stops_in_place : (old new : SinkState) (error : WriteError) → StopsAt placed old new error → StopsAt all old new error
  stops_in_place old new error stops = subst (λ z. StopsAt z old new error) fault_is (StopsAt-first placed _ old new error stops)

  module _ (number : List ℕ) (number_is : number ≡ decimal code) (old mid : SinkState) (first : TakesWhole placed old mid) where
    pub stops_in_code : (new : SinkState) (error : WriteError) → StopsAt (number ++ codes " ") mid new error → StopsAt all old new error
    stops_in_code new error stops =
        subst (λ z. StopsAt z old new error) fault_is
        (StopsAt-second placed _ old mid new error first (StopsAt-first _ (fault_word code ++ after) mid new error (subst (λ z. StopsAt (z ++ codes " ") mid new error) number_is stops)))

    module _ (word : List ℕ) (word_is : word ≡ fault_word code) (mid' : SinkState) (second : TakesWhole (number ++ codes " ") mid mid') where
      pub stops_in_word : (new : SinkState) (error : WriteError) → StopsAt (word ++ after) mid' new error → StopsAt all old new error
      stops_in_word new error stops =
          subst (λ z. StopsAt z old new error) fault_is
          (StopsAt-second placed _ old mid new error first
          (StopsAt-second _ _ mid mid' new error (subst (λ z. TakesWhole (z ++ codes " ") mid mid') number_is second) (subst (λ z. StopsAt (z ++ after) mid' new error) word_is stops)))

      pub fault_told : (new : SinkState) → TakesWhole (word ++ after) mid' new → TakesWhole all old new
      fault_told new third =
          subst (λ z. TakesWhole z old new) fault_is
          (TakesWhole-append placed _ old mid new first
          (TakesWhole-append _ _ mid mid' new (subst (λ z. TakesWhole (z ++ codes " ") mid mid') number_is second) (subst (λ z. TakesWhole (z ++ after) mid' new) word_is third)))
