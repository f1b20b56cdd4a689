-- Texts that are put one after another.
use Rattle.std.proofs.Common.{◌≡◌, ◌≢◌, List, [], ◌∷◌, Option, Some, None, IfSome, refl, sym, ap, ◌∙◌, subst, inl, inr}
use Rattle.std.specs.Option.{option_map}
use Rattle.outside_io.specs.Folder.{Folder, with_bytes, told_of, KeepsOthers}
use Rattle.outside_io.specs.Files.{FilesState, PutGives, PutFails}
use Rattle.outside_io.specs.Sink.{SinkState}
use Rattle.command_words.specs.Names.{Word}
use Rattle.htn_cli.specs.Answer.{Text, Output}
use Rattle.htn_cli.specs.Left.{Stand, FailsToPut}
use Rattle.htn_cli.specs.Stops.{StopsPut, StopsPuts, StopsPrint, StopsDelivery}
use Rattle.htn_cli.specs.declared.refusal.Failure.TheVariants as failure
use Rattle.htn_cli.specs.declared.refusal.Refusal.{Refusal}
use Rattle.htn_cli.specs.declared.refusal.Refusal.TheVariants as refused

-- no text is put
pub none_put : (files : FilesState) → Stand [] files files
none_put files = record { held = tt; others = λ other none. refl; faults = record { get_faults = refl; put_faults = refl }; nothing = λ e. refl }

-- a put tells of its name what the put before it would have told
told_as_before : (held : Option Folder) (name bytes text : Word) → option_map (λ (folder : Folder). Some text) (option_map (λ folder. with_bytes folder name bytes) held) ≡ option_map (λ folder. Some text) held
told_as_before None name bytes text = refl
told_as_before (Some folder) name bytes text = refl

not_one : {A : Type 0} (x : A) (xs : List A) → x ∷ xs ≡ [] → ⊥
not_one x xs e = cc

module _ (a b : Text) (old mid : FilesState) (first : PutGives old mid a.name a.bytes) where
  pub one_stands : Stand (a ∷ []) old mid
  one_stands = record {
    held = (first.given, tt);
    others = λ other none. first.others other none.0;
    faults = record { get_faults = first.get_faults; put_faults = first.put_faults };
    nothing = λ e. absurd (not_one a [] e);
  }

  module _ (new : FilesState) (apart : a.name ≢ b.name) where
    both_others : KeepsOthers mid.held new.held b.name → (other : Word) → other ≢ a.name → other ≢ b.name → told_of new.held other ≡ told_of old.held other
    both_others two other here there = two other there ∙ first.others other here

    pub both_stand : PutGives mid new b.name b.bytes → Stand (a ∷ b ∷ []) old new
    both_stand second = record {
      held = (
        second.others a.name apart ∙ first.given,
        (second.given ∙ ap (option_map (λ (folder : Folder). Some b.bytes)) first.held ∙ told_as_before old.held a.name a.bytes b.bytes, tt),
      );
      others = λ other none. both_others second.others other none.0 none.1.0;
      faults = record { get_faults = second.get_faults ∙ first.get_faults; put_faults = second.put_faults ∙ first.put_faults };
      nothing = λ e. absurd (not_one a (b ∷ []) e);
    }

    second_fails : (name : Word) → name ≡ b.name → PutFails mid new b.name → FailsToPut (a ∷ b ∷ []) name old new
    second_fails name e fails = record {
      done = a ∷ [];
      text = b;
      left = [];
      parts = refl;
      name_is = sym e;
      held = (fails.others a.name apart ∙ first.given, tt);
      others = λ other none. both_others fails.others other none.1.0 (subst (λ z. other ≢ z) e none.0);
      get_faults = fails.get_faults ∙ first.get_faults;
      put_faults = (let f = first.put_faults in rw (← f) fails.put_faults);
      failed = subst (λ z. IfSome new.failed (λ told. told ≡ z)) (sym e) fails.failed;
      lenient = fails.lenient ∙ first.lenient;
    }

    -- the second text was not put
    pub stops_second : (refusal : Refusal) → StopsPut b.name mid new refusal → StopsPuts (a ∷ b ∷ []) old new refusal
    stops_second (refused.Failure (failure.Writing word)) stops = second_fails word.now stops.0 stops.1
    stops_second (refused.Failure failure.Memory) stops = record { done = a ∷ []; text = b; left = []; parts = refl; stand = subst (Stand (a ∷ []) old) (sym stops) one_stands }
    stops_second _ stops = absurd stops

-- nor was the first
module _ (a b : Text) (old new : FilesState) where
  first_fails : (name : Word) → name ≡ a.name → PutFails old new a.name → FailsToPut (a ∷ b ∷ []) name old new
  first_fails name e fails = record {
    done = [];
    text = a;
    left = b ∷ [];
    parts = refl;
    name_is = sym e;
    held = tt;
    others = λ other none. fails.others other (subst (λ z. other ≢ z) e none.0);
    get_faults = fails.get_faults;
    put_faults = fails.put_faults;
    failed = subst (λ z. IfSome new.failed (λ told. told ≡ z)) (sym e) fails.failed;
    lenient = fails.lenient;
  }

  pub stops_first : (refusal : Refusal) → StopsPut a.name old new refusal → StopsPuts (a ∷ b ∷ []) old new refusal
  stops_first (refused.Failure (failure.Writing word)) stops = first_fails word.now stops.0 stops.1
  stops_first (refused.Failure failure.Memory) stops = record { done = []; text = a; left = b ∷ []; parts = refl; stand = subst (Stand [] old) (sym stops) (none_put old) }
  stops_first _ stops = absurd stops

-- An output whose texts were not all put, or whose line was not told.
module _ (output : Output) (old new : FilesState) (out out' : SinkState) where
  pub undelivered : (refusal : Refusal) → StopsPuts output.texts old new refusal → StopsDelivery output old new out out refusal
  undelivered (refused.Failure (failure.Writing word)) stops = (stops, refl)
  undelivered (refused.Failure failure.Memory) stops = inl (stops, refl)
  undelivered _ stops = absurd stops

  pub untold : Stand output.texts old new → (refusal : Refusal) → StopsPrint output.told out out' refusal → StopsDelivery output old new out out' refusal
  untold stand (refused.Failure failure.Telling) stops = (stand, stops)
  untold stand (refused.Failure failure.Memory) stops = inr (stand, stops)
  untold stand _ stops = absurd stops
