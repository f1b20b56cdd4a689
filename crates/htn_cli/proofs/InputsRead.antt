-- The texts of inputs, from what is read of them.
use Rattle.std.proofs.Common.{ℕ, zero, suc, ◌≡◌, ◌<◌, ◌≤◌, Bool, List, [], ◌∷◌, ◌++◌, length, slice_get, take, take_all, Option, Some, None, IfSome, option_map, refl, sym, ap, ◌∙◌, subst, arith}
use Rattle.std.proofs.lemmas.List.{length-take}
use Rattle.htn_base.specs.Limits.{longest_input}
use Rattle.outside_io.specs.Folder.{Folder, file_of}
use Rattle.outside_io.specs.Files.{FilesState, GetGives, GetFails}
use Rattle.command_words.specs.Names.{Word}
use Rattle.htn_cli.specs.Inputs.{AreShort, EndTooLarge, AreGot}
use Rattle.htn_cli.specs.Told.{Reads}
use Rattle.htn_cli.specs.Stops.{GivesInput, StopsInput, GivesTexts, StopsReading}
use Rattle.htn_cli.specs.declared.refusal.Failure.TheVariants as failure
use Rattle.htn_cli.specs.declared.refusal.Limit.TheVariants as limit
use Rattle.htn_cli.specs.declared.refusal.Refusal.{Refusal}
use Rattle.htn_cli.specs.declared.refusal.Refusal.TheVariants as refused

-- a file of which so few bytes were read is read whole
whole_list : (all bytes : List ℕ) → take 16777217 all ≡ bytes → length bytes ≤ longest_input → all ≡ bytes
whole_list all bytes e short =
    let counted = ap length e in
    let few : length all ≤ 16777217 = omega (arith, length-take 16777217 all, counted, short) in
    sym (take_all 16777217 all few) ∙ e

whole_file : (file : Option (List ℕ)) (bytes : List ℕ) → option_map (take 16777217) file ≡ Some bytes → length bytes ≤ longest_input → file ≡ Some bytes
whole_file None bytes e short = absurd (cc)
whole_file (Some all) bytes e short = let f : take 16777217 all ≡ bytes = cc in ap Some (whole_list all bytes f short)

whole_read : (held : Option Folder) (lenient : Bool) (name bytes : List ℕ) → IfSome held (λ folder. option_map (take 16777217) (file_of lenient folder name) ≡ Some bytes) → length bytes ≤ longest_input
    → IfSome held (λ folder. file_of lenient folder name ≡ Some bytes)
whole_read None lenient name bytes first short = tt
whole_read (Some folder) lenient name bytes first short = whole_file (file_of lenient folder name) bytes first short

pub input_of : (name : Word) (old new : FilesState) (bytes : List ℕ) → GetGives old new name 16777217 bytes → length bytes ≤ longest_input → GivesInput name old new bytes
input_of name old new bytes gives short = record { same = gives.unchanged; read = whole_read old.held old.lenient name bytes gives.first short; short = short }

-- and one of which more were read is too large
large_file : (file : Option (List ℕ)) (bytes : List ℕ) → option_map (take 16777217) file ≡ Some bytes → longest_input < length bytes → (all : List ℕ) × (file ≡ Some all) × (longest_input < length all)
large_file None bytes e past = absurd (cc)
large_file (Some all) bytes e past =
    let f : take 16777217 all ≡ bytes = cc in
    let counted = ap length f in
    (all, refl, omega (arith, length-take 16777217 all, counted, past))

large_read : (held : Option Folder) (lenient : Bool) (name bytes : List ℕ) → IfSome held (λ folder. option_map (take 16777217) (file_of lenient folder name) ≡ Some bytes) → longest_input < length bytes
    → (all : List ℕ) × IfSome held (λ folder. file_of lenient folder name ≡ Some all) × (longest_input < length all)
large_read None lenient name bytes first past = (bytes, tt, past)
large_read (Some folder) lenient name bytes first past = large_file (file_of lenient folder name) bytes first past

pub large_of : (name : Word) (old new : FilesState) (bytes : List ℕ) → GetGives old new name 16777217 bytes → longest_input < length bytes
    → ((all : List ℕ) × Reads old name all × (longest_input < length all)) × (new ≡ old)
large_of name old new bytes gives past = (large_read old.held old.lenient name bytes gives.first past, gives.unchanged)

-- One more text behind those that were got.
module _ (files : FilesState) where
  got_more : (names : List Word) (texts : List (List ℕ)) (name : Word) (bytes : List ℕ) → AreGot files names texts → slice_get names (length texts) ≡ Some name → Reads files name bytes
      → AreGot files names (texts ++ bytes ∷ [])
  got_more [] [] name bytes got e read = absurd (cc)
  got_more [] (text ∷ texts) name bytes got e read = absurd got
  got_more (first ∷ names) [] name bytes got e read = let f : first ≡ name = cc in (subst (λ z. Reads files z bytes) (sym f) read, tt)
  got_more (first ∷ names) (text ∷ texts) name bytes got e read = (got.0, got_more names texts name bytes got.1 e read)

pub end_large : (names : List Word) (texts : List (List ℕ)) (name word : Word) (bytes : List ℕ) → AreShort texts → slice_get names (length texts) ≡ Some name → word ≡ name
    → longest_input < length bytes → EndTooLarge names (texts ++ bytes ∷ []) word
end_large [] texts name word bytes short e w past = absurd (cc)
end_large (first ∷ names) [] name word bytes short e w past = let f : first ≡ name = cc in (w ∙ sym f, past)
end_large (first ∷ names) (text ∷ []) name word bytes short e w past = (short.0, end_large names [] name word bytes tt e w past)
end_large (first ∷ names) (text ∷ more ∷ texts) name word bytes short e w past = (short.0, end_large names (more ∷ texts) name word bytes short.1 e w past)

-- the next input was not read, or is too large
pub stops_next : (names : List Word) (texts : List (List ℕ)) (name : Word) (old mid new : FilesState) → GivesTexts names old mid texts → slice_get names (length texts) ≡ Some name
    → (refusal : Refusal) → StopsInput name mid new refusal → StopsReading names old new refusal
stops_next names texts name old mid new gives next (refused.Failure (failure.Reading word)) stops = record {
  texts = texts;
  got = gives.got;
  short = gives.short;
  next = next ∙ ap Some (sym stops.0);
  fails = subst (λ z. GetFails old new z) (sym stops.0) (subst (λ z. GetFails z new name) gives.same stops.1);
}
stops_next names texts name old mid new gives next (refused.Failure failure.Memory) stops = stops ∙ gives.same
stops_next names texts name old mid new gives next (refused.Limit (limit.Bytes word)) (w, (bytes, read, past), same) = (
  (
    texts ++ bytes ∷ [],
    got_more old names texts name bytes gives.got next (subst (λ z. Reads z name bytes) gives.same read),
    end_large names texts name word.now bytes gives.short next w past,
  ),
  same ∙ gives.same,
)
stops_next names texts name old mid new gives next _ stops = absurd stops

-- nothing was read yet
pub nothing_read : (names : List Word) (files : FilesState) → GivesTexts names files files []
nothing_read names files = record { same = refl; got = tt; short = tt }

-- two inputs, and a third
pub two_read : (d p : Word) (more : List Word) (old one two : FilesState) (domain problem : List ℕ) → GivesInput d old one domain → GivesInput p one two problem
    → GivesTexts (d ∷ p ∷ more) old two (domain ∷ problem ∷ [])
two_read d p more old one two domain problem first second = record {
  same = second.same ∙ first.same;
  got = (first.read, (subst (λ z. Reads z p problem) first.same second.read, tt));
  short = (first.short, (second.short, tt));
}

pub one_read : (d : Word) (more : List Word) (old one : FilesState) (domain : List ℕ) → GivesInput d old one domain → GivesTexts (d ∷ more) old one (domain ∷ [])
one_read d more old one domain first = record { same = first.same; got = (first.read, tt); short = (first.short, tt) }

pub third_read : (d p l : Word) (old two three : FilesState) (domain problem plan : List ℕ) → GivesTexts (d ∷ p ∷ []) old two (domain ∷ problem ∷ []) → GivesInput l two three plan
    → GivesTexts (d ∷ p ∷ l ∷ []) old three (domain ∷ problem ∷ plan ∷ [])
third_read d p l old two three domain problem plan texts third = record {
  same = third.same ∙ texts.same;
  got = (texts.got.0, (texts.got.1.0, (subst (λ z. Reads z l plan) texts.same third.read, tt)));
  short = (texts.short.0, (texts.short.1.0, (third.short, tt)));
}

-- two inputs of three
pub two_of_three : (d p l : Word) (old two : FilesState) (domain problem : List ℕ) → GivesTexts (d ∷ p ∷ []) old two (domain ∷ problem ∷ []) → GivesTexts (d ∷ p ∷ l ∷ []) old two (domain ∷ problem ∷ [])
two_of_three d p l old two domain problem texts = record { same = texts.same; got = texts.got; short = texts.short }

module _ (files : FilesState) where
  got_longer : (names more : List Word) (texts : List (List ℕ)) → AreGot files names texts → AreGot files (names ++ more) texts
  got_longer names more [] got = tt
  got_longer [] more (text ∷ texts) got = absurd got
  got_longer (name ∷ names) more (text ∷ texts) got = (got.0, got_longer names more texts got.1)

pub next_longer : (names more : List Word) (k : ℕ) (name : Word) → slice_get names k ≡ Some name → slice_get (names ++ more) k ≡ Some name
next_longer [] more k name e = absurd (cc)
next_longer (n ∷ names) more zero name e = e
next_longer (n ∷ names) more (suc k) name e = next_longer names more k name e

pub large_longer : (names more : List Word) (texts : List (List ℕ)) (word : Word) → EndTooLarge names texts word → EndTooLarge (names ++ more) texts word
large_longer [] more texts word large = absurd large
large_longer (name ∷ names) more [] word large = absurd large
large_longer (name ∷ names) more (text ∷ []) word large = large
large_longer (name ∷ names) more (text ∷ other ∷ texts) word large = (large.0, large_longer names more (other ∷ texts) word large.1)

-- what stops the reading of some inputs stops that of more
pub stops_longer : (names more : List Word) (old new : FilesState) (refusal : Refusal) → StopsReading names old new refusal → StopsReading (names ++ more) old new refusal
stops_longer names more old new (refused.Failure (failure.Reading word)) stops =
    record { texts = stops.texts; got = got_longer old names more stops.texts stops.got; short = stops.short; next = next_longer names more _ word.now stops.next; fails = stops.fails }
stops_longer names more old new (refused.Failure failure.Memory) stops = stops
stops_longer names more old new (refused.Limit (limit.Bytes word)) ((texts, got, large), same) = ((texts, got_longer old names more texts got, large_longer names more texts word.now large), same)
stops_longer names more old new _ stops = absurd stops
