use Rattle.std.proofs.Common.{◌≡◌, ◌++◌, map, take, length, true}
use Rattle.gd_reader.specs.TypedLists.{with_type}
use Rattle.gd_reader.specs.TypedAsBefore.{types_before, AreMarked}
use Rattle.gd_reader.proofs.raw_params.RawParams.with_words.Given as goal

abbrev pub invariant-loop-word : goal.invariant-loop-word
invariant-loop-word l = record {
  words : l.all ≡ l.initial.all ++ map (with_type l.fn.types) (take l.word-index l.words);
  marked : AreMarked l.all l.as_before;
  behind : l.is_behind ≡ true → l.fn.types ≡ types_before l.all (length l.all);
}
