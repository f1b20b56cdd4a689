use Rattle.std.proofs.Common.{◌≡◌, map, take}
use Rattle.std.specs.List.{fold}
use Rattle.std.specs.Option.{option_copied}
use Rattle.htn_base.specs.Table.{with_word}
use Rattle.name_binding.specs.Unions.{members_of, IsThere}
use Rattle.name_binding.proofs.table.TypeTable.add_unions.Given as goal

abbrev pub invariant-loop-either : goal.invariant-loop-either
invariant-loop-either l = record {
  unions : l.self.unions ≡ fold with_word l.fn.self.unions (map members_of (take l.either-index l.either-items));
  types : l.self.types ≡ l.fn.self.types;
  there : IsThere l.self.unions (option_copied l.before);
}
