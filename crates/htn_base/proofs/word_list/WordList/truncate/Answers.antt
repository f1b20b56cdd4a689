use Rattle.std.proofs.Common.{◌≡◌, ◌∷◌, length, take, Some, slice_get, sym, ap, ◌∙◌, subst, arith}
use Rattle.std.proofs.lemmas.List.{take_all}
use Rattle.htn_base.specs.Packed.{EndsFrom, parts_from}
use Rattle.htn_base.specs.Table.{IsTable}
use Rattle.htn_base.proofs.PackedLemmas.{parts_taken, ends_taken, taken_within, length-parts}
use Rattle.htn_base.proofs.ReadAt.{past_read}
use Rattle.htn_base.proofs.TableLemmas.{IsTable-take}
use Rattle.htn_base.proofs.word_list.WordList.truncate.Goals as goal

module _ (c : goal.After-truncate-in-Some) where
  end : slice_get (0 ∷ c.self.inside.ends.items) c.args.len ≡ Some c.in-Some.end
  end = sym c.boundary.ensures ∙ c.in-Some.is

  parts : parts_from 0 (take c.args.len c.self.inside.ends.items) (take c.in-Some.end c.self.inside.bytes.items) ≡ take c.args.len c.args.self.now
  parts =
      parts_taken 0 c.self.inside.ends.items c.self.inside.bytes.items c.args.len c.in-Some.end c.self.invariant.rising end
      ∙ ap (take c.args.len) c.self.view_is

  table : IsTable (take c.args.len c.args.self.now)
  table = IsTable-take c.args.len c.args.self.now (subst IsTable c.self.view_is c.self.invariant.table)

pub invariant_of-self : goal.invariant_of-self
invariant_of-self c =
    let list = c.self.inside in
    let rising = ends_taken 0 list.ends.items (length list.bytes.items) c.args.len c.in-Some.end c.self.invariant.rising (end c) in
    let long = taken_within list.ends.items list.bytes.items c.args.len c.in-Some.end c.self.invariant.rising (end c) in
    rw (c.truncate.ensures.items, c.truncate-in-Some.ensures.items)
    (record { rising = subst (EndsFrom 0 (take c.args.len list.ends.items)) (sym long) rising; table = subst IsTable (sym (parts c)) (table c) })

pub returns-in-Some : goal.returns-in-Some
returns-in-Some c = rw (c.truncate.ensures.items, c.truncate-in-Some.ensures.items) (record { words = parts c; sound = subst IsTable (sym (parts c)) (table c) })

pub returns-in_default : goal.returns-in_default
returns-in_default c =
    let list = c.self.inside in
    let past = past_read (0 ∷ list.ends.items) c.args.len c.boundary.result c.boundary.ensures c.in_default.is in
    let long = length-parts 0 list.ends.items list.bytes.items ∙ ap (λ xs. length xs) c.self.view_is in
    record {
      words = sym (take_all c.args.len c.args.self.now (omega (arith, past, long)));
      sound = subst IsTable c.self.view_is c.self.invariant.table;
    }
