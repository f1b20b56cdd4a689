use Rattle.std.proofs.Common.{◌≡◌, ◌++◌, ◌∷◌, [], ◌<◌, ◌-◌, ◌^◌, length, sym, ap, ◌∙◌, subst, arith}
use Rattle.std.proofs.lemmas.List.{length-append}
use Rattle.htn_base.specs.Packed.{parts_from}
use Rattle.htn_base.specs.Table.{IsTable}
use Rattle.htn_base.proofs.PackedLemmas.{part_pushed, ends_pushed, length-parts}
use Rattle.htn_base.proofs.TableLemmas.{IsTable-push}
use Rattle.htn_base.proofs.word_list.WordList.push.Goals as goal

module _ (c : goal.In-Ok) where
  bytes : c.extend_from_slice.new.self.items ≡ c.self.inside.bytes.items ++ c.args.word.now
  bytes = c.in-Ok.ensures.items

  -- what is put behind the ends: how many bytes there are
  ends : c.push.new.self.items ≡ c.self.inside.ends.items ++ length (c.self.inside.bytes.items ++ c.args.word.now) ∷ []
  ends =
      let long = length-append c.self.inside.bytes.items c.args.word.now in
      let end : c.in_ok-end.end ≡ length (c.self.inside.bytes.items ++ c.args.word.now) = omega (arith, c.in_ok-end.ensures.same, c.len-2.ensures, long) in
      c.in_ok-push.ensures.items ∙ ap (λ end. c.self.inside.ends.items ++ end ∷ []) end

  parts : parts_from 0 (c.self.inside.ends.items ++ length (c.self.inside.bytes.items ++ c.args.word.now) ∷ []) (c.self.inside.bytes.items ++ c.args.word.now)
      ≡ c.args.self.now ++ c.args.word.now ∷ []
  parts =
      part_pushed 0 c.self.inside.ends.items c.self.inside.bytes.items c.args.word.now c.self.invariant.rising
      ∙ ap (λ xs. xs ++ c.args.word.now ∷ []) c.self.view_is

  table : IsTable (c.args.self.now ++ c.args.word.now ∷ [])
  table =
      let count = length-parts 0 c.self.inside.ends.items c.self.inside.bytes.items ∙ ap (λ xs. length xs) c.self.view_is in
      let room : length c.args.self.now < 2 ^ 32 - 1 = omega (arith, count, c.len.ensures, c.if-len-ge-MOST_WORDS.false) in
      IsTable-push c.args.self.now c.args.word.now (subst IsTable c.self.view_is c.self.invariant.table) room c.requires

pub invariant_of-self-in-Ok : goal.invariant_of-self-in-Ok
invariant_of-self-in-Ok c =
    let list = c.self.inside in
    let long = length-append list.bytes.items c.args.word.now in
    let rising = ends_pushed 0 list.ends.items (length list.bytes.items) (length (list.bytes.items ++ c.args.word.now)) (omega (arith, long)) c.self.invariant.rising in
    rw (ends c, bytes c) (record { rising = rising; table = subst IsTable (sym (parts c)) (table c) })

pub returns-in-Ok-clause-pushed : goal.returns-in-Ok-clause-pushed
returns-in-Ok-clause-pushed c = rw (ends c, bytes c) (parts c)

pub returns-in-Ok-clause-sound : goal.returns-in-Ok-clause-sound
returns-in-Ok-clause-sound c = rw (ends c, bytes c) (subst IsTable (sym (parts c)) (table c))
