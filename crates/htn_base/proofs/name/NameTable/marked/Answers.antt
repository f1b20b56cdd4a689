use Rattle.std.proofs.Common.{◌≡◌, Some, slice_get, ap, sym, ◌∙◌}
use Rattle.std.specs.Option.{option_map}
use Rattle.std.proofs.lemmas.Slice.Eq.{bytes_eq-Decides}
use Rattle.htn_base.proofs.TableLemmas.{number_there, known-number, known-same}
use Rattle.htn_base.proofs.name.NameTable.marked.Goals as goal

pub returns-then-eq : goal.returns-then-eq
returns-then-eq c =
    let same : c.in_ok-marked.marked.now ≡ c.args.word.now = (bytes_eq-Decides c.in_ok-marked.marked.now c.args.word.now).0 (sym c.eq.ensures ∙ c.if-eq.true) in
    let there : slice_get c.args.self.now c.in_ok-name.name.number ≡ Some c.args.word.now = sym c.text.ensures.word ∙ ap (λ found. option_map (λ word. word.now) found) c.in_ok-marked.was ∙ ap (λ w. Some w) same in
    let number = number_there c.args.self.now c.args.word.now c.in_ok-name.name.number c.text.ensures.sound.differ there in
    record {
      known = record {
        number = known-number c.args.self.now c.args.word.now c.text.ensures.sound c.in_ok-name.name.number number;
        same = known-same c.args.self.now c.args.word.now c.text.ensures.sound c.in_ok-name.name.number number;
      };
      number = number;
      sound = c.text.ensures.sound;
    }
