use Rattle.gd_reader.proofs.Items.{shows_end, shows_close_from, shows_word_from, shows_list_from}
use Rattle.gd_reader.proofs.positions.item_from.Goals as goal

pub returns-in-None : goal.returns-in-None
returns-in-None c = let h = c.in-None.ensures.token in record { shows = shows_end c.args.s.now c.args.p.token (cc) }

pub returns-in-Stop : goal.returns-in-Stop
returns-in-Stop c =
    let h = c.in-Some.ensures.token in
    record { shows = shows_close_from c.args.s.now c.args.p.token c.in-Some.read (cc) c.in-Some.next c.in-Some.ensures.next c.in-Stop.is }

pub returns-in-Word : goal.returns-in-Word
returns-in-Word c =
    let h = c.in-Some.ensures.token in
    record {
      shows = shows_word_from c.args.s.now c.args.p.token c.in-Some.read (cc) c.in-Some.next c.in-Some.ensures.next c.in-Word.is
          c.in-Some.ensures.word;
    }

pub returns-in-Start : goal.returns-in-Start
returns-in-Start c =
    let h = c.in-Some.ensures.token in
    record { shows = shows_list_from c.args.s.now c.args.p.token c.in-Some.read (cc) c.in-Some.next c.in-Some.ensures.next c.in-Start.is }
