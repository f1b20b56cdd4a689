use Rattle.schedules.proofs.ruled.LowestOnly.{lowest_are_the_only_ones, lowest_spell}
use Rattle.schedules.proofs.ruled.FirstFree.{lowest_is_a_rule, lowest_picked, lowest_exactly_where_within, one_lowest_list}
use Rattle.schedules.proofs.ruled.first_free.lowest_slots_are_a_rule.Goals as goal

pub returns-clause-rule : goal.returns-clause-rule
returns-clause-rule g c = lowest_is_a_rule g.N.Network.net c.requires.lawful

pub returns-clause-picked : goal.returns-clause-picked
returns-clause-picked g c = lowest_picked g.N.Network.net c.requires.lawful

pub returns-clause-fronts : goal.returns-clause-fronts
returns-clause-fronts g c = lowest_exactly_where_within g.N.Network.net c.requires.lawful

pub returns-clause-one : goal.returns-clause-one
returns-clause-one g c = one_lowest_list g.N.Network.net c.requires.lawful

pub returns-clause-slots : goal.returns-clause-slots
returns-clause-slots g c = lowest_are_the_only_ones g.N.Network.net

pub returns-clause-spell : goal.returns-clause-spell
returns-clause-spell g c = lowest_spell g.N.Network.net c.requires.lawful
