use Rattle.schedules.proofs.latest.GreatestGap.{goes_down, is_greatest, nothing_fits, own_is_greatest}
use Rattle.schedules.proofs.latest.laws.greatest_gap_is_found.Goals as goal

pub returns-clause-search : goal.returns-clause-search
returns-clause-search g c = goes_down g.P.Placement.net g.P.Placement.allowed

pub returns-clause-greatest : goal.returns-clause-greatest
returns-clause-greatest g c = is_greatest g.P.Placement.net g.P.Placement.allowed

pub returns-clause-nothing : goal.returns-clause-nothing
returns-clause-nothing g c = nothing_fits g.P.Placement.net g.P.Placement.allowed

pub returns-clause-own : goal.returns-clause-own
returns-clause-own g c = own_is_greatest g.P.Placement.net g.P.Placement.allowed
