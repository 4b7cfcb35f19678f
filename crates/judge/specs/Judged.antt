-- Section 7: what is found of a lot that was read. Definitions only.
use Rattle.std.specs.Prelude.{List, [], ◌∷◌, ltb}
use Rattle.lists.specs.Filters.{any}
use Rattle.outcome.specs.Refusals.{Line, ◌when◌, first}
use Rattle.outcome.specs.Outcome.{Outcome, judged}
use Rattle.lot.specs.Lot.{Lot}
use Rattle.lot.specs.Kept.{group_count}
use Rattle.lot.specs.Lines.{bad_distance}
use Rattle.limits.specs.Limits.{most_ways}
use Rattle.exhaustive_ways.specs.Ways.{way_count}
use Rattle.exhaustive_hits.specs.declared.judgement.Judgement.{Judgement}
use Rattle.exhaustive_hits.specs.Exhaustive.{exhaustive}

-- lines 3, 5 and 8; of a lot that was read 1, 2 and 4 never hold, and 14 does not where 3 does not: its parts fit n, which is at most 32, weights are 1, and its matrix
-- mirrors itself
unfoldable pub lot_lines : Lot → List Line
lot_lines lot =
    (3 when any bad_distance lot.distances)
    ∷ (5 when ltb (group_count lot.labels) 2)
    ∷ (8 when ltb most_ways (way_count lot))
    ∷ []

-- what is found of a lot: a refusal, or what the exhaustive test says
unfoldable pub judgement : Lot → Outcome Judgement
judgement lot = judged (first (lot_lines lot)) (exhaustive lot)
