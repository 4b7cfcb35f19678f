-- Section 7's example: the lot that its input describes, in either case of the digits and with or without the last line feed.
use Rattle.lists.proofs.Base.{◌≡◌, refl, false, List, [], ◌∷◌, ◌++◌, map, replicate, Float}
use Rattle.float.specs.Floats.{f64}
use Rattle.lists.specs.{Ranges.up_from, Ranges.table, Ranges.rows, Ranges.grid, Filters.any}
use Rattle.outcome.specs.Outcome.{answered, refused, and_then}
use Rattle.limits.specs.Limits.{none}
use Rattle.lot.specs.Lot.{Lot, lot_of}
use Rattle.judge_frames.specs.{Hex.spelled, Hex.field_at, Frame.opening, Frame.sample, Frame.pair, Frame.of_kind, Frame.frame, TextLines.text_lines}
use Rattle.judge_frames.specs.Places.{head, tail, is_end}
use Rattle.judge_frames.specs.Frames.{header_in, sample_in, joins, is_new, pair_in, several, distance, described, lot_in, read_lot}
use Rattle.cases.specs.{Text.bytes, Example.input, Example.upper}

-- samples at 0, 2, 8 and 10 on a line
unfoldable pub distances : List Float
distances = map f64 (0 ∷ 0x4000000000000000 ∷ 0x4020000000000000 ∷ 0x4024000000000000
    ∷ 0x4000000000000000 ∷ 0 ∷ 0x4018000000000000 ∷ 0x4020000000000000
    ∷ 0x4020000000000000 ∷ 0x4018000000000000 ∷ 0 ∷ 0x4000000000000000
    ∷ 0x4024000000000000 ∷ 0x4020000000000000 ∷ 0x4000000000000000 ∷ 0
    ∷ [])

unfoldable pub lot : Lot
lot = lot_of 4 distances (0 ∷ 0 ∷ 1 ∷ 1 ∷ []) false (replicate 4 none) false []

pub the-input : read_lot input ≡ answered lot
unfolding bytes input distances lot read_lot lot_in described distance joins several sample_in is_new pair_in header_in is_end head tail frame opening sample pair of_kind
    text_lines field_at spelled any grid rows table up_from and_then
the-input = refl

pub in-upper-case : read_lot upper ≡ answered lot
unfolding bytes upper distances lot read_lot lot_in described distance joins several sample_in is_new pair_in header_in is_end head tail frame opening sample pair of_kind
    text_lines field_at spelled any grid rows table up_from and_then
in-upper-case = refl

pub after-the-end : read_lot (input ++ (10 ∷ [])) ≡ refused 12
unfolding bytes input read_lot lot_in described distance joins several sample_in is_new pair_in header_in is_end head tail frame opening sample pair of_kind
    text_lines field_at spelled any grid rows table up_from and_then
after-the-end = refl
