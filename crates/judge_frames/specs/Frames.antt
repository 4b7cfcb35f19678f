-- Section 7: the lot that the frames describe. Definitions only.
use Rattle.std.specs.Prelude.{ℕ, zero, suc, ◌-◌, ◌*◌, ◌/◌, Bool, false, not, ◌&&◌, ◌||◌, cond, List, [], ◌∷◌, ◌++◌, map, eqb, leb, ltb, length, Float, Option, Some, None}
use Rattle.float.specs.Floats.{f64, zero⁺}
use Rattle.lists.specs.Ranges.{grid}
use Rattle.lists.specs.Filters.{any}
use Rattle.outcome.specs.Outcome.{Outcome, answered, refused, and_then}
use Rattle.lot.specs.Lot.{Lot, lot_of}
use Rattle.judge_frames.specs.declared.reader.Frame.{Frame}
use Rattle.judge_frames.specs.declared.reader.Frame.TheVariants.{Header as OfHeader, Sample as OfSample, Pair as OfPair, End}
use Rattle.judge_frames.specs.declared.reader.{Opening.Opening, Sample.Sample, Pair.Pair}
use Rattle.judge_frames.specs.Frame.{frame}
use Rattle.judge_frames.specs.TextLines.{text_lines}
use Rattle.judge_frames.specs.Places.{head, tail, is_end}

-- ---- which frames may follow those before them

-- the value, if a test lets it pass
abbrev pub if_passed : {A : Type 0} → Bool → A → Option A
if_passed b a = cond b (Some a) None

-- `a1`: n at most 32, 00 or 01
unfoldable pub header_in : Option Frame → Option Opening
header_in (Some (OfHeader h)) = if_passed (leb h.n 32 && leb h.flag 1) h
header_in (Some (OfSample s)) = None
header_in (Some (OfPair p)) = None
header_in (Some End) = None
header_in None = None

-- `a2`, in index order
unfoldable pub sample_in : List Sample → Option Frame → Option Sample
sample_in before (Some (OfHeader h)) = None
sample_in before (Some (OfSample s)) = if_passed (eqb s.index (length before)) s
sample_in before (Some (OfPair p)) = None
sample_in before (Some End) = None
sample_in before None = None

-- a pair is that of i and j, in either order
unfoldable pub joins : ℕ → ℕ → Pair → Bool
joins i j p = (eqb p.i i && eqb p.j j) || (eqb p.i j && eqb p.j i)

-- i < j < n, and not among those before
unfoldable pub is_new : ℕ → List Pair → Pair → Bool
is_new n before p = ltb p.i p.j && ltb p.j n && not (any (joins p.i p.j) before)

-- `a3`: each pair once in any order
unfoldable pub pair_in : ℕ → List Pair → Option Frame → Option Pair
pair_in n before (Some (OfHeader h)) = None
pair_in n before (Some (OfSample s)) = None
pair_in n before (Some (OfPair p)) = if_passed (is_new n before p) p
pair_in n before (Some End) = None
pair_in n before None = None

abbrev pub pair_count : ℕ → ℕ
pair_count n = (n * n - n) / 2

-- ---- frames in their order

-- 12: a frame is malformed, missing or repeated
abbrev pub malformed : {A : Type 0} → Outcome A
malformed = refused 12

abbrev pub or_malformed : {A : Type 0} → Option A → Outcome A
or_malformed (Some a) = answered a
or_malformed None = malformed

-- what was taken of the frames, and those that follow
pub record Taken (A : Type 0) : Type 0 where
  pub taken : List A
  pub rest : List (Option Frame)

-- so many frames more, each of which may follow what was taken of those before it
unfoldable pub several : {A : Type 0} → (List A → Option Frame → Option A) → ℕ → List A → List (Option Frame) → Outcome (Taken A)
several may zero before fs = answered (record { taken = before; rest = fs })
several {A} may (suc left) before fs = elim (may before (head fs)) as (λ t. Outcome (Taken A)) [
  | Some a ↦ several may left (before ++ (a ∷ [])) (tail fs)
  | None ↦ malformed
]

-- ---- the lot

-- the distance of i and j: symmetric, and 0 where there is no pair, as on the diagonal
unfoldable pub distance : List Pair → ℕ → ℕ → Float
distance [] i j = zero⁺
distance (p ∷ ps) i j = let rest = distance ps i j in cond (joins i j p) (f64 p.bits) rest

-- the lot of a header, samples and pairs; no weights are given: they are 1
unfoldable pub described : Opening → List Sample → List Pair → Lot
described h samples pairs =
    lot_of h.n (grid h.n h.n (distance pairs)) (map (λ s. s.label) samples) (eqb h.flag 1) (map (λ s. s.stratum) samples) false []

-- the header, n samples, every pair, the end
unfoldable pub lot_in : List (Option Frame) → Outcome Lot
lot_in fs =
    and_then (or_malformed (header_in (head fs))) (λ h.
    and_then (several sample_in h.n [] (tail fs)) (λ samples.
    and_then (several (pair_in h.n) (pair_count h.n) [] samples.rest) (λ pairs.
    cond (is_end pairs.rest) (answered (described h samples.taken pairs.taken)) malformed)))

-- the lot that a text describes, or 12
unfoldable pub read_lot : List ℕ → Outcome Lot
read_lot text = lot_in (map frame (text_lines text))
