-- The theorems on the lot judge, each with its statement in full, in the order of docs/SPEC.md. Statements cite definitions of specs/ only; each proof is
-- the law that the named file proves.
--
-- What the theorems speak of is what the operations do: each public contract equates the outcome of any call, the answer and all that the lent slices hold
-- afterwards, with one definition of specs/.
--   `sqrt`          `root`                            square_root/specs/Root
--   `abs`, `max`    `magnitude`, `larger`             float/specs/Order
--   `signum`        `signum`                          float/specs/Order
--   `axis_sign`     -1 or 1, by `below_zero`           float/specs/Order
--   `is_finite`     `finite`                          of the toolchain, lib.Ieee.Scale
--   `threshold`     `threshold`                       float/specs/Tolerance
--   `as_large`      `as_large`                         float/specs/Tolerance
--   `test`          `test_call`                        permanova/specs/Call
--   `jacobi_eigen`  `jacobi_call`                      eigen_jacobi/specs/Call
--   `top_eigs`      `top_call`                         eigen_top/specs/Call
--   `gram_matrix`   `gram_call`                        ordination_gram/specs/Call
--   `pcoa`          `pcoa_call`                        ordination_pcoa/specs/Call
--   `hash_pca`      `hash_pca_call`                     ordination_hash_pca/specs/Call
--   `dapc`          `dapc_call`                        dapc/specs/Call
--   `exhaustive`    `exhaustive_call`                  exhaustive_hits/specs/Call
--   `read_lot`      `read_call`                        judge_frames/specs/Call
--   `print`         `printed`, written by `onto`      judge_printing/specs/Printed, Page
--   `judge`         `judge_text`, written by `onto`    judge/specs/Judge, judge_printing/specs/Page
-- The functions of include/lotjudge.h lay the same out as numbers and arrays (lotjudge_c/specs/Exported, c_layouts/specs/Layouts).
use mathlib.Core.Path.{◌≡◌}
use mathlib.Core.Bool.{Bool, true, false, ◌&&◌, ◌||◌, cond}
use mathlib.Core.List.{List, [], ◌∷◌, ◌++◌, map}
use Prim.Native.Nat.{ℕ, ◌+◌, ◌*◌, ◌≤◌, ◌<◌}
use lib.Dec.{T, leb, ltb}
use lib.ListN.{length, take, get_or}
use lib.Ieee.{Float, nan, inf, Format, binary64, fits, lt, le, ne, mul, round}
use lib.Ieee.Scale.{finite}
use lib.Ieee.Positive.{positive}
use Rattle.limits.specs.Limits.{most_printed, most_text, most_samples, most_hashes}
use mir.Val.{bool_byte}
use Rattle.float.specs.Floats.{◌⊖◌, ◌⊗◌, num, zero⁺, zero⁻, 1·0, -1·0, 2·0}
use Rattle.float.specs.{Value.rank, Value.SignedLe, Order.below_zero, Tolerance.threshold}
use Rattle.square_root.specs.{Root.root, Nearest.NearestRoot}
use Rattle.lists.specs.Filters.{any, count_if}
use Rattle.outcome.specs.declared.Refusal.{Refusal}
use Rattle.outcome.specs.{Numbers.number, Outcome.passed, Outcome.answered, Outcome.refused, Refusals.Line, Refusals.first, Refusals.short}
use Rattle.lot.specs.{Lot.Lot, Kept.kept, Kept.kept_count, Kept.group_count, Way.IsWay, Way.relabelled, Way.SameLot}
use Rattle.lot.specs.{Mirror.unmirrored, Mirror.transposed, Mirror.transposed_lot, Lines.bad_distance, Lines.misfits, Lines.size_lines, Lines.test_lines}
use Rattle.permanova_statistics.specs.Exact.{Exact, inexact}
use Rattle.permanova.specs.Call as test
use Rattle.ordination_hashes.specs.Selected.{selected}
use Rattle.ordination_sets.specs.Lines.{bad_offsets, gram_lines}
use Rattle.ordination_coordinates.specs.Lines.{pcoa_lines}
use Rattle.ordination_pcoa.specs.Call.{pcoa_call}
use Rattle.exhaustive_ways.specs.{Ways.ways, Every.Every, Level.Ranks}
use Rattle.exhaustive_hits.specs.declared.judgement.Judgement.{Judgement}
use Rattle.exhaustive_hits.specs.{Assignments.columns_of, Assignments.assignment, Level.Level}
use Rattle.exhaustive_hits.specs.Call.{Slices, NoShorter, Called, too_short, exhaustive_lines, exhaustive_call}
use Rattle.exhaustive_walk.specs.inner.WayStatistics.{frame_of, assignment_by}
use Rattle.judge_frames.specs.declared.Header.{Header}
use Rattle.std.specs.Prelude.{Option, Ok}
use Rattle.judge_frames.specs.declared.reader.{Frame.Frame, Pair.Pair}
use Rattle.judge_frames.specs.{Frames.read_lot, Frames.several, Frames.pair_in, Frames.pair_count, Frames.joins, Frames.Taken}
use Rattle.judge_frames.specs.{Fits.Fits, Call.read_call, Call.called, Call.fronts}
use Rattle.judge.specs.{Judged.lot_lines, Judge.judge_text}
use Rattle.cases.specs.{Text.bytes, Example.input, Example.upper, Example.output, Cases.cases, Cases.Hold}
use Rattle.square_root.proofs.Nearest as Nearest
use Rattle.float.proofs.Rank as Rank
use Rattle.float.proofs.Rounding as Rounding
use Rattle.float.proofs.Tolerance as Tolerance
use Rattle.float.proofs.Signs as Signs
use Rattle.float.proofs.Equal as Equal
use Rattle.outcome.proofs.Names as Names
use Rattle.outcome.proofs.Lengths as Lengths
use Rattle.lot.proofs.Relabelled as Relabelled
use Rattle.lot.proofs.LineOrder as TestOrder
use Rattle.permanova.proofs.Transposed as TestTransposed
use Rattle.ordination_coordinates.proofs.Lines as PcoaLines
use Rattle.ordination_pcoa.proofs.Transposed as PcoaTransposed
use Rattle.exhaustive_hits.proofs.Lines as ExhaustiveLines
use Rattle.exhaustive_hits.proofs.Transposed as ExhaustiveTransposed
use Rattle.ordination_sets.proofs.LineOrder as LineOrder
use Rattle.permanova_statistics.proofs.Exact as ExactSums
use Rattle.exhaustive_ways.proofs.ListLevels as ListLevels
use Rattle.exhaustive_hits.proofs.SameStatistics as SameStatistics
use Rattle.exhaustive_hits.proofs.Demand as Demand
use Rattle.exhaustive_walk.proofs.WayAssignments as WayAssignments
use Rattle.judge_frames.proofs.Fits as Fitting
use Rattle.judge_frames.proofs.ReadFronts as ReadFronts
use Rattle.judge_frames.proofs.AllPairs as AllPairs
use Rattle.judge_frames.proofs.LongestText as LongestText
use Rattle.judge.proofs.JudgedTexts as JudgedTexts
use Rattle.judge.proofs.JudgedLots as JudgedLots
use Rattle.cases.proofs.JudgedCases as JudgedCases
use Rattle.cases.proofs.ExampleJudged as ExampleJudged

-- ---- section 1: square root and order of floats

-- The root of an f64 that is finite and above zero is the nearest f64 to the exact root, as IEEE 754 asks.
pub root-nearest : (x : Float) → T (fits binary64 x) → T (positive x) → NearestRoot x (root x)
root-nearest = Nearest.root-nearest

-- No other f64 is as near: what IEEE 754 asks leaves nothing open.
pub nearest-unique : (x r r' : Float) → NearestRoot x r → NearestRoot x r' → r ≡ r'
nearest-unique = Nearest.nearest-unique

-- The order of finite f64 is that of their ranks, which are whole numbers.
pub le-rank : (x y : Float) → T (fits binary64 x) → T (fits binary64 y) → T (finite x) → T (finite y) → le x y ≡ leb (rank x) (rank y)
le-rank = Rank.le-rank

-- Rounding keeps the order of signed fractions: if ±a/c is at most ±b/d, then so are they as rounded, to a subnormal number or an infinity too.
pub round-le : (f : Format) (s : Bool) (a c : ℕ) (t : Bool) (b d : ℕ) → 0 < c → 0 < d → SignedLe s (a * d) t (b * c) → T (le (round f s a c) (round f t b d))
round-le = Rounding.round-le

-- The threshold F - 1e-12·|F|, as rounded, is at most F: a finite F is as large as itself.
pub threshold-le : (x : Float) → T (fits binary64 x) → T (finite x) → T (le (threshold x) x)
threshold-le = Tolerance.threshold-le

-- Equal numbers have one square: -0.0 and 0.0 too.
pub square-same : (f : Format) (x y : Float) → ne x y ≡ false → mul f x x ≡ mul f y y
square-same = Equal.square-same

-- ---- the matrix mirrors itself (document 02, Q-4)

-- The transposed matrix has the same outcome of every call of `test`, be it accepted or refused: the same answer, and the same in all that is lent. That the
-- distances have n by n entries is all that is asked of it; every accepted call has them.
pub test-transposed : (lot : Lot) (seed k : ℕ) (s : test.Slices) → length lot.distances ≡ lot.n * lot.n
    → test.test_call (transposed_lot lot) seed k s ≡ test.test_call lot seed k s
test-transposed = TestTransposed.test-transposed

-- And so of every call of `exhaustive`
pub exhaustive-transposed : (lot : Lot) (s : Slices) → length lot.distances ≡ lot.n * lot.n → exhaustive_call (transposed_lot lot) s ≡ exhaustive_call lot s
exhaustive-transposed = ExhaustiveTransposed.exhaustive-transposed

-- and of `pcoa`.
pub pcoa-transposed : (components n : ℕ) (d out b w m v : List Float) → length d ≡ n * n
    → pcoa_call components n (transposed n d) out b w m v ≡ pcoa_call components n d out b w m v
pcoa-transposed = PcoaTransposed.pcoa-transposed

-- ---- section 2: the exact case

-- Of a lot that lines 1 to 5 accept, with weights 1 and whole distances up to 1,000, the pair sums of all kept samples and of each group, with any labels,
-- are the whole-number sums bit for bit, and total and within divide these.
pub exact-sums : (lot : Lot) (short beyond : Bool) → first (test_lines lot short beyond) ≡ passed → inexact lot ≡ false → Exact lot
exact-sums = ExactSums.exact-sums

-- ---- section 4: the sign of an axis

-- The comparison with zero tells which floats are below zero.
pub below-zero : (x : Float) → lt x zero⁺ ≡ below_zero x
below-zero = Signs.below-zero

-- One minus twice the number that this comparison is cast to, 1 or 0, is for every float -1 exactly where it is below zero, and else 1:
pub axis-sign : (x : Float) → 1·0 ⊖ 2·0 ⊗ num (bool_byte (lt x zero⁺)) ≡ cond (below_zero x) -1·0 1·0
axis-sign = Signs.axis-sign

-- of 0.0, -0.0, NaN and +infinity 1, and of -infinity -1.
pub axis-sign-edges : map (λ (x : Float). 1·0 ⊖ 2·0 ⊗ num (bool_byte (lt x zero⁺))) (zero⁺ ∷ zero⁻ ∷ nan ∷ inf false ∷ inf true ∷ [])
    ≡ 1·0 ∷ 1·0 ∷ 1·0 ∷ 1·0 ∷ -1·0 ∷ []
axis-sign-edges = Signs.axis-sign-edges

-- ---- section 6: every way

-- A way that is handed in as the observed labels changes nothing but the groups, which are the way: the same samples are kept, with the same names, strata
-- and informative fraction.
pub same-lot : (lot : Lot) (way : List ℕ) → IsWay lot way → SameLot lot way
same-lot = Relabelled.same-lot

-- The walk meets every way of a lot, nothing else and none twice, and M is their number.
pub every : (lot : Lot) → Every lot (ways lot)
every = SameStatistics.every_way

-- In whatever order the ways are walked, as many of them pass a test.
pub every-order : (lot : Lot) (walk : List (List ℕ)) → Every lot walk → (p : List ℕ → Bool) → count_if p walk ≡ count_if p (ways lot)
every-order = SameStatistics.every-order

-- Of any list, with any ranking of the members that are counted and any hits that contain all that rank as high: at most k of them have k hits or fewer.
pub level : {A : Type 0} (counted : A → Bool) (rank : A → A → Bool) → Ranks counted rank
    → (hit : A → A → Bool) → ((x y : A) → counted x ≡ true → counted y ≡ true → rank x y ≡ true → hit x y ≡ true)
    → (xs : List A) (k : ℕ) → count_if (λ x. counted x && leb (count_if (hit x) xs) k) xs ≤ k
level = ListLevels.level

-- The assignment that the walk works out for a way, from what is the same for all ways, is what `dapc` answers for the way's labels.
pub assignment-way : (lot : Lot) → length lot.labels ≡ lot.n → lot.n ≤ 256 → (way : List ℕ) → IsWay lot way
    → (x : List Float) → length x ≡ lot.n * columns_of lot.n → 2 ≤ group_count lot.labels → (total : Float)
    → assignment_by (frame_of lot.n (kept_count lot.labels) (group_count lot.labels) x total) x (kept lot.labels) way
    ≡ assignment lot.n (columns_of lot.n) x (relabelled lot way).labels
assignment-way = WayAssignments.assignment-way

-- Demand 3. Take a lot that a call of `exhaustive` accepts, and make the M calls in each of which another way is the observed one, with slices no shorter.
-- All are accepted, with M, the way's own statistics and its exact hits; and in each of the three tests at most k of them give k hits or fewer.
pub demand-3 : (lot : Lot) (s : Slices) (j : Judgement) → (exhaustive_call lot s).answer ≡ answered j
    → (lend : List ℕ → Slices) → ((way : List ℕ) → IsWay lot way → NoShorter s (lend way))
    → (made : List ℕ → Called) → ((way : List ℕ) → IsWay lot way → made way ≡ exhaustive_call (relabelled lot way) (lend way))
    → Level lot made
demand-3 = Demand.demand-3

-- ---- section 7: the program

-- Every lot that is read has at most 32 samples, slices of the lengths that its n asks, no weights, and a symmetric matrix with a diagonal of 0.
pub read-fits : (text : List ℕ) (lot : Lot) → read_lot text ≡ answered lot → Fits lot
read-fits = Fitting.read_fits

-- So 14 never turns it away: where every distance is allowed (else it is 3), no entry differs from its mirror, and none on the diagonal from zero;
pub read-mirrors : (lot : Lot) → Fits lot → any bad_distance lot.distances ≡ false → unmirrored lot.n lot.distances ≡ false
read-mirrors = Fitting.read-mirrors

-- and of the lines of `exhaustive` 3, 5 and 8 are left.
pub read-lines : (lot : Lot) (s : Slices) → Fits lot → too_short lot.n s ≡ false → first (exhaustive_lines lot s) ≡ first (lot_lines lot)
read-lines lot s f = JudgedLots.read-lines lot s (record { few = f.few; well = Fitting.fits-well lot f; unweighted = f.unweighted; mirrored = Fitting.read-mirrors lot f })

-- After a call of `read_lot` that read a lot, the fronts of the slices hold the lot that the text describes.
pub read-fronts : {h : Header} {labels strata : List ℕ} {distances : List Float} (text : List ℕ) → called (Ok h) labels strata distances ≡ read_call text
    → read_lot text ≡ answered (fronts h labels strata distances)
read-fronts = ReadFronts.read-fronts

-- As many pairs as there are, and none twice, are all pairs: no distance off the diagonal is left at 0 for want of a frame.
pub complete : (n : ℕ) (fs : List (Option Frame)) (t : Taken Pair) → several (pair_in n) (pair_count n) [] fs ≡ answered t
    → (i j : ℕ) → i < j → j < n → any (joins i j) t.taken ≡ true
complete = AllPairs.complete

-- No text that describes a lot is longer than 11,834 bytes.
pub longest : (text : List ℕ) (lot : Lot) → read_lot text ≡ answered lot → length text ≤ most_text
longest = LongestText.longest

-- The first 11,835 bytes of any input tell what is printed, so the program need read no more.
pub front-enough : (text : List ℕ) → judge_text (take (most_text + 1) text) ≡ judge_text text
front-enough = JudgedTexts.front-enough

-- Document 01's example, from text to text: the input in either case gives the output, and a second line feed at its end is refusal 12.
pub example : (judge_text input ≡ output) × (judge_text upper ≡ output) × (judge_text (input ++ (10 ∷ [])) ≡ bytes "bf0c\n")
example = ((ExampleJudged.example).judged, (ExampleJudged.example).in_upper_case, (ExampleJudged.example).after_the_end)

-- ---- what a refused lot returns

-- No two refusals have one number: a contract that fixes the number fixes the name.
pub number-injective : (r s : Refusal) → number r ≡ number s → r ≡ s
number-injective = Names.number-injective

-- The lines of `test` by their numbers, in the order in which they are tested, and those of `exhaustive` and `pcoa`.
pub test-in-order : (lot : Lot) (short beyond : Bool) → map (λ (l : Line). l.returned) (test_lines lot short beyond) ≡ 1 ∷ 2 ∷ 3 ∷ 14 ∷ 4 ∷ 5 ∷ []
test-in-order = TestOrder.tested-in-order

pub exhaustive-in-order : (lot : Lot) (s : Slices) → map (λ (l : Line). l.returned) (exhaustive_lines lot s) ≡ 1 ∷ 2 ∷ 3 ∷ 14 ∷ 4 ∷ 5 ∷ 8 ∷ []
exhaustive-in-order = ExhaustiveLines.tested-in-order

pub pcoa-in-order : (components n : ℕ) (d : List Float) (out b w m v : ℕ)
    → map (λ (l : Line). l.returned) (pcoa_lines components n d out b w m v) ≡ 1 ∷ 2 ∷ 3 ∷ 14 ∷ 6 ∷ []
pcoa-in-order = PcoaLines.tested-in-order

-- Where lines 1 and 2 of both tests pass, a distance that is not allowed is 3, whatever its mirror is,
pub distance-refused : (lot : Lot) (short beyond : Bool) → first (size_lines (misfits lot || short) lot.n beyond) ≡ passed
    → any bad_distance lot.distances ≡ true → first (test_lines lot short beyond) ≡ refused 3
distance-refused = TestOrder.distance-refused

-- and a matrix of allowed distances that does not mirror itself is 14, whatever labels and weights are.
pub mirror-refused : (lot : Lot) (short beyond : Bool) → first (size_lines (misfits lot || short) lot.n beyond) ≡ passed
    → any bad_distance lot.distances ≡ false → unmirrored lot.n lot.distances ≡ true → first (test_lines lot short beyond) ≡ refused 14
mirror-refused = TestOrder.mirror-refused

-- The lines of `gram_matrix` and `hash_pca` by their numbers, in the order in which they are tested.
pub tested-in-order : (n : ℕ) (hashes offsets : List ℕ) (short beyond : Bool)
    → map (λ (l : Line). l.returned) (gram_lines n hashes offsets short beyond) ≡ 1 ∷ 2 ∷ 6 ∷ 13 ∷ 7 ∷ []
tested-in-order = LineOrder.tested-in-order

-- Where lines 1 and 2 pass, fewer than three samples is 6 whatever the hashes are.
pub few-samples : (n : ℕ) (hashes offsets : List ℕ) (short beyond : Bool) → (bad_offsets n (length hashes) offsets || short) ≡ false
    → (ltb most_samples n || ltb most_hashes (length hashes) || beyond) ≡ false → n < 3 → first (gram_lines n hashes offsets short beyond) ≡ refused 6
few-samples = LineOrder.few-samples

-- There three samples and more without a hash to select is 13.
pub empty-catch : (n : ℕ) (hashes offsets : List ℕ) (short beyond : Bool) → (bad_offsets n (length hashes) offsets || short) ≡ false
    → (ltb most_samples n || ltb most_hashes (length hashes) || beyond) ≡ false → 3 ≤ n → length (selected n hashes) ≡ 0
    → first (gram_lines n hashes offsets short beyond) ≡ refused 13
empty-catch = LineOrder.empty-catch

-- There 1 to 1,024 hashes to select pass,
pub widest-passes : (n : ℕ) (hashes offsets : List ℕ) (short beyond : Bool) → (bad_offsets n (length hashes) offsets || short) ≡ false
    → (ltb most_samples n || ltb most_hashes (length hashes) || beyond) ≡ false → 3 ≤ n → 1 ≤ length (selected n hashes) → length (selected n hashes) ≤ 1024
    → first (gram_lines n hashes offsets short beyond) ≡ passed
widest-passes = LineOrder.widest-passes

-- and 1,025 or more are 7.
pub too-wide : (n : ℕ) (hashes offsets : List ℕ) (short beyond : Bool) → (bad_offsets n (length hashes) offsets || short) ≡ false
    → (ltb most_samples n || ltb most_hashes (length hashes) || beyond) ≡ false → 3 ≤ n → 1025 ≤ length (selected n hashes)
    → first (gram_lines n hashes offsets short beyond) ≡ refused 7
too-wide = LineOrder.too_wide

-- ---- lengths: line 1 of each operation holds the lengths of what is lent against its own list of those asked (`test_asks` beside `test_call`, and so for
-- the others), and callers are told that list

-- Slices of just the lengths asked are long enough.
pub enough : (asked : List ℕ) → short asked asked ≡ false
enough = Lengths.enough

-- If one slice is shorter than asked, line 1 holds.
pub short-at : (lent asked : List ℕ) (i : ℕ) → i < length lent → i < length asked → ltb (get_or lent i 0) (get_or asked i 0) ≡ true → true ≡ short lent asked
short-at = Lengths.short-at

-- No text that is printed is longer than 93 bytes.
pub judge-fits : (text : List ℕ) → length (judge_text text) ≤ most_printed
judge-fits = JudgedTexts.judge-fits

-- ---- judged samples

-- Cases (a) to (l) of document 01, as one list: each computes the numbers that are expected of it.
pub judged : Hold cases
judged = JudgedCases.judged
