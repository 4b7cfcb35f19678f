-- Judged samples of the trade (document 01): cases (a) to (l) as one list, each as the numbers that are computed and the numbers expected. Where the paper
-- speaks of an operation, they are those of a whole call: what is returned, and what the lent slices hold. Definitions only.
use Rattle.std.specs.Prelude.{ℕ, ◌+◌, ◌*◌, ◌≡◌, true, false, List, [], ◌∷◌, ◌++◌, map, negsuc, take, replicate}
use Rattle.std.specs.Float.{fin}
use Rattle.float.specs.Floats.{zero⁺, 1·0, 2·0, 3·0, num, bits}
use Rattle.square_root.specs.Root.{root}
use Rattle.outcome.specs.Outcome.{Outcome, answered, refused, code}
use Rattle.lot.specs.Lot.{Lot, lot_of}
use Rattle.lot.specs.Cases.{example, zeros, three}
use Rattle.lot.specs.Kept.{groups}
use Rattle.permanova_p_values.specs.declared.Statistic.{Statistic}
use Rattle.permanova_p_values.specs.declared.Statistic.TheVariants.{Finite, Unbounded}
use Rattle.permanova_statistics.specs.Statistics.{total_of, within_of}
use Rattle.permanova_p_values.specs.PValues.{given}
use Rattle.permanova.specs.Call as test
use Rattle.permanova.specs.Call.{test_call}
use Rattle.eigen_jacobi.specs.Call as jacobi
use Rattle.eigen_jacobi.specs.Call.{jacobi_call}
use Rattle.ordination_gram.specs.Call as gram
use Rattle.ordination_gram.specs.Call.{gram_call, leaves}
use Rattle.dapc_discriminant.specs.Outputs as dapc
use Rattle.dapc.specs.Call.{dapc_call}
use Rattle.exhaustive_ways.specs.Ways.{way_count}
use Rattle.exhaustive_hits.specs.declared.judgement.Judgement.{Judgement}
use Rattle.exhaustive_hits.specs.Call as ways
use Rattle.exhaustive_hits.specs.Call.{exhaustive_call}

-- ---- lots

-- case (f) with strata 0, 0, 1, 1
abbrev pub apart : Lot
apart = lot_of 4 (replicate 16 zero⁺) (0 ∷ 0 ∷ 1 ∷ 1 ∷ []) true (0 ∷ 0 ∷ 1 ∷ 1 ∷ []) false []

-- k samples of label 0 and k of label 1 in one stratum
abbrev pub halves : ℕ → Lot
halves k = lot_of (k + k) (replicate ((k + k) * (k + k)) zero⁺) (replicate k 0 ++ replicate k 1) false [] false []

-- ---- calls, with slices of just the length asked, full of 7s and 2.0s

abbrev pub lent_test : ℕ → test.Slices
lent_test n = test.slices_of (replicate n 7) (replicate n 7) (replicate n 2·0) (replicate (n * n) 2·0) (replicate (n * n) 2·0)

abbrev pub lent_ways : ℕ → ways.Slices
lent_ways n =
    ways.slices_of (replicate n 7) (replicate n 7) (replicate n 2·0) (replicate (n * n) 2·0) (replicate (n * n) 2·0) (replicate (16 + 8 * n) 2·0) (replicate (n + n * n) 2·0)
    (replicate (n * n) 2·0) (replicate (n * n) 7)

-- `test` with 9 shuffles from seed 1, and `exhaustive`
abbrev pub sampled : Lot → test.Called
sampled lot = test_call lot 1 9 (lent_test lot.n)

abbrev pub every_way : Lot → ways.Called
every_way lot = exhaustive_call lot (lent_ways lot.n)

-- `gram_matrix` of the sets {5}, {5}, {}, {}, with an output one longer than asked
abbrev pub gram_of_four : gram.Called
gram_of_four = gram_call 4 (5 ∷ 5 ∷ []) (0 ∷ 1 ∷ 2 ∷ 2 ∷ 2 ∷ []) (replicate 17 2·0) (replicate 64 7)

-- `jacobi_eigen` of the diagonal 1, 3, with an output and a work slice one longer than asked
abbrev pub jacobi_of_two : jacobi.Called
jacobi_of_two = jacobi_call 2 (1·0 ∷ zero⁺ ∷ zero⁺ ∷ 3·0 ∷ []) (replicate 7 2·0) (replicate 4 2·0) (replicate 5 2·0)

-- `dapc` of two samples of label 0 and k of label 1, up to 3, on 2 columns
abbrev pub two-and : ℕ → dapc.Called
two-and k =
    let x = map num (0 ∷ 0 ∷ 1 ∷ 2 ∷ 8 ∷ 3 ∷ 9 ∷ 5 ∷ 7 ∷ 1 ∷ []) in
    dapc_call (2 + k) 2 (take ((2 + k) * 2) x) (replicate 2 0 ++ replicate k 1) (replicate (2 + (2 + k) * 2) 2·0) (replicate (2 + k) 7)

-- ---- numbers of a call

-- parts of an answer
abbrev pub parts : {A : Type 0} → (A → List ℕ) → Outcome A → List ℕ
parts f (answered a) = f a
parts f (refused r) = []

-- 0 and parts of the answer, or the number of the line
abbrev pub told : {A : Type 0} → (A → List ℕ) → Outcome A → List ℕ
told f o = code o ∷ parts f o

-- of a judgement: the F of location and its hits; M; M and the hits of both F's
abbrev pub finite : Statistic → List ℕ
finite (Finite f) = bits f ∷ []
finite Unbounded = []

abbrev pub located : Judgement → List ℕ
located j = finite j.location.statistic ++ (j.location.hits ∷ [])

abbrev pub many : Judgement → List ℕ
many j = j.ways ∷ []

abbrev pub counted : Judgement → List ℕ
counted j = j.ways ∷ j.location.hits ∷ j.dispersion.hits ∷ []

-- what slices hold
abbrev pub held_test : test.Slices → List ℕ
held_test s = s.labels ++ s.counts ++ map bits (s.means ++ s.pair_terms ++ s.weighted_squares)

abbrev pub held_ways : ways.Slices → List ℕ
held_ways s = s.labels ++ s.counts ++ s.label_counts ++ map bits (s.means ++ s.pair_terms ++ s.weighted_squares ++ s.coords ++ s.eigenpairs ++ s.vectors)

-- whole calls: which p are given, and the slices; the number of a refusal, and the slices
abbrev pub given-p : test.Called → List ℕ
given-p c = told (λ r. given r.p ∷ given r.disp_p ∷ []) c.answer ++ held_test c.after

abbrev pub refused_test : test.Called → List ℕ
refused_test c = code c.answer ∷ held_test c.after

abbrev pub refused_ways : ways.Called → List ℕ
refused_ways c = code c.answer ∷ held_ways c.after

-- selected hashes, matrix and words
abbrev pub gram_numbers : gram.Called → List ℕ
gram_numbers (leaves o out words) = told (λ k. k ∷ []) o ++ map bits out ++ words

-- sweeps, values and vectors, both work slices
abbrev pub jacobi_numbers : jacobi.Called → List ℕ
jacobi_numbers c = told (λ k. k ∷ []) c.answer ++ map bits (c.out ++ c.m ++ c.v)

-- columns used, axes, right count, and the group of each sample
abbrev pub scored : dapc.Called → List ℕ
scored c = told (λ s. s.columns ∷ s.axes ∷ s.right ∷ []) c.answer ++ c.assigned

-- ---- the list

pub record Case : Type 0 where
  pub computed : List ℕ
  pub expected : List ℕ

abbrev pub sample : List ℕ → List ℕ → Case
sample computed expected = record { computed = computed; expected = expected }

abbrev pub Holds : Case → Type 0
Holds c = c.computed ≡ c.expected

-- (a) root of 2^-1074 is 2^-537
abbrev pub a-root : Case
a-root = sample (bits (root (fin false 1 (negsuc 1073))) ∷ []) (bits (fin false 1 (negsuc 536)) ∷ [])

-- (b) root of 2
abbrev pub b-root : Case
b-root = sample (bits (root 2·0) ∷ []) (0x3ff6_a09e_667f_3bcd ∷ [])

-- (c) the example: total 68, within 4, F 32
abbrev pub c-total : Case
c-total = sample (bits (total_of (example (0 ∷ 0 ∷ 1 ∷ 1 ∷ []))) ∷ []) (bits (num 68) ∷ [])

abbrev pub c-within : Case
c-within = sample (bits (within_of (example (0 ∷ 0 ∷ 1 ∷ 1 ∷ [])) (groups (0 ∷ 0 ∷ 1 ∷ 1 ∷ []))) ∷ []) (bits (num 4) ∷ [])

abbrev pub c-F : Case
c-F = sample (told (λ r. bits r.f ∷ []) (sampled (example (0 ∷ 0 ∷ 1 ∷ 1 ∷ []))).answer) (0 ∷ bits (num 32) ∷ [])

-- (d) labels 0, 1, 0, 1 there: F 0.125, 4 hits
abbrev pub d-hits : Case
d-hits = sample (told located (every_way (example (0 ∷ 1 ∷ 0 ∷ 1 ∷ []))).answer) (0 ∷ 0x3fc0_0000_0000_0000 ∷ 4 ∷ [])

-- (e) 0, 1, 1, 0: F 0, 6 hits
abbrev pub e-hits : Case
e-hits = sample (told located (every_way (example (0 ∷ 1 ∷ 1 ∷ 0 ∷ []))).answer) (0 ∷ 0 ∷ 6 ∷ [])

-- (f) all distances 0: sampled no p, with labels, counts and mean z in front of the outputs; every way hits in both F's
abbrev pub f-sampled : Case
f-sampled = sample (given-p (sampled zeros)) (0 ∷ 0 ∷ 0 ∷ [] ++ (0 ∷ 1 ∷ 7 ∷ 7 ∷ []) ++ (2 ∷ 2 ∷ 7 ∷ 7 ∷ []) ++ (0 ∷ 0 ∷ bits 2·0 ∷ bits 2·0 ∷ []) ++ replicate 32 0)

abbrev pub f-hits : Case
f-hits = sample (told counted (every_way zeros).answer) (0 ∷ 6 ∷ 6 ∷ 6 ∷ [])

-- (g) labels 0, 0, 1, 1 with strata 0, 0, 1, 1: M 1
abbrev pub g-ways : Case
g-ways = sample (told many (every_way apart).answer) (0 ∷ 1 ∷ [])

-- (h) labels 0, 0, 1: 5, and all slices as they were
abbrev pub h-sampled : Case
h-sampled = sample (refused_test (sampled (three (replicate 9 zero⁺)))) (5 ∷ held_test (lent_test 3))

abbrev pub h-every : Case
h-every = sample (refused_ways (every_way (three (replicate 9 zero⁺)))) (5 ∷ held_ways (lent_ways 3))

-- (i) 8 and 8 in one stratum: M 12,870; 9 and 9: 48,620, so 8
abbrev pub i-eight : Case
i-eight = sample (told many (every_way (halves 8)).answer) (0 ∷ 12870 ∷ [])

abbrev pub i-count : Case
i-count = sample (way_count (halves 9) ∷ []) (48620 ∷ [])

abbrev pub i-nine : Case
i-nine = sample (refused_ways (every_way (halves 9))) (8 ∷ held_ways (lent_ways 18))

-- (j) sets {5}, {5}, {}, {}: Gram entries 0.25, but -0.25 between the first two and the last two
abbrev pub j-gram : Case
j-gram = sample (gram_numbers gram_of_four) (let p : ℕ = 0x3fd0_0000_0000_0000 in let q : ℕ = 0xbfd0_0000_0000_0000 in
    0 ∷ 1
    ∷ p ∷ p ∷ q ∷ q
    ∷ p ∷ p ∷ q ∷ q
    ∷ q ∷ q ∷ p ∷ p
    ∷ q ∷ q ∷ p ∷ p
    ∷ bits 2·0 ∷ replicate 64 0)

-- (k) diagonal 1, 3: values 3, 1
abbrev pub k-values : Case
k-values = sample (jacobi_numbers jacobi_of_two) (0 ∷ 0 ∷ bits 3·0 ∷ bits 1·0 ∷ 0 ∷ bits 1·0 ∷ bits 1·0 ∷ 0 ∷ bits 2·0 ∷ replicate 9 0)

-- (l) m = 4, g = 2: 9; m = 5 with 2 columns passes
abbrev pub l-nine : Case
l-nine = sample (scored (two-and 2) ++ map bits (two-and 2).out) (9 ∷ replicate 4 7 ++ map bits (replicate 10 2·0))

abbrev pub l-passes : Case
l-passes = sample (scored (two-and 3)) (0 ∷ 2 ∷ 1 ∷ 5 ∷ 0 ∷ 0 ∷ 1 ∷ 1 ∷ 1 ∷ [])

abbrev pub cases : List Case
cases =
    a-root
    ∷ b-root
    ∷ c-total ∷ c-within ∷ c-F
    ∷ d-hits
    ∷ e-hits
    ∷ f-sampled ∷ f-hits
    ∷ g-ways
    ∷ h-sampled ∷ h-every
    ∷ i-eight ∷ i-count ∷ i-nine
    ∷ j-gram
    ∷ k-values
    ∷ l-nine ∷ l-passes
    ∷ []

-- every case of a list holds
abbrev pub Hold : List Case → Type 0
Hold [] = Unit
Hold (c ∷ cs) = Holds c × Hold cs
