-- Where a call answers, no line of the table holds, and so it is for each way handed in, with slices that are no shorter.
use Rattle.lists.proofs.Base.{◌≡◌, refl, sym, ap, ◌∙◌, Bool, false, not, ◌&&◌, ◌||◌, List, [], ◌∷◌, map, ℕ, ◌*◌, ◌≤◌, arith, eqb, ltb, length, ltb-false, le-ltb}
use Rattle.lists.specs.Filters.{any}
use Rattle.outcome.specs.Refusals.{Line, ◌when◌, first, short, unfit}
use Rattle.outcome.specs.Outcome.{Outcome, passed, answered, refused, and_then}
use Rattle.lot.specs.{Lot.Lot, Kept.group_count, Way.IsWay, Way.relabelled, Lines.bad_weight, Lines.misfits, Lines.size_lines, Lines.test_lines}
use Rattle.lists.proofs.Truths.{or-neither}
use Rattle.outcome.proofs.Table.{first-passed, first-after, first-both}
use Rattle.lot.proofs.{AcceptedLots.Clear, AcceptedLots.sizes-known, AcceptedLots.passed-clear, AcceptedLots.clear-passed, Relabelled.same-lot}
use Rattle.limits.specs.Limits.{most_ways}
use Rattle.exhaustive_ways.specs.Ways.{way_count}
use Rattle.exhaustive_hits.specs.Call.{Slices, NoShorter, exhaustive_asks, lengths_of, too_short, exhaustive_lines}
use Rattle.exhaustive_hits.proofs.SameStatistics.{same_count}

-- ---- what is answered

pub and_then-answers : {A B : Type 0} (o : Outcome A) (f : A → Outcome B) (b : B) → and_then o f ≡ answered b → (a : A) × (o ≡ answered a)
unfolding and_then
and_then-answers (answered a) f b e = (a, refl)
and_then-answers (refused r) f b e = let z : ◌≡◌ {A = ℕ} 0 1 = cc in absurd (omega arith)

-- ---- slices

pub neither : {a b : Bool} → a ≡ false → b ≡ false → (a || b) ≡ false
neither e f = rw (e, f)

-- what is lent is no shorter
unfoldable Longer : List ℕ → List ℕ → Type 0
Longer ss [] = Unit {0}
Longer [] (t ∷ ts) = ⊥
Longer (s ∷ ss) (t ∷ ts) = (s ≤ t) × Longer ss ts

longer-fits : (ss ts asked : List ℕ) → Longer ss ts → short ss asked ≡ false → short ts asked ≡ false
unfolding Longer short
longer-fits ss [] asked l e = refl
longer-fits [] (t ∷ ts) asked l e = absurd l
longer-fits (s ∷ ss) (t ∷ ts) [] l e = refl
longer-fits (s ∷ ss) (t ∷ ts) (a ∷ asked) l e =
    let w = or-neither (ltb s a) (short ss asked) e in
    neither (le-ltb t a (omega (arith, ltb-false s a w.0, l.0))) (longer-fits ss ts asked l.1 w.1)

pub no-shorter-fits : (n : ℕ) (s t : Slices) → NoShorter s t → too_short n s ≡ false → too_short n t ≡ false
unfolding too_short Longer
no-shorter-fits n s t l e = longer-fits (lengths_of s) (lengths_of t) (exhaustive_asks n)
    (l.labels, (l.counts, (l.means, (l.pair_terms, (l.weighted_squares, (l.coords, (l.eigenpairs, (l.vectors, (l.label_counts, tt))))))))) e

-- ---- the lines of the exhaustive test

abbrev ways_line : ℕ → List Line
ways_line m = (8 when ltb most_ways m) ∷ []

module _ (lot : Lot) (s : Slices) (e : first (exhaustive_lines lot s) ≡ passed) where
  -- lines 1 to 5 do not hold, and 8 does not
  apart : (first (test_lines lot (too_short lot.n s) false) ≡ passed) × (first (ways_line (way_count lot)) ≡ passed)
  unfolding exhaustive_lines
  apart = first-both (test_lines lot (too_short lot.n s) false) (ways_line (way_count lot)) e

  pub ways-few : way_count lot ≤ most_ways
  ways-few = ltb-false most_ways (way_count lot) (first-passed 8 _ _ (sym apart.1)).0

module _ (lot : Lot) (way : List ℕ) (is-way : IsWay lot way) where
  same-misfits : misfits (relabelled lot way) ≡ misfits lot
  unfolding misfits relabelled
  same-misfits = ap (λ (k : ℕ). unfit lot.distances (lot.n * lot.n) || not (eqb k lot.n) || (lot.stratified && unfit lot.strata lot.n)
      || (lot.weighted && unfit lot.weights lot.n)) (same-lot lot way is-way).same_length

  same-groups : group_count (relabelled lot way).labels ≡ group_count lot.labels
  unfolding group_count relabelled
  same-groups = ap length (same-lot lot way is-way).same_names

  -- group by group: sizes fit again, the matrix is the same, and so are weights and the number of groups
  clear-again : (s t : Slices) → NoShorter s t → Clear lot (too_short lot.n s) false → Clear (relabelled lot way) (too_short lot.n t) false
  unfolding relabelled
  clear-again s t l c =
      let fit = (sizes-known (misfits lot || too_short lot.n s) lot.n false c.sizes).fit in
      let one = or-neither (misfits lot) (too_short lot.n s) fit in
      record {
        sizes = ap (λ (b : Bool). first (size_lines b lot.n false)) (neither (same-misfits ∙ one.0) (no-shorter-fits lot.n s t l one.1) ∙ sym fit) ∙ c.sizes;
        matrix = c.matrix;
        labels = ap (λ (g : ℕ). first ((4 when lot.weighted && any bad_weight lot.weights) ∷ (5 when ltb g 2) ∷ [])) same-groups ∙ c.labels;
      }

  pub lines-again : (s t : Slices) → NoShorter s t → first (exhaustive_lines lot s) ≡ passed → first (exhaustive_lines (relabelled lot way) t) ≡ passed
  unfolding exhaustive_lines relabelled
  lines-again s t l e =
      let c = clear-again s t l (passed-clear lot (too_short lot.n s) false (apart lot s e).0) in
      first-after (test_lines (relabelled lot way) (too_short lot.n t) false) (ways_line (way_count (relabelled lot way))) (clear-passed (relabelled lot way) (too_short lot.n t) false c)
      ∙ ap (λ (m : ℕ). first (ways_line m)) (same_count lot way is-way) ∙ (apart lot s e).1

-- the numbers of the lines, in the order in which they are tested
pub tested-in-order : (lot : Lot) (s : Slices) → map (λ (l : Line). l.returned) (exhaustive_lines lot s) ≡ 1 ∷ 2 ∷ 3 ∷ 14 ∷ 4 ∷ 5 ∷ 8 ∷ []
unfolding exhaustive_lines test_lines
tested-in-order lot s = refl
