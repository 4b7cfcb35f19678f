-- M, sample by sample from the last.
use Rattle.lists.proofs.Base.{◌≡◌, refl, sym, ap, ap₂, ◌∙◌, ⊎_elim, ℕ, zero, suc, ◌+◌, ◌-◌, ◌*◌, ◌/◌, ◌≤◌, ◌<◌, suc-le-suc}
use Rattle.lists.proofs.Base.{arith, dec_lt, length, get_or, take, drop, length-drop, eqb, eqb-true, eqb-false, lt-ltb, le-ltb, Bool, true, false, ◌&&◌, cond}
use Rattle.std.specs.List.{count_by, zip}
use mathlib.Core.List.Memᴰ.{head as here}
use mathlib.Core.List.Memᴰ.{tail as there}
use mathlib.Core.List.{List, [], ◌∷◌}
use native.Mathlib.Nat.{mul_assoc, mul_left_comm, mul-le-mul, le_of_mul-le-mul_right, eq_of_mul-eq-mul_right, div-eq_of_eq-mul_left, le_trans, le_refl}
use lib.Seq.{drop-length}
use Rattle.lists.specs.Filters.{count_if}
use Rattle.lists.specs.Numbers.{productℕ, how_many, upward}
use Rattle.lists.specs.inner.Numbers.{Below}
use Rattle.lists.proofs.{Filters.drop_more, Filters.count_if-below, Rows.part-rest, Chains.count_if_from, Upward.member-upward}
use Rattle.lot.specs.Way.{δ, mark, tally}
use Rattle.limits.specs.Limits.{most_ways}
use Rattle.exhaustive_ways.specs.Ways.{spend, deal, ways_of, size_factorials, label_factorials, way_count_of}
use Rattle.exhaustive_ways.specs.inner.Ways.{capped}
use Rattle.exhaustive_ways.proofs.Distinct.{distinct-upward}
use Rattle.exhaustive_ways.proofs.DealtWays.{how_many-cons, balanced-tally, counts!, sizes!, counts!-pos, counts!-cong, counts!-spend, sizes!-cons, deal-count}
use Rattle.exhaustive_ways.proofs.Every.{ways-count}
use Rattle.lot.proofs.Tallies.{δ-same, mark-same, mark-stratum, mark-label, mark-cases}

-- ---- the cap

pub capped-within : (m : ℕ) → m ≤ most_ways → capped m ≡ m
unfolding capped
capped-within m h = ap (λ (b : Bool). cond b 20001 m) (le-ltb most_ways m h)

pub capped-above : (m : ℕ) → most_ways < m → capped m ≡ 20001
unfolding capped
capped-above m h = ap (λ (b : Bool). cond b 20001 m) (lt-ltb most_ways m h)

-- what a caller learns of M from the capped number r
pub few-ways : (m : ℕ) {r : ℕ} → r ≡ capped m → r ≤ most_ways → r ≡ m
few-ways m e h = elim (dec_lt most_ways m) [ yes many ↦ absurd (omega (arith, e, capped-above m many)) | no few ↦ e ∙ capped-within m (omega arith) ]

pub many-ways : (m : ℕ) {r : ℕ} → r ≡ capped m → most_ways < r → most_ways < m
many-ways m e h = elim (dec_lt most_ways m) [ yes many ↦ many | no few ↦ omega (arith, e, capped-within m (omega arith)) ]

-- ---- of one label at most all samples of the stratum

pub mark-most : (s₀ j₀ s j : ℕ) → mark s₀ j₀ s j ≤ δ s s₀
mark-most s₀ j₀ s j = ⊎_elim (λ w. omega (arith, w.2, δ-same s s₀ w.0)) (λ z. omega arith) (mark-cases s₀ j₀ s j)

pub tally-most : (ss labels : List ℕ) (s j : ℕ) → tally ss labels s j ≤ how_many s ss
unfolding tally
tally-most [] labels s j = omega arith
tally-most (s₀ ∷ ss) [] s j = omega arith
tally-most (s₀ ∷ ss) (j₀ ∷ l) s j = omega (arith, mark-most s₀ j₀ s j, how_many-cons s s₀ ss, tally-most ss l s j)

-- ---- one sample more, of stratum s and label j

-- a number above every entry
bound : List ℕ → ℕ
bound [] = 0
bound (x ∷ xs) = suc x + bound xs

bound-below : (xs : List ℕ) → Below (bound xs) xs
unfolding bound
bound-below [] i h = absurd (omega arith)
bound-below (x ∷ xs) zero h = omega arith
bound-below (x ∷ xs) (suc i) h = omega (arith, bound-below xs i (omega arith))

module _ (s j : ℕ) (ss labels : List ℕ) (fits : length labels ≡ length ss) where
  own : 0 < tally (s ∷ ss) (j ∷ labels) s j
  unfolding tally
  own = omega (arith, mark-same s j s j refl refl)

  spent : (s' j' : ℕ) → spend (tally (s ∷ ss) (j ∷ labels)) s j s' j' ≡ tally ss labels s' j'
  unfolding spend tally
  spent s' j' = omega arith

  -- the ways of both are counted over the same strata N and labels below g
  dealt-more : (g : ℕ) → Below g (j ∷ labels)
      → length (ways_of g (s ∷ ss) (j ∷ labels)) * tally (s ∷ ss) (j ∷ labels) s j ≡ length (ways_of g ss labels) * how_many s (s ∷ ss)
  unfolding ways_of
  dealt-more g below =
      let N = upward (s ∷ ss) in
      let c = tally (s ∷ ss) (j ∷ labels) in
      let M = length (deal g (s ∷ ss) c) in
      let M₀ = length (deal g ss (tally ss labels)) in
      let P = counts! N g (tally ss labels) in
      let n = how_many s (s ∷ ss) in
      let hs = member-upward (s ∷ ss) s (here refl) in
      let once = distinct-upward (s ∷ ss) in
      let whole : M * counts! N g c ≡ sizes! N (s ∷ ss) = deal-count N g (s ∷ ss) c once (member-upward (s ∷ ss)) (balanced-tally g (s ∷ ss) (j ∷ labels) (ap suc fits) below) in
      let rest : M₀ * P ≡ sizes! N ss = deal-count N g ss (tally ss labels) once (λ t m. member-upward (s ∷ ss) t (there m))
      (balanced-tally g ss labels fits (λ i h. below (suc i) (suc-le-suc h))) in
      let grown : counts! N g c ≡ c s j * P = counts!-spend N once s hs g j c (below 0 (omega arith)) own ∙ ap (λ (k : ℕ). c s j * k) (counts!-cong N g _ _ spent) in
      eq_of_mul-eq-mul_right P (counts!-pos N g (tally ss labels)) _ _ (mul_assoc M (c s j) P ∙ ap (λ (k : ℕ). M * k) (sym grown) ∙ whole
      ∙ sizes!-cons N once s hs ss ∙ ap (λ (k : ℕ). n * k) (sym rest) ∙ mul_left_comm n M₀ P ∙ sym (mul_assoc M₀ n P))

  -- M grows by the factor size / count
  pub count-more : way_count_of (s ∷ ss) (j ∷ labels) * tally (s ∷ ss) (j ∷ labels) s j ≡ way_count_of ss labels * how_many s (s ∷ ss)
  count-more =
      let g = bound (j ∷ labels) in
      let below = bound-below (j ∷ labels) in
      ap (λ (m : ℕ). m * tally (s ∷ ss) (j ∷ labels) s j) (sym (ways-count g (s ∷ ss) (j ∷ labels) (ap suc fits) below)) ∙ dealt-more g below
      ∙ ap (λ (m : ℕ). m * how_many s (s ∷ ss)) (ways-count g ss labels fits (λ i h. below (suc i) (suc-le-suc h)))

  -- so the division is exact
  count-grows : way_count_of ss labels * how_many s (s ∷ ss) / tally (s ∷ ss) (j ∷ labels) s j ≡ way_count_of (s ∷ ss) (j ∷ labels)
  count-grows = div-eq_of_eq-mul_left own (sym count-more)

  -- and M is no smaller
  pub count-no-less : way_count_of ss labels ≤ way_count_of (s ∷ ss) (j ∷ labels)
  count-no-less = le_of_mul-le-mul_right {k = tally (s ∷ ss) (j ∷ labels) s j}
      (rw count-more (mul-le-mul (le_refl (way_count_of ss labels)) (tally-most (s ∷ ss) (j ∷ labels) s j))) own

-- ---- the samples from place k on

-- M of those is no more than M
pub count-rest : (k : ℕ) (ss labels : List ℕ) → length labels ≡ length ss → way_count_of (drop k ss) (drop k labels) ≤ way_count_of ss labels
count-rest zero ss labels e = le_refl _
count-rest (suc k) [] [] e = le_refl _
count-rest (suc k) [] (j ∷ labels) e = absurd (omega arith)
count-rest (suc k) (s ∷ ss) [] e = absurd (omega arith)
count-rest (suc k) (s ∷ ss) (j ∷ labels) e = le_trans (count-rest k ss labels (omega arith)) (count-no-less s j ss labels (omega arith))

-- none are left: one way
pub count_none : (k : ℕ) (ss labels : List ℕ) → k ≡ length ss → way_count_of (drop k ss) (drop k labels) ≡ 1
unfolding way_count_of size_factorials label_factorials upward productℕ
count_none k ss labels e = rw (e, drop-length) refl

module _ (ss labels : List ℕ) (k : ℕ) (fits : length labels ≡ length ss) (h : k < length ss) where
  -- with sample k
  pub count-step : way_count_of (drop (k + 1) ss) (drop (k + 1) labels) * how_many (get_or ss k 0) (drop k ss) / tally (drop k ss) (drop k labels) (get_or ss k 0) (get_or labels k 0)
      ≡ way_count_of (drop k ss) (drop k labels)
  count-step =
      let h' : k < length labels = omega arith in
      let same : length (drop (k + 1) labels) ≡ length (drop (k + 1) ss) = omega (arith, length-drop (k + 1) labels, length-drop (k + 1) ss) in
      rw (drop_more ss k 0 h, drop_more labels k 0 h') (count-grows (get_or ss k 0) (get_or labels k 0) (drop (k + 1) ss) (drop (k + 1) labels) same)

  pub tally-step : (s j : ℕ) → tally (drop k ss) (drop k labels) s j ≡ mark (get_or ss k 0) (get_or labels k 0) s j + tally (drop (k + 1) ss) (drop (k + 1) labels) s j
  unfolding tally
  tally-step s j = let h' : k < length labels = omega arith in rw (drop_more ss k 0 h, drop_more labels k 0 h') refl

  -- it is counted in its stratum
  pub tally-pos : 0 < tally (drop k ss) (drop k labels) (get_or ss k 0) (get_or labels k 0)
  tally-pos = omega (arith, tally-step (get_or ss k 0) (get_or labels k 0), mark-same (get_or ss k 0) (get_or labels k 0) (get_or ss k 0) (get_or labels k 0) refl refl)

-- counted pair by pair
pair-more : (s₀ j₀ s j n : ℕ) (a b : Bool) → eqb s₀ s ≡ a → eqb j₀ j ≡ b → cond (a && b) 1 0 + n ≡ mark s₀ j₀ s j + n
pair-more s₀ j₀ s j n true true e f = omega (arith, mark-same s₀ j₀ s j (sym (eqb-true s₀ s e)) (sym (eqb-true j₀ j f)))
pair-more s₀ j₀ s j n true false e f = omega (arith, mark-label s₀ j₀ s j (λ q. eqb-false j₀ j f (sym q)))
pair-more s₀ j₀ s j n false b e f = omega (arith, mark-stratum s₀ j₀ s j (λ q. eqb-false s₀ s e (sym q)))

tally-pairs : (ss labels : List ℕ) (s j : ℕ) → count_if (λ (w : ℕ × ℕ). eqb w.0 s && eqb w.1 j) (zip ss labels) ≡ tally ss labels s j
unfolding tally count_if
tally-pairs [] labels s j = refl
tally-pairs (s₀ ∷ ss) [] s j = refl
tally-pairs (s₀ ∷ ss) (j₀ ∷ labels) s j = pair-more s₀ j₀ s j _ (eqb s₀ s) (eqb j₀ j) refl refl ∙ ap (λ (n : ℕ). mark s₀ j₀ s j + n) (tally-pairs ss labels s j)

pub tally_from : {r : ℕ} (ss labels : List ℕ) (s j : ℕ) → r ≡ count_by (λ (w : ℕ × ℕ). eqb w.0 s && eqb w.1 j) (zip ss labels) → r ≡ tally ss labels s j
tally_from ss labels s j e = count_if_from (λ (w : ℕ × ℕ). eqb w.0 s && eqb w.1 j) (zip ss labels) e ∙ tally-pairs ss labels s j

pub tally-end : (ss labels : List ℕ) (k s j : ℕ) → k ≡ length ss → tally (drop k ss) (drop k labels) s j ≡ 0
unfolding tally
tally-end ss labels k s j e = rw (e, drop-length) refl

pub tally-le : (ss labels : List ℕ) (s j : ℕ) → tally ss labels s j ≤ length ss
unfolding how_many
tally-le ss labels s j = omega (arith, tally-most ss labels s j, count_if-below (eqb s) ss)

-- ---- the loop of `count_ways`: k goes down, and m is M of the samples from k on

-- what is lent from place k on
abbrev rest_of : List ℕ → ℕ → List ℕ
rest_of l k = take (length l - k) (drop k l)

module _ (ss labels : List ℕ) (fits : length labels ≡ length ss) where
  pub label-count : (k s j : ℕ) → tally (rest_of ss k) (rest_of labels k) s j ≡ tally (drop k ss) (drop k labels) s j
  label-count k s j = ap₂ (λ (a b : List ℕ). tally a b s j) (part-rest ss k) (part-rest labels k)

  pub count_turn : {m k z n : ℕ} → 0 < k → k ≤ length ss → m ≡ way_count_of (drop k ss) (drop k labels) → z ≡ how_many (get_or ss (k - 1) 0) (rest_of ss (k - 1))
      → n ≡ tally (rest_of ss (k - 1)) (rest_of labels (k - 1)) (get_or ss (k - 1) 0) (get_or labels (k - 1) 0)
      → m * z / n ≡ way_count_of (drop (k - 1) ss) (drop (k - 1) labels)
  count_turn {m} {k} some most inv ez en =
      let back : k ≡ k - 1 + 1 = omega arith in
      ap₂ ◌/◌ (ap₂ ◌*◌ (inv ∙ ap (λ (i : ℕ). way_count_of (drop i ss) (drop i labels)) back) (ez ∙ ap (how_many (get_or ss (k - 1) 0)) (part-rest ss (k - 1))))
      (en ∙ label-count (k - 1) (get_or ss (k - 1) 0) (get_or labels (k - 1) 0)) ∙ count-step ss labels (k - 1) fits (omega arith)

  -- a stratum's size is at most the number of samples
  pub count-size : (k s : ℕ) {z : ℕ} → z ≡ how_many s (rest_of ss k) → z ≤ length ss
  unfolding how_many
  count-size k s e = omega (arith, e, ap (how_many s) (part-rest ss k), count_if-below (eqb s) (drop k ss), length-drop k ss)

  -- above 20,000 it stops, since M is no smaller
  pub count-stops : (k : ℕ) {m : ℕ} → m ≡ way_count_of (drop k ss) (drop k labels) → most_ways < m → 20001 ≡ capped (way_count_of ss labels)
  count-stops k inv h = sym (capped-above (way_count_of ss labels) (omega (arith, inv, count-rest k ss labels fits)))

  pub count-ends : (k : ℕ) {m : ℕ} → k ≤ 0 → m ≡ way_count_of (drop k ss) (drop k labels) → m ≤ most_ways → m ≡ capped (way_count_of ss labels)
  count-ends k none inv h =
      let z : k ≡ 0 = omega arith in
      let whole = inv ∙ ap (λ (i : ℕ). way_count_of (drop i ss) (drop i labels)) z in
      whole ∙ sym (capped-within (way_count_of ss labels) (omega (arith, whole)))
