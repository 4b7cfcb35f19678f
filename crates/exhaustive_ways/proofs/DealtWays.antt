-- What `deal` lists, over plain lists of strata and labels: the ways, each once, and how many there are.
use Rattle.lists.proofs.Base.{◌≡◌, refl, sym, ap, ap₂, ◌∙◌, Bool, true, false, cond, ⊎_elim, ℕ, zero, suc, ◌+◌, ◌-◌, ◌*◌}
use Rattle.lists.proofs.Base.{◌≤◌, ◌<◌, suc-le-suc, arith, dec_lt, ltb, length, length-map, lt-ltb, le-ltb, ltb-true}
use mathlib.Core.List.Memᴰ.{head as here}
use mathlib.Core.List.Memᴰ.{tail as there}
use mathlib.Core.List.{List, [], ◌∷◌, map, head-eq_of_cons-eq, tail-eq_of_cons-eq, Memᴰ as Member}
use mathlib.Core.List.Memᴰ
use mathlib.Core.List.Memᴰ.{eq_of_singleton}
use mathlib.Core.List.Memᴰ.{not-nil}
use native.Mathlib.Nat.{mul_comm, mul_left_comm, zero-mul, one-mul}
use Rattle.lists.specs.{Ranges.up_from, Ranges.table, Ranges.rows, Filters.count_if, Numbers.sumℕ, Numbers.productℕ, Numbers.factorial, Numbers.how_many}
use Rattle.lists.specs.inner.Numbers.{Below}
use Rattle.lists.proofs.{Ranges.rows_ext, Members.map-cong, Members.member-up_from, Members.up_from-member, Members.member-rows, Members.rows-member}
use Rattle.lot.specs.Way.{δ, mark, tally}
use Rattle.exhaustive_ways.specs.{Ways.spend, Ways.deal, Every.Distinct}
use Rattle.exhaustive_ways.specs.inner.Order.{Balanced}
use Rattle.lists.proofs.Tallies.{sumℕ-add, sumℕ-mul, sumℕ-zeros, sumℕ-term, productℕ-ones, productℕ-pos, factorial-pos, factorial-less, length-rows-sum}
use Rattle.exhaustive_ways.proofs.Distinct.{distinct-rows, distinct-map, distinct-up_from, sumℕ-δ, productℕ-scale}
use Rattle.lot.proofs.Tallies.{δ-same, δ-other, mark-same, mark-stratum, mark-label, mark-cases}

-- ---- `mark`: one sample in the counts

-- a sample's label is counted once in its stratum
sumℕ-mark : (g s₀ j₀ s : ℕ) → j₀ < g → sumℕ (table g (mark s₀ j₀ s)) ≡ δ s s₀
unfolding mark table
sumℕ-mark g s₀ j₀ s h = ap sumℕ (map-cong _ (λ j. δ j j₀ * δ s s₀) (up_from 0 g) (λ j _. mul_comm (δ s s₀) (δ j j₀)))
    ∙ sumℕ-mul (λ j. δ j j₀) (δ s s₀) (up_from 0 g)
    ∙ ap (λ (k : ℕ). k * δ s s₀) (sumℕ-δ j₀ (up_from 0 g) (distinct-up_from 0 g) (up_from-member 0 g j₀ (omega arith) (omega arith))) ∙ one-mul _

mark-le : (c : ℕ → ℕ → ℕ) (s₀ j₀ s j : ℕ) → 0 < c s₀ j₀ → mark s₀ j₀ s j ≤ c s j
mark-le c s₀ j₀ s j h = ⊎_elim (λ w. omega (arith, w.2, ap₂ c w.0 w.1)) (λ z. omega arith) (mark-cases s₀ j₀ s j)

pub how_many-cons : (s s₀ : ℕ) (ss : List ℕ) → how_many s (s₀ ∷ ss) ≡ δ s s₀ + how_many s ss
unfolding how_many count_if δ
how_many-cons s s₀ ss = refl

-- ---- one step of `deal`

-- the ways on which the first sample, of stratum s, has the label j
abbrev pub branch : ℕ → ℕ → List ℕ → (ℕ → ℕ → ℕ) → ℕ → List (List ℕ)
branch g s ss c j = cond (ltb 0 (c s j)) (map (λ way. j ∷ way) (deal g ss (spend c s j))) []

pub deal-cons : (g s : ℕ) (ss : List ℕ) (c : ℕ → ℕ → ℕ) → deal g (s ∷ ss) c ≡ rows g (branch g s ss c)
unfolding deal
deal-cons g s ss c = refl

module _ {A : Type 0} where
  if-out : (b : Bool) (xs : List A) (x : A) → Member x (cond b xs []) → (b ≡ true) × Member x xs
  if-out true xs x m = (refl, m)
  if-out false xs x m = absurd (not-nil m)

  if-distinct : (b : Bool) (xs : List A) → Distinct xs → Distinct (cond b xs [])
  unfolding Distinct
  if-distinct true xs d = d
  if-distinct false xs d = tt

module _ (g s : ℕ) (ss : List ℕ) (c : ℕ → ℕ → ℕ) (j : ℕ) where
  -- of the label j one is left, or none
  pub branch-some : 0 < c s j → branch g s ss c j ≡ map (λ way. j ∷ way) (deal g ss (spend c s j))
  branch-some h = ap (λ (b : Bool). cond b (map (λ way. j ∷ way) (deal g ss (spend c s j))) []) (lt-ltb 0 (c s j) h)

  pub branch-none : c s j ≡ 0 → branch g s ss c j ≡ []
  branch-none z = ap (λ (b : Bool). cond b (map (λ way. j ∷ way) (deal g ss (spend c s j))) []) (le-ltb 0 (c s j) (omega arith))

  branch-out : (way : List ℕ) → Member way (branch g s ss c j) → (0 < c s j) × ((rest : List ℕ) × Member rest (deal g ss (spend c s j)) × (j ∷ rest ≡ way))
  branch-out way m =
      let o = if-out (ltb 0 (c s j)) (map (λ way. j ∷ way) (deal g ss (spend c s j))) way m in
      (ltb-true 0 (c s j) o.0, Memᴰ.of_map (λ way. j ∷ way) (deal g ss (spend c s j)) o.1)

  branch_in : (rest : List ℕ) → 0 < c s j → Member rest (deal g ss (spend c s j)) → Member (j ∷ rest) (branch g s ss c j)
  branch_in rest h m = rw (branch-some h) (Memᴰ.map (λ way. j ∷ way) m)

-- The list depends on the counts of labels below g alone.
pub deal-cong : (g : ℕ) (ss : List ℕ) (c c' : ℕ → ℕ → ℕ) → ((s j : ℕ) → j < g → c s j ≡ c' s j) → deal g ss c ≡ deal g ss c'
unfolding deal spend
deal-cong g [] c c' e = refl
deal-cong g (s ∷ ss) c c' e = rows_ext _ _ g (λ j h. ap₂ (λ (n : ℕ) (on : List (List ℕ)). cond (ltb 0 n) on []) (e s j h)
    (ap (map (λ way. j ∷ way)) (deal-cong g ss (spend c s j) (spend c' s j) (λ s' j' h'. ap (λ (k : ℕ). k - mark s j s' j') (e s' j' h')))))

-- No way is listed twice.
pub deal-distinct : (g : ℕ) (ss : List ℕ) (c : ℕ → ℕ → ℕ) → Distinct (deal g ss c)
unfolding deal Distinct
deal-distinct g [] c = (not-nil, tt)
deal-distinct g (s ∷ ss) c = distinct-rows g (branch g s ss c)
    (λ j. if-distinct (ltb 0 (c s j)) _ (distinct-map (λ way. j ∷ way) (λ x y e. tail-eq_of_cons-eq e) (deal g ss (spend c s j)) (deal-distinct g ss (spend c s j))))
    (λ i j way p q. head-eq_of_cons-eq ((branch-out g s ss c i way p).1.2 ∙ sym (branch-out g s ss c j way q).1.2))

-- ---- the counts are what the strata hold

-- a label placed takes one of both
spend-both :
    (g s₀ j₀ : ℕ) (ss : List ℕ) (c : ℕ → ℕ → ℕ) → j₀ < g → 0 < c s₀ j₀ → (s : ℕ) → sumℕ (table g (c s)) ≡ sumℕ (table g (spend c s₀ j₀ s)) + δ s s₀
unfolding spend table
spend-both g s₀ j₀ ss c hj hc s =
    let less : ℕ → ℕ = λ j. c s j - mark s₀ j₀ s j in
    let whole : sumℕ (map (λ j. less j + mark s₀ j₀ s j) (up_from 0 g)) ≡ sumℕ (map (c s) (up_from 0 g))
    = ap sumℕ (map-cong _ (c s) (up_from 0 g) (λ j _. omega (arith, mark-le c s₀ j₀ s j hc))) in
    omega (arith, whole, sumℕ-add less (mark s₀ j₀ s) (up_from 0 g), sumℕ-mark g s₀ j₀ s hj)

module _ (g s₀ j₀ : ℕ) (ss : List ℕ) (c : ℕ → ℕ → ℕ) (hj : j₀ < g) (hc : 0 < c s₀ j₀) where
  pub balanced-spend : Balanced g (s₀ ∷ ss) c → Balanced g ss (spend c s₀ j₀)
  unfolding Balanced
  balanced-spend b s = omega (arith, spend-both g s₀ j₀ ss c hj hc s, b s, how_many-cons s s₀ ss)

  pub balanced-unspend : Balanced g ss (spend c s₀ j₀) → Balanced g (s₀ ∷ ss) c
  unfolding Balanced
  balanced-unspend b s = omega (arith, spend-both g s₀ j₀ ss c hj hc s, b s, how_many-cons s s₀ ss)

pub balanced-tally : (g : ℕ) (ss labels : List ℕ) → length labels ≡ length ss → Below g labels → Balanced g ss (tally ss labels)
unfolding Balanced tally table how_many count_if
balanced-tally g [] labels e h s = sumℕ-zeros (λ _. 0) (up_from 0 g) (λ _ _. refl)
balanced-tally g (s₀ ∷ ss) [] e h s = absurd (omega arith)
balanced-tally g (s₀ ∷ ss) (j₀ ∷ labels) e h s = sumℕ-add (mark s₀ j₀ s) (tally ss labels s) (up_from 0 g)
    ∙ ap₂ ◌+◌ (sumℕ-mark g s₀ j₀ s (h 0 (omega arith))) (balanced-tally g ss labels (omega arith) (λ i b. h (suc i) (suc-le-suc b)) s)
    ∙ sym (how_many-cons s s₀ ss)

-- of a stratum's label no more are left than it has samples
pub balanced-le : (g : ℕ) (ss : List ℕ) (c : ℕ → ℕ → ℕ) → Balanced g ss c → (s j : ℕ) → j < g → c s j ≤ how_many s ss
unfolding Balanced table
balanced-le g ss c b s j h = omega (arith, b s, sumℕ-term (c s) (up_from 0 g) j (up_from-member 0 g j (omega arith) (omega arith)))

-- ---- what is listed

-- a way is dealt from the counts c: a label below g for each sample, and the counts used up below g
pub record Dealt (g : ℕ) (ss : List ℕ) (c : ℕ → ℕ → ℕ) (way : List ℕ) : Type 0 where
  pub labels_all : length way ≡ length ss
  pub below : Below g way
  pub uses_up : (s j : ℕ) → j < g → tally ss way s j ≡ c s j

dealt-cons : (g s₀ j₀ : ℕ) (ss way : List ℕ) (c : ℕ → ℕ → ℕ) → j₀ < g → 0 < c s₀ j₀ → Dealt g ss (spend c s₀ j₀) way → Dealt g (s₀ ∷ ss) c (j₀ ∷ way)
unfolding spend tally
dealt-cons g s₀ j₀ ss way c hj hc d = record {
  labels_all = ap suc d.labels_all;
  below = first;
  uses_up = λ s j h. omega (arith, d.uses_up s j h, mark-le c s₀ j₀ s j hc);
}
  where
    first : Below g (j₀ ∷ way)
    first zero b = hj
    first (suc i) b = d.below i (omega arith)

dealt-tail : (g s₀ j₀ : ℕ) (ss way : List ℕ) (c : ℕ → ℕ → ℕ) → Dealt g (s₀ ∷ ss) c (j₀ ∷ way) → (j₀ < g) × (0 < c s₀ j₀) × Dealt g ss (spend c s₀ j₀) way
unfolding spend tally
dealt-tail g s₀ j₀ ss way c d =
    let hj : j₀ < g = d.below 0 (omega arith) in (
      hj,
      omega (arith, d.uses_up s₀ j₀ hj, mark-same s₀ j₀ s₀ j₀ refl refl),
      record {
        labels_all = omega (arith, d.labels_all);
        below = λ i b. d.below (suc i) (suc-le-suc b);
        uses_up = λ s j h. omega (arith, d.uses_up s j h);
      },
    )

-- What is listed is dealt from the counts.
pub deal-sound : (g : ℕ) (ss : List ℕ) (c : ℕ → ℕ → ℕ) (way : List ℕ) → Balanced g ss c → Member way (deal g ss c) → Dealt g ss c way
unfolding deal tally how_many count_if
deal-sound g [] c way b m =
    let e = eq_of_singleton m in record {
      labels_all = ap length e;
      below = λ i h. absurd (omega (arith, ap length e));
      uses_up = λ s j h. omega (arith, balanced-le g [] c b s j h);
    }
deal-sound g (s ∷ ss) c way b m =
    let w = member-rows g (branch g s ss c) way m in
    let j = w.0 in
    let o = branch-out g s ss c j way w.2 in
    rw (← o.1.2) (dealt-cons g s j ss o.1.0 c w.1 o.0 (deal-sound g ss (spend c s j) o.1.0 (balanced-spend g s j ss c w.1 o.0 b) o.1.1))

-- What is dealt from the counts is listed.
pub deal-complete : (g : ℕ) (ss : List ℕ) (c : ℕ → ℕ → ℕ) (way : List ℕ) → Dealt g ss c way → Member way (deal g ss c)
unfolding deal
deal-complete g [] c [] d = here refl
deal-complete g [] c (j ∷ way) d = absurd (omega (arith, d.labels_all))
deal-complete g (s ∷ ss) c [] d = absurd (omega (arith, d.labels_all))
deal-complete g (s ∷ ss) c (j ∷ way) d =
    let t = dealt-tail g s j ss way c d in
    rows-member g (branch g s ss c) (j ∷ way) j t.0 (branch_in g s ss c j way t.1 (deal-complete g ss (spend c s j) way t.2))

-- ---- how many: the factorials of all counts, and those of the sizes, multiplied over the strata N

unfoldable pub counts! : List ℕ → ℕ → (ℕ → ℕ → ℕ) → ℕ
counts! N g c = productℕ (map (λ s. productℕ (table g (λ j. factorial (c s j)))) N)

unfoldable pub sizes! : List ℕ → List ℕ → ℕ
sizes! N ss = productℕ (map (λ s. factorial (how_many s ss)) N)

pub counts!-pos : (N : List ℕ) (g : ℕ) (c : ℕ → ℕ → ℕ) → 0 < counts! N g c
unfolding counts! table
counts!-pos N g c = productℕ-pos _ N (λ s. productℕ-pos (λ j. factorial (c s j)) (up_from 0 g) (λ j. factorial-pos (c s j)))

pub counts!-cong : (N : List ℕ) (g : ℕ) (c c' : ℕ → ℕ → ℕ) → ((s j : ℕ) → c s j ≡ c' s j) → counts! N g c ≡ counts! N g c'
unfolding counts! table
counts!-cong N g c c' e = ap productℕ (map-cong _ _ N (λ s _. ap productℕ (map-cong _ _ (up_from 0 g) (λ j _. ap factorial (e s j)))))

module _ (N : List ℕ) (once : Distinct N) (s₀ : ℕ) (has : Member s₀ N) where
  -- a label placed takes its count out of the factorials
  pub counts!-spend : (g j₀ : ℕ) (c : ℕ → ℕ → ℕ) → j₀ < g → 0 < c s₀ j₀ → counts! N g c ≡ c s₀ j₀ * counts! N g (spend c s₀ j₀)
  unfolding counts! spend table
  counts!-spend g j₀ c hj hc =
      let n = c s₀ j₀ in
      let unmarked : (s j : ℕ) → mark s₀ j₀ s j ≡ 0 → factorial (c s j) ≡ factorial (c s j - mark s₀ j₀ s j)
      = λ s j z. let e : c s j ≡ c s j - mark s₀ j₀ s j = omega arith in ap factorial e in
      let one : n - 1 ≡ n - mark s₀ j₀ s₀ j₀ = omega (arith, mark-same s₀ j₀ s₀ j₀ refl refl) in
      productℕ-scale s₀ n _ _ N once has
      (productℕ-scale j₀ n _ _ (up_from 0 g) (distinct-up_from 0 g) (up_from-member 0 g j₀ (omega arith) (omega arith))
      (factorial-less n hc ∙ ap (λ (k : ℕ). n * factorial k) one) (λ j d. unmarked s₀ j (mark-label s₀ j₀ s₀ j d)))
      (λ s d. ap productℕ (map-cong _ _ (up_from 0 g) (λ j _. unmarked s j (mark-stratum s₀ j₀ s j d))))

  -- one sample more
  pub sizes!-cons : (ss : List ℕ) → sizes! N (s₀ ∷ ss) ≡ how_many s₀ (s₀ ∷ ss) * sizes! N ss
  unfolding sizes!
  sizes!-cons ss =
      let n = how_many s₀ (s₀ ∷ ss) in
      let more : n ≡ 1 + how_many s₀ ss = how_many-cons s₀ s₀ ss ∙ ap (λ (k : ℕ). k + how_many s₀ ss) (δ-same s₀ s₀ refl) in
      let one : n - 1 ≡ how_many s₀ ss = omega arith in
      productℕ-scale s₀ n _ _ N once has (factorial-less n (omega arith) ∙ ap (λ (k : ℕ). n * factorial k) one)
      (λ s d. let e : how_many s (s₀ ∷ ss) ≡ how_many s ss = omega (arith, how_many-cons s s₀ ss, δ-other s s₀ d) in ap factorial e)

  -- multiplied out, a branch has the ways of the rest once for each of its label that is left
  length-branch : (g j : ℕ) (ss : List ℕ) (c : ℕ → ℕ → ℕ) → j < g
      → (0 < c s₀ j → length (deal g ss (spend c s₀ j)) * counts! N g (spend c s₀ j) ≡ sizes! N ss)
      → length (branch g s₀ ss c j) * counts! N g c ≡ c s₀ j * sizes! N ss
  length-branch g j ss c hj ih = elim (dec_lt 0 (c s₀ j)) [
    | yes some ↦ let rest = deal g ss (spend c s₀ j) in
        ap₂ ◌*◌ (ap length (branch-some g s₀ ss c j some) ∙ length-map rest (λ way. j ∷ way)) (counts!-spend g j c hj some)
        ∙ mul_left_comm (length rest) (c s₀ j) (counts! N g (spend c s₀ j))
        ∙ ap (λ (k : ℕ). c s₀ j * k) (ih some)
    | no none ↦ let z : c s₀ j ≡ 0 = omega arith in
        ap (λ (ways : List (List ℕ)). length ways * counts! N g c) (branch-none g s₀ ss c j z) ∙ zero-mul _ ∙ sym (ap (λ (k : ℕ). k * sizes! N ss) z ∙ zero-mul _)
  ]

none_left : (N : List ℕ) (g : ℕ) (c : ℕ → ℕ → ℕ) → Balanced g [] c → counts! N g c ≡ sizes! N []
unfolding counts! sizes! table how_many count_if factorial
none_left N g c b = ap productℕ (map-cong _ _ N (λ s _. productℕ-ones _ (up_from 0 g)
    (λ j m. let h = member-up_from 0 g j m in let z : c s j ≡ 0 = omega (arith, balanced-le g [] c b s j (omega arith)) in ap factorial z)))

-- The ways, multiplied by the factorials of the counts, are the factorials of the sizes.
pub deal-count : (N : List ℕ) (g : ℕ) (ss : List ℕ) (c : ℕ → ℕ → ℕ) → Distinct N → ((s : ℕ) → Member s ss → Member s N) → Balanced g ss c
    → length (deal g ss c) * counts! N g c ≡ sizes! N ss
unfolding deal table Balanced
deal-count N g [] c once has b = one-mul _ ∙ none_left N g c b
deal-count N g (s ∷ ss) c once has b =
    let hs : Member s N = has s (here refl) in
    let F = counts! N g c in
    let each : (j : ℕ) → Member j (up_from 0 g) → length (branch g s ss c j) * F ≡ c s j * sizes! N ss
    = λ j m. let h = member-up_from 0 g j m in length-branch N once s hs g j ss c (omega arith) (λ some.
    deal-count N g ss (spend c s j) once (λ t n. has t (there n)) (balanced-spend g s j ss c (omega arith) some b)) in
    ap (λ (k : ℕ). k * F) (length-rows-sum g (branch g s ss c)) ∙ sym (sumℕ-mul (λ j. length (branch g s ss c j)) F (up_from 0 g))
    ∙ ap sumℕ (map-cong _ _ (up_from 0 g) each) ∙ sumℕ-mul (c s) (sizes! N ss) (up_from 0 g) ∙ ap (λ (k : ℕ). k * sizes! N ss) (b s)
    ∙ sym (sizes!-cons N once s hs ss)
