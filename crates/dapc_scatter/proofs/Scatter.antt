-- A sample more in the scatter within groups, a group more in that between them.
-- `d` has how far the sample, or the group, is from the mean; `&x[i * columns..i * columns + p]` is lent as `take .. (drop ..)`.
use Rattle.lists.proofs.Base.{◌≡◌, refl, sym, ap, ap₂, subst, ◌∙◌, Bool, true, List, [], ◌∷◌, map, ℕ, ◌+◌, ◌*◌, ◌<◌, ◌≤◌, arith, length, get_or, replicate, Float, nan}
use Rattle.float.specs.Floats.{◌⊕◌, ◌⊖◌, ◌⊗◌, num, zero⁺}
use Rattle.lists.specs.{Ranges.range, Ranges.table, Ranges.grid, Filters.filter, Numbers.members, Sums.sum_from, Rows.entry}
use Rattle.lists.proofs.{Ranges.get_or-table, Ranges.table-ext, Sums.sum-table, Grids.part-entry, Grids.grid-ext, Grids.entry-replicate}
use Rattle.limits.specs.Limits.{none}
use Rattle.lot.specs.Kept.{sizes}
use Rattle.dapc_scatter.specs.{Means.grouped, Scatter.off, Scatter.group_off, Scatter.scatter_within, Scatter.scatter_between}
use Rattle.dapc_scatter.proofs.Adding.{Adding, adding-grid, adding-pass, adding-all, cell_sum}
use Rattle.dapc_scatter.proofs.{Counting.length-sizes, Counting.get_or-sizes, Groups.has-group, Groups.has-none}
use Rattle.dapc_scatter.proofs.MeanSums.{has_group, front}

-- what `subtract` and `scale` leave, and what `add_outer` adds to
abbrev pub apart : ℕ → List Float → List Float → List Float
apart p a b = table p (λ c. get_or a c nan ⊖ get_or b c nan)

abbrev pub outer : ℕ → List Float → List Float → List Float → List Float
outer p m s d = grid p p (λ a b. entry p m a b ⊕ get_or s a nan ⊗ get_or d b nan)

-- ---- within groups

module _ (p columns : ℕ) (x : List Float) (groups : List ℕ) (mu m₀ : List Float) where
  abbrev pub product : ℕ → ℕ → ℕ → Float
  product a b i = off columns p x groups mu i a ⊗ off columns p x groups mu i b

  abbrev pub WithinAdded : List Float → ℕ → Type 0
  WithinAdded m i = Adding p p (λ _. has_group groups) product (length groups) m₀ m i

  pub within-turn : (m : List Float) {m' d : List Float} {i j k : ℕ} → WithinAdded m i → i < length groups → j ≡ get_or groups i 0 → (j ≡ none → ⊥)
      → k ≡ p → d ≡ apart k (front columns i p x) (front p j p mu) → m' ≡ outer p m d d → WithinAdded m' (i + 1)
  within-turn m {m'} {d} {i} {j} {k} a h e ne wide diff is =
      let t : ℕ → ℕ → Float = λ a b. get_or d a nan ⊗ get_or d b nan in
      adding-grid p p (λ _. has_group groups) product (length groups) m₀ m t a h (λ _. has-group groups i e ne) is
      (λ a b k z. ap₂ (λ (u v : Float). u ⊗ v) (far a k) (far b z))
    where
      far : (a : ℕ) → a < p → get_or d a nan ≡ off columns p x groups mu i a
      far a y = ap (λ (l : List Float). get_or l a nan) diff
          ∙ get_or-table (λ c. get_or (front columns i p x) c nan ⊖ get_or (front p j p mu) c nan) k a nan (omega arith)
          ∙ ap₂ (λ (u v : Float). u ⊖ v) (part-entry columns i p x a y) (part-entry p j p mu a y ∙ ap (λ (t : ℕ). entry p mu t a) e)

  pub within-pass : (m : List Float) {m' : List Float} {i j : ℕ} → WithinAdded m i → i < length groups → j ≡ get_or groups i 0 → j ≡ none → m' ≡ m → WithinAdded m' (i + 1)
  within-pass m {m'} {i} a h e q is = subst (λ (l : List Float). WithinAdded l (i + 1)) (sym is)
      (adding-pass p p (λ _. has_group groups) product (length groups) m₀ a h (λ _ _. has-none groups i e q))

  pub within_end : {m : List Float} {i : ℕ} → WithinAdded m i → length groups ≤ i
      → m ≡ grid p p (λ a b. sum_from (entry p m₀ a b) (map (product a b) (grouped groups)))
  unfolding grouped
  within_end a h = adding-all p p (λ _. has_group groups) product (length groups) m₀ a h

-- ---- between groups

abbrev pub every : ℕ → Bool
every _ = true

filter-every : (l : List ℕ) → filter every l ≡ l
unfolding filter
filter-every [] = refl
filter-every (i ∷ l) = ap (λ (t : List ℕ). i ∷ t) (filter-every l)

module _ (p g : ℕ) (counts : List ℕ) (mu mean m₀ : List Float) where
  abbrev pub weighted : ℕ → ℕ → ℕ → Float
  weighted a b j = num (get_or counts j 0) ⊗ group_off p mu mean j a ⊗ group_off p mu mean j b

  abbrev pub BetweenAdded : List Float → ℕ → Type 0
  BetweenAdded m j = Adding p p (λ _. every) weighted g m₀ m j

  pub between-turn : (m : List Float) {m' s d : List Float} {j k i n : ℕ} → BetweenAdded m j → j < g → n ≡ get_or counts j 0
      → k ≡ p → d ≡ apart k (front p j p mu) mean → i ≡ p → s ≡ table i (λ c. num n ⊗ get_or d c nan) → m' ≡ outer p m s d → BetweenAdded m' (j + 1)
  between-turn m {m'} {s} {d} {j} {k} {i} {n} a h e wide diff wide' scaled is =
      let t : ℕ → ℕ → Float = λ a b. get_or s a nan ⊗ get_or d b nan in
      adding-grid p p (λ _. every) weighted g m₀ m t a h (λ _. refl) is (λ a b y z. ap₂ (λ (u v : Float). u ⊗ v) (times a y) (far b z))
    where
      far : (a : ℕ) → a < p → get_or d a nan ≡ group_off p mu mean j a
      far a y = ap (λ (l : List Float). get_or l a nan) diff ∙ get_or-table (λ c. get_or (front p j p mu) c nan ⊖ get_or mean c nan) k a nan (omega arith)
          ∙ ap (λ (u : Float). u ⊖ get_or mean a nan) (part-entry p j p mu a y)

      times : (a : ℕ) → a < p → get_or s a nan ≡ num (get_or counts j 0) ⊗ group_off p mu mean j a
      times a y = ap (λ (l : List Float). get_or l a nan) scaled ∙ get_or-table (λ c. num n ⊗ get_or d c nan) i a nan (omega arith)
          ∙ ap₂ (λ (t : ℕ) (u : Float). num t ⊗ u) e (far a y)

  pub between-end : {m : List Float} {j : ℕ} → BetweenAdded m j → g ≤ j → m ≡ grid p p (λ a b. sum_from (entry p m₀ a b) (table g (weighted a b)))
  between-end a h = adding-all p p (λ _. every) weighted g m₀ a h
      ∙ grid-ext p p (λ a b. cell_sum every (weighted a b) 0 g (entry p m₀ a b)) (λ a b. sum_from (entry p m₀ a b) (table g (weighted a b)))
      (λ a b _ _. ap (λ (l : List ℕ). sum_from (entry p m₀ a b) (map (weighted a b) l)) (filter-every (range 0 g)) ∙ sym (sum-table (entry p m₀ a b) g (weighted a b)))

-- ---- from zeros

pub within-is : (p columns : ℕ) (x : List Float) (groups : List ℕ) (mu : List Float) {m₀ m : List Float} → m₀ ≡ replicate (p * p) zero⁺
    → m ≡ grid p p (λ a b. sum_from (entry p m₀ a b) (map (λ i. off columns p x groups mu i a ⊗ off columns p x groups mu i b) (grouped groups)))
    → m ≡ scatter_within columns p x groups mu
unfolding scatter_within
within-is p columns x groups mu {m₀} blank is =
    let sum : Float → ℕ → ℕ → Float = λ s a b. sum_from s (map (λ i. off columns p x groups mu i a ⊗ off columns p x groups mu i b) (grouped groups)) in
    is ∙ grid-ext p p (λ a b. sum (entry p m₀ a b) a b) (λ a b. sum zero⁺ a b)
    (λ a b h k. ap (λ (s : Float). sum s a b) (ap (λ (l : List Float). entry p l a b) blank ∙ entry-replicate p p zero⁺ a b h k))

pub between_is : (p g : ℕ) (groups : List ℕ) (mu mean : List Float) {m₀ m : List Float} {counts : List ℕ} → m₀ ≡ replicate (p * p) zero⁺
    → counts ≡ sizes groups (length groups) g
    → m ≡ grid p p (λ a b. sum_from (entry p m₀ a b) (table (length counts) (λ j. num (get_or counts j 0) ⊗ group_off p mu mean j a ⊗ group_off p mu mean j b)))
    → m ≡ scatter_between p g groups mu mean
unfolding scatter_between
between_is p g groups mu mean {m₀} {m} {counts} blank e is =
    let term : ℕ → ℕ → ℕ → ℕ → Float = λ n a b j. num n ⊗ group_off p mu mean j a ⊗ group_off p mu mean j b in
    is ∙ grid-ext p p (λ a b. sum_from (entry p m₀ a b) (table (length counts) (λ j. term (get_or counts j 0) a b j)))
    (λ a b. sum_from zero⁺ (table g (λ j. term (length (members groups (length groups) j)) a b j))) (λ a b h k.
    ap₂ (λ (s : Float) (l : List Float). sum_from s l) (ap (λ (l : List Float). entry p l a b) blank ∙ entry-replicate p p zero⁺ a b h k)
    (ap (λ (n : ℕ). table n (λ j. term (get_or counts j 0) a b j)) (ap length e ∙ length-sizes groups (length groups) g)
    ∙ table-ext (λ j. term (get_or counts j 0) a b j) (λ j. term (length (members groups (length groups) j)) a b j) g
    (λ j y. ap (λ (n : ℕ). term n a b j) (ap (λ (l : List ℕ). get_or l j 0) e ∙ get_or-sizes groups (length groups) g j y))))
