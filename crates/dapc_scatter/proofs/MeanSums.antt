-- A sample more in the sums of all, and in those of its group.
-- x are rows of `columns`, of which the first p entries are added; `&x[i * columns..i * columns + p]` is lent as `take .. (drop ..)`.
use Rattle.lists.proofs.Base.{◌≡◌, sym, ap, ap₂, subst, ◌∙◌, Bool, not, List, map, ℕ, ◌+◌, ◌-◌, ◌*◌, ◌<◌, ◌≤◌}
use Rattle.lists.proofs.Base.{arith, length, get_or, take, drop, replicate, get_or-replicate, Float, nan, put_mid}
use Rattle.float.specs.Floats.{◌⊕◌, ◌⊘◌, num, zero⁺, zero⁻}
use Rattle.lists.specs.{Ranges.table, Ranges.grid, Numbers.in_group, Numbers.members, Sums.sum_from, Rows.entry}
use Rattle.lists.proofs.{Ranges.length-table, Ranges.get_or-table, Ranges.table-ext, Rows.row-end, Rows.length_part, Rows.entry-grid}
use Rattle.limits.specs.Limits.{none}
use Rattle.lot.specs.Kept.{sizes}
use Rattle.dapc_scatter.specs.Means.{grouped, overall_mean, column_mean, mean_of, group_means}
use Rattle.lists.proofs.Grids.{part-entry, first-row, grid-one, grid-ext, entry-replicate}
use Rattle.dapc_scatter.proofs.Adding.{Adding, adding-grid, adding-pass, adding-row, adding-all, cell_sum}
use Rattle.dapc_scatter.proofs.Counting.{length-sizes, get_or-sizes}
use Rattle.dapc_scatter.proofs.Groups.{has-group, has-none, in-own, in_one, in-none}

abbrev pub has_group : List ℕ → ℕ → Bool
has_group groups i = not (in_group groups none i)

-- what is lent of row i
abbrev pub front : ℕ → ℕ → ℕ → List Float → List Float
front w i k l = take (i * w + k - i * w) (drop (i * w) l)

-- what `add` leaves
abbrev pub added : List Float → List Float → List Float
added row other = table (length row) (λ c. get_or row c nan ⊕ get_or other c nan)

module _ (p columns : ℕ) (x : List Float) (groups : List ℕ) (m₀ : List Float) where
  -- ---- all samples that have a group
  abbrev pub AllAdded : List Float → ℕ → Type 0
  AllAdded m i = Adding 1 p (λ _. has_group groups) (λ _ c i. entry columns x i c) (length groups) m₀ m i

  pub all-turn : (m : List Float) {m' : List Float} {i j : ℕ} → AllAdded m i → i < length groups → j ≡ get_or groups i 0 → (j ≡ none → ⊥)
      → m' ≡ added m (front columns i p x) → AllAdded m' (i + 1)
  all-turn m {m'} {i} a h e ne is =
      let t : ℕ → ℕ → Float = λ _ c. get_or (front columns i p x) c nan in
      let long : length m ≡ p = omega (arith, a.long) in
      adding-grid 1 p (λ _. has_group groups) (λ _ c i. entry columns x i c) (length groups) m₀ m t a h (λ _. has-group groups i e ne) (is
      ∙ ap (λ (k : ℕ). table k (λ c. get_or m c nan ⊕ t 0 c)) long
      ∙ table-ext (λ c. get_or m c nan ⊕ t 0 c) (λ c. entry p m 0 c ⊕ t 0 c) p (λ c _. ap (λ (v : Float). v ⊕ t 0 c) (sym (first-row p m c)))
      ∙ sym (grid-one p (λ j c. entry p m j c ⊕ t j c))) (λ j c _ k. part-entry columns i p x c k)

  pub all_pass : (m : List Float) {m' : List Float} {i j : ℕ} → AllAdded m i → i < length groups → j ≡ get_or groups i 0 → j ≡ none → m' ≡ m → AllAdded m' (i + 1)
  all_pass m {m'} {i} a h e q is = subst (λ (l : List Float). AllAdded l (i + 1)) (sym is)
      (adding-pass 1 p (λ _. has_group groups) (λ _ c i. entry columns x i c) (length groups) m₀ a h (λ _ _. has-none groups i e q))

  pub all_end : {m : List Float} {i : ℕ} → AllAdded m i → length groups ≤ i
      → m ≡ table p (λ c. sum_from (get_or m₀ c nan) (map (λ i. entry columns x i c) (grouped groups)))
  unfolding grouped
  all_end a h =
      let f : ℕ → Float → Float = λ c. cell_sum (has_group groups) (λ i. entry columns x i c) 0 (length groups) in
      adding-all 1 p (λ _. has_group groups) (λ _ c i. entry columns x i c) (length groups) m₀ a h ∙ grid-one p (λ j c. f c (entry p m₀ j c))
      ∙ table-ext (λ c. f c (entry p m₀ 0 c)) (λ c. f c (get_or m₀ c nan)) p (λ c _. ap (f c) (first-row p m₀ c))

  -- ---- each of g groups
  module _ (g : ℕ) where
    abbrev pub GroupsAdded : List Float → ℕ → Type 0
    GroupsAdded m i = Adding g p (in_group groups) (λ _ c i. entry columns x i c) (length groups) m₀ m i

    pub group-turn : (m r : List Float) {m' : List Float} {i j : ℕ} → GroupsAdded m i → i < length groups → j ≡ get_or groups i 0 → j < g
        → r ≡ added (front p j p m) (front columns i p x) → m' ≡ put_mid (j * p) (j * p + p - j * p) m r → GroupsAdded m' (i + 1)
    group-turn m r {m'} {i} {j} a h e below is put =
        let fits : j * p + p ≤ length m = omega (arith, row-end p j g below, a.long) in
        let long : length (front p j p m) ≡ p = length_part p j m fits in
        let f : ℕ → Float = λ c. get_or (front p j p m) c nan ⊕ get_or (front columns i p x) c nan in
        let row : r ≡ table p f = is ∙ ap (λ (k : ℕ). table k f) long in
        subst (λ (l : List Float). GroupsAdded l (i + 1)) (sym put)
        (adding-row g p (in_group groups) (λ _ c i. entry columns x i c) (length groups) m₀ m r a h below (ap length row ∙ length-table f p) (in-own groups i e) (in_one groups i e)
        (λ c k. ap (λ (l : List Float). get_or l c nan) row ∙ get_or-table f p c nan k
        ∙ ap₂ (λ (u v : Float). u ⊕ v) (part-entry p j p m c k) (part-entry columns i p x c k)))

    pub group-pass : (m : List Float) {m' : List Float} {i j : ℕ} → GroupsAdded m i → i < length groups → j ≡ get_or groups i 0 → g ≤ none → j ≡ none → m' ≡ m
        → GroupsAdded m' (i + 1)
    group-pass m {m'} {i} a h e small q is = subst (λ (l : List Float). GroupsAdded l (i + 1)) (sym is)
        (adding-pass g p (in_group groups) (λ _ c i. entry columns x i c) (length groups) m₀ a h (in-none groups i e g small q))

    pub group-end : {m : List Float} {i : ℕ} → GroupsAdded m i → length groups ≤ i
        → m ≡ grid g p (λ j c. sum_from (entry p m₀ j c) (map (λ i. entry columns x i c) (members groups (length groups) j)))
    unfolding members
    group-end a h = adding-all g p (in_group groups) (λ _ c i. entry columns x i c) (length groups) m₀ a h

-- ---- sums divided are means

module _ (p columns : ℕ) (x : List Float) (groups : List ℕ) where
  abbrev pub column_sum : ℕ → Float → List ℕ → Float
  column_sum c s mem = sum_from s (map (λ i. entry columns x i c) mem)

  pub mean-is : {m₀ m₁ m₂ : List Float} {m : ℕ} → m₀ ≡ replicate p zero⁻ → m₁ ≡ table p (λ c. column_sum c (get_or m₀ c nan) (grouped groups))
      → m ≡ length (grouped groups) → m₂ ≡ table (length m₁) (λ c. get_or m₁ c nan ⊘ num m) → m₂ ≡ mean_of columns p x groups
  unfolding mean_of overall_mean
  mean-is {m₀} {m₁} {m₂} {m} blank sums e is =
      let f : ℕ → Float = λ c. column_sum c (get_or m₀ c nan) (grouped groups) in
      is ∙ ap (λ (k : ℕ). table k (λ c. get_or m₁ c nan ⊘ num m)) (ap length sums ∙ length-table f p)
      ∙ table-ext (λ c. get_or m₁ c nan ⊘ num m) (overall_mean columns x (grouped groups)) p (λ c h. ap₂ (λ (u : Float) (k : ℕ). u ⊘ num k)
      (ap (λ (l : List Float). get_or l c nan) sums ∙ get_or-table f p c nan h
      ∙ ap (λ (u : Float). column_sum c u (grouped groups)) (ap (λ (l : List Float). get_or l c nan) blank ∙ get_or-replicate p c zero⁻ nan h)) e)

  pub group-means-are : (g : ℕ) {m₀ m₁ m₂ : List Float} {counts : List ℕ} → m₀ ≡ replicate (g * p) zero⁺
      → m₁ ≡ grid g p (λ j c. column_sum c (entry p m₀ j c) (members groups (length groups) j)) → counts ≡ sizes groups (length groups) g
      → m₂ ≡ grid (length counts) p (λ j c. entry p m₁ j c ⊘ num (get_or counts j 0)) → m₂ ≡ group_means columns p x groups g
  unfolding group_means column_mean
  group-means-are g {m₀} {m₁} {m₂} {counts} blank sums e is =
      let f : ℕ → ℕ → Float = λ j c. column_sum c (entry p m₀ j c) (members groups (length groups) j) in
      is ∙ ap (λ (k : ℕ). grid k p (λ j c. entry p m₁ j c ⊘ num (get_or counts j 0))) (ap length e ∙ length-sizes groups (length groups) g)
      ∙ grid-ext g p (λ j c. entry p m₁ j c ⊘ num (get_or counts j 0)) (λ j c. column_mean columns x (members groups (length groups) j) c) (λ j c h k.
      ap₂ (λ (u : Float) (n : ℕ). u ⊘ num n) (ap (λ (l : List Float). entry p l j c) sums ∙ entry-grid g p f j c h k
      ∙ ap (λ (u : Float). column_sum c u (members groups (length groups) j)) (ap (λ (l : List Float). entry p l j c) blank ∙ entry-replicate g p zero⁺ j c h k))
      (ap (λ (l : List ℕ). get_or l j 0) e ∙ get_or-sizes groups (length groups) g j h))
