-- The sum of the means of a set's columns: one column more.
use Rattle.lists.proofs.Base.{◌≡◌, refl, sym, ap, ◌∙◌, Bool, List, map, ℕ, ◌+◌, ◌<◌, ◌≤◌, lt-ltb, le-ltb, ltb, length, get_or, drop, drop_of_length-le, Float, nan}
use Rattle.float.specs.Floats.{◌⊕◌}
use Rattle.lists.specs.{Filters.filter, Sums.sum_from}
use Rattle.lists.proofs.{Filters.drop_more, Filters.filter-yes, Filters.filter-no, Sums.left-turn, Sums.left_end}

abbrev pub mean_at : List Float → ℕ → Float
mean_at means c = get_or means c nan

abbrev pub has_mean : List Float → ℕ → Bool
has_mean means c = ltb c (length means)

module _ (means : List Float) (s : List ℕ) (i : ℕ) (z : Float) {t : Float} where
  pub mean-in : {z' : Float} → i < length s → get_or s i 0 < length means → z' ≡ z ⊕ mean_at means (get_or s i 0)
      → sum_from z (map (mean_at means) (filter (has_mean means) (drop i s))) ≡ t → sum_from z' (map (mean_at means) (filter (has_mean means) (drop (i + 1) s))) ≡ t
  mean-in h g e inv = left-turn (mean_at means) z (ap (filter (has_mean means)) (drop_more s i 0 h) ∙ filter-yes (has_mean means) (get_or s i 0) (drop (i + 1) s) (lt-ltb _ _ g)) refl e inv

  pub mean-out : i < length s → length means ≤ get_or s i 0 → sum_from z (map (mean_at means) (filter (has_mean means) (drop i s))) ≡ t →
      sum_from z (map (mean_at means) (filter (has_mean means) (drop (i + 1) s))) ≡ t
  mean-out h g inv = ap (λ (l : List ℕ). sum_from z (map (mean_at means) l))
      (sym (ap (filter (has_mean means)) (drop_more s i 0 h) ∙ filter-no (has_mean means) (get_or s i 0) (drop (i + 1) s) (le-ltb _ _ g))) ∙ inv

  pub mean-end : length s ≤ i → sum_from z (map (mean_at means) (filter (has_mean means) (drop i s))) ≡ t → z ≡ t
  unfolding filter
  mean-end h inv = left_end (mean_at means) z (ap (filter (has_mean means)) (drop_of_length-le s h)) inv
