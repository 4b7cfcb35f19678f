-- The Ritz values found one after the other and held against those before.
use Rattle.lists.proofs.Base.{◌≡◌, refl, sym, ap, ap₂, ◌∙◌, Bool, true, ◌&&◌, List, ℕ, ◌+◌, ◌<◌, ◌≤◌, arith, length, get_or, set, Float, nan}
use Rattle.lists.specs.{Ranges.table, Ranges.up_from, Filters.all}
use Rattle.lists.proofs.Ranges.{table-last, length-table, get_or-table, table-ext}
use Rattle.lists.proofs.{Writes.Writing, Writes.writing-next, Writes.writing-here, Writes.writing-none, Writes.writing-all, Zips.zip-table}
use Rattle.lists.proofs.Searches.{all-last}
use Rattle.eigen_block.specs.Rounds.{converged_at, converged}

-- ---- Ritz values, j of them found and held against those before

pub record Settling (f : ℕ → Float) (old l : List Float) (s : Bool) (j : ℕ) : Type 0 where
  pub written : Writing f old l j
  pub so_far : s ≡ all (λ b. b) (table j (λ i. converged_at (f i) (get_or old i nan)))

module _ (f : ℕ → Float) (old : List Float) where
  pub settling-none : Settling f old old true 0
  unfolding all table up_from
  settling-none = record { written = writing-none f old; so_far = refl }

  pub settling-next : {l : List Float} {s s' : Bool} {j : ℕ} {r : Float} → Settling f old l s j → j < length old → r ≡ f j
      → s' ≡ (s && converged_at r (get_or l j nan)) → Settling f old (set l j r) s' (j + 1)
  settling-next {l} {s} {s'} {j} {r} w h e g = record {
    written = writing-next f old w.written h e;
    so_far = g ∙ ap₂ (λ (x : Bool) (y : Bool). x && y) w.so_far (ap₂ converged_at e (writing-here f old nan w.written))
        ∙ sym (all-last (λ b. b) (table j now) (now j))
        ∙ ap (all (λ b. b)) (sym (table-last now j));
  }
    where
      now : ℕ → Bool
      now i = converged_at (f i) (get_or old i nan)

  pub settling-all : {l : List Float} {s : Bool} {j : ℕ} → Settling f old l s j → length old ≤ j → s ≡ converged l old
  unfolding converged
  settling-all {l} {s} {j} w h =
      let k = length old in
      let done : j ≡ k = omega (arith, w.written.most) in
      let latest : l ≡ table k f = writing-all f old w.written h in
      let len : length (table k f) ≡ k = length-table f k in
      w.so_far ∙ ap (λ (i : ℕ). all (λ b. b) (table i (λ i. converged_at (f i) (get_or old i nan)))) done
      ∙ ap (all (λ b. b)) (table-ext (λ i. converged_at (f i) (get_or old i nan)) (λ i. converged_at (get_or (table k f) i nan) (get_or old i nan)) k
      (λ i g. ap (λ (x : Float). converged_at x (get_or old i nan)) (sym (get_or-table f k i nan g))))
      ∙ ap (λ (n : ℕ). all (λ b. b) (table n (λ i. converged_at (get_or (table k f) i nan) (get_or old i nan)))) (sym len)
      ∙ ap (all (λ b. b)) (zip-table converged_at (table k f) old nan nan len) ∙ ap (λ (t : List Float). converged t old) (sym latest)
