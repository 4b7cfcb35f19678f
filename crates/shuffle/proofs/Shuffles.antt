-- A shuffle keeps the number of labels, and their groups are of the same g. Over parts it is the shuffle within strata.
use Rattle.lists.proofs.Base.{◌≡◌, refl, sym, ap, ◌∙◌, subst, Bool, true, false, ℕ, zero, suc, ◌+◌, ◌-◌, ◌<◌, add-one, eqb, ltb, eqb-true, eqb-false}
use Rattle.lists.proofs.Base.{ltb-true, ltb-false, length, get_or, set, length-set, List·get_or-eq-default, get_or-set_same, get_or-set_other}
use mathlib.Core.List.{List, [], ◌∷◌, ◌++◌, foldl}
use Rattle.lists.specs.{Ranges.table, Loops.in_turn, Loops.down_to, Numbers.members}
use Rattle.lists.specs.inner.Numbers.{Below}
use Rattle.lists.proofs.{Ranges.table-last, Loops.in_turn-keeps, Loops.in_turn-ext}
use Rattle.grouping.specs.inner.Parts.{part, Grouped}
use Rattle.shuffle.specs.Shuffle.{Shuffling, begun, draw_below, swapped, swap_drawn, shuffle_stratum, shuffle}
use Rattle.shuffle.specs.inner.{Shuffle.shuffling, Parted.after_shuffle_by}
use Rattle.shuffle.specs.Shuffled.{parts, after_shuffle}

-- the labels of what a shuffle left
pub labels-are : {r : ℕ} {lab : List ℕ} {d : Shuffling} → shuffling r lab ≡ d → lab ≡ d.labels
labels-are e = ap (λ (d : Shuffling). d.labels) e

-- m labels of g groups
pub record Fine (m g : ℕ) (l : List ℕ) : Type 0 where
  pub long : length l ≡ m
  pub below : Below g l

-- an entry of such a list, or what stands for none
entry-below : (g : ℕ) (l : List ℕ) (i : ℕ) → 0 < g → Below g l → get_or l i 0 < g
entry-below g l i some b = go (ltb i (length l)) refl
  where
    go : (t : Bool) → ltb i (length l) ≡ t → get_or l i 0 < g
    go true e = b i (ltb-true i (length l) e)
    go false e = subst (λ (x : ℕ). x < g) (sym (List·get_or-eq-default l 0 (ltb-false i (length l) e))) some

set_below : (g : ℕ) (l : List ℕ) (i x : ℕ) → Below g l → x < g → Below g (set l i x)
set_below g l i x b h j k = go (eqb j i) refl (subst (λ (n : ℕ). j < n) (length-set l i x) k)
  where
    go : (t : Bool) → eqb j i ≡ t → j < length l → get_or (set l i x) j 0 < g
    go true e in_List = let same : j ≡ i = eqb-true j i e in
        subst (λ (n : ℕ). get_or (set l i x) n 0 < g) (sym same) (subst (λ (y : ℕ). y < g) (sym (get_or-set_same l i x 0 (subst (λ (n : ℕ). n < length l) same in_List))) h)
    go false e in_List = subst (λ (y : ℕ). y < g) (sym (get_or-set_other l i j x 0 (eqb-false j i e))) (b j in_List)

module _ (m g : ℕ) (some : 0 < g) where
  swapped-fine : (l : List ℕ) (i j : ℕ) → Fine m g l → Fine m g (swapped l i j)
  unfolding swapped
  swapped-fine l i j f =
      let x = get_or l j 0 in
      let y = get_or l i 0 in
      let first : Below g (set l i x) = set_below g l i x f.below (entry-below g l j some f.below) in
      record {
        long = length-set (set l i x) j y ∙ length-set l i x ∙ f.long;
        below = set_below g (set l i x) j y first (entry-below g l i some f.below);
      }

  stratum-fine : (stratum : List ℕ) (d : Shuffling) → Fine m g d.labels → Fine m g (shuffle_stratum stratum d).labels
  unfolding shuffle_stratum down_to swap_drawn
  stratum-fine stratum d f = in_turn-keeps (λ u. Fine m g u.labels) (λ j. swap_drawn stratum (length stratum - (j + 1)))
      (λ k u p. swapped-fine u.labels (get_or stratum (length stratum - (k + 1)) 0) (get_or stratum (draw_below u.state (length stratum - (k + 1) + 1)).place 0) p)
      (length stratum - 1) d f

  pub after_shuffle_by-fine : (next mem : List ℕ) (s : ℕ) (lab : List ℕ) (seed t : ℕ) → Fine m g lab → Fine m g (after_shuffle_by next mem s lab seed t).labels
  unfolding after_shuffle_by
  after_shuffle_by-fine next mem s lab seed t f =
      in_turn-keeps (λ u. Fine m g u.labels) (λ k. shuffle_stratum (part next mem k)) (λ k u p. stratum-fine (part next mem k) u p) s (begun seed t lab) f

-- ---- parts that are the members of strata

fold-append : {A B : Type 0} (f : B → A → B) (b : B) (xs : List A) (x : A) → foldl f b (xs ++ (x ∷ [])) ≡ f (foldl f b xs) x
fold-append f b [] x = refl
fold-append f b (y ∷ ys) x = fold-append f (f b y) ys x

-- going through a table is a loop
fold-table : {A B : Type 0} (f : B → A → B) (h : ℕ → A) (n : ℕ) (b : B) → foldl f b (table n h) ≡ in_turn (λ k u. f u (h k)) n b
unfolding in_turn
fold-table f h zero b = unfold table Rattle.lists.specs.Ranges.up_from in refl
fold-table f h (suc n) b =
    ap (λ (k : ℕ). foldl f b (table k h)) (sym (add-one n)) ∙ ap (foldl f b) (table-last h n) ∙ fold-append f b (table n h) (h n) ∙ ap (λ u. f u (h n)) (fold-table f h n b)

pub after_shuffle-within : (ss : List ℕ) (m s : ℕ) (next mem lab : List ℕ) (seed t : ℕ) → Grouped ss m s next mem →
    after_shuffle_by next mem s lab seed t ≡ after_shuffle (parts ss m s) lab seed t
unfolding after_shuffle_by after_shuffle parts shuffle
after_shuffle-within ss m s next mem lab seed t g =
    in_turn-ext (λ k. shuffle_stratum (part next mem k)) (λ k u. shuffle_stratum (members ss m k) u) s (begun seed t lab) (λ k u h. ap (λ (p : List ℕ). shuffle_stratum p u) (g.are k h))
    ∙ sym (fold-table (λ u stratum. shuffle_stratum stratum u) (members ss m) s (begun seed t lab))
