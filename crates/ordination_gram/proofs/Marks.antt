-- A set's hashes, one by one: their columns' bits in a row, and the sum of their means.
use Rattle.lists.proofs.Base.{◌≡◌, refl, sym, ap, ◌∙◌, true, List, map, ℕ, ◌+◌, ◌-◌, ◌*◌, ◌/◌, ◌%◌, ◌^◌, ◌<◌, ◌≤◌, arith, length, get_or, take, drop, set, replicate, Float}
use lib.Bits.{bit_or}
use Rattle.float.specs.Floats.{◌⊕◌, zero⁻}
use Rattle.lists.specs.{Filters.filter, Filters.any, Numbers.contains, Sums.sum_from}
use Rattle.lists.proofs.{Ranges.length-table, Parts.drop-map, Parts.take-map, Parts.get_or-map-in}
use Rattle.ordination_hashes.specs.inner.Columns.{column_of}
use Rattle.ordination_sets.specs.Sets.{set_at}
use Rattle.ordination_gram.specs.inner.{Bits.packed, Bits.present, Columns.column_sum}
use Rattle.ordination_gram.proofs.{Bits.marked, Bits.packed_none, SharedColumns.present-next, SharedColumns.present-same, SharedColumns.present-all}
use Rattle.ordination_gram.proofs.MeanSums.{mean_at, has_mean, mean-in, mean-out, mean-end}

-- a set's columns are those of its hashes
pub set-columns : (chosen hashes offsets : List ℕ) (i : ℕ) → set_at (map (column_of chosen) hashes) offsets i ≡ map (column_of chosen) (set_at hashes offsets i)
unfolding set_at
set-columns chosen hashes offsets i = ap (take (get_or offsets (i + 1) 0 - get_or offsets i 0)) (drop-map (column_of chosen) (get_or offsets i 0) hashes)
    ∙ take-map (column_of chosen) (get_or offsets (i + 1) 0 - get_or offsets i 0) (drop (get_or offsets i 0) hashes)

-- the bits and the sum of set k
abbrev pub bits_of : List ℕ → List ℕ → ℕ → List ℕ → List Float → ℕ → List ℕ
bits_of hashes offsets w chosen means k = packed w (present (length means) (set_at (map (column_of chosen) hashes) offsets k))

abbrev pub sum_of : List ℕ → List ℕ → List ℕ → List Float → ℕ → Float
sum_of hashes offsets chosen means k = column_sum means (set_at (map (column_of chosen) hashes) offsets k)

-- i members of the set are passed: the row of k words has their bits, and what is left of the means, added to s, gives the whole sum
pub record Marking (means : List Float) (columns : List ℕ) (k : ℕ) (row : List ℕ) (s : Float) (i : ℕ) : Type 0 where
  pub inside : i ≤ length columns
  pub bits : row ≡ packed k (present (length means) (take i columns))
  pub sum : sum_from s (map (mean_at means) (filter (has_mean means) (drop i columns))) ≡ column_sum means columns

module _ (means : List Float) (columns : List ℕ) (k : ℕ) where
  pub marking-none : {row : List ℕ} → row ≡ replicate k 0 → Marking means columns k row zero⁻ 0
  unfolding contains any column_sum
  marking-none e = record { inside = omega arith; bits = e ∙ sym (packed_none k (length means)); sum = refl }

  module _ {row : List ℕ} {s : Float} {i : ℕ} (m : Marking means columns k row s i) (h : i < length columns) {c : ℕ} (e : c ≡ get_or columns i 0) where
    pub marking-in : c < length means → length means ≤ k * 64 → {row' : List ℕ} → row' ≡ set row (c / 64) (bit_or (get_or row (c / 64) 0) (2 ^ (c % 64)))
        → {s' : Float} → s' ≡ s ⊕ mean_at means c → Marking means columns k row' s' (i + 1)
    marking-in l f {row'} g {s'} t =
        let before = present (length means) (take i columns) in
        let long = length-table (λ x. contains x (take i columns)) (length means) in
        record {
          inside = omega arith;
          bits = marked k before m.bits g (omega arith) (omega arith) ∙ ap (λ (x : ℕ). packed k (set before x true)) e ∙ ap (packed k) (present-next (length means) columns i h);
          sum = mean-in means columns i s h (omega arith) (t ∙ ap (λ (x : ℕ). s ⊕ mean_at means x) e) m.sum;
        }

    pub marking-out : length means ≤ c → Marking means columns k row s (i + 1)
    marking-out l = record {
      inside = omega arith;
      bits = m.bits ∙ ap (packed k) (present-same (length means) columns i h (omega arith));
      sum = mean-out means columns i s h (omega arith) m.sum;
    }

  pub marking-all : {row : List ℕ} {s : Float} {i : ℕ} → Marking means columns k row s i → length columns ≤ i →
      (s ≡ column_sum means columns) × (row ≡ packed k (present (length means) columns))
  marking-all {row} {s} {i} m h = (mean-end means columns i s h m.sum, m.bits ∙ ap (packed k) (present-all (length means) columns i h))

-- the column of the next hash
pub column-at : (chosen set : List ℕ) (i : ℕ) → i < length set → column_of chosen (get_or set i 0) ≡ get_or (map (column_of chosen) set) i 0
column-at chosen set i h = sym (get_or-map-in (column_of chosen) set i 0 0 h)
