-- How many samples each of g groups has, counted in one pass. The invariant `Counting`: i samples are counted, and with what is left each group has its
-- whole count.
use Rattle.lists.proofs.Base.{◌≡◌, sym, ap, ◌∙◌, List, ℕ, ◌+◌, ◌<◌, ◌≤◌, ℕ_discrete, arith, eq-eqb, ne_eqb, length, get_or, set, replicate}
use Rattle.lists.proofs.Base.{length-set, length-replicate, get_or-replicate, get_or-set_same, get_or-set_other, ext_get_or}
use Rattle.lists.specs.{Ranges.range, Ranges.table, Filters.count_if, Numbers.in_group, Numbers.members}
use Rattle.lists.proofs.Ranges.{length-range, length-table, get_or-table}
use Rattle.lists.proofs.Filters.{range-count-yes, range-count-no, range-count-none, count_if-below, length-filter}
use Rattle.lot.specs.Kept.{sizes}

abbrev pub count_of : List ℕ → ℕ → ℕ → ℕ
count_of groups j i = count_if (in_group groups j) (range i (length groups))

pub record Counting (groups : List ℕ) (g : ℕ) (counts : List ℕ) (i : ℕ) : Type 0 where
  pub most : i ≤ length groups
  pub long : length counts ≡ g
  pub left : (j : ℕ) → j < g → get_or counts j 0 + count_of groups j i ≡ count_of groups j 0

module _ (groups : List ℕ) (g : ℕ) where
  pub counting-none : (counts : List ℕ) → counts ≡ replicate g 0 → Counting groups g counts 0
  counting-none counts e = record {
    most = omega arith;
    long = ap length e ∙ length-replicate {A = ℕ} g 0;
    left = λ j h. omega (arith, ap (λ (l : List ℕ). get_or l j 0) e, get_or-replicate {A = ℕ} g j 0 0 h);
  }

  -- a sample of no group
  pub counting-pass : {counts : List ℕ} {i : ℕ} → Counting groups g counts i → i < length groups → ((j : ℕ) → j < g → get_or groups i 0 ≡ j → ⊥)
      → Counting groups g counts (i + 1)
  counting-pass {counts} {i} a h other = record {
    most = omega arith;
    long = a.long;
    left = λ j k. omega (arith, a.left j k, range-count-no (in_group groups j) i (length groups) h (ne_eqb (get_or groups i 0) j (other j k)));
  }

  -- a sample of the group j
  pub counting-next : {counts : List ℕ} {i j : ℕ} → Counting groups g counts i → i < length groups → j < g → get_or groups i 0 ≡ j
      → Counting groups g (set counts j (get_or counts j 0 + 1)) (i + 1)
  counting-next {counts} {i} {j} a h below e =
      let more = get_or counts j 0 + 1 in
      record {
        most = omega arith;
        long = length-set counts j more ∙ a.long;
        left = λ k z. elim (ℕ_discrete k j) [
          | yes s ↦ omega (
            arith,
            ap (λ (t : ℕ). get_or (set counts j more) t 0) s,
            get_or-set_same counts j more 0 (omega (arith, a.long)),
            a.left k z,
            ap (λ (t : ℕ). get_or counts t 0) s,
            range-count-yes (in_group groups k) i (length groups) h (eq-eqb (get_or groups i 0) k (e ∙ sym s)),
          )
          | no ne ↦ omega (
            arith,
            get_or-set_other counts j k more 0 ne,
            a.left k z,
            range-count-no (in_group groups k) i (length groups) h (ne_eqb (get_or groups i 0) k (λ q. ne (sym q ∙ e))),
          )
        ];
      }

  -- the count can grow
  pub counting-room : {counts : List ℕ} {i j : ℕ} → Counting groups g counts i → i < length groups → j < g → get_or groups i 0 ≡ j → get_or counts j 0 + 1 ≤ length groups
  counting-room {counts} {i} {j} a h below e = omega (
    arith,
    a.left j below,
    range-count-yes (in_group groups j) i (length groups) h (eq-eqb (get_or groups i 0) j e),
    count_if-below (in_group groups j) (range 0 (length groups)),
    length-range 0 (length groups),
  )

  pub counting-all : {counts : List ℕ} {i : ℕ} → Counting groups g counts i → length groups ≤ i → counts ≡ sizes groups (length groups) g
  unfolding sizes members
  counting-all {counts} {i} a h =
      let f : ℕ → ℕ = λ j. length (members groups (length groups) j) in
      ext_get_or 0 counts (table g f) (a.long ∙ sym (length-table f g)) (λ j k. each j (omega (arith, a.long)))
    where
      each : (j : ℕ) → j < g → get_or counts j 0 ≡ get_or (table g (λ j. length (members groups (length groups) j))) j 0
      each j k =
          let t = get_or-table (λ j. length (members groups (length groups) j)) g j 0 k in
          omega (arith, a.left j k, range-count-none (in_group groups j) i (length groups) h, length-filter (in_group groups j) (range 0 (length groups)), t)

-- the counts as a list
pub length-sizes : (groups : List ℕ) (m g : ℕ) → length (sizes groups m g) ≡ g
unfolding sizes
length-sizes groups m g = length-table (λ j. length (members groups m j)) g

pub get_or-sizes : (groups : List ℕ) (m g j : ℕ) → j < g → get_or (sizes groups m g) j 0 ≡ length (members groups m j)
unfolding sizes
get_or-sizes groups m g j h = get_or-table (λ j. length (members groups m j)) g j 0 h
