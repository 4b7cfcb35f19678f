-- The groups that labels give: the samples that have one are the kept ones, each number is below g, and g is at most half of m.
use Rattle.lists.proofs.Base.{◌≡◌, refl, sym, ap, ap₂, subst, ◌∙◌, Bool, true, false, not, cond, ℕ, ◌+◌, ◌*◌}
use Rattle.lists.proofs.Base.{◌<◌, ◌≤◌, arith, eq-eqb, ne_eqb, eqb-true, leb-true, eqb, leb, length, get_or}
use mathlib.Core.List.Memᴰ.{head as here}
use mathlib.Core.List.Memᴰ.{tail as there}
use mathlib.Core.List.{List, [], ◌∷◌, Memᴰ as Member}
use Rattle.lists.specs.{Ranges.range, Filters.filter, Filters.count_if, Numbers.how_many, Numbers.contains, Numbers.position, Numbers.in_group}
use Rattle.limits.specs.Limits.{none}
use Rattle.lot.specs.Kept.{twice, kept, kept_labels, group_labels, group_each, kept_count, group_count}
use Rattle.lists.proofs.{Truths.and_both, Members.member-get_or, Members.member-range, Members.contains-member, Members.filter-cong}
use Rattle.lists.proofs.Upward.{Upward, upward-member, position-below}
use Rattle.lot.proofs.{Places.kept-labels, Samples.length-kept_labels, Samples.names-few, GroupsAndStrata.kept-twice, GroupsAndStrata.names-upward}
use Rattle.lot_design.proofs.PlacedGroups.{named-twice, length-each, each_at}
use Rattle.dapc_scatter.specs.Means.{grouped}
use Rattle.dapc_scatter.specs.inner.Means.{Numbered}

differ : true ≡ false → ⊥
differ e = let z : ◌≡◌ {A = ℕ} 0 1 = cc in omega arith

-- ---- at most half as many groups as kept samples

-- a number that passes is as often among those that pass
how_many-filter : (p : ℕ → Bool) (y : ℕ) (xs : List ℕ) → p y ≡ true → how_many y (filter p xs) ≡ how_many y xs
unfolding how_many filter count_if
how_many-filter p y [] h = refl
how_many-filter p y (x ∷ xs) h = by (p x) (eqb y x) refl refl (how_many-filter p y xs h)
  where
    by : (b c : Bool) → p x ≡ b → eqb y x ≡ c → count_if (eqb y) (filter p xs) ≡ count_if (eqb y) xs
        → count_if (eqb y) (cond b (x ∷ filter p xs) (filter p xs)) ≡ cond c 1 0 + count_if (eqb y) xs
    by true c e f same = ap₂ ◌+◌ (ap (λ (t : Bool). cond t 1 0) f) same
    by false true e f same = let clash : ◌≡◌ {A = Bool} true false = sym h ∙ ap p (eqb-true y x f) ∙ e in absurd (differ clash)
    by false false e f same = same ∙ omega arith

-- those that pass and those that do not
count-apart : (p : ℕ → Bool) (xs : List ℕ) → length xs ≡ count_if p xs + length (filter (λ x. not (p x)) xs)
unfolding count_if filter
count-apart p [] = omega arith
count-apart p (x ∷ xs) = by (p x) (count-apart p xs)
  where
    by : (b : Bool) → length xs ≡ count_if p xs + length (filter (λ x. not (p x)) xs)
        → length (x ∷ xs) ≡ cond b 1 0 + count_if p xs + length (cond (not b) (x ∷ filter (λ x. not (p x)) xs) (filter (λ x. not (p x)) xs))
    by true e = omega arith
    by false e = omega arith

half-upward : (ns xs : List ℕ) → Upward ns → ((y : ℕ) → Member y ns → 2 ≤ how_many y xs) → 2 * length ns ≤ length xs
unfolding Upward how_many
half-upward [] xs u each = omega arith
half-upward (y ∷ ns) xs u each =
    let other : ℕ → Bool = λ x. not (eqb y x) in
    let fewer : 2 * length ns ≤ length (filter other xs) = half-upward ns (filter other xs) u.1 (λ z m.
    let apart : eqb y z ≡ false = ne_eqb y z (λ e. omega (arith, u.0 z m)) in
    let same : how_many z (filter other xs) ≡ how_many z xs = how_many-filter other z xs (ap not apart) in
    omega (arith, each z (there m))) in omega (arith, count-apart (eqb y) xs, each y (here refl))

module _ (labels : List ℕ) where
  pub half-groups : 2 * group_count labels ≤ kept_count labels
  unfolding group_count kept_count group_labels twice
  half-groups =
      omega (arith, half-upward (group_labels labels) (kept_labels labels) (names-upward labels) (λ y m. often y (upward-member (kept_labels labels) y m)), length-kept_labels labels)
    where
      often : (y : ℕ) → Member y (kept_labels labels) → 2 ≤ how_many y (kept_labels labels)
      often y m =
          let t = (kept-twice labels y m).0 in
          let enough : 2 ≤ how_many y labels = leb-true 2 (how_many y labels) (and_both (not (eqb y none)) (leb 2 (how_many y labels)) t).1 in
          omega (arith, ap (how_many y) (kept-labels labels) ∙ how_many-filter (twice labels) y labels t)

  -- ---- the samples that have a group are the kept ones

  pub grouped-kept : length labels ≤ 256 → grouped (group_each labels) ≡ kept labels
  unfolding grouped kept
  grouped-kept few = ap (λ (n : ℕ). filter (λ i. not (in_group (group_each labels) none i)) (range 0 n)) (length-each labels)
      ∙ filter-cong (λ i. not (in_group (group_each labels) none i)) (λ i. twice labels (get_or labels i none)) (range 0 (length labels)) (λ i m.
      let h = member-range (length labels) i m in
      let l = get_or labels i none in
      ap (λ (k : ℕ). not (eqb k none)) (each_at labels i h) ∙ by l (contains l (group_labels labels)) refl ∙ named-twice labels l (member-get_or labels i none h))
    where
      by : (l : ℕ) (b : Bool) → contains l (group_labels labels) ≡ b → not (eqb (cond b (position l (group_labels labels)) none) none) ≡ b
      by l true e = ap not (ne_eqb (position l (group_labels labels)) none (λ q. omega (arith, position-below l (group_labels labels) (contains-member l (group_labels labels) e), names-few labels)))
      by l false e = ap not (eq-eqb none none refl)

  pub numbered-each : Numbered (group_count labels) (group_each labels)
  unfolding group_count
  numbered-each i h ne =
      let within : i < length labels = omega (arith, length-each labels) in
      let l = get_or labels i none in
      subst (λ (k : ℕ). k < length (group_labels labels)) (sym (each_at labels i within)) (by l (contains l (group_labels labels)) refl (λ q. ne (each_at labels i within ∙ q)))
    where
      by : (l : ℕ) (b : Bool) → contains l (group_labels labels) ≡ b → (cond b (position l (group_labels labels)) none ≡ none → ⊥) →
          cond b (position l (group_labels labels)) none < length (group_labels labels)
      by l true e other = position-below l (group_labels labels) (contains-member l (group_labels labels) e)
      by l false e other = absurd (other refl)
