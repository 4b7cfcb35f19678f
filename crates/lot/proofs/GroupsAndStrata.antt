-- Every kept sample has a group below g and a stratum below the number of strata, and the groups' labels go upward.
use Rattle.lists.proofs.Base.{◌≡◌, refl, sym, ap, ap₂, ◌∙◌, subst, Bool, true, false, not, cond, ℕ, ◌+◌, ◌<◌, arith}
use Rattle.lists.proofs.Base.{eqb-true, eq-eqb, eqb, length, get_or, take, drop, length-map, take-append-drop}
use mathlib.Core.List.Memᴰ.{head as here}
use mathlib.Core.List.Memᴰ.{tail as there}
use mathlib.Core.List.{List, [], ◌∷◌, map, Memᴰ as Member}
use Rattle.lists.specs.{Filters.filter, Filters.count_if, Numbers.how_many, Numbers.position}
use Rattle.lists.specs.inner.Numbers.{Below}
use Rattle.lists.proofs.{Ranges.length-table, Ranges.get_or-table, Filters.count_if-append, Filters.count_if-yes, Parts.take_more}
use Rattle.limits.specs.Limits.{none}
use Rattle.lot.specs.{Lot.Lot, Kept.twice, Kept.kept, Kept.kept_labels, Kept.group_labels, Kept.groups, Kept.kept_count}
use Rattle.lot.specs.Strata.{named, numbered, held_strata, strata, strata_count}
use Rattle.lists.proofs.Members.{member-get_or, member_filter, filter-member, below-map, member-dedup}
use Rattle.lists.proofs.Upward.{Upward, upward-upward, upward-member, member-upward, position_at, at_position, position-below}
use Rattle.lot.proofs.{Places.kept-labels, Samples.length-gathered, Numbering.number_at, Numbering.length-numbered}

-- ---- groups and their labels

-- the label of the group j
abbrev pub name : List ℕ → ℕ → ℕ
name labels j = get_or (group_labels labels) j none

module _ {A B : Type 0} (f : B → A) (g : A → B) where
  pub map_back : (xs : List A) → ((x : A) → Member x xs → f (g x) ≡ x) → map f (map g xs) ≡ xs
  map_back [] h = refl
  map_back (x ∷ xs) h = ap₂ ◌∷◌ (h x (here refl)) (map_back xs (λ y m. h y (there m)))

module _ (labels : List ℕ) where
  -- kept labels are labels that two samples have
  pub kept-twice : (l : ℕ) → Member l (kept_labels labels) → (twice labels l ≡ true) × Member l labels
  kept-twice l m = filter-member (twice labels) labels l (subst (Member l) (kept-labels labels) m)

  pub twice-kept : (l : ℕ) → twice labels l ≡ true → Member l labels → Member l (kept_labels labels)
  twice-kept l t m = subst (Member l) (sym (kept-labels labels)) (member_filter (twice labels) labels l m t)

  pub names-upward : Upward (group_labels labels)
  unfolding group_labels
  names-upward = upward-upward (kept_labels labels)

  kept-named : (l : ℕ) → Member l (kept_labels labels) → Member l (group_labels labels)
  unfolding group_labels
  kept-named l m = member-upward (kept_labels labels) l m

  pub groups-below : Below (length (group_labels labels)) (groups labels)
  unfolding groups
  groups-below = below-map (length (group_labels labels)) (λ l. position l (group_labels labels)) (kept_labels labels) (λ l m. position-below l (group_labels labels) (kept-named l m))

  -- a group's label is a kept one, its place is the group, and the kept labels are those of the groups
  pub name-twice : (j : ℕ) → j < length (group_labels labels) → twice labels (name labels j) ≡ true
  unfolding group_labels
  name-twice j h = (kept-twice (name labels j) (upward-member (kept_labels labels) (name labels j) (member-get_or (group_labels labels) j none h))).0

  pub position-name : (j : ℕ) → j < length (group_labels labels) → position (name labels j) (group_labels labels) ≡ j
  position-name j h = position_at (group_labels labels) names-upward j none h

  pub groups-named : map (name labels) (groups labels) ≡ kept_labels labels
  unfolding groups
  groups-named = map_back (name labels) (λ l. position l (group_labels labels)) (kept_labels labels) (λ l m. at_position l (group_labels labels) none (kept-named l m))

-- ---- strata

-- of those before place k there are fewer than of all, where one stands at k
take-fewer : (x : ℕ) (xs : List ℕ) (k d : ℕ) → k < length xs → get_or xs k d ≡ x → how_many x (take k xs) < how_many x xs
unfolding how_many
take-fewer x xs k d h e =
    let all : count_if (eqb x) (take (k + 1) xs) + count_if (eqb x) (drop (k + 1) xs) ≡ count_if (eqb x) xs =
    sym (count_if-append (eqb x) (take (k + 1) xs) (drop (k + 1) xs)) ∙ ap (count_if (eqb x)) (take-append-drop (k + 1) xs) in
    let more : count_if (eqb x) (take (k + 1) xs) ≡ count_if (eqb x) (take k xs) + count_if (eqb x) (get_or xs k d ∷ []) =
    ap (count_if (eqb x)) (take_more xs k d h) ∙ count_if-append (eqb x) (take k xs) (get_or xs k d ∷ []) in
    omega (arith, all, more, count_if-yes (eqb x) (get_or xs k d) [] (eq-eqb x (get_or xs k d) (sym e)))

number-below : (b : Bool) (n h k p : ℕ) → (b ≡ true → k < h) → (b ≡ false → p < n) → cond b (n + k) p < n + h
number-below true n h k p f g = omega (arith, f refl)
number-below false n h k p f g = omega (arith, g refl)

numbered_below : (held : List ℕ) → Below (length (named held) + how_many none held) (numbered held)
unfolding numbered named
numbered_below held k h =
    let there : k < length held = omega (arith, length-table (number_at held (named held)) (length held)) in
    let s = get_or held k none in
    subst (λ (x : ℕ). x < length (named held) + how_many none held) (sym (get_or-table (number_at held (named held)) (length held) k 0 there))
    (number-below (eqb s none) (length (named held)) (how_many none held) (how_many none (take k held)) (position s (named held))
    (λ e. take-fewer none held k none there (eqb-true s none e))
    (λ e. position-below s (named held) (member-dedup (filter (λ t. not (eqb t none)) held) s (member_filter (λ t. not (eqb t none)) held s (member-get_or held k none there) (ap not e)))))

below-cond : (b : Bool) (n m : ℕ) (xs ys : List ℕ) → Below n xs → Below m ys → Below (cond b n m) (cond b xs ys)
below-cond true n m xs ys f g = f
below-cond false n m xs ys f g = g

length-cond : (b : Bool) (xs ys : List ℕ) (n : ℕ) → length xs ≡ n → length ys ≡ n → length (cond b xs ys) ≡ n
length-cond true xs ys n e f = e
length-cond false xs ys n e f = f

module _ (lot : Lot) where
  pub strata-below : Below (strata_count lot) (strata lot)
  unfolding strata strata_count
  strata-below = below-cond lot.stratified _ 1 _ _ (numbered_below (held_strata lot)) (below-map 1 (λ i. 0) (kept lot.labels) (λ i m. omega arith))

  pub length-strata : length (strata lot) ≡ kept_count lot.labels
  unfolding strata held_strata kept_count
  length-strata = length-cond lot.stratified _ _ (length (kept lot.labels))
      (length-numbered (held_strata lot) ∙ length-gathered lot.strata (kept lot.labels)) (length-map (kept lot.labels) (λ (i : ℕ). 0))
