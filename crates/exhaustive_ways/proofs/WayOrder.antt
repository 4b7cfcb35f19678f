-- The ways in their order: a label is placed on the next sample, or one is taken back and a later one placed.
use Rattle.lists.proofs.Base.{◌≡◌, refl, sym, ap, ap₂, subst, ◌∙◌, Bool, true, false, cond, ℕ, zero, suc, ◌+◌, ◌-◌, ◌*◌, ◌≤◌, ◌<◌, add-one}
use Rattle.lists.proofs.Base.{arith, ℕ_discrete, dec_lt, eqb, length, get_or, take, drop, set, length-set, length-drop, lt-ltb, le-ltb}
use mathlib.Core.List.{List, [], ◌∷◌, ◌++◌, map, reverse_aux, append-nil, append_assoc}
use Rattle.std.proofs.Common.{IsSome, MatchOption}
use Rattle.std.specs.declared.option.Option.{Option}
use Rattle.std.specs.declared.option.Option.TheVariants.{None, Some}
use lib.Seq.{drop-length, take-length, take-suc, set-set, set-get_or, get_or-set_same, get_or-set_other}
use Rattle.lists.specs.{Ranges.rows, Ranges.table, Ranges.up_from, Numbers.sumℕ, Numbers.how_many}
use Rattle.lists.specs.inner.Numbers.{Below}
use Rattle.lists.proofs.{Ranges.rows_ext, Ranges.table-ext, Filters.drop_more, Filters.count_if-below, Tallies.sumℕ-zeros, Members.member-up_from}
use Rattle.lot.specs.Way.{tally}
use Rattle.lot.proofs.Tallies.{δ-same}
use Rattle.exhaustive_ways.specs.Ways.{spend, deal, way_count_of}
use Rattle.exhaustive_ways.specs.inner.Remaining.{left_in, HasRows, tallies, onward}
use Rattle.exhaustive_ways.specs.inner.Order.{Balanced, place, taken, given, front, through, rows_from, labelled, later}
use Rattle.exhaustive_ways.specs.inner.Order.{after, Node, NextLabel, Onto, First, Beyond, Changed, GoneOn, NextWay}
use Rattle.exhaustive_ways.proofs.DealtWays.{branch, deal-cons, branch-some, branch-none, deal-cong, how_many-cons, balanced-spend, balanced-unspend, balanced-le, balanced-tally}
use Rattle.exhaustive_ways.proofs.{Every.ways-count, CountsLeft.left-spend, CountsLeft.length-tallies, CountsLeft.left-tallies, CountsLeft.onward-ways}

-- what a look-up tells of what it found
pub found : {r : Option ℕ} {i : ℕ} (P : Type 0) (Q : ℕ → Type 0) → r ≡ Some i → MatchOption r P Q → Q i
found P Q e m = rw e at m

-- ---- rows from a label on

module _ {A : Type 0} (f : ℕ → List A) where
  rows-from : (n lo : ℕ) → rows (lo + n) f ≡ rows lo f ++ rows_from lo n f
  unfolding rows rows_from
  rows-from zero lo = let e : lo + 0 ≡ lo = omega arith in ap (λ (k : ℕ). rows k f) e ∙ sym (append-nil (rows lo f))
  rows-from (suc n) lo =
      let e : lo + suc n ≡ suc lo + n = omega arith in
      ap (λ (k : ℕ). rows k f) e ∙ rows-from n (suc lo) ∙ append_assoc (rows lo f) (f lo) (rows_from (suc lo) n f)

  rows_all : (n : ℕ) → rows n f ≡ rows_from 0 n f
  unfolding rows
  rows_all n = let e : n ≡ 0 + n = omega arith in ap (λ (k : ℕ). rows k f) e ∙ rows-from n 0

  -- empty ones are passed over
  rows-skip : (d lo n : ℕ) → ((i : ℕ) → lo ≤ i → i < lo + d → f i ≡ []) → rows_from lo (d + n) f ≡ rows_from (lo + d) n f
  unfolding rows_from
  rows-skip zero lo n none = let e : lo ≡ lo + 0 = omega arith in let m : 0 + n ≡ n = omega arith in ap₂ (λ (a b : ℕ). rows_from a b f) e m
  rows-skip (suc d) lo n none =
      let e : suc d + n ≡ suc (d + n) = omega arith in
      let m : suc lo + d ≡ lo + suc d = omega arith in
      ap (λ (k : ℕ). rows_from lo k f) e ∙ ap (λ (l : List A). l ++ rows_from (suc lo) (d + n) f) (none lo (omega arith) (omega arith))
      ∙ rows-skip d (suc lo) n (λ i h l. none i (omega arith) (omega arith)) ∙ ap (λ (k : ℕ). rows_from k n f) m

  rows-one : (lo n : ℕ) → rows_from lo (suc n) f ≡ f lo ++ rows_from (suc lo) n f
  unfolding rows_from
  rows-one lo n = refl

  rows_none : (lo : ℕ) → rows_from lo 0 f ≡ []
  unfolding rows_from
  rows_none lo = refl

map-append : {A B : Type 0} (h : A → B) (xs ys : List A) → map h (xs ++ ys) ≡ map h xs ++ map h ys
map-append h [] ys = refl
map-append h (x ∷ xs) ys = ap (λ l. h x ∷ l) (map-append h xs ys)

map_rows : {A B : Type 0} (h : A → B) (f : ℕ → List A) (n : ℕ) → map h (rows n f) ≡ rows n (λ i. map h (f i))
unfolding rows
map_rows h f zero = refl
map_rows h f (suc n) = map-append h (rows n f) (f n) ∙ ap (λ l. l ++ map h (f n)) (map_rows h f n)

map-cons : (labels : List ℕ) (j : ℕ) (ways : List (List ℕ)) → map (reverse_aux labels) (map (λ way. j ∷ way) ways) ≡ map (reverse_aux (j ∷ labels)) ways
map-cons labels j [] = refl
map-cons labels j (way ∷ ways) = ap (λ l. reverse_aux labels (j ∷ way) ∷ l) (map-cons labels j ways)

-- ---- the loop of `next_label`

-- none is left of the labels from j to below i
pub record Passed (g : ℕ) (counts : List ℕ) (row j i : ℕ) : Type 0 where
  pub from : j ≤ i
  pub up_to : i ≤ g
  pub none : (k : ℕ) → j ≤ k → k < i → get_or counts (row + k) 0 ≡ 0

pub passed_none : (g : ℕ) (counts : List ℕ) (row j : ℕ) → j ≤ g → Passed g counts row j j
passed_none g counts row j h = record { from = omega arith; up_to = h; none = λ k h l. absurd (omega arith) }

module _ {g : ℕ} {counts : List ℕ} {row j i : ℕ} (p : Passed g counts row j i) where
  pub passed-more : i < g → get_or counts (row + i) 0 ≤ 0 → Passed g counts row j (i + 1)
  passed-more less here = record {
    from = omega (arith, p.from);
    up_to = omega arith;
    none = λ k h l. elim (ℕ_discrete k i) [
      | yes e ↦ subst (λ (n : ℕ). get_or counts (row + n) 0 ≡ 0) (sym e) (omega arith)
      | no d ↦ p.none k h (omega arith)
    ];
  }

  module _ {row' : ℕ} (e : row ≡ row') where
    next-label : (i < g → 0 < get_or counts (row + i) 0) → NextLabel g counts row' j i
    next-label some = subst (λ (r : ℕ). NextLabel g counts r j i) e (record { from = p.from; up_to = p.up_to; none = p.none; some = some })

    pub label-found : 0 < get_or counts (row + i) 0 → NextLabel g counts row' j i
    label-found some = next-label (λ (_ : i < g). some)

    pub label-missing : g ≤ i → NextLabel g counts row' j g
    label-missing all = let done : i ≡ g = omega (arith, p.up_to) in subst (NextLabel g counts row' j) done (next-label (λ (h : i < g). absurd (omega arith)))

-- ---- the ways through a sample, label by label

through-next : (g : ℕ) (ss counts labels : List ℕ) (k : ℕ) → map (reverse_aux labels) (deal g (drop (k + 1) ss) (left_in g counts)) ≡ through g ss counts labels (suc k)
unfolding through onward
through-next g ss counts labels k = ap (λ (i : ℕ). map (reverse_aux labels) (deal g (drop i ss) (left_in g counts))) (add-one k)

-- rows are rows by their length
pub rows-longer : (g : ℕ) (ss counts counts' : List ℕ) → HasRows g ss counts → length counts' ≡ length counts → HasRows g ss counts'
unfolding HasRows
rows-longer g ss counts counts' rows e i h = omega (arith, rows i h)

module _ (g : ℕ) (ss counts labels : List ℕ) (k : ℕ) (rows : HasRows g ss counts) (more : k < length ss) where
  inside : (j : ℕ) → j < g → place g ss k j < length counts
  unfolding HasRows
  inside j h = omega (arith, rows k more)

  labelled-some : (j : ℕ) → 0 < get_or counts (place g ss k j) 0 → labelled g ss counts labels k j ≡ through g ss (taken counts (place g ss k j)) (j ∷ labels) (suc k)
  unfolding labelled
  labelled-some j h = ap (λ (b : Bool). cond b (through g ss (taken counts (place g ss k j)) (j ∷ labels) (suc k)) []) (lt-ltb 0 (get_or counts (place g ss k j) 0) h)

  labelled-none : (j : ℕ) → get_or counts (place g ss k j) 0 ≡ 0 → labelled g ss counts labels k j ≡ []
  unfolding labelled
  labelled-none j z = ap (λ (b : Bool). cond b (through g ss (taken counts (place g ss k j)) (j ∷ labels) (suc k)) []) (le-ltb 0 (get_or counts (place g ss k j) 0) (omega arith))

  branch-labelled : (j : ℕ) → j < g → map (reverse_aux labels) (branch g (get_or ss k 0) (drop (k + 1) ss) (left_in g counts) j) ≡ labelled g ss counts labels k j
  unfolding left_in
  branch-labelled j h = elim (dec_lt 0 (get_or counts (place g ss k j) 0)) [
    | yes some ↦ ap (map (reverse_aux labels)) (branch-some g (get_or ss k 0) (drop (k + 1) ss) (left_in g counts) j some)
        ∙ map-cons labels j (deal g (drop (k + 1) ss) (spend (left_in g counts) (get_or ss k 0) j))
        ∙ ap (map (reverse_aux (j ∷ labels))) (sym (deal-cong g (drop (k + 1) ss) _ _ (left-spend g counts (get_or ss k 0) j h (inside j h))))
        ∙ through-next g ss (taken counts (place g ss k j)) (j ∷ labels) k
        ∙ sym (labelled-some j some)
    | no none ↦ let z : get_or counts (place g ss k j) 0 ≡ 0 = omega arith in
        ap (map (reverse_aux labels)) (branch-none g (get_or ss k 0) (drop (k + 1) ss) (left_in g counts) j z) ∙ sym (labelled-none j z)
  ]

  pub through-later : through g ss counts labels k ≡ later g ss counts labels k 0
  unfolding through onward later
  through-later =
      let all : g ≡ g - 0 = omega arith in
      ap (map (reverse_aux labels)) (ap (λ (rest : List ℕ). deal g rest (left_in g counts)) (drop_more ss k 0 more) ∙ deal-cons g (get_or ss k 0) (drop (k + 1) ss) (left_in g counts))
      ∙ map_rows (reverse_aux labels) (branch g (get_or ss k 0) (drop (k + 1) ss) (left_in g counts)) g
      ∙ rows_ext _ (labelled g ss counts labels k) g branch-labelled ∙ rows_all (labelled g ss counts labels k) g
      ∙ ap (λ (n : ℕ). rows_from 0 n (labelled g ss counts labels k)) all

  module _ {j r : ℕ} (n : NextLabel g counts (get_or ss k 0 * g) j r) where
    skipped : later g ss counts labels k j ≡ rows_from r (g - r) (labelled g ss counts labels k)
    unfolding later
    skipped =
        let e : g - j ≡ r - j + (g - r) = omega (arith, n.from, n.up_to) in
        let a : j + (r - j) ≡ r = omega (arith, n.from) in
        ap (λ (m : ℕ). rows_from j m (labelled g ss counts labels k)) e
        ∙ rows-skip (labelled g ss counts labels k) (r - j) j (g - r) (λ i h l. labelled-none i (n.none i h (omega arith)))
        ∙ ap (λ (m : ℕ). rows_from m (g - r) (labelled g ss counts labels k)) a

    pub later-none : g ≤ r → later g ss counts labels k j ≡ []
    later-none h =
        let e : g - r ≡ 0 = omega arith in
        skipped ∙ ap (λ (m : ℕ). rows_from r m (labelled g ss counts labels k)) e ∙ rows_none (labelled g ss counts labels k) r

    pub later-some : r < g → later g ss counts labels k j ≡ through g ss (taken counts (place g ss k r)) (r ∷ labels) (suc k) ++ later g ss counts labels k (r + 1)
    later-some h =
        let e : g - r ≡ suc (g - (r + 1)) = omega arith in
        let on : suc r ≡ r + 1 = omega arith in
        skipped ∙ ap (λ (m : ℕ). rows_from r m (labelled g ss counts labels k)) e ∙ rows-one (labelled g ss counts labels k) r (g - (r + 1))
        ∙ ap₂ ◌++◌ (labelled-some r (n.some h)) (ap (λ (m : ℕ). rows_from m (g - (r + 1)) (labelled g ss counts labels k)) on ∙ unfold later in refl)

-- ---- one taken and given back

-- what is written at a place is one fewer, or one more
pub taken_is : (counts : List ℕ) {p p' v : ℕ} → p ≡ p' → v ≡ get_or counts p 0 - 1 → set counts p v ≡ taken counts p'
taken_is counts {p} ep ev = ap (set counts p) ev ∙ ap (taken counts) ep

pub given_is : (counts : List ℕ) {p p' v : ℕ} → p ≡ p' → v ≡ get_or counts p 0 + 1 → set counts p v ≡ given counts p'
given_is counts {p} ep ev = ap (set counts p) ev ∙ ap (given counts) ep

given-taken : (counts : List ℕ) (p : ℕ) → p < length counts → 0 < get_or counts p 0 → given (taken counts p) p ≡ counts
given-taken counts p h some =
    let e : get_or (taken counts p) p 0 + 1 ≡ get_or counts p 0 = omega (arith, get_or-set_same counts p (get_or counts p 0 - 1) 0 h) in
    ap (λ (v : ℕ). set (taken counts p) p v) e ∙ set-set counts p (get_or counts p 0 - 1) (get_or counts p 0) ∙ set-get_or counts p 0

taken-given : (counts : List ℕ) (p : ℕ) → p < length counts → taken (given counts p) p ≡ counts
taken-given counts p h =
    let e : get_or (given counts p) p 0 - 1 ≡ get_or counts p 0 = omega (arith, get_or-set_same counts p (get_or counts p 0 + 1) 0 h) in
    ap (λ (v : ℕ). set (given counts p) p v) e ∙ set-set counts p (get_or counts p 0 + 1) (get_or counts p 0) ∙ set-get_or counts p 0

left-given : (g : ℕ) (counts : List ℕ) (s j : ℕ) → s * g + j < length counts → 0 < left_in g (given counts (s * g + j)) s j
unfolding left_in
left-given g counts s j h = omega (arith, get_or-set_same counts (s * g + j) (get_or counts (s * g + j) 0 + 1) 0 h)

-- ---- the labels before a sample do not change with its own

front-set : (way : List ℕ) (i v k : ℕ) → k ≤ i → front (set way i v) k ≡ front way k
unfolding front
front-set way i v zero h = refl
front-set way i v (suc k) h = ap₂ (λ (a : ℕ) (l : List ℕ). a ∷ l) (get_or-set_other way i k v 0 (λ e. absurd (omega arith))) (front-set way i v k (omega arith))

front-placed : (way : List ℕ) (k j : ℕ) → k < length way → j ∷ front way k ≡ front (set way k j) (suc k)
unfolding front
front-placed way k j h = ap₂ (λ (a : ℕ) (l : List ℕ). a ∷ l) (sym (get_or-set_same way k j 0 h)) (sym (front-set way k j k (omega arith)))

after-set : (g : ℕ) (ss way : List ℕ) (i v k : ℕ) (counts : List ℕ) → k ≤ i → after g ss counts (set way i v) k ≡ after g ss counts way k
unfolding after
after-set g ss way i v zero counts h = refl
after-set g ss way i v (suc k) counts h =
    let same : get_or (set way i v) k 0 ≡ get_or way k 0 = get_or-set_other way i k v 0 (λ e. absurd (omega arith)) in
    ap₂ (λ (a : ℕ) (l : List ℕ). later g ss (given counts (place g ss k a)) l k (a + 1) ++ after g ss (given counts (place g ss k a)) (set way i v) k) same (front-set way i v k (omega arith))
    ∙ ap (λ (l : List (List ℕ)). later g ss (given counts (place g ss k (get_or way k 0))) (front way k) k (get_or way k 0 + 1) ++ l)
    (after-set g ss way i v k (given counts (place g ss k (get_or way k 0))) (omega arith))

after-placed : (g : ℕ) (ss counts way : List ℕ) (k j : ℕ) → k < length way → place g ss k j < length counts → 0 < get_or counts (place g ss k j) 0
    → after g ss (taken counts (place g ss k j)) (set way k j) (suc k) ≡ later g ss counts (front way k) k (j + 1) ++ after g ss counts way k
unfolding after
after-placed g ss counts way k j hk hp some =
    let here : get_or (set way k j) k 0 ≡ j = get_or-set_same way k j 0 hk in
    let c = taken counts (place g ss k j) in
    ap₂ (λ (a : ℕ) (l : List ℕ). later g ss (given c (place g ss k a)) l k (a + 1) ++ after g ss (given c (place g ss k a)) (set way k j) k) here (front-set way k j k (omega arith))
    ∙ ap (λ (d : List ℕ). later g ss d (front way k) k (j + 1) ++ after g ss d (set way k j) k) (given-taken counts (place g ss k j) hp some)
    ∙ ap (λ (l : List (List ℕ)). later g ss counts (front way k) k (j + 1) ++ l) (after-set g ss way k j k counts (omega arith))

-- ---- from node to node

balanced-cong : (g : ℕ) (ss : List ℕ) (c c' : ℕ → ℕ → ℕ) → ((s j : ℕ) → j < g → c s j ≡ c' s j) → Balanced g ss c → Balanced g ss c'
unfolding Balanced
balanced-cong g ss c c' e b s = ap sumℕ (table-ext (c' s) (c s) g (λ j h. sym (e s j h))) ∙ b s

module _ {g : ℕ} {ss counts way : List ℕ} {k : ℕ} (node : Node g ss counts way k) (more : k < length ss) where
  pub node-inside : (j : ℕ) → j < g → place g ss k j < length counts
  node-inside j h = inside g ss counts [] k node.rows more j h

  ahead : drop k ss ≡ get_or ss k 0 ∷ drop (suc k) ss
  ahead = drop_more ss k 0 more ∙ ap (λ (i : ℕ). get_or ss k 0 ∷ drop i ss) (add-one k)

  -- some label is left for the sample
  pub label-left : {j r : ℕ} → NextLabel g counts (get_or ss k 0 * g) j r → j ≡ 0 → r < g
  unfolding Balanced table left_in
  label-left {j} {r} n z = elim (dec_lt r g) [
    | yes h ↦ h
    | no h ↦ let none : sumℕ (map (left_in g counts (get_or ss k 0)) (up_from 0 g)) ≡ 0
        = sumℕ-zeros _ (up_from 0 g) (λ i m. n.none i (omega arith) (omega (arith, member-up_from 0 g i m))) in absurd (omega (
          arith,
          none,
          node.balanced (get_or ss k 0),
          ap (how_many (get_or ss k 0)) ahead,
          how_many-cons (get_or ss k 0) (get_or ss k 0) (drop (suc k) ss),
          δ-same (get_or ss k 0) (get_or ss k 0) refl,
        ))
  ]

  pub label-some : (Q : ℕ → Type 0) (r : Option ℕ) → MatchOption r (NextLabel g counts (get_or ss k 0 * g) 0 g) Q → IsSome r
  label-some Q None n = let below : g < g = label-left n refl in absurd (omega arith)
  label-some Q (Some i) n = refl

  module _ {r : ℕ} (less : r < g) (some : 0 < get_or counts (place g ss k r) 0) where
    pub node-placed : Node g ss (taken counts (place g ss k r)) (set way k r) (suc k)
    node-placed = record {
      within = omega arith;
      sized = length-set way k r ∙ node.sized;
      few = node.few;
      most = node.most;
      rows = rows-longer g ss counts _ node.rows (length-set counts (place g ss k r) (get_or counts (place g ss k r) 0 - 1));
      balanced = balanced-cong g (drop (suc k) ss) _ _ (λ s j h. sym (left-spend g counts (get_or ss k 0) r less (node-inside r less) s j h))
          (balanced-spend g (get_or ss k 0) r (drop (suc k) ss) (left_in g counts) less (unfold left_in in some) (subst (λ (l : List ℕ). Balanced g l (left_in g counts)) ahead node.balanced));
      below = λ i h. elim (ℕ_discrete i k) [
        | yes e ↦ subst (λ (x : ℕ). get_or (set way k r) x 0 < g) (sym e) (omega (arith, get_or-set_same way k r 0 (omega (arith, node.sized))))
        | no d ↦ omega (arith, get_or-set_other way k i r 0 d, node.below i (omega arith))
      ];
    }

  -- the first label from j on that is left is placed
  pub onto-next : {j r : ℕ} {rest : List (List ℕ)} → NextLabel g counts (get_or ss k 0 * g) j r → r < g
      → rest ≡ later g ss counts (front way k) k j ++ after g ss counts way k → Onto g ss (taken counts (place g ss k r)) (set way k r) (suc k) rest
  onto-next {j} {r} n less e = record {
    node = node-placed less (n.some less);
    all = e ∙ ap (λ (l : List (List ℕ)). l ++ after g ss counts way k) (later-some g ss counts (front way k) k node.rows more n less)
        ∙ append_assoc (through g ss (taken counts (place g ss k r)) (r ∷ front way k) (suc k)) (later g ss counts (front way k) k (r + 1)) (after g ss counts way k)
        ∙ ap₂ ◌++◌ (ap (λ (l : List ℕ). through g ss (taken counts (place g ss k r)) l (suc k)) (front-placed way k r (omega (arith, node.sized))))
        (sym (after-placed g ss counts way k r (omega (arith, node.sized)) (node-inside r less) (n.some less)));
  }

module _ {g : ℕ} {ss counts way : List ℕ} {k : ℕ} (node : Node g ss counts way (suc k)) where
  -- where the label of sample k stands in the rows, and that it can be given back
  pub back_inside : place g ss k (get_or way k 0) < length counts
  unfolding HasRows
  back_inside = omega (arith, node.rows k node.within, node.below k (omega arith))

  pub back-small : get_or counts (place g ss k (get_or way k 0)) 0 ≤ 256
  unfolding left_in how_many
  back-small = omega (
    arith,
    balanced-le g (drop (suc k) ss) (left_in g counts) node.balanced (get_or ss k 0) (get_or way k 0) (node.below k (omega arith)),
    count_if-below (eqb (get_or ss k 0)) (drop (suc k) ss),
    length-drop (suc k) ss,
    node.few,
  )

  pub node-back : Node g ss (given counts (place g ss k (get_or way k 0))) way k
  node-back =
      let p = place g ss k (get_or way k 0) in
      let j = get_or way k 0 in
      let less : j < g = node.below k (omega arith) in
      let long = length-set counts p (get_or counts p 0 + 1) in record {
        within = omega (arith, node.within);
        sized = node.sized;
        few = node.few;
        most = node.most;
        rows = rows-longer g ss counts _ node.rows long;
        balanced = subst (λ (l : List ℕ). Balanced g l (left_in g (given counts p))) (sym (drop_more ss k 0 node.within ∙ ap (λ (i : ℕ). get_or ss k 0 ∷ drop i ss) (add-one k)))
            (balanced-unspend g (get_or ss k 0) j (drop (suc k) ss) (left_in g (given counts p)) less (left-given g counts (get_or ss k 0) j back_inside)
            (balanced-cong g (drop (suc k) ss) _ _ (left-spend g (given counts p) (get_or ss k 0) j less (omega (arith, back_inside, long)))
            (subst (λ (c : List ℕ). Balanced g (drop (suc k) ss) (left_in g c)) (sym (taken-given counts p back_inside)) node.balanced)));
        below = λ i h. node.below i (omega arith);
      }

-- ---- the first way, and the last sample

reverse-front : (way rest : List ℕ) (k : ℕ) → k ≤ length way → reverse_aux (front way k) rest ≡ take k way ++ rest
unfolding front
reverse-front way rest zero h = refl
reverse-front way rest (suc k) h = reverse-front way (get_or way k 0 ∷ rest) k (omega arith) ∙ sym (append_assoc (take k way) (get_or way k 0 ∷ []) rest)
    ∙ ap (λ (l : List ℕ). l ++ rest) (sym (take-suc way k 0 (omega arith)))

through-whole : (g : ℕ) (ss counts way : List ℕ) (k : ℕ) → k ≡ length ss → length way ≡ length ss → through g ss counts (front way k) k ≡ way ∷ []
unfolding through onward deal
through-whole g ss counts way k e f =
    let whole : reverse_aux (front way k) [] ≡ way
    = reverse-front way [] k (omega arith) ∙ append-nil (take k way) ∙ ap (λ (n : ℕ). take n way) (e ∙ sym f) ∙ take-length way in
    ap (λ (rest : List ℕ). map (reverse_aux (front way k)) (deal g rest (left_in g counts))) (ap (λ (n : ℕ). drop n ss) e ∙ drop-length ss)
    ∙ ap (λ (w : List ℕ). w ∷ []) whole

pub onto-first : {g : ℕ} {ss counts way : List ℕ} {k : ℕ} {rest : List (List ℕ)} → Onto g ss counts way k rest → length ss ≤ k → First g ss counts way rest
onto-first {g} {ss} {counts} {way} {k} o done =
    let e : k ≡ length ss = omega (arith, o.node.within) in record {
      node = subst (Node g ss counts way) e o.node;
      all = o.all ∙ ap₂ ◌++◌ (through-whole g ss counts way k e o.node.sized) (ap (after g ss counts way) e);
    }

-- ---- the steps of the code

-- all samples have their labels
pub fill_done : {g : ℕ} {ss counts way : List ℕ} {k : ℕ} → Node g ss counts way k → length ss ≤ k → First g ss counts way (through g ss counts (front way k) k ++ after g ss counts way k)
fill_done node done = onto-first (record { node = node; all = refl }) done

-- sample k has its first label, and the rest have theirs
module _ {g : ℕ} {ss counts way : List ℕ} {k j r : ℕ} (node : Node g ss counts way k) (more : k < length ss) (n : NextLabel g counts (get_or ss k 0 * g) j r) (z : j ≡ 0)
    {counts' way' : List ℕ} (ec : counts' ≡ taken counts (place g ss k r)) (ew : way' ≡ set way k r) where
  placed : Onto g ss counts' way' (k + 1) (through g ss counts (front way k) k ++ after g ss counts way k)
  placed = rw (ec, ew, add-one k) (onto-next node more (subst (λ (i : ℕ). NextLabel g counts (get_or ss k 0 * g) i r) z n) (label-left node more n z)
      (ap (λ (l : List (List ℕ)). l ++ after g ss counts way k) (through-later g ss counts (front way k) k node.rows more)))

  pub fill-node : Node g ss counts' way' (k + 1)
  fill-node = placed.node

  pub fill_more : {counts'' way'' : List ℕ} → First g ss counts'' way'' (through g ss counts' (front way' (k + 1)) (k + 1) ++ after g ss counts' way' (k + 1))
      → First g ss counts'' way'' (through g ss counts (front way k) k ++ after g ss counts way k)
  fill_more f = record { node = f.node; all = placed.all ∙ f.all }

-- the label of sample k is given back
module _ {g : ℕ} {ss counts way : List ℕ} (k : ℕ) (node : Node g ss counts way (k + 1)) {counts' : List ℕ} (ec : counts' ≡ given counts (place g ss k (get_or way k 0))) where
  at_one : Node g ss counts way (suc k)
  at_one = subst (Node g ss counts way) (add-one k) node

  pub given-node : Node g ss counts' way k
  given-node = subst (λ (c : List ℕ). Node g ss c way k) (sym ec) (node-back at_one)

  pub given-within : k < length ss
  given-within = at_one.within

  pub given_below : get_or way k 0 < g
  given_below = at_one.below k (omega arith)

  later-given : after g ss counts way (k + 1) ≡ later g ss counts' (front way k) k (get_or way k 0 + 1) ++ after g ss counts' way k
  unfolding after
  later-given = ap (after g ss counts way) (add-one k)
      ∙ ap (λ (c : List ℕ). later g ss c (front way k) k (get_or way k 0 + 1) ++ after g ss c way k) (sym ec)

  module _ {j r : ℕ} (ej : j ≡ get_or way k 0 + 1) (n : NextLabel g counts' (get_or ss k 0 * g) j r) where
    next : NextLabel g counts' (get_or ss k 0 * g) (get_or way k 0 + 1) r
    next = subst (λ (i : ℕ). NextLabel g counts' (get_or ss k 0 * g) i r) ej n

    -- no later label is left
    pub not-changed : g ≤ r → Changed false g ss counts' way k (after g ss counts way (k + 1))
    unfolding Changed
    not-changed none = record {
      node = given-node;
      all = later-given ∙ ap (λ (l : List (List ℕ)). l ++ after g ss counts' way k) (later-none g ss counts' (front way k) k given-node.rows given-within next none);
    }

    -- the first later label is placed
    pub changed : r < g → {counts'' way'' : List ℕ} → counts'' ≡ taken counts' (place g ss k r) → way'' ≡ set way k r →
        Changed true g ss counts'' way'' k (after g ss counts way (k + 1))
    unfolding Changed
    changed less ec'' ew'' = rw (ec'', ew'') (onto-next given-node given-within next less later-given)

-- ---- the step to the next way

-- all samples keep their labels
pub gone-all : {g : ℕ} {ss counts way : List ℕ} {k : ℕ} → Node g ss counts way (length ss) → k ≡ length ss → GoneOn false g ss counts way k (after g ss counts way (length ss))
unfolding GoneOn
gone-all {g} {ss} {counts} {way} node e = record { node = subst (Node g ss counts way) (sym e) node; all = ap (after g ss counts way) (sym e) }

module _ (g : ℕ) (ss counts way : List ℕ) (k : ℕ) (ways : List (List ℕ)) where
  -- the rest can go on
  pub gone-rest : {b : Bool} → GoneOn b g ss counts way (k + 1) ways → b ≡ true → GoneOn true g ss counts way k ways
  unfolding GoneOn
  gone-rest h e = subst (λ (b : Bool). GoneOn b g ss counts way (k + 1) ways) e h

  -- it cannot
  pub gone-back : {b : Bool} → GoneOn b g ss counts way (k + 1) ways → b ≡ false → Beyond g ss counts way (k + 1) ways
  unfolding GoneOn
  gone-back h e = subst (λ (b : Bool). GoneOn b g ss counts way (k + 1) ways) e h

-- sample k has a later label, and the rest have their first
module _ (g : ℕ) (ss counts way counts' way' : List ℕ) (k : ℕ) {ways : List (List ℕ)} (o : Beyond g ss counts way (k + 1) ways) {b : Bool}
    (h : Changed b g ss counts' way' k (after g ss counts way (k + 1))) where
  onto-later : b ≡ true → Onto g ss counts' way' (k + 1) ways
  unfolding Changed
  onto-later e =
      let c = subst (λ (b : Bool). Changed b g ss counts' way' k (after g ss counts way (k + 1))) e h in
      subst (λ (i : ℕ). Onto g ss counts' way' i ways) (sym (add-one k)) (record { node = c.node; all = o.all ∙ c.all })

  pub gone-node : b ≡ true → Node g ss counts' way' (k + 1)
  gone-node e = (onto-later e).node

  pub gone-later : b ≡ true → {counts'' way'' : List ℕ}
      → First g ss counts'' way'' (through g ss counts' (front way' (k + 1)) (k + 1) ++ after g ss counts' way' (k + 1)) → GoneOn true g ss counts'' way'' k ways
  unfolding GoneOn
  gone-later e f = record { node = f.node; all = (onto-later e).all ∙ f.all }

  -- or none is left for it
  pub gone-none : b ≡ false → GoneOn false g ss counts' way' k ways
  unfolding GoneOn Changed
  gone-none e =
      let c = subst (λ (b : Bool). Changed b g ss counts' way' k (after g ss counts way (k + 1))) e h in
      record { node = c.node; all = o.all ∙ c.all }

-- from the first sample
pub gone-first : (b : Bool) (g : ℕ) (ss counts way : List ℕ) (ways : List (List ℕ)) → GoneOn b g ss counts way 0 ways → NextWay b g ss counts way ways
unfolding GoneOn NextWay after
gone-first true g ss counts way ways h = h
gone-first false g ss counts way ways h = h.all

-- ---- from the first sample

-- all that is ahead there are the ways onward
pub through-start : (g : ℕ) (ss counts way : List ℕ) → through g ss counts (front way 0) 0 ++ after g ss counts way 0 ≡ onward g ss counts 0
unfolding through front after
through-start g ss counts way = append-nil (map (reverse_aux []) (onward g ss counts 0)) ∙ same (onward g ss counts 0)
  where
    same : (ways : List (List ℕ)) → map (reverse_aux []) ways ≡ ways
    same [] = refl
    same (way ∷ ways) = ap (λ (l : List (List ℕ)). way ∷ l) (same ways)

module _ (g : ℕ) (ss labels counts : List ℕ) (rows : HasRows g ss counts) {filled : List ℕ} (e : filled ≡ tallies g ss labels (length counts)) where
  pub onward-count : length labels ≡ length ss → Below g labels → length (onward g ss filled 0) ≡ way_count_of ss labels
  onward-count fits below = ap length (onward-ways g ss labels counts rows e) ∙ ways-count g ss labels fits below

  -- no label is placed, and the rows are filled
  pub node-first : (way : List ℕ) → length labels ≡ length ss → Below g labels → length way ≡ length ss → length ss ≤ 256 → g ≤ 128 → Node g ss filled way 0
  node-first way fits below sized few most = record {
    within = omega arith;
    sized = sized;
    few = few;
    most = most;
    rows = rows-longer g ss counts filled rows (ap length e ∙ length-tallies g ss labels (length counts));
    balanced = subst (λ (c : List ℕ). Balanced g ss (left_in g c)) (sym e)
        (balanced-cong g ss (tally ss labels) (left_in g (tallies g ss labels (length counts))) (λ s j h. sym (left-tallies g ss labels counts rows s j h)) (balanced-tally g ss labels fits below));
    below = λ i h. absurd (omega arith);
  }
