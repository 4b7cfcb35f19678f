-- Laws of pairs: what the marks and the cells of the matrix hold after each.
use Rattle.lists.proofs.Base.{ℕ, zero, suc, ◌+◌, ◌*◌, ◌/◌, ◌%◌, ◌<◌, ◌≤◌, ◌≡◌, refl, sym, ap, ap₂, ◌∙◌, subst, List, [], ◌∷◌, ◌++◌, ◌⊎◌}
use Rattle.lists.proofs.Base.{inl, inr, ⊎_elim, arith, ℕ_discrete, dec_lt, eqb, ltb, length, get_or, set, replicate, length-set, length-replicate}
use Rattle.lists.proofs.Base.{get_or-replicate, get_or-set_same, get_or-set_other, ext_get_or, Float, nan, eq-eqb, eqb-true, ltb-true}
use mathlib.Core.Bool.{Bool, true, false, not, ◌&&◌, ◌||◌, cond, false≢true, true≢false}
use native.Mathlib.Nat.{mul-le-mul, mul-zero, div-add-mod', mod-lt, div-lt_iff_lt-mul}
use Rattle.float.specs.Floats.{f64, zero⁺}
use Rattle.lists.specs.{Ranges.grid, Filters.any, Rows.entry, Writes.over}
use Rattle.lists.proofs.{Ranges.length-grid, Rows.row-end, Rows.cell_below, Rows.entry-grid, Writes.length_over, Writes.get_d_over, Writes.get_or-behind}
use Rattle.judge_frames.specs.{Frames.joins, Frames.is_new, Frames.if_passed, Frames.pair_in, Frames.distance, Call.no_distances}
use Rattle.judge_frames.specs.inner.{Pairs.unseen, Pairs.Put, Stages.Paired}
use Rattle.judge_frames.proofs.PairCells.{cell-lt}
use Rattle.std.specs.Prelude.{Option, Some, None}
use Rattle.judge_frames.specs.declared.reader.{Frame.Frame, Pair.Pair}
use Rattle.judge_frames.specs.declared.reader.Frame.TheVariants.{Header as OfHeader, Sample as OfSample, Pair as OfPair, End}

-- ---- tests joined by "and" and "or"

pub both : (a b : Bool) → (a && b) ≡ true → (a ≡ true) × (b ≡ true)
both true b e = (refl, e)
both false b e = absurd (false≢true e)

either : (a b : Bool) → (a || b) ≡ true → (a ≡ true) ⊎ (b ≡ true)
either true b e = inl refl
either false b e = inr e

denied : (b : Bool) → not b ≡ true → b ≡ false
denied true e = absurd (false≢true e)
denied false e = refl

or_comm : (a b : Bool) → (a || b) ≡ (b || a)
or_comm true true = refl
or_comm true false = refl
or_comm false true = refl
or_comm false false = refl

any_last : (test : Pair → Bool) (ps : List Pair) (p : Pair) → any test (ps ++ (p ∷ [])) ≡ (any test ps || test p)
unfolding any
any_last test [] p = or_comm (test p) false
any_last test (q ∷ ps) p = ap (λ (b : Bool). test q || b) (any_last test ps p) ∙ assoc (test q) (any test ps) (test p)
  where
    assoc : (a b c : Bool) → (a || (b || c)) ≡ ((a || b) || c)
    assoc true b c = refl
    assoc false b c = refl

-- ---- cells

pub all-cells : (n : ℕ) → n ≤ 32 → (n * n ≤ 1024) × (n ≤ n * n)
all-cells n h = (mul-le-mul {n₂ = 32} {m₂ = 32} h h, le-square n)
  where
    le-square : (n : ℕ) → n ≤ n * n
    le-square zero = omega arith
    le-square (suc n) = omega arith

-- a cell's row and column are known by it
same-cell : (n i j a b : ℕ) → j < n → b < n → i * n + j ≡ a * n + b → (i ≡ a) × (j ≡ b)
same-cell n i j a b h g e = elim (ℕ_discrete i a) [
  | yes r ↦ (r, omega (arith, ap (λ (k : ℕ). k * n) r))
  | no ne ↦ absurd (elim (dec_lt i a) [
    | yes l ↦ omega (arith, row-end n i a l)
    | no m ↦ let l : a < i = omega arith in omega (arith, row-end n a i l)
  ])
]

-- ---- which pair a frame is

joins-self : (p : Pair) → joins p.i p.j p ≡ true
unfolding joins
joins-self p = rw (eq-eqb p.i p.i refl, eq-eqb p.j p.j refl)

pub joins-turn : (i j : ℕ) (p : Pair) → joins i j p ≡ joins j i p
unfolding joins
joins-turn i j p = or_comm (eqb p.i i && eqb p.j j) (eqb p.i j && eqb p.j i)

any-turn : (i j : ℕ) (ps : List Pair) → any (joins i j) ps ≡ any (joins j i) ps
unfolding any
any-turn i j [] = refl
any-turn i j (p ∷ ps) = ap₂ (λ (a b : Bool). a || b) (joins-turn i j p) (any-turn i j ps)

pub joined : (i j : ℕ) (p : Pair) → joins i j p ≡ true → ((p.i ≡ i) × (p.j ≡ j)) ⊎ ((p.i ≡ j) × (p.j ≡ i))
unfolding joins
joined i j p e = ⊎_elim (λ t. inl (is i j t)) (λ t. inr (is j i t)) (either (eqb p.i i && eqb p.j j) (eqb p.i j && eqb p.j i) e)
  where
    is : (a b : ℕ) → (eqb p.i a && eqb p.j b) ≡ true → (p.i ≡ a) × (p.j ≡ b)
    is a b t = let u = both (eqb p.i a) (eqb p.j b) t in (eqb-true p.i a u.0, eqb-true p.j b u.1)

-- what a pair's frame has passed
pub pair-tests : (n : ℕ) (before : List Pair) (p : Pair) → is_new n before p ≡ true →
    (p.i < p.j) × (p.j < n) × (any (joins p.i p.j) before ≡ false)
unfolding is_new
pair-tests n before p e =
    let t = go (ltb p.i p.j) (ltb p.j n) (not (any (joins p.i p.j) before)) e in
    (ltb-true p.i p.j t.0, ltb-true p.j n t.1, denied (any (joins p.i p.j) before) t.2)
  where
    go : (a b c : Bool) → (a && b && c) ≡ true → (a ≡ true) × (b ≡ true) × (c ≡ true)
    go true true true h = (refl, refl, h)
    go true true false h = absurd (false≢true h)
    go true false c h = absurd (false≢true h)
    go false b c h = absurd (false≢true h)

-- ---- one distance more

distance-other : (ps : List Pair) (p : Pair) (i j : ℕ) → joins i j p ≡ false → distance (ps ++ (p ∷ [])) i j ≡ distance ps i j
unfolding distance
distance-other [] p i j e = ap (λ (b : Bool). cond b (f64 p.bits) zero⁺) e
distance-other (q ∷ ps) p i j e = ap (λ (x : Float). cond (joins i j q) (f64 q.bits) x) (distance-other ps p i j e)

distance-new : (ps : List Pair) (p : Pair) (i j : ℕ) → any (joins i j) ps ≡ false → joins i j p ≡ true → distance (ps ++ (p ∷ [])) i j ≡ f64 p.bits
unfolding distance any
distance-new [] p i j h e = ap (λ (b : Bool). cond b (f64 p.bits) zero⁺) e
distance-new (q ∷ ps) p i j h e = go (joins i j q) h (λ k. distance-new ps p i j k e)
  where
    go : (b : Bool) → (b || any (joins i j) ps) ≡ false → (any (joins i j) ps ≡ false → distance (ps ++ (p ∷ [])) i j ≡ f64 p.bits) →
        cond b (f64 q.bits) (distance (ps ++ (p ∷ [])) i j) ≡ f64 p.bits
    go true k more = absurd (true≢false k)
    go false k more = more k

-- ---- what is held after the pairs `pairs`: d over d₀, and the marks

pub record Marked (n : ℕ) (d₀ d : List Float) (seen : List Bool) (pairs : List Pair) : Type 0 where
  pub long : length d ≡ length d₀
  pub wide : length seen ≡ length d₀
  pub cells : (i j : ℕ) → i < n → j < n → get_or d (i * n + j) nan ≡ distance pairs i j
  pub behind : (c : ℕ) → n * n ≤ c → get_or d c nan ≡ get_or d₀ c nan
  pub marks : (i j : ℕ) → i < j → j < n → get_or seen (i * n + j) false ≡ any (joins i j) pairs

pub marked-none : (n : ℕ) {d : List Float} {seen : List Bool} → n ≤ 32 → d ≡ no_distances → seen ≡ replicate 1024 false → Marked n no_distances d seen []
unfolding distance any
marked-none n {d} {seen} h e s = record {
  long = ap length e;
  wide = ap length s ∙ length-replicate {A = Bool} 1024 false ∙ sym (length-replicate 1024 zero⁺);
  cells = λ i j g k. ap (λ (l : List Float). get_or l (i * n + j) nan) e ∙ get_or-replicate 1024 (i * n + j) zero⁺ nan (cell-lt n i j h g k);
  behind = λ c g. ap (λ (l : List Float). get_or l c nan) e;
  marks = λ i j g k. ap (λ (l : List Bool). get_or l (i * n + j) false) s ∙ get_or-replicate 1024 (i * n + j) false false (cell-lt n i j h (omega arith) k);
}

pub marked-room : {n : ℕ} {d : List Float} {seen : List Bool} {pairs : List Pair} → Marked n no_distances d seen pairs → (length d ≡ 1024) × (length seen ≡ 1024)
marked-room m = (m.long ∙ length-replicate 1024 zero⁺, m.wide ∙ length-replicate 1024 zero⁺)

module _ (n : ℕ) {d₀ d : List Float} {seen : List Bool} {pairs : List Pair} (m : Marked n d₀ d seen pairs) (p : Pair) where
  -- the mark tells whether the pair was there
  pub same_test : unseen n seen p ≡ is_new n pairs p
  unfolding unseen is_new
  same_test = go (ltb p.i p.j) (ltb p.j n) (λ u v. ap not (m.marks p.i p.j (ltb-true p.i p.j u) (ltb-true p.j n v)))
    where
      go : (a b : Bool) {x y : Bool} → (a ≡ true → b ≡ true → x ≡ y) → (a && b && x) ≡ (a && b && y)
      go true true h = h refl refl
      go true false h = refl
      go false b h = refl

  module _ (new : is_new n pairs p ≡ true) where
    upper : p.i < p.j
    upper = (pair-tests n pairs p new).0

    inside : p.j < n
    inside = (pair-tests n pairs p new).1

    absent : any (joins p.i p.j) pairs ≡ false
    absent = (pair-tests n pairs p new).2

    -- in either order
    absent-at : (i j : ℕ) → joins i j p ≡ true → any (joins i j) pairs ≡ false
    absent-at i j e = ⊎_elim (λ s. ap₂ (λ (a b : ℕ). any (joins a b) pairs) (sym s.0) (sym s.1) ∙ absent)
        (λ s. any-turn i j pairs ∙ ap₂ (λ (a b : ℕ). any (joins a b) pairs) (sym s.0) (sym s.1) ∙ absent) (joined i j p e)

    -- another pair's cell is neither of the two
    apart : (i j : ℕ) → j < n → joins i j p ≡ false → i * n + j ≡ p.i * n + p.j → ⊥
    apart i j h e s =
        let c = same-cell n i j p.i p.j h inside s in
        true≢false (sym (ap₂ (λ (a b : ℕ). joins a b p) c.0 c.1 ∙ joins-self p) ∙ e)

    apart-turned : (i j : ℕ) → j < n → joins i j p ≡ false → i * n + j ≡ p.j * n + p.i → ⊥
    apart-turned i j h e s =
        let c = same-cell n i j p.j p.i h (let u = upper in let v = inside in omega arith) s in
        true≢false (sym (ap₂ (λ (a b : ℕ). joins a b p) c.0 c.1 ∙ joins-turn p.j p.i p ∙ joins-self p) ∙ e)

    module _ (fits : n * n ≤ length d₀) {d' : List Float} {seen' : List Bool}
        (put : d' ≡ set (set d (p.i * n + p.j) (f64 p.bits)) (p.j * n + p.i) (f64 p.bits))
        (mark : seen' ≡ set seen (p.i * n + p.j) true) where
      in-d : (i j : ℕ) → i < n → j < n → i * n + j < length d
      in-d i j h g = omega (arith, cell_below n n i j h g, m.long, fits)

      -- the cells of the pair, and any other cell
      at_p : get_or d' (p.i * n + p.j) nan ≡ f64 p.bits
      at_p = ap (λ (l : List Float). get_or l (p.i * n + p.j) nan) put
          ∙ get_or-set_other (set d (p.i * n + p.j) (f64 p.bits)) (p.j * n + p.i) (p.i * n + p.j) (f64 p.bits) nan
          (λ e. let u = upper in let c = same-cell n p.i p.j p.j p.i inside (let v = inside in omega arith) e in omega (arith, c.0))
          ∙ get_or-set_same d (p.i * n + p.j) (f64 p.bits) nan (let u = upper in let v = inside in in-d p.i p.j (omega arith) v)

      at-q : get_or d' (p.j * n + p.i) nan ≡ f64 p.bits
      at-q = ap (λ (l : List Float). get_or l (p.j * n + p.i) nan) put
          ∙ get_or-set_same (set d (p.i * n + p.j) (f64 p.bits)) (p.j * n + p.i) (f64 p.bits) nan
          (let u = upper in let v = inside in omega (arith, length-set d (p.i * n + p.j) (f64 p.bits), in-d p.j p.i v (omega arith)))

      elsewhere : (c : ℕ) → (c ≡ p.i * n + p.j → ⊥) → (c ≡ p.j * n + p.i → ⊥) → get_or d' c nan ≡ get_or d c nan
      elsewhere c h g = ap (λ (l : List Float). get_or l c nan) put
          ∙ get_or-set_other (set d (p.i * n + p.j) (f64 p.bits)) (p.j * n + p.i) c (f64 p.bits) nan g
          ∙ get_or-set_other d (p.i * n + p.j) c (f64 p.bits) nan h

      cells-next : (i j : ℕ) → i < n → j < n → (b : Bool) → joins i j p ≡ b → get_or d' (i * n + j) nan ≡ distance (pairs ++ (p ∷ [])) i j
      cells-next i j h g true e = ⊎_elim (λ s. ap₂ (λ (a b : ℕ). get_or d' (a * n + b) nan) (sym s.0) (sym s.1) ∙ at_p)
          (λ s. ap₂ (λ (a b : ℕ). get_or d' (a * n + b) nan) (sym s.1) (sym s.0) ∙ at-q) (joined i j p e)
          ∙ sym (distance-new pairs p i j (absent-at i j e) e)
      cells-next i j h g false e = elsewhere (i * n + j) (apart i j g e) (apart-turned i j g e) ∙ m.cells i j h g ∙ sym (distance-other pairs p i j e)

      marks-next : (i j : ℕ) → i < j → j < n → (b : Bool) → joins i j p ≡ b → get_or seen' (i * n + j) false ≡ any (joins i j) (pairs ++ (p ∷ []))
      marks-next i j h g true e =
          let s : (p.i ≡ i) × (p.j ≡ j) = ⊎_elim (λ s. s) (λ s. absurd (let u = upper in omega (arith, s.0, s.1))) (joined i j p e) in
          ap₂ (λ (a b : ℕ). get_or seen' (a * n + b) false) (sym s.0) (sym s.1) ∙ ap (λ (l : List Bool). get_or l (p.i * n + p.j) false) mark
          ∙ get_or-set_same seen (p.i * n + p.j) true false (let u = upper in let v = inside in omega (arith, cell_below n n p.i p.j (omega arith) v, m.wide, fits))
          ∙ sym (any_last (joins i j) pairs p ∙ ap (λ (b : Bool). any (joins i j) pairs || b) e ∙ or_comm (any (joins i j) pairs) true)
      marks-next i j h g false e = ap (λ (l : List Bool). get_or l (i * n + j) false) mark
          ∙ get_or-set_other seen (p.i * n + p.j) (i * n + j) true false (apart i j g e) ∙ m.marks i j h g
          ∙ sym (any_last (joins i j) pairs p ∙ ap (λ (b : Bool). any (joins i j) pairs || b) e ∙ or_comm (any (joins i j) pairs) false)

      pub marked_next : Marked n d₀ d' seen' (pairs ++ (p ∷ []))
      marked_next = record {
        long = ap length put ∙ length-set (set d (p.i * n + p.j) (f64 p.bits)) (p.j * n + p.i) (f64 p.bits)
            ∙ length-set d (p.i * n + p.j) (f64 p.bits) ∙ m.long;
        wide = ap length mark ∙ length-set seen (p.i * n + p.j) true ∙ m.wide;
        cells = λ i j h g. cells-next i j h g (joins i j p) refl;
        behind = λ c h. let u = upper in let v = inside in
            let a = cell_below n n p.i p.j (omega arith) v in
            let b = cell_below n n p.j p.i v (omega arith) in
            elsewhere c (λ e. omega arith) (λ e. omega arith) ∙ m.behind c h;
        marks = λ i j h g. marks-next i j h g (joins i j p) refl;
      }

-- ---- a frame is a pair that is put, or not

pub no-frame : (n : ℕ) (before : List Pair) {o : Option Frame} → o ≡ None → pair_in n before o ≡ None
unfolding pair_in
no-frame n before e = ap (pair_in n before) e

pub not-a3 : (n : ℕ) (before : List Pair) {o : Option Frame} {f : Frame} → o ≡ Some f → ((p : Pair) → f ≡ OfPair p → ⊥) → pair_in n before o ≡ None
unfolding pair_in
not-a3 n before {o} {f} e h = ap (pair_in n before) e ∙ other f h
  where
    other : (f : Frame) → ((p : Pair) → f ≡ OfPair p → ⊥) → pair_in n before (Some f) ≡ None
    other (OfHeader h) _ = refl
    other (OfSample s) _ = refl
    other (OfPair p) h = absurd (h p refl)
    other End _ = refl

module _ (n : ℕ) {d d' : List Float} {seen seen' : List Bool} {pairs : List Pair} {p : Pair} {r : Bool} (m : Marked n no_distances d seen pairs)
    (w : Put n p d seen d' seen' r) where
  put-pair : r ≡ true → is_new n pairs p ≡ true
  put-pair e = sym (same_test n m p) ∙ sym w.told ∙ e

  module _ {o : Option Frame} {f : Frame} (e : o ≡ Some f) (g : f ≡ OfPair p) where
    as-pair : (b : Bool) → is_new n pairs p ≡ b → pair_in n pairs o ≡ if_passed b p
    unfolding pair_in
    as-pair b h = ap (pair_in n pairs) (e ∙ ap Some g) ∙ ap (λ (b : Bool). if_passed b p) h

    pub put_other : r ≡ false → pair_in n pairs o ≡ None
    put_other h = as-pair false (sym (same_test n m p) ∙ sym w.told ∙ h)

    pub is-put : r ≡ true → pair_in n pairs o ≡ Some p
    is-put h = as-pair true (put-pair h)

  pub put_next : n ≤ 32 → r ≡ true → Marked n no_distances d' seen' (pairs ++ (p ∷ []))
  put_next h e = marked_next n m p (put-pair e) (omega (arith, (all-cells n h).0, length-replicate 1024 zero⁺))
      (w.mirrored ∙ ap (λ (b : Bool). cond b (set (set d (p.i * n + p.j) (f64 p.bits)) (p.j * n + p.i) (f64 p.bits)) d) e)
      (w.marked ∙ ap (λ (b : Bool). cond b (set seen (p.i * n + p.j) true) seen) e)

-- all of it
marked-over : (n : ℕ) {d₀ d : List Float} {seen : List Bool} {pairs : List Pair} → n * n ≤ length d₀ → Marked n d₀ d seen pairs → d ≡ over (grid n n (distance pairs)) d₀
unfolding entry
marked-over n {d₀} {d} {seen} {pairs} fits m =
    let wide : length (grid n n (distance pairs)) ≡ n * n = length-grid n n (distance pairs) in
    ext_get_or nan d (over (grid n n (distance pairs)) d₀) (m.long ∙ sym (length_over (grid n n (distance pairs)) d₀ (omega arith)))
    (λ c h. elim (dec_lt c (n * n)) [
      | yes l ↦ let some : 0 < n = elim (ℕ_discrete n 0) [ yes e ↦ omega (arith, ap (λ (t : ℕ). n * t) e, mul-zero n) | no ne ↦ omega arith ] in
          let row : c / n < n = (div-lt_iff_lt-mul some).1 l in
          subst (λ (t : ℕ). get_or d t nan ≡ get_or (over (grid n n (distance pairs)) d₀) t nan) (div-add-mod' c n)
          (m.cells (c / n) (c % n) row (mod-lt c some)
          ∙ sym (get_d_over (grid n n (distance pairs)) d₀ (c / n * n + c % n) nan (omega (arith, wide, cell_below n n (c / n) (c % n) row (mod-lt c some)))
          ∙ entry-grid n n (distance pairs) (c / n) (c % n) row (mod-lt c some)))
      | no ge ↦ m.behind c (omega arith) ∙ sym (get_or-behind (grid n n (distance pairs)) d₀ c nan (omega arith))
    ])

pub marked_all : (n : ℕ) (d : List Float) (seen : List Bool) → n ≤ 32 → (pairs : List Pair) → Marked n no_distances d seen pairs → Paired n d pairs
marked_all n d seen h pairs m = marked-over n (omega (arith, (all-cells n h).0, length-replicate 1024 zero⁺)) m
