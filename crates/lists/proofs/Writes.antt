-- A list written over the front of a slice, one entry or one part more at a time.
-- A loop `for i in 0..n { l[i] = f(i); }` has the invariant `l ≡ over (table i f) l₀`: it begins by `refl`, a turn is `table-next`, the end `over-all`.
use Rattle.lists.proofs.Base.{◌≡◌, refl, sym, ap, ◌∙◌, subst, List, [], ◌∷◌, ◌++◌, append_assoc, append-nil, ℕ, suc, ◌+◌, ◌-◌}
use Rattle.lists.proofs.Base.{◌*◌, ◌<◌, ◌≤◌, add-one, arith, length, get_or, take, drop, set, replicate, length-append, length-drop}
use Rattle.lists.proofs.Base.{length-replicate, get_or-replicate, length-set, drop_of_length-le, List·get_or-append, put_mid}
use native.Mathlib.Nat.{add-sub_cancel_left, mul-le-mul_right, suc-mul}
use lib.Seq.{drop-cons, append_snoc, set_at, take_at, drop_at, drop-drop, get_or-append-add, get_or-drop, ext_get_or}
use Rattle.lists.specs.{Ranges.up_from, Ranges.table, Ranges.rows, Writes.over, Writes.cleared}
use Rattle.lists.proofs.Ranges.{table-last, length-table, rows_last, length-rows, get_or-table, table_of}

module _ {A : Type 0} where
  pub over_none : (l : List A) → over [] l ≡ l
  unfolding over
  over_none l = refl

  pub length_over : (new old : List A) → length new ≤ length old → length (over new old) ≡ length old
  unfolding over
  length_over new old h = length-append new (drop (length new) old) ∙ omega (arith, length-drop (length new) old)

  -- all of it
  pub over-all : (new old : List A) → length old ≤ length new → over new old ≡ new
  unfolding over
  over-all new old h = ap (λ (t : List A). new ++ t) (drop_of_length-le old h) ∙ append-nil new

  -- the front, an entry of it, and what lies behind it
  pub take-over : (new old : List A) (n : ℕ) → length new ≡ n → take n (over new old) ≡ new
  unfolding over
  take-over new old n e = take_at new (drop (length new) old) n e

  pub drop-over : (new old : List A) (n : ℕ) → length new ≡ n → drop n (over new old) ≡ drop n old
  unfolding over
  drop-over new old n e = drop_at new (drop (length new) old) n e ∙ ap (λ (k : ℕ). drop k old) e

  pub get_d_over : (new old : List A) (i : ℕ) (d : A) → i < length new → get_or (over new old) i d ≡ get_or new i d
  unfolding over
  get_d_over new old i d h = List·get_or-append new (drop (length new) old) d i h

  pub get_or-behind : (new old : List A) (i : ℕ) (d : A) → length new ≤ i → get_or (over new old) i d ≡ get_or old i d
  unfolding over
  get_or-behind new old i d h =
      let at : length new + (i - length new) ≡ i = omega arith in
      subst (λ (k : ℕ). get_or (new ++ drop (length new) old) k d ≡ get_or old k d) at
      (get_or-append-add new (drop (length new) old) (i - length new) d ∙ get_or-drop (length new) old (i - length new) d)

  -- one entry more
  over-one : (new old : List A) (x : A) → length new < length old → set (over new old) (length new) x ≡ over (new ++ (x ∷ [])) old
  unfolding over
  over-one new old x h =
      let n = length new in
      ap (λ (t : List A). set (new ++ t) n x) (drop-cons old n x h) ∙ set_at new (get_or old n x) (drop (suc n) old) x n refl
      ∙ sym (append_snoc new x (drop (suc n) old)) ∙ ap (λ (k : ℕ). (new ++ (x ∷ [])) ++ drop k old) (sym (length-append new (x ∷ []) ∙ add-one n))

  pub over-next : (new old : List A) {l : List A} {i : ℕ} {x y : A} → l ≡ over new old → length new ≡ i → x ≡ y → i < length old
      → set l i x ≡ over (new ++ (y ∷ [])) old
  over-next new old {l} {i} {x} {y} e at f h =
      let here : length new < length old = subst (λ (k : ℕ). k < length old) (sym at) h in rw (e, f, ← at) (over-one new old y here)

  -- one part more
  over-some : (new old r : List A) → length new + length r ≤ length old → put_mid (length new) (length r) (over new old) r ≡ over (new ++ r) old
  unfolding over
  over-some new old r h =
      let n = length new in
      rw (take_at new (drop n old) n refl, drop_at new (drop n old) n refl, drop-drop)
      (sym (append_assoc new r (drop (n + length r) old)) ∙ ap (λ (k : ℕ). (new ++ r) ++ drop k old) (sym (length-append new r)))

  pub over-part : (new old : List A) {l r s : List A} {i k : ℕ} → l ≡ over new old → length new ≡ i → r ≡ s → length s ≡ k → i + k ≤ length old
      → put_mid i k l r ≡ over (new ++ s) old
  over-part new old {l} {r} {s} {i} {k} e at f len h =
      let fits : length new + length s ≤ length old = omega arith in rw (e, f, ← at, ← len) (over-some new old s fits)

  -- ---- entry after entry by a rule

  module _ (f : ℕ → A) (old : List A) where
    pub table_none : old ≡ over (table 0 f) old
    unfolding over table up_from
    table_none = refl

    pub table-next : (i : ℕ) {l : List A} {x : A} → l ≡ over (table i f) old → x ≡ f i → i < length old → set l i x ≡ over (table (i + 1) f) old
    table-next i e g h = over-next (table i f) old e (length-table f i) g h ∙ ap (λ (t : List A). over t old) (sym (table-last f i))

    pub table-all : (n : ℕ) {l : List A} → l ≡ over (table n f) old → length old ≤ n → l ≡ table n f
    table-all n e h = let len = length-table f n in e ∙ over-all (table n f) old (omega arith)

  -- ---- the same value everywhere

  pub replicate-table : (n : ℕ) (x : A) → table n (λ i. x) ≡ replicate n x
  replicate-table n x =
      let same : length (table n (λ i. x)) ≡ length (replicate n x) = length-table (λ i. x) n ∙ sym (length-replicate n x) in
      ext_get_or x (table n (λ i. x)) (replicate n x) same (λ i h. let len = length-table (λ i. x) n in constant n i (omega arith))
    where
      constant : (n i : ℕ) → i < n → get_or (table n (λ i. x)) i x ≡ get_or (replicate n x) i x
      constant n i h = get_or-table (λ i. x) n i x h ∙ sym (get_or-replicate n i x x h)

  -- ---- row after row by a rule: `for k in 0..n { fill(&mut m[k * w..k * w + w], ..); }`

  module _ (w : ℕ) (f : ℕ → List A) (each : (i : ℕ) → length (f i) ≡ w) (old : List A) where
    pub rows_none : old ≡ over (rows 0 f) old
    unfolding over rows
    rows_none = refl

    pub rows_next : (k : ℕ) {l r : List A} → l ≡ over (rows k f) old → r ≡ f k → k * w + w ≤ length old
        → put_mid (k * w) (k * w + w - k * w) l r ≡ over (rows (k + 1) f) old
    rows_next k e g h = rw add-sub_cancel_left
        (over-part (rows k f) old e (length-rows w f k (λ i _. each i)) g (each k) h ∙ ap (λ (t : List A). over t old) (sym (rows_last f k)))

    pub rows_all : (n : ℕ) {l : List A} → l ≡ over (rows n f) old → length old ≤ n * w → l ≡ rows n f
    rows_all n e h = let len = length-rows w f n (λ i _. each i) in e ∙ over-all (rows n f) old (omega arith)

-- ---- a loop that writes entry after entry over all of `old` by a rule: i are written

pub record Writing {A : Type 0} (f : ℕ → A) (old l : List A) (i : ℕ) : Type 0 where
  pub most : i ≤ length old
  pub long : length l ≡ length old
  pub held : l ≡ over (table i f) old

module _ {A : Type 0} (f : ℕ → A) (old : List A) where
  pub writing-none : Writing f old old 0
  writing-none = record { most = omega arith; long = refl; held = table_none f old }

  pub writing-next : {l : List A} {i : ℕ} {x : A} → Writing f old l i → i < length old → x ≡ f i → Writing f old (set l i x) (i + 1)
  writing-next {l} {i} {x} w h e = record { most = omega arith; long = length-set l i x ∙ w.long; held = table-next f old i w.held e h }

  pub writing-all : {l : List A} {i : ℕ} → Writing f old l i → length old ≤ i → l ≡ table (length old) f
  writing-all {l} {i} w h =
      let done : i ≡ length old = omega (arith, w.most) in
      table-all f old (length old) (w.held ∙ ap (λ (k : ℕ). over (table k f) old) done) (omega arith)

  -- the entry that is written next is still the old one
  pub writing-here : {l : List A} {i : ℕ} (d : A) → Writing f old l i → get_or l i d ≡ get_or old i d
  writing-here {l} {i} d w = let len = length-table f i in ap (λ (t : List A). get_or t i d) w.held ∙ get_or-behind (table i f) old i d (omega arith)

  -- only the front is written
  pub writing-front : {l : List A} {i n : ℕ} → Writing f old l i → i ≡ n → l ≡ over (table n f) old
  writing-front w e = w.held ∙ ap (λ (k : ℕ). over (table k f) old) e

  -- with the length by another name
  pub writing-table : {l : List A} {i n : ℕ} → Writing f old l i → length old ≡ n → n ≤ i → l ≡ table n f
  writing-table w e h = writing-all w (omega arith) ∙ ap (λ (k : ℕ). table k f) e

-- the same value, and the entries of a list of the same length
pub cleared-all : {A : Type 0} (x : A) (old : List A) {l : List A} {i : ℕ} → Writing (λ i. x) old l i → length old ≤ i → l ≡ cleared x old
unfolding cleared
cleared-all x old w h = writing-all (λ i. x) old w h ∙ replicate-table (length old) x

pub copied_all : {A : Type 0} (new old : List A) (d : A) {l : List A} {i : ℕ} → length old ≡ length new → Writing (λ i. get_or new i d) old l i → length old ≤ i → l ≡ new
copied_all new old d e w h = writing-all (λ i. get_or new i d) old w h ∙ ap (λ (k : ℕ). table k (λ i. get_or new i d)) e ∙ table_of new d

-- ---- a loop that fills row after row of all of `old`, n rows of w entries, by a rule: k are filled

pub record Filling {A : Type 0} (n w : ℕ) (f : ℕ → List A) (old l : List A) (k : ℕ) : Type 0 where
  pub most : k ≤ n
  pub long : length l ≡ length old
  pub held : l ≡ over (rows k f) old

module _ {A : Type 0} (n w : ℕ) (f : ℕ → List A) (each : (i : ℕ) → length (f i) ≡ w) (old : List A) (size : length old ≡ n * w) where
  pub filling-none : Filling n w f old old 0
  filling-none = record { most = omega arith; long = refl; held = rows_none w f each old }

  pub filling-next : {l r : List A} {k : ℕ} → Filling n w f old l k → k < n → r ≡ f k → Filling n w f old (put_mid (k * w) (k * w + w - k * w) l r) (k + 1)
  filling-next {l} {r} {k} s h e =
      let fits : k * w + w ≤ n * w = rw suc-mul at (mul-le-mul_right w h) in
      let next : put_mid (k * w) (k * w + w - k * w) l r ≡ over (rows (k + 1) f) old = rows_next w f each old k s.held e (omega arith) in
      let len : length (rows (k + 1) f) ≡ (k + 1) * w = length-rows w f (k + 1) (λ i _. each i) in
      let room : (k + 1) * w ≤ n * w = mul-le-mul_right w (omega arith) in
      record { most = omega arith; long = ap length next ∙ length_over (rows (k + 1) f) old (omega arith); held = next }

  pub filling-all : {l : List A} {k : ℕ} → Filling n w f old l k → n ≤ k → l ≡ rows n f
  filling-all {l} {k} s h =
      let done : k ≡ n = omega (arith, s.most) in rows_all w f each old n (s.held ∙ ap (λ (j : ℕ). over (rows j f) old) done) (omega arith)

-- a list of the same length is the same once it is cleared
pub cleared-same : {A : Type 0} (x : A) (l l' : List A) → length l' ≡ length l → cleared x l' ≡ cleared x l
unfolding cleared
cleared-same x l l' e = ap (λ (n : ℕ). replicate n x) e
