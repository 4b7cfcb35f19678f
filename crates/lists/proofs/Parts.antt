-- Fronts, parts and images of lists, and lists written over others.
use Rattle.lists.proofs.Base.{◌≡◌, refl, sym, ap, ◌∙◌, List, [], ◌∷◌, ◌++◌, map, append_assoc, append-nil, ℕ, zero}
use Rattle.lists.proofs.Base.{suc, ◌+◌, ◌-◌, ◌<◌, ◌≤◌, not-suc-le-zero, le_of_suc-le-suc, add-one, arith, put_mid}
use lib.ListN.{length, get_or, take, drop, take-append-drop, length-append, length-drop, drop_of_length-le, replicate, length-replicate, replicate-append-replicate}
use lib.Seq.{length-take-le, take-suc, drop-append-add, drop-drop, take_at, drop_at}
use Rattle.lists.specs.Writes.{over}
use Rattle.lists.proofs.Writes.{drop-over}

module _ {A : Type 0} where
  -- what stands in a list, whatever would stand past its end
  pub get_or-either : (l : List A) (i : ℕ) (d e : A) → i < length l → get_or l i d ≡ get_or l i e
  get_or-either [] i d e h = absurd (omega arith)
  get_or-either (x ∷ l) zero d e h = refl
  get_or-either (x ∷ l) (suc i) d e h = get_or-either l i d e (omega arith)

  -- one entry more of the front
  pub take_more : (l : List A) (i : ℕ) (d : A) → i < length l → take (i + 1) l ≡ take i l ++ (get_or l i d ∷ [])
  take_more l i d h = ap (λ (k : ℕ). take k l) (add-one i) ∙ take-suc l i d h

  -- a longer list over a shorter one
  pub over-over : (new mid old : List A) → length mid ≤ length new → over new (over mid old) ≡ over new old
  unfolding over
  over-over new mid old h =
      let more = length new - length mid in
      let e : length new ≡ length mid + more = omega arith in
      ap (λ (t : List A). new ++ t) (ap (λ (k : ℕ). drop k (mid ++ drop (length mid) old)) e ∙ drop-append-add mid (drop (length mid) old) more
      ∙ drop-drop more (length mid) old ∙ ap (λ (k : ℕ). drop k old) (sym e))

  -- a part of the front, put back as r
  pub over-lent : (r l : List A) {m : ℕ} → length r ≡ m → r ++ drop m l ≡ over r l
  unfolding over
  over-lent r l {m} same = ap (λ (k : ℕ). r ++ drop k l) (sym same)

  -- the same of a part written before
  pub over-back : (mid old r : List A) {l : List A} {m : ℕ} → l ≡ over mid old → length mid ≡ m → length r ≡ m → r ++ drop m l ≡ over r old
  over-back mid old r {l} {m} e long same = ap (λ (t : List A). r ++ t) (ap (drop m) e ∙ drop-over mid old m long) ∙ over-lent r old same

  -- the front of a list over the list
  pub over-take : (l : List A) (n : ℕ) → n ≤ length l → over (take n l) l ≡ l
  unfolding over
  over-take l n h = ap (λ (k : ℕ). take n l ++ drop k l) (length-take-le n l h) ∙ take-append-drop n l

-- ---- a list written over the front of a part, and over the front of the whole

module _ {A : Type 0} where
  drop-take : (j k : ℕ) (l : List A) → j ≤ k → drop j (take k l) ++ drop k l ≡ drop j l
  drop-take zero k l h = take-append-drop k l
  drop-take (suc j) zero l h = absurd (not-suc-le-zero h)
  drop-take (suc j) (suc k) [] h = refl
  drop-take (suc j) (suc k) (x ∷ l) h = drop-take j k l (le_of_suc-le-suc h)

  pub over-front : (new old : List A) (k : ℕ) → length new ≤ k → over new (take k old) ++ drop k old ≡ over new old
  unfolding over
  over-front new old k h =
      append_assoc new (drop (length new) (take k old)) (drop k old) ∙ ap (λ (t : List A). new ++ t) (drop-take (length new) k old h)

-- ---- a list filled in two parts: `o[..n]` first, and then `o[n..]`

module _ {A : Type 0} (n : ℕ) (o x : List A) (within : n ≤ length o) (first : length x ≡ n) where
  whole : length (x ++ drop n o) ≡ length o
  whole = length-append x (drop n o) ∙ omega (arith, length-drop n o)

  pub length-second : length (take (length (x ++ drop n o) - n) (drop n (x ++ drop n o))) ≡ length o - n
  length-second =
      let many = whole in
      let left = length-drop n o in
      rw (drop_at x (drop n o) n first) (length-take-le (length (x ++ drop n o) - n) (drop n o) (omega arith) ∙ omega arith)

  pub put_second : (y : List A) → put_mid n (length (x ++ drop n o) - n) (x ++ drop n o) y ≡ x ++ y
  put_second y =
      let many = whole in
      let left = length-drop n o in
      rw (take_at x (drop n o) n first, drop_at x (drop n o) n first, drop_of_length-le (drop n o) {i = length (x ++ drop n o) - n} (omega arith), append-nil)

-- ---- images

pub drop-map : {A B : Type 0} (f : A → B) (m : ℕ) (l : List A) → drop m (map f l) ≡ map f (drop m l)
drop-map f zero l = refl
drop-map f (suc m) [] = refl
drop-map f (suc m) (x ∷ l) = drop-map f m l

pub take-map : {A B : Type 0} (f : A → B) (m : ℕ) (l : List A) → take m (map f l) ≡ map f (take m l)
take-map f zero l = refl
take-map f (suc m) [] = refl
take-map f (suc m) (x ∷ l) = ap (λ (r : List _). f x ∷ r) (take-map f m l)

pub get_or-map-in : {A B : Type 0} (f : A → B) (l : List A) (i : ℕ) (d : B) (e : A) → i < length l → get_or (map f l) i d ≡ f (get_or l i e)
get_or-map-in f [] i d e h = absurd (omega arith)
get_or-map-in f (x ∷ l) zero d e h = refl
get_or-map-in f (x ∷ l) (suc i) d e h = get_or-map-in f l i d e (omega arith)

-- ---- one value everywhere

pub take-replicate : {A : Type 0} (k n : ℕ) (v : A) → k ≤ n → take k (replicate n v) ≡ replicate k v
take-replicate {A} k n v h =
    let split : k + (n - k) ≡ n = omega arith in
    ap (λ (t : ℕ). take k (replicate t v)) (sym split) ∙ ap (take k) (sym (replicate-append-replicate k (n - k) v))
    ∙ take_at (replicate k v) (replicate (n - k) v) k (length-replicate k v)

pub drop-replicate : {A : Type 0} (k n : ℕ) (v : A) → k ≤ n → drop k (replicate n v) ≡ replicate (n - k) v
drop-replicate {A} k n v h =
    let split : k + (n - k) ≡ n = omega arith in
    ap (λ (t : ℕ). drop k (replicate t v)) (sym split) ∙ ap (drop k) (sym (replicate-append-replicate k (n - k) v))
    ∙ drop_at (replicate k v) (replicate (n - k) v) k (length-replicate k v)
