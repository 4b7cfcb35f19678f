-- The pairs that are taken are all pairs: as many as there are, and none twice.
use Rattle.lists.proofs.Base.{ℕ, zero, suc, ◌+◌, ◌*◌, ◌<◌, ◌≤◌, ◌≡◌, refl, sym, ap, ap₂, ◌∙◌, subst, Bool, true, false, ◌&&◌, ◌||◌, cond}
use Rattle.lists.proofs.Base.{true≢false, List, [], ◌∷◌, ◌++◌, arith, ℕ_discrete, eqb, length, length-append, eq-eqb, eqb-true}
use Rattle.lists.specs.Filters.{any, count_if}
use Rattle.lists.proofs.Filters.{count_if-append}
use Rattle.outcome.specs.Outcome.{answered}
use Rattle.std.specs.Prelude.{Option}
use Rattle.judge_frames.specs.declared.reader.{Frame.Frame, Pair.Pair}
use Rattle.judge_frames.specs.Frames.{joins, is_new, pair_in, pair_count, Taken, several}
use Rattle.judge_frames.proofs.{Pairing.both, Pairing.pair-tests, Fits.several-keeps, Fits.is-taken, Fits.several-length}

-- ---- sums over i < j < n

row : ℕ → (ℕ → ℕ) → ℕ
row zero h = 0
row (suc m) h = row m h + h m

total : ℕ → (ℕ → ℕ → ℕ) → ℕ
total zero g = 0
total (suc n) g = total n g + row n (λ i. g i n)

-- how many pairs there are
cells : ℕ → ℕ
cells zero = 0
cells (suc n) = cells n + n

cells_are : (n : ℕ) → cells n + cells n + n ≡ n * n
unfolding cells
cells_are zero = omega arith
cells_are (suc n) = omega (arith, cells_are n)

row_zero : (m : ℕ) (h : ℕ → ℕ) → ((i : ℕ) → i < m → h i ≡ 0) → row m h ≡ 0
unfolding row
row_zero zero h z = refl
row_zero (suc m) h z = omega (arith, row_zero m h (λ i g. z i (omega arith)), z m (omega arith))

row-add : (m : ℕ) (g h : ℕ → ℕ) → row m (λ i. g i + h i) ≡ row m g + row m h
unfolding row
row-add zero g h = omega arith
row-add (suc m) g h = omega (arith, row-add m g h)

row-ext : (m : ℕ) (g h : ℕ → ℕ) → ((i : ℕ) → g i ≡ h i) → row m g ≡ row m h
unfolding row
row-ext zero g h e = refl
row-ext (suc m) g h e = ap₂ (λ (a b : ℕ). a + b) (row-ext m g h e) (e m)

row_one : (m a : ℕ) (h : ℕ → ℕ) → a < m → h a ≡ 1 → ((i : ℕ) → i < m → (i ≡ a → ⊥) → h i ≡ 0) → row m h ≡ 1
unfolding row
row_one zero a h l e z = absurd (omega arith)
row_one (suc m) a h l e z = elim (ℕ_discrete a m) [
  | yes s ↦ omega (arith, row_zero m h (λ i g. z i (omega arith) (λ t. omega arith)), subst (λ (k : ℕ). h k ≡ 1) s e)
  | no d ↦ omega (arith, row_one m a h (omega arith) e (λ i g n. z i (omega arith) n), z m (omega arith) (λ t. d (sym t)))
]

row-most : (m : ℕ) (h : ℕ → ℕ) → ((i : ℕ) → i < m → h i ≤ 1) → row m h ≤ m
unfolding row
row-most zero h z = omega arith
row-most (suc m) h z = omega (arith, row-most m h (λ i g. z i (omega arith)), z m (omega arith))

row-less : (m a : ℕ) (h : ℕ → ℕ) → a < m → h a ≡ 0 → ((i : ℕ) → i < m → h i ≤ 1) → row m h < m
unfolding row
row-less zero a h l e z = absurd (omega arith)
row-less (suc m) a h l e z = elim (ℕ_discrete a m) [
  | yes s ↦ omega (arith, row-most m h (λ i g. z i (omega arith)), subst (λ (k : ℕ). h k ≡ 0) s e)
  | no d ↦ omega (arith, row-less m a h (omega arith) e (λ i g. z i (omega arith)), z m (omega arith))
]

total-zero : (n : ℕ) (g : ℕ → ℕ → ℕ) → ((i j : ℕ) → i < j → j < n → g i j ≡ 0) → total n g ≡ 0
unfolding total
total-zero zero g z = refl
total-zero (suc n) g z = omega (arith, total-zero n g (λ i j l m. z i j l (omega arith)), row_zero n (λ i. g i n) (λ i l. z i n l (omega arith)))

total-add : (n : ℕ) (g h : ℕ → ℕ → ℕ) → total n (λ i j. g i j + h i j) ≡ total n g + total n h
unfolding total
total-add zero g h = omega arith
total-add (suc n) g h = omega (arith, total-add n g h, row-add n (λ i. g i n) (λ i. h i n))

total_ext : (n : ℕ) (g h : ℕ → ℕ → ℕ) → ((i j : ℕ) → g i j ≡ h i j) → total n g ≡ total n h
unfolding total
total_ext zero g h e = refl
total_ext (suc n) g h e = ap₂ (λ (a b : ℕ). a + b) (total_ext n g h e) (row-ext n (λ i. g i n) (λ i. h i n) (λ i. e i n))

total-one : (n a b : ℕ) (g : ℕ → ℕ → ℕ) → a < b → b < n → g a b ≡ 1 → ((i j : ℕ) → i < j → j < n → (i ≡ a → j ≡ b → ⊥) → g i j ≡ 0) → total n g ≡ 1
unfolding total
total-one zero a b g l m e z = absurd (omega arith)
total-one (suc n) a b g l m e z = elim (ℕ_discrete b n) [
  | yes s ↦ omega (
    arith,
    total-zero n g (λ i j p q. z i j p (omega arith) (λ t u. omega arith)),
    row_one n a (λ i. g i n) (omega arith) (subst (λ (k : ℕ). g a k ≡ 1) s e) (λ i p d. z i n p (omega arith) (λ t u. d t)),
  )
  | no d ↦ omega (
    arith,
    total-one n a b g l (omega arith) e (λ i j p q w. z i j p (omega arith) w),
    row_zero n (λ i. g i n) (λ i p. z i n p (omega arith) (λ t u. d (sym u))),
  )
]

total-most : (n : ℕ) (g : ℕ → ℕ → ℕ) → ((i j : ℕ) → i < j → j < n → g i j ≤ 1) → total n g ≤ cells n
unfolding total cells
total-most zero g z = omega arith
total-most (suc n) g z = omega (arith, total-most n g (λ i j l m. z i j l (omega arith)), row-most n (λ i. g i n) (λ i l. z i n l (omega arith)))

total-less : (n a b : ℕ) (g : ℕ → ℕ → ℕ) → a < b → b < n → g a b ≡ 0 → ((i j : ℕ) → i < j → j < n → g i j ≤ 1) → total n g < cells n
unfolding total cells
total-less zero a b g l m e z = absurd (omega arith)
total-less (suc n) a b g l m e z = elim (ℕ_discrete b n) [
  | yes s ↦ omega (
    arith,
    total-most n g (λ i j p q. z i j p (omega arith)),
    row-less n a (λ i. g i n) (omega arith) (subst (λ (k : ℕ). g a k ≡ 0) s e) (λ i p. z i n p (omega arith)),
  )
  | no d ↦
      omega (arith, total-less n a b g l (omega arith) e (λ i j p q. z i j p (omega arith)), row-most n (λ i. g i n) (λ i p. z i n p (omega arith)))
]

-- ---- how many of the frames are the pair i < j

here : ℕ → ℕ → Pair → Bool
here i j p = eqb p.i i && eqb p.j j

none_here : (i j : ℕ) (ps : List Pair) → any (joins i j) ps ≡ false → count_if (here i j) ps ≡ 0
unfolding any count_if joins here
none_here i j [] e = refl
none_here i j (p ∷ ps) e = go (here i j p) (here j i p) e (none_here i j ps)
  where
    go : (a b : Bool) → ((a || b) || any (joins i j) ps) ≡ false → (any (joins i j) ps ≡ false → count_if (here i j) ps ≡ 0) → cond a 1 0 + count_if (here i j) ps ≡ 0
    go true b h rest = absurd (true≢false h)
    go false true h rest = absurd (true≢false h)
    go false false h rest = omega (arith, rest h)

-- each pair of the frames is one of the n, and each once
record Once (n : ℕ) (ps : List Pair) : Type 0 where
  counted : total n (λ i j. count_if (here i j) ps) ≡ length ps
  once : (i j : ℕ) → i < j → j < n → count_if (here i j) ps ≤ 1

once-none : (n : ℕ) → Once n []
unfolding count_if
once-none n = record { counted = total-zero n (λ i j. 0) (λ i j l m. refl); once = λ i j l m. omega arith }

is-here : (p : Pair) → here p.i p.j p ≡ true
unfolding here
is-here p = rw (eq-eqb p.i p.i refl, eq-eqb p.j p.j refl)

module _ (n : ℕ) (ps : List Pair) (p : Pair) (new : is_new n ps p ≡ true) (o : Once n ps) where
  last : (i j : ℕ) → count_if (here i j) (ps ++ (p ∷ [])) ≡ count_if (here i j) ps + cond (here i j p) 1 0
  unfolding count_if
  last i j = count_if-append (here i j) ps (p ∷ []) ∙ omega arith

  found : (i j : ℕ) → here i j p ≡ true → (p.i ≡ i) × (p.j ≡ j)
  unfolding here
  found i j e = let s = both (eqb p.i i) (eqb p.j j) e in (eqb-true p.i i s.0, eqb-true p.j j s.1)

  elsewhere : (i j : ℕ) → (i ≡ p.i → j ≡ p.j → ⊥) → (b : Bool) → here i j p ≡ b → ◌≡◌ {A = ℕ} (cond b 1 0) 0
  elsewhere i j d true e = let s = found i j e in absurd (d (sym s.0) (sym s.1))
  elsewhere i j d false e = refl

  one_more : total n (λ i j. cond (here i j p) 1 0) ≡ 1
  one_more =
      let t = pair-tests n ps p new in
      total-one n p.i p.j (λ i j. cond (here i j p) 1 0) t.0 t.1 (ap (λ (b : Bool). cond b 1 0) (is-here p))
      (λ i j l m d. elsewhere i j d (here i j p) refl)

  once_by : (i j : ℕ) → i < j → j < n → (b : Bool) → here i j p ≡ b → count_if (here i j) ps + cond b 1 0 ≤ 1
  once_by i j l m true e =
      let s = found i j e in
      let absent : any (joins i j) ps ≡ false = ap₂ (λ (a b : ℕ). any (joins a b) ps) (sym s.0) (sym s.1) ∙ (pair-tests n ps p new).2 in
      omega (arith, none_here i j ps absent)
  once_by i j l m false e = omega (arith, o.once i j l m)

  once-next : Once n (ps ++ (p ∷ []))
  once-next = record {
    counted = total_ext n (λ i j. count_if (here i j) (ps ++ (p ∷ []))) (λ i j. count_if (here i j) ps + cond (here i j p) 1 0) last
        ∙ total-add n (λ i j. count_if (here i j) ps) (λ i j. cond (here i j p) 1 0)
        ∙ omega (arith, o.counted, one_more, length-append ps (p ∷ []));
    once = λ i j l m. subst (λ (k : ℕ). k ≤ 1) (sym (last i j)) (once_by i j l m (here i j p) refl);
  }

-- every pair i < j < n is among those taken
pub complete : (n : ℕ) (fs : List (Option Frame)) (t : Taken Pair) → several (pair_in n) (pair_count n) [] fs ≡ answered t → (i j : ℕ) → i < j → j < n → any (joins i j) t.taken ≡ true
complete n fs t e i j l m =
    let o = several-keeps (pair_in n) (Once n) (λ before f p g. once-next n before p (is-taken n before f g)) (pair_count n) [] fs t (once-none n) e in
    let all = several-length (pair_in n) (pair_count n) [] fs t e in by o all (any (joins i j) t.taken) refl
  where
    by : Once n t.taken → length t.taken ≡ 0 + pair_count n → (b : Bool) → any (joins i j) t.taken ≡ b → b ≡ true
    by o all true g = refl
    by o all false g = absurd (omega (
      arith,
      all,
      o.counted,
      cells_are n,
      total-less n i j (λ i j. count_if (here i j) t.taken) l m (none_here i j t.taken g) o.once,
    ))
