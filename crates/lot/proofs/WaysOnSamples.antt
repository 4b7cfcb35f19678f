-- A way put on the samples with a kept label: what is kept then, what stands where, and how many there are of each label.
use Rattle.lists.proofs.Base.{◌≡◌, refl, sym, ap, ap₂, ◌∙◌, Bool, true, false, cond, ℕ, suc, ◌+◌, arith, length, get_or, drop}
use mathlib.Core.List.Memᴰ.{head as here}
use mathlib.Core.List.Memᴰ.{tail as there}
use mathlib.Core.List.{List, [], ◌∷◌, map, Memᴰ as Member}
use Rattle.lists.specs.Filters.{filter, count_if}
use Rattle.lists.proofs.Filters.{filter-yes, filter-no}
use Rattle.limits.specs.Limits.{none}
use Rattle.lot.specs.Way.{on_kept}

module _ (p : ℕ → Bool) (f h : ℕ → ℕ) where
  pub on_kept-yes : (l : ℕ) (ls way : List ℕ) → p l ≡ true → on_kept p f h (l ∷ ls) way ≡ f (get_or way 0 none) ∷ on_kept p f h ls (drop 1 way)
  unfolding on_kept
  on_kept-yes l ls way e = rw e

  pub on_kept-no : (l : ℕ) (ls way : List ℕ) → p l ≡ false → on_kept p f h (l ∷ ls) way ≡ h l ∷ on_kept p f h ls way
  unfolding on_kept
  on_kept-no l ls way e = rw e

  length-cases : (b : Bool) (x y : ℕ) (xs ys : List ℕ) (n : ℕ) → length xs ≡ n → length ys ≡ n → length (cond b (x ∷ xs) (y ∷ ys)) ≡ suc n
  length-cases true x y xs ys n e g = ap suc e
  length-cases false x y xs ys n e g = ap suc g

  pub length-on_kept : (ls way : List ℕ) → length (on_kept p f h ls way) ≡ length ls
  unfolding on_kept
  length-on_kept [] way = refl
  length-on_kept (l ∷ ls) way = length-cases (p l) _ _ _ _ (length ls) (length-on_kept ls (drop 1 way)) (length-on_kept ls way)

-- ---- labels that pass p are put where labels that pass p stood, and the others stay

module _ (p : ℕ → Bool) (f : ℕ → ℕ) where
  abbrev put : List ℕ → List ℕ → List ℕ
  put ls way = on_kept p f (λ l. l) ls way

  -- every entry of the way names a label that passes, and there is one for each label that does
  record Fit (ls way : List ℕ) : Type 0 where
    passes : (j : ℕ) → Member j way → p (f j) ≡ true
    many : length way ≡ length (filter p ls)

  fit-yes : (l : ℕ) (ls : List ℕ) (j : ℕ) (way : List ℕ) → p l ≡ true → Fit (l ∷ ls) (j ∷ way) → Fit ls way
  fit-yes l ls j way e w = record { passes = λ i m. w.passes i (there m); many = omega (arith, w.many, ap length (filter-yes p l ls e)) }

  fit-no : (l : ℕ) (ls way : List ℕ) → p l ≡ false → Fit (l ∷ ls) way → Fit ls way
  fit-no l ls way e w = record { passes = w.passes; many = w.many ∙ ap length (filter-no p l ls e) }

  no_more : (l : ℕ) (ls : List ℕ) → p l ≡ true → Fit (l ∷ ls) [] → ⊥
  no_more l ls e w = omega (arith, w.many, ap length (filter-yes p l ls e))

  -- what is kept afterwards is the way
  filter-step : (b : Bool) (l : ℕ) (ls way : List ℕ) → p l ≡ b → Fit (l ∷ ls) way → ((way : List ℕ) → Fit ls way → filter p (put ls way) ≡ map f way)
      → filter p (put (l ∷ ls) way) ≡ map f way
  filter-step true l ls [] e w ih = absurd (no_more l ls e w)
  filter-step true l ls (j ∷ way) e w ih = ap (filter p) (on_kept-yes p f (λ l. l) l ls (j ∷ way) e)
      ∙ filter-yes p (f j) (put ls way) (w.passes j (here refl)) ∙ ap (λ (xs : List ℕ). f j ∷ xs) (ih way (fit-yes l ls j way e w))
  filter-step false l ls way e w ih = ap (filter p) (on_kept-no p f (λ l. l) l ls way e) ∙ filter-no p l (put ls way) e ∙ ih way (fit-no l ls way e w)

  filter-put : (ls way : List ℕ) → Fit ls way → filter p (put ls way) ≡ map f way
  unfolding on_kept filter
  filter-put [] [] w = refl
  filter-put [] (j ∷ way) w = absurd (omega (arith, w.many))
  filter-put (l ∷ ls) way w = filter-step (p l) l ls way refl w (filter-put ls)

  -- a place is kept afterwards where it was before
  test-step : (b : Bool) (l : ℕ) (ls way : List ℕ) → p l ≡ b → Fit (l ∷ ls) way → ((way : List ℕ) → Fit ls way → map p (put ls way) ≡ map p ls)
      → map p (put (l ∷ ls) way) ≡ map p (l ∷ ls)
  test-step true l ls [] e w ih = absurd (no_more l ls e w)
  test-step true l ls (j ∷ way) e w ih =
      ap (map p) (on_kept-yes p f (λ l. l) l ls (j ∷ way) e) ∙ ap₂ ◌∷◌ (w.passes j (here refl) ∙ sym e) (ih way (fit-yes l ls j way e w))
  test-step false l ls way e w ih = ap (map p) (on_kept-no p f (λ l. l) l ls way e) ∙ ap (λ (xs : List Bool). p l ∷ xs) (ih way (fit-no l ls way e w))

  tests-put : (ls way : List ℕ) → Fit ls way → map p (put ls way) ≡ map p ls
  unfolding on_kept
  tests-put [] way w = refl
  tests-put (l ∷ ls) way w = test-step (p l) l ls way refl w (tests-put ls)

  -- a test passes as often as before, but for what was kept and what the way puts there
  count-step : (q : ℕ → Bool) (b : Bool) (l : ℕ) (ls way : List ℕ) → p l ≡ b → Fit (l ∷ ls) way
      → ((way : List ℕ) → Fit ls way → count_if q (put ls way) + count_if q (filter p ls) ≡ count_if q ls + count_if q (map f way))
      → count_if q (put (l ∷ ls) way) + count_if q (filter p (l ∷ ls)) ≡ count_if q (l ∷ ls) + count_if q (map f way)
  unfolding count_if
  count-step q true l ls [] e w ih = absurd (no_more l ls e w)
  count-step q true l ls (j ∷ way) e w ih = omega (
    arith,
    ap (count_if q) (on_kept-yes p f (λ l. l) l ls (j ∷ way) e),
    ap (count_if q) (filter-yes p l ls e),
    ih way (fit-yes l ls j way e w),
  )
  count-step q false l ls way e w ih = omega (
    arith,
    ap (count_if q) (on_kept-no p f (λ l. l) l ls way e),
    ap (count_if q) (filter-no p l ls e),
    ih way (fit-no l ls way e w),
  )

  count-put : (q : ℕ → Bool) (ls way : List ℕ) → Fit ls way → count_if q (put ls way) + count_if q (filter p ls) ≡ count_if q ls + count_if q (map f way)
  unfolding on_kept filter count_if
  count-put q [] [] w = refl
  count-put q [] (j ∷ way) w = absurd (omega (arith, w.many))
  count-put q (l ∷ ls) way w = count-step q (p l) l ls way refl w (count-put q ls)

  module _ (ls way : List ℕ) (passes : (j : ℕ) → Member j way → p (f j) ≡ true) (many : length way ≡ length (filter p ls)) where
    pub filter-on_kept : filter p (on_kept p f (λ l. l) ls way) ≡ map f way
    filter-on_kept = filter-put ls way (record { passes = passes; many = many })

    pub tests-on_kept : map p (on_kept p f (λ l. l) ls way) ≡ map p ls
    tests-on_kept = tests-put ls way (record { passes = passes; many = many })

    pub count-on_kept : (q : ℕ → Bool) → count_if q (on_kept p f (λ l. l) ls way) + count_if q (filter p ls) ≡ count_if q ls + count_if q (map f way)
    count-on_kept q = count-put q ls way (record { passes = passes; many = many })
