-- The level of the two kinds of hits: of an F that is finite or unbounded, and of an assignment that may be withheld.
use Rattle.lists.proofs.Base.{◌≡◌, refl, sym, Bool, true, false, cond, true≢false, ◌⊎◌, inl, inr, List, ℕ, arith, T, leb, le-leb, leb-true}
use Rattle.std.specs.Prelude.{Option, Some, None}
use native.Mathlib.Decide.{dec_le}
use lib.Ieee.{Float, binary64, fits}
use lib.Ieee.Scale.{finite}
use lib.Ieee.Bits.{is_true}
use Rattle.float.specs.{Value.rank, Tolerance.as_large}
use Rattle.float.proofs.Tolerance.{as-large-of-rank}
use Rattle.permanova_p_values.specs.declared.Statistic.{Statistic}
use Rattle.permanova_p_values.specs.declared.Statistic.TheVariants.{Finite, Unbounded}
use Rattle.permanova_p_values.specs.Hits.{statistic, hit}
use Rattle.exhaustive_ways.specs.Level.{KeepsLevel}
use Rattle.exhaustive_ways.proofs.ListLevels.{level, always}
use Rattle.exhaustive_hits.specs.WayHits.{as_right, is_given}

leb-total : (a b : ℕ) → (leb a b ≡ true) ⊎ (leb b a ≡ true)
leb-total a b = elim (dec_le a b) [ yes h ↦ inl (le-leb a b h) | no h ↦ inr (le-leb b a (omega arith)) ]

leb-trans : (a b c : ℕ) → leb a b ≡ true → leb b c ≡ true → leb a c ≡ true
leb-trans a b c u v = le-leb a c (omega (arith, leb-true a b u, leb-true b c v))

-- ---- F: what is unbounded is on top, level with one another, and finite values stand by their rank

as_high : Statistic → Statistic → Bool
as_high Unbounded Unbounded = true
as_high Unbounded (Finite f') = false
as_high (Finite f) Unbounded = true
as_high (Finite f) (Finite f') = leb (rank f) (rank f')

high-total : (x y : Statistic) → (as_high x y ≡ true) ⊎ (as_high y x ≡ true)
unfolding as_high
high-total Unbounded Unbounded = inl refl
high-total Unbounded (Finite f') = inr refl
high-total (Finite f) Unbounded = inl refl
high-total (Finite f) (Finite f') = leb-total (rank f) (rank f')

high-trans : (x y z : Statistic) → as_high x y ≡ true → as_high y z ≡ true → as_high x z ≡ true
unfolding as_high
high-trans Unbounded Unbounded z u v = v
high-trans Unbounded (Finite b) z u v = absurd (true≢false (sym u))
high-trans (Finite a) Unbounded Unbounded u v = refl
high-trans (Finite a) Unbounded (Finite c) u v = absurd (true≢false (sym v))
high-trans (Finite a) (Finite b) Unbounded u v = refl
high-trans (Finite a) (Finite b) (Finite c) u v = leb-trans (rank a) (rank b) (rank c) u v

to-T : (b : Bool) → b ≡ true → T b
to-T true e = tt
to-T false e = absurd (true≢false (sym e))

-- what stands as high is a hit: F - 1e-12·|F| as rounded is at most F
high-hit : (f f' : Float) (b b' : Bool) → finite f ≡ b → finite f' ≡ b' → T (fits binary64 f) → T (fits binary64 f')
    → as_high (cond b (Finite f) Unbounded) (cond b' (Finite f') Unbounded) ≡ true → hit (cond b (Finite f) Unbounded) (cond b' (Finite f') Unbounded) ≡ true
unfolding as_high hit
high-hit f f' true true e e' t t' h =
    is_true (as_large f f') (as-large-of-rank f f' t t' (to-T (finite f) e) (to-T (finite f') e') (leb-true (rank f) (rank f') h))
high-hit f f' true false e e' t t' h = refl
high-hit f f' false true e e' t t' h = absurd (true≢false (sym h))
high-hit f f' false false e e' t t' h = refl

module _ {A : Type 0} (F : A → Float) (fit : (x : A) → T (fits binary64 (F x))) where
  pub f-level : (xs : List A) → KeepsLevel always (λ x y. hit (statistic (F x)) (statistic (F y))) xs
  unfolding statistic
  f-level = level always (λ x y. as_high (statistic (F x)) (statistic (F y)))
      (record { total = λ x y _ _. high-total (statistic (F x)) (statistic (F y)); trans = λ x y z _ _ _. high-trans (statistic (F x)) (statistic (F y)) (statistic (F z)) })
      (λ x y. hit (statistic (F x)) (statistic (F y))) (λ x y _ _. high-hit (F x) (F y) (finite (F x)) (finite (F y)) refl refl (fit x) (fit y))

-- ---- assignments stand by their right count

right-total : (x y : Option ℕ) → is_given x ≡ true → is_given y ≡ true → (as_right x y ≡ true) ⊎ (as_right y x ≡ true)
unfolding is_given as_right
right-total None None p q = absurd (true≢false (sym p))
right-total None (Some r') p q = absurd (true≢false (sym p))
right-total (Some r) None p q = absurd (true≢false (sym q))
right-total (Some r) (Some r') p q = leb-total r r'

right-trans : (x y z : Option ℕ) → as_right x y ≡ true → as_right y z ≡ true → as_right x z ≡ true
unfolding as_right
right-trans None None z u v = absurd (true≢false (sym u))
right-trans None (Some b) z u v = absurd (true≢false (sym u))
right-trans (Some a) None z u v = absurd (true≢false (sym u))
right-trans (Some a) (Some b) None u v = v
right-trans (Some a) (Some b) (Some c) u v = leb-trans a b c u v

module _ {A : Type 0} (assigned : A → Option ℕ) where
  -- of those that are given
  pub right-level : (xs : List A) → KeepsLevel (λ x. is_given (assigned x)) (λ x y. as_right (assigned x) (assigned y)) xs
  right-level = level (λ x. is_given (assigned x)) (λ x y. as_right (assigned x) (assigned y))
      (record { total = λ x y. right-total (assigned x) (assigned y); trans = λ x y z _ _ _. right-trans (assigned x) (assigned y) (assigned z) })
      (λ x y. as_right (assigned x) (assigned y)) (λ x y _ _ r. r)
