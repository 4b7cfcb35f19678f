-- A hash looked up among numbers that go upward, half by half.
use Rattle.lists.proofs.Base.{◌≡◌, sym, ap, ◌∙◌, subst, refl, Bool, true, false, cond, ◌⊎◌, inl, inr, ℕ, zero, suc, ◌+◌, ◌-◌, ◌<◌, ◌≤◌, arith, ne_eqb, eqb, length, get_or}
use Rattle.std.proofs.Common.{List, [], ◌∷◌}
use Rattle.std.specs.Prelude.{Option, Some, None}
use mathlib.Core.List.{Memᴰ as Member}
use Rattle.lists.specs.Numbers.{contains, position}
use Rattle.lists.proofs.{Truths.order, Truths.same_or_not, Members.member-get_or, Members.none_any, Members.contains-member}
use Rattle.lists.proofs.Upward.{Upward, position_at, at_position, position-below}
use Rattle.limits.specs.Limits.{none}
use Rattle.ordination_hashes.specs.inner.{Columns.column_at, Columns.column_of, Stretches.Climbs, Stretches.Cut}
use Rattle.ordination_hashes.proofs.Upward.{member-contains}

-- ---- both ways to say that a list goes upward

pub climbs-upward : (l : List ℕ) → Climbs l → Upward l
unfolding Upward
climbs-upward [] c = tt
climbs-upward (x ∷ xs) c = (
  λ y m. subst (λ (k : ℕ). x < k) (at_position y xs 0 m) (c 0 (suc (position y xs)) (omega arith) (omega (arith, position-below y xs m))),
  climbs-upward xs (λ i j a b. c (suc i) (suc j) (omega arith) (omega arith)),
)

pub upward-climbs : (l : List ℕ) → Upward l → Climbs l
unfolding Upward
upward-climbs [] u i j a b = absurd (omega arith)
upward-climbs (x ∷ xs) u i zero a b = absurd (omega arith)
upward-climbs (x ∷ xs) u zero (suc j) a b = u.0 (get_or xs j 0) (member-get_or xs j 0 (omega arith))
upward-climbs (x ∷ xs) u (suc i) (suc j) a b = upward-climbs xs u.1 i j (omega arith) (omega arith)

-- what stands no further than another is no larger
pub no-larger : (l : List ℕ) → Climbs l → (i j : ℕ) → i ≤ j → j < length l → get_or l i 0 ≤ get_or l j 0
no-larger l c i j a b = which (same_or_not i j)
  where
    which : (i ≡ j) ⊎ (i ≡ j → ⊥) → get_or l i 0 ≤ get_or l j 0
    which (inl e) = omega (arith, ap (λ (k : ℕ). get_or l k 0) e)
    which (inr d) = omega (arith, c i j (omega (arith, d)) b)

-- ---- the search

-- what is looked for lies from lo up to hi
pub record Narrowed (h : ℕ) (l : List ℕ) (lo hi : ℕ) : Type 0 where
  pub inside : lo ≤ hi
  pub most : hi ≤ length l
  pub low : (i : ℕ) → i < lo → get_or l i 0 < h
  pub high : (i : ℕ) → hi ≤ i → i < length l → h ≤ get_or l i 0

module _ (h : ℕ) (l : List ℕ) where
  -- the number before the one place and the number at the other say it of all
  pub narrowed-first : Climbs l → (lo hi : ℕ) → lo ≤ hi → hi ≤ length l → (0 < lo → get_or l (lo - 1) 0 < h) → (hi < length l → h ≤ get_or l hi 0) →
      Narrowed h l lo (lo + (hi - lo))
  narrowed-first c lo hi a b before after = record {
    inside = omega arith;
    most = omega arith;
    low = λ i g. omega (arith, no-larger l c i (lo - 1) (omega arith) (omega arith), before (omega arith));
    high = λ i g k. omega (arith, no-larger l c hi i (omega arith) k, after (omega arith));
  }

  -- half of what is left is passed, or is all that is left
  module _ (c : Climbs l) {lo left : ℕ} (s : Narrowed h l lo (lo + left)) (half rest : ℕ) (one : 1 ≤ half) (both : rest + half ≡ left) (least : half ≤ rest + 1) where
    abbrev mid : ℕ
    mid = lo + half - 1

    pub narrowed-next : {r : ℕ} (t : Bool) → (t ≡ true → r ≡ half) × (t ≡ false → r ≡ 0) → (t ≡ true → get_or l mid 0 < h) → (t ≡ false → h ≤ get_or l mid 0)
        → Narrowed h l (lo + r) (lo + r + rest)
    narrowed-next {r} true p up down =
        let all : r ≡ half = p.0 refl in
        let less : get_or l mid 0 < h = up refl in
        record {
          inside = omega arith;
          most = omega (arith, s.most);
          low = λ i k. omega (arith, no-larger l c i mid (omega arith) (omega (arith, s.most)));
          high = λ i k b. s.high i (omega arith) b;
        }
    narrowed-next {r} false p up down =
        let none_of : r ≡ 0 = p.1 refl in
        let more : h ≤ get_or l mid 0 = down refl in
        record {
          inside = omega arith;
          most = omega (arith, s.most);
          low = λ i k. s.low i (omega arith);
          high = λ i k b. omega (arith, no-larger l c mid i (omega arith) b);
        }

  pub narrowed-all : {lo hi : ℕ} → Narrowed h l lo hi → hi ≤ lo → Cut h l lo
  narrowed-all {lo} {hi} s e = record { inside = omega (arith, s.inside, s.most); low = s.low; high = λ i k b. s.high i (omega arith) b }

-- ---- the column

module _ (h : ℕ) (l : List ℕ) (c : Climbs l) where
  pub column-found : (r : ℕ) → r < length l → get_or l r 0 ≡ h → Some r ≡ column_at l h
  unfolding column_at
  column-found r b e =
      let there : contains h l ≡ true = member-contains h l (subst (λ (k : ℕ). Member k l) e (member-get_or l r 0 b)) in
      let place : position h l ≡ r = ap (λ (k : ℕ). position k l) (sym e) ∙ position_at l (climbs-upward l c) r 0 b in
      sym (ap (λ (t : Bool). cond t (Some (position h l)) None) there ∙ ap (λ (k : ℕ). Some k) place)

  -- where each number is another
  missing : ((x : ℕ) → Member x l → h ≡ x → ⊥) → None ≡ column_at l h
  unfolding column_at contains
  missing d = sym (ap (λ (t : Bool). cond t (Some (position h l)) None) (none_any (eqb h) l (λ x m. ne_eqb h x (d x m))))

  -- the numbers in front are below h, and those behind above it
  pub column-missing : (r : ℕ) → ((k : ℕ) → k < r → k < length l → get_or l k 0 < h) → ((k : ℕ) → r ≤ k → k < length l → h < get_or l k 0) → None ≡ column_at l h
  column-missing r low high = missing (λ x m e. one x m e (order r (position x l)))
    where
      one : (x : ℕ) → Member x l → h ≡ x → (r ≤ position x l) ⊎ (position x l < r) → ⊥
      one x m e (inl k) = omega (arith, high (position x l) k (position-below x l m), at_position x l 0 m)
      one x m e (inr k) = omega (arith, low (position x l) k (position-below x l m), at_position x l 0 m)

  -- the number before place r is below h, and the one there above it
  pub column-gap : (r : ℕ) → r ≤ length l → (0 < r → get_or l (r - 1) 0 < h) → (r < length l → h < get_or l r 0) → None ≡ column_at l h
  column-gap r b before after = column-missing r
      (λ k g i. omega (arith, no-larger l c k (r - 1) (omega arith) (omega arith), before (omega arith)))
      (λ k g i. omega (arith, no-larger l c r k g i, after (omega arith)))

  -- r numbers are below h, and the one at place r is another
  pub cut-missing : {r : ℕ} → Cut h l r → (r < length l → get_or l r 0 ≡ h → ⊥) → None ≡ column_at l h
  cut-missing {r} s d = column-missing r (λ k g b. s.low k g) (λ k g b. after k g b (same_or_not r k) (same_or_not (get_or l k 0) h))
    where
      after : (k : ℕ) → r ≤ k → k < length l → (r ≡ k) ⊎ (r ≡ k → ⊥) → (get_or l k 0 ≡ h) ⊎ (get_or l k 0 ≡ h → ⊥) → h < get_or l k 0
      after k g b o (inr q) = omega (arith, s.high k g b, q)
      after k g b (inl e) (inl q) = absurd (d (omega (arith, b, e)) (ap (λ (j : ℕ). get_or l j 0) e ∙ q))
      after k g b (inr e) (inl q) = omega (arith, s.high r (omega arith) (omega (arith, g, b)), c r k (omega (arith, g, e)) b, q)

-- ---- a column as a number

column-both : (h : ℕ) (l : List ℕ) → ((c : ℕ) → Some c ≡ column_at l h → (c < length l) × (column_of l h ≡ c)) × (None ≡ column_at l h → column_of l h ≡ none)
unfolding column_at column_of
column-both h l = one (contains h l) refl
  where
    one : (t : Bool) → contains h l ≡ t → ((c : ℕ) → Some c ≡ cond t (Some (position h l)) None → (c < length l) × (cond t (position h l) none ≡ c))
        × (◌≡◌ {A = Option ℕ} None (cond t (Some (position h l)) None) → cond t (position h l) none ≡ none)
    one true e = (λ c q. let same : c ≡ position h l = cc in (omega (arith, position-below h l (contains-member h l e)), sym same), λ q. cc)
    one false e = (λ c q. cc, λ q. refl)

pub column-some : (h : ℕ) (l : List ℕ) {c : ℕ} → Some c ≡ column_at l h → (c < length l) × (column_of l h ≡ c)
column-some h l {c} e = (column-both h l).0 c e

pub column-none : (h : ℕ) (l : List ℕ) → None ≡ column_at l h → column_of l h ≡ none
column-none h l e = (column-both h l).1 e

-- the same of a search
module _ (h : ℕ) (l : List ℕ) (c : Climbs l) {r : ℕ} (s : Cut h l r) where
  pub number-found : r < length l → get_or l r 0 ≡ h → r ≡ column_of l h
  number-found b e = sym (column-some h l (column-found h l c r b e)).1

  pub number-missing : (r < length l → get_or l r 0 ≡ h → ⊥) → none ≡ column_of l h
  number-missing d = sym (column-none h l (cut-missing h l c s d))
