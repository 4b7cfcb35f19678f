-- The level of a test that counts hits over a finite list.
use Rattle.lists.proofs.Base.{◌≡◌, refl, sym, ap, ◌∙◌, Bool, true, false, ◌&&◌, true≢false, ◌⊎◌, inl, inr, ⊎_elim, ℕ, ◌≤◌, arith, leb, leb-true}
use mathlib.Core.List.Memᴰ.{cases_cons}
use mathlib.Core.List.{List, [], ◌∷◌, Memᴰ as Member}
use native.Mathlib.Nat.{le_trans}
use Rattle.lists.specs.Filters.{count_if}
use Rattle.lists.proofs.{Filters.count_if-no, Counts.count-mono, Counts.count-member}
use Rattle.exhaustive_ways.specs.Level.{KeepsLevel, Ranks}

and_left : (a b : Bool) → (a && b) ≡ true → a ≡ true
and_left true b e = refl
and_left false b e = e

and_right : (a b : Bool) → (a && b) ≡ true → b ≡ true
and_right true b e = e
and_right false b e = absurd (true≢false (sym e))

-- of those of xs that pass p there are none, or one of them ranks lowest
Lowest : {A : Type 0} → (A → A → Bool) → (A → Bool) → List A → Type 0
Lowest {A} rank p xs = (count_if p xs ≡ 0) ⊎ ((x : A) × (p x ≡ true) × ((y : A) → Member y xs → p y ≡ true → rank x y ≡ true))

module _ {A : Type 0} (counted : A → Bool) (rank : A → A → Bool) (order : Ranks counted rank) where
  itself : (x : A) → counted x ≡ true → rank x x ≡ true
  itself x c = ⊎_elim (λ r. r) (λ r. r) (order.total x x c c)

  module _ (p : A → Bool) (ok : (x : A) → p x ≡ true → counted x ≡ true) where
    lowest-more : (a : A) (xs : List A) (b : Bool) → p a ≡ b → Lowest rank p xs → Lowest rank p (a ∷ xs)
    unfolding Lowest
    lowest-more a xs false e (inl z) = inl (count_if-no p a xs e ∙ z)
    lowest-more a xs false e (inr w) = inr (w.0, w.1, λ y m q. ⊎_elim (λ s. absurd (true≢false (sym q ∙ ap p s ∙ e))) (λ t. w.2 y t q) (cases_cons m))
    lowest-more a xs true e (inl z) = inr (
      a,
      e,
      λ y m q. ⊎_elim (λ s. rw s (itself a (ok a e))) (λ t. absurd (omega (arith, count-member p xs y t q))) (cases_cons m),
    )
    lowest-more a xs true e (inr w) = ⊎_elim
        (λ l. inr (
          a,
          e,
          λ y m q. ⊎_elim (λ s. rw s (itself a (ok a e))) (λ t. order.trans a w.0 y (ok a e) (ok w.0 w.1) (ok y q) l (w.2 y t q)) (cases_cons m),
        )) (λ l. inr (w.0, w.1, λ y m q. ⊎_elim (λ s. rw s l) (λ t. w.2 y t q) (cases_cons m))) (order.total a w.0 (ok a e) (ok w.0 w.1))

    lowest : (xs : List A) → Lowest rank p xs
    unfolding Lowest count_if
    lowest [] = inl refl
    lowest (a ∷ xs) = lowest-more a xs (p a) refl (lowest xs)

  -- whatever ranks as high as x is a hit where x is the observed one
  module _ (hit : A → A → Bool) (coarser : (x y : A) → counted x ≡ true → counted y ≡ true → rank x y ≡ true → hit x y ≡ true) where
    -- THE LEVEL: all that have k hits or fewer are hits of the lowest of them, which has k or fewer.
    pub level : (xs : List A) → KeepsLevel counted hit xs
    unfolding Lowest
    level xs k =
        let few : A → Bool = λ x. counted x && leb (count_if (hit x) xs) k in
        let ok : (x : A) → few x ≡ true → counted x ≡ true = λ x e. and_left (counted x) (leb (count_if (hit x) xs) k) e in
        ⊎_elim (λ none. omega arith) (λ w. le_trans
        (count-mono few (hit w.0) xs (λ y m q. coarser w.0 y (ok w.0 w.1) (ok y q) (w.2 y m q)))
        (leb-true _ _ (and_right (counted w.0) _ w.1))) (lowest few ok xs)

-- all are counted
abbrev pub always : {A : Type 0} → A → Bool
always x = true

module _ {A : Type 0} (rank : A → A → Bool) (order : Ranks always rank) where
  -- the ranks themselves as hits: at most k members have k or fewer that rank as high
  pub level-rank : (xs : List A) (k : ℕ) → count_if (λ x. leb (count_if (rank x) xs) k) xs ≤ k
  level-rank xs = level always rank order rank (λ x y _ _ r. r) xs

  -- hits that are coarser than the ranks
  module _ (hit : A → A → Bool) (coarser : (x y : A) → rank x y ≡ true → hit x y ≡ true) where
    pub level-hits : (xs : List A) (k : ℕ) → count_if (λ x. leb (count_if (hit x) xs) k) xs ≤ k
    level-hits xs = level always rank order hit (λ x y _ _. coarser x y) xs
