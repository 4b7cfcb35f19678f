-- Members that pass a test, by their places: the labels of the kept samples are the labels that pass.
use Rattle.lists.proofs.Base.{◌≡◌, refl, sym, ap, ap₂, ◌∙◌, Bool, true, false, cond, true≢false, List, [], ◌∷◌, map, ℕ, suc, ◌+◌, ◌-◌, arith, length, get_or, drop}
use native.Mathlib.Nat.{sub-zero}
use Rattle.lists.specs.{Ranges.up_from, Ranges.range, Filters.filter}
use Rattle.limits.specs.Limits.{none}
use Rattle.lot.specs.Kept.{twice, kept, gathered, kept_labels}

-- the entries of ks at the places where ls passes p
unfoldable pub picks : (ℕ → Bool) → List ℕ → List ℕ → List ℕ
picks p [] ks = []
picks p (l ∷ ls) ks = let rest = picks p ls (drop 1 ks) in cond (p l) (get_or ks 0 none ∷ rest) rest

get_or-drop-1 : (ks : List ℕ) (i : ℕ) → get_or (drop 1 ks) i none ≡ get_or ks (suc i) none
get_or-drop-1 [] i = refl
get_or-drop-1 (k ∷ ks) i = refl

picks-step : (at' : ℕ → ℕ) (a b : Bool) (lo k : ℕ) (is rest : List ℕ) → a ≡ b → at' lo ≡ k → map at' is ≡ rest
    → map at' (cond a (lo ∷ is) is) ≡ cond b (k ∷ rest) rest
picks-step at' true true lo k is rest e f r = ap₂ ◌∷◌ f r
picks-step at' true false lo k is rest e f r = absurd (true≢false e)
picks-step at' false true lo k is rest e f r = absurd (true≢false (sym e))
picks-step at' false false lo k is rest e f r = r

picks-shifted : (p : ℕ → Bool) (at at' : ℕ → ℕ) (lo : ℕ) (ls ks : List ℕ) → ((i : ℕ) → at (lo + i) ≡ get_or ls i none) → ((i : ℕ) → at' (lo + i) ≡ get_or ks i none)
    → map at' (filter (λ i. p (at i)) (up_from lo (length ls))) ≡ picks p ls ks
unfolding up_from filter picks
picks-shifted p at at' lo [] ks h h' = refl
picks-shifted p at at' lo (l ∷ ls) ks h h' =
    let more : (i : ℕ) → suc lo + i ≡ lo + suc i = λ i. omega arith in
    let none_yet : lo ≡ lo + 0 = omega arith in
    picks-step at' (p (at lo)) (p l) lo (get_or ks 0 none) _ _ (ap p (ap at none_yet ∙ h 0)) (ap at' none_yet ∙ h' 0)
    (picks-shifted p at at' (suc lo) ls (drop 1 ks) (λ i. ap at (more i) ∙ h (suc i)) (λ i. ap at' (more i) ∙ h' (suc i) ∙ sym (get_or-drop-1 ks i)))

-- what stands in ks at the places kept of ls
pub picks-places : (p : ℕ → Bool) (ls ks : List ℕ) → map (λ i. get_or ks i none) (filter (λ i. p (get_or ls i none)) (range 0 (length ls))) ≡ picks p ls ks
unfolding range
picks-places p ls ks =
    let whole : length ls - 0 ≡ length ls = sub-zero (length ls) in
    let plain : (i : ℕ) → 0 + i ≡ i = λ i. omega arith in
    ap (λ (n : ℕ). map (λ i. get_or ks i none) (filter (λ i. p (get_or ls i none)) (up_from 0 n))) whole
    ∙ picks-shifted p (λ i. get_or ls i none) (λ i. get_or ks i none) 0 ls ks (λ i. ap (λ (k : ℕ). get_or ls k none) (plain i)) (λ i. ap (λ (k : ℕ). get_or ks k none) (plain i))

picks-self : (p : ℕ → Bool) (ls : List ℕ) → picks p ls ls ≡ filter p ls
unfolding picks filter
picks-self p [] = refl
picks-self p (l ∷ ls) = ap (λ (rest : List ℕ). cond (p l) (l ∷ rest) rest) (picks-self p ls)

-- the labels of the kept samples are the labels that two samples have
pub kept-labels : (labels : List ℕ) → kept_labels labels ≡ filter (twice labels) labels
unfolding kept_labels gathered kept
kept-labels labels = picks-places (twice labels) labels labels ∙ picks-self (twice labels) labels
