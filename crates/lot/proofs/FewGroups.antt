-- Fewer than two groups: no label that two samples have differs from another.
use Rattle.lists.proofs.Base.{◌≡◌, refl, sym, ap, ◌∙◌, subst, Bool, true, false, not, ◌&&◌, true≢false, ℕ, ◌<◌, ◌≤◌, eqb-true, eqb-false, eq-eqb}
use Rattle.lists.proofs.Base.{ne_eqb, lt-ltb, le-ltb, ltb-true, ltb-false, not-true, eqb, ltb, leb, length, get_or, List·get_or-eq-default}
use mathlib.Core.List.{List, Memᴰ as Member}
use Rattle.lists.specs.{Filters.first_at, Numbers.how_many}
use Rattle.limits.specs.Limits.{none}
use Rattle.lot.specs.Kept.{twice, group_labels, kept_labels, group_count}
use Rattle.lists.proofs.{Truths.and_both, Searches.any-missing, Searches.found-passes, Members.member-get_or, Members.any-fails}
use Rattle.lists.proofs.Upward.{upward-one, upward-two}
use Rattle.lot.proofs.GroupsAndStrata.{kept-twice, twice-kept}

module _ (labels : List ℕ) where
  -- x is a label that two samples have, and is not l
  abbrev pub other_than : ℕ → ℕ → Bool
  other_than l x = not (eqb x l) && twice labels x

  -- the first of them, or none
  abbrev pub other_label : ℕ → ℕ
  other_label l = get_or labels (first_at (other_than l) labels) none

  never-none : (x : ℕ) → twice labels x ≡ true → x ≡ none → ⊥
  unfolding twice
  never-none x t e = true≢false (sym t ∙ ap (λ (b : Bool). not b && leb 2 (how_many x labels)) (eq-eqb x none e))

  neither : (x l : ℕ) (b : Bool) → eqb x l ≡ b → twice labels x ≡ true → (not b && twice labels x) ≡ false → x ≡ l
  neither x l true e t f = eqb-true x l e
  neither x l false e t f = absurd (true≢false (sym t ∙ f))

  module _ (l : ℕ) where
    -- the search ends before the end, or at it
    found : first_at (other_than l) labels < length labels → Member (other_label l) labels × (other_label l ≡ l → ⊥) × (twice labels (other_label l) ≡ true)
    found h =
        let r = and_both (not (eqb (other_label l) l)) (twice labels (other_label l)) (found-passes (other_than l) labels none h) in
        (member-get_or labels (first_at (other_than l) labels) none h, eqb-false (other_label l) l (not-true _ r.0), r.1)

    missing : length labels ≤ first_at (other_than l) labels → (other_label l ≡ none) × ((x : ℕ) → Member x labels → twice labels x ≡ true → x ≡ l)
    missing h = (
      List·get_or-eq-default labels none h,
      λ x m t. neither x l (eqb x l) refl t (any-fails (other_than l) labels (any-missing (other_than l) labels h) x m),
    )

  two : (a b : ℕ) → Member a (kept_labels labels) → Member b (kept_labels labels) → (b ≡ a → ⊥) → ltb (group_count labels) 2 ≡ false
  unfolding group_count group_labels
  two a b m n d = le-ltb _ _ (upward-two (kept_labels labels) a b m n (λ e. d (sym e)))

  fewer : (a : ℕ) → ((x : ℕ) → Member x labels → twice labels x ≡ true → x ≡ a) → ltb (group_count labels) 2 ≡ true
  unfolding group_count group_labels
  fewer a h = lt-ltb _ _ (upward-one (kept_labels labels) a (λ z m. let r = kept-twice labels z m in h z r.1 r.0))

  -- the first kept label a, and the first other than a: there is no such label, or there are two groups
  first-kept : (a b : ℕ) (t : Bool) → ltb (first_at (other_than none) labels) (length labels) ≡ t → a ≡ other_label none → Member b labels →
      twice labels b ≡ true → Member a (kept_labels labels)
  first-kept a b true e is m t = let r = found none (ltb-true _ _ e) in subst (λ (x : ℕ). Member x (kept_labels labels)) (sym is) (twice-kept labels (other_label none) r.2 r.0)
  first-kept a b false e is m t = absurd (never-none b t ((missing none (ltb-false _ _ e)).1 b m t))

  few-cases : (a : ℕ) (t : Bool) → ltb (first_at (other_than a) labels) (length labels) ≡ t → a ≡ other_label none → eqb (other_label a) none ≡ ltb (group_count labels) 2
  few-cases a true e is =
      let r = found a (ltb-true _ _ e) in
      let b = other_label a in
      let k = first-kept a b (ltb (first_at (other_than none) labels) (length labels)) refl is r.0 r.2 in
      ne_eqb b none (never-none b r.2) ∙ sym (two a b k (twice-kept labels b r.2 r.0) r.1)
  few-cases a false e is = let r = missing a (ltb-false _ _ e) in eq-eqb (other_label a) none r.0 ∙ sym (fewer a r.1)

  pub few-labels : eqb (other_label (other_label none)) none ≡ ltb (group_count labels) 2
  few-labels = few-cases (other_label none) (ltb (first_at (other_than (other_label none)) labels) (length labels)) refl refl
