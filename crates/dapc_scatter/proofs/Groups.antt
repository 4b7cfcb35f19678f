-- What a sample's group number j tells of the tests by which samples are picked.
use Rattle.lists.proofs.Base.{◌≡◌, sym, ap, subst, ◌∙◌, true, false, not, List, ℕ, ◌<◌, ◌≤◌, arith, eq-eqb, ne_eqb, eqb-true, length, get_or}
use Rattle.std.specs.Prelude.{MatchOption, is_some}
use Rattle.std.specs.declared.option.Option.{Option}
use Rattle.std.specs.declared.option.Option.TheVariants.{None, Some}
use Rattle.lists.specs.Numbers.{in_group}
use Rattle.limits.specs.Limits.{none}
use Rattle.dapc_scatter.specs.inner.Means.{Numbered}

-- what is told of a sample's group, by whether there is one
module _ (N : Type 0) (P : ℕ → Type 0) (r : Option ℕ) (m : MatchOption r N P) where
  pub group-some : {Q : Type 0} → ((j : ℕ) → P j → Q) → is_some r ≡ true → Q
  group-some {Q} f e = by r m e
    where
      by : (r : Option ℕ) → MatchOption r N P → is_some r ≡ true → Q
      by None m e = cc
      by (Some j) m e = f j m

  pub group-none : is_some r ≡ false → N
  group-none e = by r m e
    where
      by : (r : Option ℕ) → MatchOption r N P → is_some r ≡ false → N
      by None m e = m
      by (Some j) m e = cc

module _ (groups : List ℕ) (i : ℕ) {j : ℕ} (e : j ≡ get_or groups i 0) where
  pub has-group : (j ≡ none → ⊥) → not (in_group groups none i) ≡ true
  has-group ne = ap not (ne_eqb (get_or groups i 0) none (λ q. ne (e ∙ q)))

  pub has-none : j ≡ none → not (in_group groups none i) ≡ false
  has-none q = ap not (eq-eqb (get_or groups i 0) none (sym e ∙ q))

  pub is-numbered : (g : ℕ) → Numbered g groups → i < length groups → (j ≡ none → ⊥) → j < g
  is-numbered g each h ne = subst (λ (t : ℕ). t < g) (sym e) (each i h (λ q. ne (e ∙ q)))

  pub in-own : in_group groups j i ≡ true
  in-own = eq-eqb (get_or groups i 0) j (sym e)

  pub in_one : (k : ℕ) → in_group groups k i ≡ true → k ≡ j
  in_one k t = sym (e ∙ eqb-true (get_or groups i 0) k t)

  -- a sample of no group is in none of the g
  pub in-none : (g : ℕ) → g ≤ none → j ≡ none → (k : ℕ) → k < g → in_group groups k i ≡ false
  in-none g small q k h = ne_eqb (get_or groups i 0) k (λ s. omega arith)
