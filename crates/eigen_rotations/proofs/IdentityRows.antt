-- A row of the identity.
use Rattle.lists.proofs.Base.{◌≡◌, refl, sym, ◌∙◌, subst, Bool, true, false, cond, ℕ, ◌<◌, eqb-true, eqb-false, eqb, get_or, set}
use Rattle.lists.proofs.Base.{replicate, length-set, length-replicate, get_or-replicate, ext_get_or, get_or-set_same, get_or-set_other}
use Rattle.float.specs.Floats.{zero⁺, 1·0}
use Rattle.lists.specs.Ranges.{table}
use Rattle.lists.proofs.Ranges.{length-table, get_or-table}
use Rattle.eigen_rotations.specs.Diagonal.{unit}

-- zeros, and a 1 at place i
pub unit_row : (n i : ℕ) → i < n → set (replicate n zero⁺) i 1·0 ≡ table n (unit i)
unfolding unit
unit_row n i h =
    let long = length-set (replicate n zero⁺) i 1·0 ∙ length-replicate n zero⁺ in
    ext_get_or zero⁺ (set (replicate n zero⁺) i 1·0) (table n (unit i)) (long ∙ sym (length-table (unit i) n))
    (λ j g. at j (subst (λ (k : ℕ). j < k) long g))
  where
    by : (j : ℕ) → j < n → (b : Bool) → eqb i j ≡ b → get_or (set (replicate n zero⁺) i 1·0) j zero⁺ ≡ cond b 1·0 zero⁺
    by j g true e =
        let here : i ≡ j = eqb-true i j e in
        subst (λ (k : ℕ). get_or (set (replicate n zero⁺) i 1·0) k zero⁺ ≡ 1·0) here
        (get_or-set_same (replicate n zero⁺) i 1·0 zero⁺ (subst (λ (k : ℕ). i < k) (sym (length-replicate n zero⁺)) h))
    by j g false e = get_or-set_other (replicate n zero⁺) i j 1·0 zero⁺ (λ p. eqb-false i j e (sym p)) ∙ get_or-replicate n j zero⁺ zero⁺ g

    at : (j : ℕ) → j < n → get_or (set (replicate n zero⁺) i 1·0) j zero⁺ ≡ get_or (table n (unit i)) j zero⁺
    at j g = by j g (eqb i j) refl ∙ sym (get_or-table (unit i) n j zero⁺ g)
