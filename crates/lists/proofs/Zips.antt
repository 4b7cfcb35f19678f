-- Two lists of one length, entry by entry.
use Rattle.lists.proofs.Base.{◌≡◌, refl, sym, ap, ◌∙◌, subst, ℕ, zero, suc, ◌<◌, length, get_or, ext_get_or}
use mathlib.Core.List.{List, [], ◌∷◌, zip_with}
use native.Mathlib.Nat.{not-suc-le-zero, le_of_suc-le-suc, suc_inj}
use Rattle.lists.specs.Ranges.{table}
use Rattle.lists.proofs.Ranges.{length-table, get_or-table}

module _ {A B C : Type 0} (f : A → B → C) where
  pub length-zip_with : (xs : List A) (ys : List B) → length xs ≡ length ys → length (zip_with f xs ys) ≡ length xs
  unfolding zip_with
  length-zip_with [] ys e = refl
  length-zip_with (x ∷ xs) [] e = sym e
  length-zip_with (x ∷ xs) (y ∷ ys) e = ap suc (length-zip_with xs ys (suc_inj e))

  pub get_or-zip_with : (xs : List A) (ys : List B) (i : ℕ) (a : A) (b : B) (c : C) → i < length xs → i < length ys
      → get_or (zip_with f xs ys) i c ≡ f (get_or xs i a) (get_or ys i b)
  unfolding zip_with
  get_or-zip_with [] ys i a b c h g = absurd (not-suc-le-zero h)
  get_or-zip_with (x ∷ xs) [] i a b c h g = absurd (not-suc-le-zero g)
  get_or-zip_with (x ∷ xs) (y ∷ ys) zero a b c h g = refl
  get_or-zip_with (x ∷ xs) (y ∷ ys) (suc i) a b c h g = get_or-zip_with xs ys i a b c (le_of_suc-le-suc h) (le_of_suc-le-suc g)

  pub zip-table : (xs : List A) (ys : List B) (a : A) (b : B) → length xs ≡ length ys → table (length xs) (λ i. f (get_or xs i a) (get_or ys i b)) ≡ zip_with f xs ys
  zip-table xs ys a b e =
      let len = length-table (λ i. f (get_or xs i a) (get_or ys i b)) (length xs) in
      ext_get_or (f a b) (table (length xs) (λ i. f (get_or xs i a) (get_or ys i b))) (zip_with f xs ys) (len ∙ sym (length-zip_with xs ys e))
      (λ i h. at i (subst (λ (n : ℕ). i < n) len h))
    where
      at : (i : ℕ) → i < length xs → get_or (table (length xs) (λ i. f (get_or xs i a) (get_or ys i b))) i (f a b) ≡ get_or (zip_with f xs ys) i (f a b)
      at i h = get_or-table (λ i. f (get_or xs i a) (get_or ys i b)) (length xs) i (f a b) h
          ∙ sym (get_or-zip_with xs ys i a b (f a b) h (subst (λ (n : ℕ). i < n) e h))
