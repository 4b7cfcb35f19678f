-- Demand 3, for any list: a test that counts hits over the whole list keeps its level. Statements only.
use Rattle.std.specs.Prelude.{◌≡◌, Bool, true, ◌&&◌, ◌⊎◌, List, ℕ, ◌≤◌, leb}
use Rattle.lists.specs.Filters.{count_if}

-- `hit x y`: y is a hit where x is the observed one. Of the members of xs that are counted, at most k have k hits or fewer among all of xs, for every k.
abbrev pub KeepsLevel : {A : Type 0} → (A → Bool) → (A → A → Bool) → List A → Type 0
KeepsLevel counted hit xs = (k : ℕ) → count_if (λ x. counted x && leb (count_if (hit x) xs) k) xs ≤ k

-- `rank x y`: y ranks as high as x. Among those that are counted it is a total and transitive relation.
pub record Ranks {A : Type 0} (counted : A → Bool) (rank : A → A → Bool) : Type 0 where
  pub total : (x y : A) → counted x ≡ true → counted y ≡ true → (rank x y ≡ true) ⊎ (rank y x ≡ true)
  pub trans : (x y z : A) → counted x ≡ true → counted y ≡ true → counted z ≡ true → rank x y ≡ true → rank y z ≡ true → rank x z ≡ true
