-- A branch by a test, as a definition by cases has it.
use Rattle.lists.proofs.Base.{◌≡◌, sym, ap, ◌∙◌, Bool, true, false, cond}

module _ {A : Type 0} (x y : A) {b t : Bool} {r : A} (same : b ≡ t) where
  pub by-yes : t ≡ true → r ≡ x → r ≡ cond b x y
  by-yes h e = e ∙ sym (ap (λ (c : Bool). cond c x y) (same ∙ h))

  pub by-no : t ≡ false → r ≡ y → r ≡ cond b x y
  by-no h e = e ∙ sym (ap (λ (c : Bool). cond c x y) (same ∙ h))
