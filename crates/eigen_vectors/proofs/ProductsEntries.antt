-- A product written four entries at a time, and then entry after entry.
use Rattle.lists.proofs.Base.{◌≡◌, refl, sym, ap, ◌∙◌, subst, List, [], ◌∷◌, ◌++◌, append_assoc, ℕ, zero, suc, ◌+◌, ◌-◌, ◌≤◌, add-zero, arith, length, set, put_mid}
use Rattle.lists.specs.{Ranges.table, Loops.in_turn, Loops.from_to, Writes.over}
use Rattle.lists.proofs.{Ranges.table-last, Ranges.length-table, Writes.Writing, Writes.writing-next, Writes.length_over, Writes.over-part}

-- entries i to r - 1 written by a rule

module _ {A : Type 0} (f : ℕ → A) where
  abbrev pub write : ℕ → List A → List A
  write k l = set l k (f k)

  -- four entries at once
  pub writing-four : (old : List A) {l r : List A} {i j : ℕ} → Writing f old l i → i + 4 ≡ j → j ≤ length old → r ≡ f i ∷ f (i + 1) ∷ f (i + 2) ∷ f (i + 3) ∷ []
      → Writing f old (put_mid i (i + 4 - i) l r) j
  writing-four old {l} {r} {i} {j} w n h e =
      let four : i + 4 - i ≡ 4 = omega arith in
      let t₁ : table (i + 1) f ≡ table i f ++ (f i ∷ []) = table-last f i in
      let t₂ : table (i + 2) f ≡ table i f ++ (f i ∷ f (i + 1) ∷ []) = one-more i (i + 1) (i + 2) (f i ∷ []) (omega arith) t₁ in
      let t₃ : table (i + 3) f ≡ table i f ++ (f i ∷ f (i + 1) ∷ f (i + 2) ∷ []) = one-more i (i + 2) (i + 3) (f i ∷ f (i + 1) ∷ []) (omega arith) t₂ in
      let t₄ : table (i + 4) f ≡ table i f ++ (f i ∷ f (i + 1) ∷ f (i + 2) ∷ f (i + 3) ∷ []) = one-more i (i + 3) (i + 4) (f i ∷ f (i + 1) ∷ f (i + 2) ∷ []) (omega arith) t₃ in
      let held : put_mid i (i + 4 - i) l r ≡ over (table (i + 4) f) old =
      rw four (over-part (table i f) old w.held (length-table f i) e refl (omega arith) ∙ ap (λ (t : List A). over t old) (sym t₄)) in
      let len = length-table f (i + 4) in
      subst (λ (k : ℕ). Writing f old (put_mid i (i + 4 - i) l r) k) n
      (record { most = omega arith; long = ap length held ∙ length_over (table (i + 4) f) old (omega arith); held = held })
    where
      one-more : (i j k : ℕ) (xs : List A) → j + 1 ≡ k → table j f ≡ table i f ++ xs → table k f ≡ table i f ++ (xs ++ (f j ∷ []))
      one-more i j k xs e g =
          ap (λ (m : ℕ). table m f) (sym e) ∙ table-last f j ∙ ap (λ (t : List A). t ++ (f j ∷ [])) g ∙ append_assoc (table i f) xs (f j ∷ [])

  -- a loop that writes all entries has written those below r
  turns : (old l : List A) (i d : ℕ) → Writing f old l i → i + d ≤ length old → Writing f old (in_turn (λ j. write (i + j)) d l) (i + d)
  unfolding in_turn
  turns old l i zero w h = subst (λ (k : ℕ). Writing f old l k) (sym (add-zero i)) w
  turns old l i (suc d) w h =
      let next : i + d + 1 ≡ i + suc d = omega arith in
      subst (λ (k : ℕ). Writing f old (set (in_turn (λ j. write (i + j)) d l) (i + d) (f (i + d))) k) next
      (writing-next f old (turns old l i d w (omega arith)) (omega arith) refl)

  pub writing-from : (old : List A) {l l' : List A} {i j r : ℕ} → Writing f old l i → i ≡ j → j ≤ r → r ≤ length old → l' ≡ from_to write j r l
      → Writing f old l' r
  unfolding from_to
  writing-from old {l} {l'} {i} {j} {r} w here h g e =
      let end : j + (r - j) ≡ r = omega arith in
      let w' = subst (λ (k : ℕ). Writing f old l k) here w in
      subst (λ (k : ℕ). Writing f old l' k) end (subst (λ (t : List A). Writing f old t (j + (r - j))) (sym e) (turns old l j (r - j) w' (omega arith)))
