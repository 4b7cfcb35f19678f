-- The mean of a matrix t and its transpose, pair by pair, row by row. The invariant `Evening`: of the pairs r < c those with r * p + c below b are done.
use Rattle.lists.proofs.Base.{◌≡◌, refl, sym, ap, ap₂, subst, ◌∙◌, Bool, cond, List, ℕ, ◌+◌, ◌*◌, ◌<◌, ◌≤◌, min, max}
use Rattle.lists.proofs.Base.{ℕ_discrete, dec_lt, arith, eq-eqb, ne_eqb, eqb, length, set, length-set, Float}
use native.Mathlib.Nat.{min-eq_left, min-eq_right, max-eq_left, max-eq_right}
use Rattle.float.specs.Floats.{◌⊕◌, ◌⊘◌, 2·0}
use Rattle.lists.specs.{Loops.in_turn, Loops.from_to, Rows.entry}
use Rattle.lists.proofs.{Rows.row-end, Rows.cell_below, Loops.in_turn-carries, Loops.from_to-carries}
use Rattle.eigen_matrix.specs.Symmetric.{symmetrised}
use Rattle.eigen_matrix.specs.inner.Symmetric.{evened, evened_row}
use Rattle.lists.proofs.Grids.{grid-of, entry_set, entry_set_other}

module _ (p : ℕ) (t : List Float) where
  mean : ℕ → ℕ → Float
  mean r c = (entry p t r c ⊕ entry p t c r) ⊘ 2·0

  record Evening (b : ℕ) (m : List Float) : Type 0 where
    long : length m ≡ p * p
    diagonal : (r : ℕ) → r < p → entry p m r r ≡ entry p t r r
    done : (r c : ℕ) → r < c → c < p → r * p + c < b → (entry p m r c ≡ mean r c) × (entry p m c r ≡ mean r c)
    rest : (r c : ℕ) → r < c → c < p → b ≤ r * p + c → (entry p m r c ≡ entry p t r c) × (entry p m c r ≡ entry p t c r)

  evening-next : (i j : ℕ) (m : List Float) → i < j → j < p → Evening (i * p + j) m → Evening (i * p + (j + 1)) (evened p i j m)
  unfolding evened mean
  evening-next i j m h g e =
      let v = (entry p m i j ⊕ entry p m j i) ⊘ 2·0 in
      let m' = set m (i * p + j) v in
      let m'' = set m' (j * p + i) v in
      let here = e.rest i j h g (omega arith) in
      let is : v ≡ mean i j = ap₂ (λ (x y : Float). (x ⊕ y) ⊘ 2·0) here.0 here.1 in
      let wide : i < p = omega arith in
      let len : length m' ≡ p * p = length-set m (i * p + j) v ∙ e.long in
      let other : (r c : ℕ) → c < p → (r ≡ i → c ≡ j → ⊥) → (r ≡ j → c ≡ i → ⊥) → entry p m'' r c ≡ entry p m r c =
      λ r c y ne ne'. entry_set_other p j i m' v wide r c y ne' ∙ entry_set_other p i j m v g r c y ne in let upper : entry p m'' i j ≡ v =
      entry_set_other p j i m' v wide i j g (λ s _. omega arith) ∙ entry_set p i j m v (omega (arith, cell_below p p i j wide g, e.long)) in
      let lower : entry p m'' j i ≡ v = entry_set p j i m' v (omega (arith, cell_below p p j i g wide)) in
      record {
        long = length-set m' (j * p + i) v ∙ len;
        diagonal = λ r y. other r r y (λ s q. omega arith) (λ s q. omega arith) ∙ e.diagonal r y;
        done = λ r c y z below. elim (ℕ_discrete r i) [
          | yes s ↦ elim (ℕ_discrete c j) [
            | yes q ↦ (ap₂ (entry p m'') s q ∙ upper ∙ is ∙ sym (ap₂ mean s q), ap₂ (entry p m'') q s ∙ lower ∙ is ∙ sym (ap₂ mean s q))
            | no nq ↦ let before : r * p + c < i * p + j = omega (arith, ap (λ (k : ℕ). k * p) s) in
                let d = e.done r c y z before in
                (other r c z (λ _ q. nq q) (λ q _. omega arith) ∙ d.0, other c r (omega arith) (λ q _. omega arith) (λ q _. nq q) ∙ d.1)
          ]
          | no ns ↦
              let above : r < i = elim (dec_lt r i) [ yes w ↦ w | no nw ↦ (let past : i < r = omega arith in absurd (omega (arith, row-end p i r past))) ] in
              let d = e.done r c y z (omega (arith, row-end p r i above)) in
              (other r c z (λ s _. ns s) (λ q _. omega arith) ∙ d.0, other c r (omega arith) (λ _ q. omega arith) (λ _ q. ns q) ∙ d.1)
        ];
        rest = λ r c y z past. let d = e.rest r c y z (omega arith) in
            let apart : r ≡ i → c ≡ j → ⊥ = λ s q. omega (arith, ap (λ (k : ℕ). k * p) s) in
            (other r c z apart (λ s q. omega arith) ∙ d.0, other c r (omega arith) (λ s q. omega arith) (λ q s. apart s q) ∙ d.1);
      }

  -- from the end of a row to the first pair of the next there is none
  evening-skip : (b b' : ℕ) (m : List Float) → b ≤ b' → ((r c : ℕ) → r < c → c < p → r * p + c < b' → r * p + c < b) → Evening b m → Evening b' m
  evening-skip b b' m h none e = record {
    long = e.long;
    diagonal = e.diagonal;
    done = λ r c y z below. e.done r c y z (none r c y z below);
    rest = λ r c y z past. e.rest r c y z (omega arith);
  }

  evening-row : (i : ℕ) (m : List Float) → i < p → Evening (i * p) m → Evening ((i + 1) * p) (evened_row p i m)
  unfolding evened_row
  evening-row i m h e =
      let first : Evening (i * p + (i + 1)) m = evening-skip (i * p) (i * p + (i + 1)) m (omega arith) none e in
      let whole : i * p + p ≡ (i + 1) * p = omega arith in
      subst (λ (b : ℕ). Evening b (from_to (evened p i) (i + 1) p m)) whole
      (from_to-carries (λ j. Evening (i * p + j)) (evened p i) (i + 1) p m (omega arith) first (λ j a y z. evening-next i j a (omega arith) z))
    where
      none : (r c : ℕ) → r < c → c < p → r * p + c < i * p + (i + 1) → r * p + c < i * p
      none r c y z below = elim (dec_lt r i) [
        | yes w ↦ omega (arith, row-end p r i w)
        | no nw ↦ elim (ℕ_discrete r i) [ yes s ↦ omega (arith, ap (λ (k : ℕ). k * p) s) | no ns ↦ (let past : i < r = omega arith in omega (arith, row-end p i r past)) ]
      ]

  cell : (b : Bool) → ℕ → ℕ → Float
  cell b r c = cond b (entry p t r c) ((entry p t (min r c) (max r c) ⊕ entry p t (max r c) (min r c)) ⊘ 2·0)

  evening-all : (m : List Float) → Evening (p * p) m → m ≡ symmetrised p t
  unfolding symmetrised mean cell
  evening-all m e = grid-of p p (λ r c. cell (eqb r c) r c) m each e.long
    where
      each : (r c : ℕ) → r < p → c < p → entry p m r c ≡ cell (eqb r c) r c
      each r c y z =
          let off : ℕ → ℕ → Float = λ i j. (entry p t i j ⊕ entry p t j i) ⊘ 2·0 in
          elim (ℕ_discrete r c) [
            | yes s ↦ ap (entry p m r) (sym s) ∙ e.diagonal r y ∙ ap (entry p t r) s ∙ ap (λ (b : Bool). cell b r c) (sym (eq-eqb r c s))
            | no ns ↦ elim (dec_lt r c) [
              | yes w ↦ (e.done r c w z (cell_below p p r c y z)).0 ∙ ap₂ off (sym (min-eq_left (omega arith))) (sym (max-eq_right (omega arith)))
                  ∙ ap (λ (b : Bool). cell b r c) (sym (ne_eqb r c ns))
              | no nw ↦ (e.done c r (omega arith) y (cell_below p p c r z y)).1
                  ∙ ap₂ off (sym (min-eq_right (omega arith))) (sym (max-eq_left (omega arith)))
                  ∙ ap (λ (b : Bool). cell b r c) (sym (ne_eqb r c ns))
            ]
          ]

  pub evened-all : length t ≡ p * p → in_turn (evened_row p) p t ≡ symmetrised p t
  evened-all len = evening-all (in_turn (evened_row p) p t) (in_turn-carries (λ i. Evening (i * p)) (evened_row p) p t
      (record { long = len; diagonal = λ r _. refl; done = λ r c _ _ below. absurd (omega arith); rest = λ r c _ _ _. (refl, refl) })
      (λ i m h. evening-row i m h))
