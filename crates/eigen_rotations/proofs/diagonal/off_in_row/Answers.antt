-- `eigen_rotations::diagonal::off_in_row` meets its contract. What is left to add from entry j on gives the whole sum.
use Rattle.lists.proofs.Base.{refl, ap, Bool, not, List, ℕ, arith, eq-eqb, ne_eqb, eqb, length, get_or, Float, nan}
use Rattle.float.specs.Floats.{◌⊗◌}
use Rattle.lists.proofs.Sums.{kept-turn, kept-pass, kept-end}
use Rattle.eigen_rotations.specs.Sweeps.{squares_but}
use Rattle.eigen_rotations.proofs.diagonal.off_in_row.Goals as goal
use Rattle.eigen_rotations.proofs.diagonal.off_in_row.Goals.{then-j-i, else-j-i}

-- what is added at j, and where
abbrev square : List Float → ℕ → Float
square r j = get_or r j nan ⊗ get_or r j nan

abbrev other : ℕ → ℕ → Bool
other i j = not (eqb j i)

pub loop-j-init : goal.loop-j-init
unfolding squares_but
loop-j-init c = (omega arith, refl)

pub loop-j-preserved : goal.loop-j-preserved
unfolding squares_but
loop-j-preserved c =
    let r = c.args.row.now in
    let i = c.args.i in
    let at = c.loop-j in (
      omega arith,
      elim c.if-j-i.branch [
        | then-j-i w ↦ kept-turn _ _ _ (length r) (other i) (omega arith) (ap not (ne_eqb _ _ w.if-j-i.true)) refl w.t-is at.invariant.1
        | else-j-i w ↦ rw w.t-is (kept-pass (square r) at.t at.j (length r) (other i) (omega arith) (ap not (eq-eqb _ _ w.if-j-i.false)) at.invariant.1)
      ],
    )

pub returns : goal.returns
unfolding squares_but
returns c = kept-end _ _ _ _ (other c.args.i) (omega arith) c.loop-j.invariant.1
