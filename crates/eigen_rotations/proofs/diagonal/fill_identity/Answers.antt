-- `eigen_rotations::diagonal::fill_identity` meets its contract. Each row by the closure's rule.
use Rattle.lists.proofs.Base.{◌≡◌, ap, ◌∙◌, ℕ, length, rules}
use Rattle.lists.specs.{Ranges.table, Ranges.grid}
use Rattle.lists.proofs.Ranges.{length-table}
use Rattle.eigen_rotations.specs.Diagonal.{unit, identity}
use Rattle.eigen_rotations.proofs.diagonal.fill_identity.Goals as goal

pub returns : goal.returns
unfolding identity grid
returns c =
    let n = c.args.n in
    c.fill_rows.ensures (λ i. table n (unit i)) (λ i. length-table (unit i) n)
    (λ i row filled h long gives. let e : filled.now ≡ table (length row.now) (unit i) = search rules in e ∙ ap (λ (k : ℕ). table k (unit i)) long)
