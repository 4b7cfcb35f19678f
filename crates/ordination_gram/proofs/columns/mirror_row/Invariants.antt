-- `ordination_gram::columns::mirror_row` meets its contract: the loop is the one that the contract names.
use Rattle.lists.proofs.Base.{◌≡◌, ◌+◌, ◌-◌, ◌*◌, ◌≤◌, length, get_or, set, nan}
use Rattle.lists.specs.Loops.{in_turn}
use Rattle.ordination_gram.proofs.columns.mirror_row.Given as goal

abbrev pub invariant-loop-j : goal.invariant-loop-j
invariant-loop-j l = (l.j ≤ l.i) × (length l.out ≡ length l.initial.out)
    × (l.out ≡ in_turn (λ k m. set m (l.i * l.n + k) (get_or m (k * l.n + l.i) nan)) l.j l.initial.out)

abbrev pub decreases-loop-j : goal.decreases-loop-j
decreases-loop-j l = l.i - l.j
