-- `dapc_scores::score_row` meets its contract. After a turns the first a scores stand there.
use Rattle.lists.proofs.Base.{get_or, nan}
use Rattle.float.specs.Floats.{◌⊗◌, zero⁻}
use Rattle.lists.specs.{Ranges.table, Sums.sum_from, Rows.entry}
use Rattle.lists.proofs.{Writes.Writing}
use Rattle.dapc_scores.proofs.score_row.Given as goal

abbrev pub invariant-loop-a : goal.invariant-loop-a
invariant-loop-a l = Writing (λ k. sum_from zero⁻ (table l.p (λ i. get_or l.d i nan ⊗ entry l.p l.vs k i))) l.initial.row l.row l.a
