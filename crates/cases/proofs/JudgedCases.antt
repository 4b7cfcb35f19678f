-- Judged samples of the trade: every case of the list computes what document 01 expects.
use Rattle.lists.proofs.Base.{ap, [], ◌∷◌, arith, get_or, replicate}
use lib.Ieee.{add, sub, mul, div, neg, of_bits, to_bits, of_int, odd, size}
use Rattle.float.specs.Floats.{zero⁺, 2·0, bits}
use Rattle.square_root.proofs.Cases.{root-of-smallest, root-of-two}
use Rattle.lists.specs.{Ranges.up_from, Ranges.table, Ranges.rows, Ranges.grid, Filters.filter, Filters.count_if, Filters.any}
use Rattle.lists.specs.{Numbers.how_many, Numbers.contains, Numbers.insert_up, Numbers.upward, Sums.sum_from, Writes.over, Writes.cleared}
use Rattle.ordination_hashes.specs.Selected.{selected, frequency}
use Rattle.ordination_sets.specs.Sets.{set_at, sets}
use Rattle.permanova.proofs.Cases.{case-c-total, case-c-within}
use Rattle.exhaustive_ways.proofs.Cases as ways
use Rattle.ordination_gram.specs.Gram.{mean_sum, shared, gram}
use Rattle.ordination_gram.proofs.Cases.{case-j-call}
use Rattle.eigen_jacobi.proofs.Cases.{diagonal-1-3}
use Rattle.cases.specs.Cases.{gram_numbers, jacobi_numbers, Holds, j-gram, k-values, cases, Hold}
use Rattle.cases.proofs.TestCalls as test
use Rattle.cases.proofs.ExhaustiveCalls as every
use Rattle.cases.proofs.DapcCalls as dapc

-- (j) the call of `gram_matrix`
case-j : Holds j-gram
unfolding over cleared add sub mul div neg of_bits to_bits of_int odd size up_from table rows grid filter count_if any how_many contains insert_up upward
    sum_from set_at sets selected frequency mean_sum shared gram
case-j = ap gram_numbers (case-j-call (replicate 17 2·0) (replicate 64 7) (omega arith) (omega arith))

-- (k) the call of `jacobi_eigen`
case-k : Holds k-values
unfolding of_bits to_bits
case-k = ap jacobi_numbers diagonal-1-3

-- one after the other
infixr 20 ◌also◌
abbrev ◌also◌ : {A B : Type 0} → A → B → A × B
a also b = (a, b)

pub judged : Hold cases
judged = ap (λ x. bits x ∷ []) root-of-smallest also ap (λ n. n ∷ []) root-of-two also ap (λ x. bits x ∷ []) case-c-total also ap (λ x. bits x ∷ [])
    case-c-within also test.case-c also every.case-d also every.case-e also test.case-f also every.case-f also every.case-g also test.case-h also
    every.case-h also every.case-i-eight also (λ i. get_or (ways.cases (replicate 324 zero⁺) i) 3 0 ∷ []) also every.case-i-nine also case-j also case-k
    also dapc.case-l-nine also dapc.case-l-passes also tt
