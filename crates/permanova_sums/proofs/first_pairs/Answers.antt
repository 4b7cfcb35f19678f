-- `permanova_sums::first_pairs` meets its contract. s is always the sum over the rows before x.
use Rattle.lists.proofs.Base.{◌≡◌, ap, ◌∙◌, ℕ, arith}
use Rattle.float.specs.Floats.{zero⁺}
use Rattle.lists.specs.{Ranges.rows, Sums.sum_from}
use Rattle.lists.proofs.Sums.{sum-rows-none, sum-rows-next}
use Rattle.permanova_sums.specs.inner.PairSums.{later_pair_terms}
use Rattle.permanova_sums.proofs.first_pairs.Goals as goal

pub loop-x-init : goal.loop-x-init
loop-x-init c = (omega arith, sum-rows-none zero⁺ _)

pub loop-x-preserved : goal.loop-x-preserved
loop-x-preserved c = (omega arith, sum-rows-next zero⁺ _ _ c.loop-x.invariant.1 c.pairs_with-s.ensures)

pub returns : goal.returns
returns c =
    let args = c.args in
    let loop = c.loop-x in
    let all : loop.x ≡ args.n = omega arith in
    loop.invariant.1 ∙ ap (λ (k : ℕ). sum_from zero⁺ (rows k (later_pair_terms args.t.now args.m args.mem.now))) all
