-- `permanova_dispersion::anova::between` meets its contract. The shares from k on, added to s, are always the whole sum.
use Rattle.lists.proofs.Base.{refl, sym, ap, ◌∙◌, List, ℕ, arith, Float}
use Rattle.float.specs.Floats.{zero⁻}
use Rattle.lists.proofs.Sums.{sum-turn, sum-end, sum-table}
use Rattle.permanova_sums.specs.PairSums.{at}
use Rattle.permanova_dispersion.specs.Anova.{share}
use Rattle.grouping.specs.inner.Parts.{part}
use Rattle.grouping.proofs.SortedParts.{part-there}
use Rattle.permanova_dispersion.proofs.anova.between.Goals as goal

pub loop-k-init : goal.loop-k-init
loop-k-init c =
    let shares : ℕ → Float = λ k. share (part c.args.groups.now.starts c.args.groups.now.members k) (at c.args.means.now k) c.args.grand in
    sym (sum-table zero⁻ c.args.g shares)

pub part-p-requires : goal.part-p-requires
part-p-requires c = part-there _ _ _ _ _ c.requires.1 c.loop-k-test.true

pub share-s-requires : goal.share-s-requires
share-s-requires c = c.part-p.ensures.few

pub loop-k-preserved : goal.loop-k-preserved
loop-k-preserved c =
    let shares : ℕ → Float = λ k. share (part c.args.groups.now.starts c.args.groups.now.members k) (at c.args.means.now k) c.args.grand in
    sum-turn shares _ _ _ (omega arith)
    (c.share-s.ensures ∙ ap (λ (p : List ℕ). share p (at c.args.means.now c.loop-k.k) c.args.grand) c.part-p.ensures.items) refl c.loop-k.invariant

pub returns : goal.returns
returns c =
    let shares : ℕ → Float = λ k. share (part c.args.groups.now.starts c.args.groups.now.members k) (at c.args.means.now k) c.args.grand in
    sum-end shares _ _ _ (omega arith) c.loop-k.invariant
