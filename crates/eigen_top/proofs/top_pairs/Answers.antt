-- `eigen_top::top_pairs` meets its contract. Jacobi up to n = 64, a block above.
use Rattle.lists.proofs.Base.{ap, ◌∙◌, arith, length-take-le}
use Rattle.outcome.specs.Outcome.{Outcome}
use Rattle.eigen_ritz.specs.Ritz.{Pairs}
use Rattle.eigen_ritz.specs.inner.Given.{gives}
use Rattle.eigen_top.proofs.TopPairs.{top-few, top-many, block-fits}
use Rattle.eigen_top.proofs.top_pairs.Goals as goal

pub returns-then-n-le64 : goal.returns-then-n-le64
returns-then-n-le64 c =
    let a = c.args in
    c.by_jacobi.ensures ∙ ap (λ (o : Outcome Pairs). gives a.k a.n o a.out.now) (top-few _ _ _ c.requires.n_le_most_samples.1 c.if-n-le64.true)

pub by_block-requires : goal.by_block-requires
by_block-requires c =
    let a = c.args in
    let fits = block-fits a.k a.n c.if-n-le64.false c.requires.n_le_most_samples.2 in record {
      out_len = (
        c.requires.a_len.1,
        length-take-le _ _ (omega (arith, fits, c.requires.a_len.2)),
        length-take-le _ _ (omega (arith, fits, c.requires.a_len.3)),
        omega arith,
        c.requires.n_le_most_samples.0,
      );
      k_le_b = (omega arith, c.requires.n_le_most_samples.2, omega (arith, c.requires.n_le_most_samples.2));
    }

pub returns : goal.returns
returns c =
    let a = c.args in
    c.by_block.ensures ∙ ap (λ (o : Outcome Pairs). gives a.k a.n o a.out.now)
    (top-many _ _ _ c.requires.n_le_most_samples.1 c.if-n-le64.false (omega (arith, c.if-n-le64.false, c.requires.n_le_most_samples.2)))
