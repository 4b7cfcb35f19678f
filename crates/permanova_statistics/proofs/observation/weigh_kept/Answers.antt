-- `permanova_statistics::observation::weigh_kept` meets its contract. Weights first, then what is made of them.
use Rattle.lists.proofs.Base.{ap, ◌∙◌, List, arith, Float}
use Rattle.permanova_sums.specs.Squares.{pair_terms, weighted_squares}
use Rattle.permanova_statistics.proofs.observation.weigh_kept.Goals as goal

pub fill_weights-requires : goal.fill_weights-requires
fill_weights-requires c =
    let pre = c.requires in
    (omega (arith, pre.weights_long, pre.samples), λ e x h. omega (arith, pre.weights_fit e, pre.places x h))

pub fill_pair_terms-requires : goal.fill_pair_terms-requires
fill_pair_terms-requires c = (c.requires.pair_terms_long, c.requires.samples, c.fill_weights.auto.w ∙ c.requires.weights_long, c.requires.distances_fit, c.requires.places)

pub fill_weighted_squares-requires : goal.fill_weighted_squares-requires
fill_weighted_squares-requires c =
    (c.requires.weighted_squares_long, c.requires.samples, c.fill_weights.auto.w ∙ c.requires.weights_long, c.requires.distances_fit, c.requires.places)

pub returns : goal.returns
returns c = (
  c.fill_weights.ensures,
  c.fill_pair_terms.ensures
      ∙ ap (λ (l : List Float). pair_terms c.args.distances.now c.args.n c.args.ks.now l c.args.m)
      c.fill_weights.ensures,
  c.fill_weighted_squares.ensures
      ∙ ap (λ (l : List Float). weighted_squares c.args.distances.now c.args.n c.args.ks.now l c.args.m)
      c.fill_weights.ensures,
)
