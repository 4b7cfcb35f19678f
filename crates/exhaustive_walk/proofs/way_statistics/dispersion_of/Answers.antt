-- `exhaustive_walk::way_statistics::dispersion_of` meets its contract. The values' distances, and their F.
use Rattle.lists.proofs.Base.{arith, length}
use Rattle.exhaustive_walk.proofs.WayStatisticsCases.{dispersion-is}
use Rattle.exhaustive_walk.proofs.way_statistics.dispersion_of.Goals as goal

pub fill_z-requires : goal.fill_z-requires
fill_z-requires c =
    let over = c.args.b.prepared.weighed in
    let most = c.args.b.prepared.placing.framed.most in
    record {
      weighted_squares_len = (over.weighted_squares, over.pair_terms, over.weights, c.requires.way.0, c.requires.way.1);
      grouped = (c.requires.grouped.0, omega arith, omega arith, c.requires.grouped.1);
    }

pub anova_f-requires : goal.anova_f-requires
anova_f-requires c =
    let framed = c.args.b.prepared.placing.framed in
    record {
      z_len = (omega (arith, c.fill_z.auto.z, c.requires.grouped.1), c.requires.way.0, c.requires.way.1, c.requires.grouped.0);
      g_in_bounds = (omega (arith, c.fill_z.auto.gw, framed.most), omega (arith, framed.two), framed.enough, framed.kept);
    }

pub returns : goal.returns
returns c =
    let b = c.args.b in
    dispersion-is b.frame (length b.samples.now) b.pair_terms.now b.weighted_squares.now b.weights.now c.args.way.now c.statistic_of.ensures c.anova_f.ensures c.fill_z.ensures.1
