-- `permanova_statistics::observation::disperse` meets its contract. The values' distances, and their F; 256 samples have room.
use Rattle.lists.proofs.Base.{◌∙◌, arith}
use Rattle.permanova_statistics.proofs.ObservedLots.{spread-is}
use Rattle.permanova_statistics.proofs.observation.disperse.Goals as goal

pub fill_z-negative-requires : goal.fill_z-negative-requires
fill_z-negative-requires c =
    let p = c.requires in
    let l = p.labelled in
    record {
      weighted_squares_len = (l.weighted_squares, l.pair_terms, l.weights, l.labels, l.groups);
      grouped = (p.grouped, omega (arith, l.enough, l.few), omega (arith, l.enough, l.few), p.z_long);
    }

pub anova_f-f-requires : goal.anova_f-f-requires
anova_f-f-requires c =
    let p = c.requires in
    let l = p.labelled in
    record {
      z_len = (c.fill_z-negative.auto.z ∙ p.z_long, l.labels, l.groups, p.grouped);
      g_in_bounds = (omega (arith, l.enough, l.few), l.some, l.enough, l.few);
    }

pub returns : goal.returns
returns c =
    let told = c.fill_z-negative.ensures in
    let a = c.args in
    (spread-is a.p.now a.t.now a.w.now a.gs.now a.m a.g c.anova_f-f.ensures told.1 told.0, told.1)
