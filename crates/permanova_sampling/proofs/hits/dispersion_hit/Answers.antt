-- `permanova_sampling::hits::dispersion_hit` meets its contract. F of the observed z over the members of the groups, held against the observed.
use Rattle.lists.proofs.Base.{rules}
use Rattle.permanova_sampling.specs.inner.Drawn.{dispersion_hit}
use Rattle.permanova_sampling.proofs.hits.dispersion_hit.Goals as goal

pub anova_about-f-requires : goal.anova_about-f-requires
anova_about-f-requires c =
    let pre = c.requires in
    let lot = pre.0.labelled in
    record {
      z_len = (pre.1, lot.labels, lot.groups, pre.0.members);
      g_in_bounds = (search rules, lot.some, lot.enough, lot.few);
      grand_value = pre.2;
    }

pub returns : goal.returns
unfolding dispersion_hit
returns c = rw (c.shuffle_hit.ensures, c.anova_about-f.ensures)
