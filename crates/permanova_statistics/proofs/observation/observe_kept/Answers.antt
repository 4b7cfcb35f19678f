-- `permanova_statistics::observation::observe_kept` meets its contract. Location, dispersion and what is listed, over one grouping; 256 samples have room.
use Rattle.lists.proofs.Base.{ap, ap₂, ◌∙◌, subst, List, ℕ, arith, Float}
use Rattle.lists.specs.Writes.{over}
use Rattle.grouping.specs.inner.Parts.{Grouped}
use Rattle.permanova_dispersion.specs.Anova.{mean_z}
use Rattle.permanova_statistics.specs.declared.observation.{Located.Located, Spread.Spread}
use Rattle.permanova_statistics.specs.inner.Observed.{observed}
use Rattle.permanova_statistics.proofs.observation.observe_kept.Goals as goal
use Rattle.permanova_statistics.proofs.observation.observe_kept.Goals.{After-sort}

pub sort-requires : goal.sort-requires
sort-requires c = let l = c.requires.labelled in (omega (arith, l.labels, l.few), omega (arith, l.enough, l.few))

-- the groups are those of the m labels
grouped : (c : After-sort) → Grouped c.args.gs.now c.args.m c.args.g c.sort.new.self.starts c.sort.new.self.members
grouped c = subst (λ (m : ℕ). Grouped c.args.gs.now m c.args.g c.sort.new.self.starts c.sort.new.self.members) c.requires.labelled.labels c.sort.ensures

pub locate-l-requires : goal.locate-l-requires
locate-l-requires c =
    let l = c.requires.labelled in
    record { pair_terms = l.pair_terms; weights = l.weights; parts = (grouped (goal.at.locate-l-requires c).After-sort).parts; some = l.some; enough = l.enough; few = l.few }

pub disperse-s-requires : goal.disperse-s-requires
disperse-s-requires c = let p = c.requires in record { labelled = p.labelled; grouped = grouped (goal.at.disperse-s-requires c).After-sort; z_long = p.z_long }

pub list_groups-requires : goal.list_groups-requires
list_groups-requires c =
    let p = c.requires in
    record { z_long = c.disperse-s.auto.z ∙ p.z_long; parts = (grouped (goal.at.list_groups-requires c).After-sort).parts; counts_room = p.counts_room; means_room = p.means_room }

pub returns : goal.returns
unfolding observed
returns c =
    let a = c.args in
    let groups = grouped (goal.at.returns c).After-sort in
    let listed = c.list_groups.ensures a.gs.now groups in (
      ap₂ (λ (l : Located) (d : Spread). record { total = l.total; f = l.f; r2 = l.r2; disp_f = d.f; negative = d.negative })
          (c.locate-l.ensures a.gs.now groups) c.disperse-s.ensures.0,
      c.disperse-s.ensures.1,
      listed.0,
      listed.1 ∙ ap (λ (l : List Float). over (mean_z l a.gs.now a.m a.g) a.means.now) c.disperse-s.ensures.1,
    )
