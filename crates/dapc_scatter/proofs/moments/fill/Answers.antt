-- `dapc_scatter::moments::fill` meets its contract. Means, then the scatter about them.
use Rattle.lists.proofs.Base.{ap, ◌∙◌, List, ℕ, ◌*◌, length, replicate, length-replicate, length-take-le, Float}
use Rattle.float.specs.Floats.{zero⁺, zero⁻}
use Rattle.lists.proofs.Parts.{take-replicate}
use Rattle.lists.proofs.Fronts.{Back, back}
use Rattle.dapc_scatter.proofs.MomentsRoom.{filled_is, kept-few, means-fit}
use Rattle.dapc_scatter.proofs.moments.fill.Goals as goal

-- the groups' means stand at the front of an array of zeros
abbrev zeros : List Float
zeros = replicate 2048 zero⁺

pub fill_mean-requires : goal.fill_mean-requires
fill_mean-requires c = (c.requires.0.means, c.requires.1, kept-few c.args.samples c.requires.1)

pub fill_group_means-requires : goal.fill_group_means-requires
fill_group_means-requires c =
    let s = c.args.samples in
    let many : ℕ = s.sizes.groups * s.sizes.lead in
    (take-replicate many 2048 zero⁺ (means-fit s), c.requires.0.counted, s.most, s.numbered, s.few)

pub fill_scatter-requires : goal.fill_scatter-requires
fill_scatter-requires c =
    let s = c.args.samples in
    let many : ℕ = s.sizes.groups * s.sizes.lead in
    let means : Back many zeros c.fill_group_means.new.mu = back many zeros c.fill_group_means.new.mu (means-fit s) c.fill_group_means.auto.mu in
    let mean-long = c.fill_mean.auto.mean ∙ ap length c.requires.0.means ∙ length-replicate s.sizes.lead zero⁻ in record {
      sw_value = (c.requires.0.within, c.requires.0.between, length-take-le _ _ s.narrow, length-take-le _ _ s.narrow);
      numbered = (s.narrow, s.numbered);
      mu_len = (length-take-le _ _ means.fits, mean-long, c.fill_group_means.ensures.1);
    }

pub returns : goal.returns
returns c =
    let s = c.args.samples in
    let many : ℕ = s.sizes.groups * s.sizes.lead in
    let means : Back many zeros c.fill_group_means.new.mu = back many zeros c.fill_group_means.new.mu (means-fit s) c.fill_group_means.auto.mu in
    let e = c.fill_group_means.ensures in
    filled_is s.sizes s.x.now s.groups.now c.fill_mean.ensures e.0 means.front e.1 c.fill_scatter.ensures
