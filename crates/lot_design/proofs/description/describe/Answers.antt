-- `lot_design::description::describe` meets its contract. The samples are grouped, and then the kept ones stratified.
use Rattle.lists.proofs.Base.{ap, arith, length}
use Rattle.lot.proofs.{FilledFronts.filled-part, Samples.kept-few, Samples.front_kept, Samples.front-within, Samples.front_below, Samples.described}
use Rattle.std.specs.Prelude.{is_some}
use Rattle.lot.specs.Given.{held_by}
use Rattle.lot_design.proofs.description.describe.Goals as goal

pub slice_bounds-stratify-end : goal.slice_bounds-stratify-end
slice_bounds-stratify-end c = front-within _ (held_by c.args.given) (is_some c.args.given) c.group-sizes.ensures c.requires.samples_fit

pub slice_bounds-stratify-end-2 : goal.slice_bounds-stratify-end-2
slice_bounds-stratify-end-2 c = filled-part _ c.group-sizes.ensures.samples

pub stratify-s-requires : goal.stratify-s-requires
stratify-s-requires c =
    let group-done = c.group-sizes in
    let front = front_kept c.args.labels.now (held_by c.args.given) (is_some c.args.given) group-done.ensures in
    let few = kept-few c.args.labels.now in (
      front_below _ (held_by c.args.given) _ group-done.ensures c.requires.strata_fit,
      omega (arith, ap length front, c.requires.few),
      omega (arith, ap length front, c.requires.numbers_fit),
    )

pub returns : goal.returns
returns c =
    let group-done = c.group-sizes in
    described c.args.labels.now (held_by c.args.given) (is_some c.args.given) group-done.ensures c.stratify-s.ensures
