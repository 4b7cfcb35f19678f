-- `permanova_sampling::answer` meets its contract. What is observed, both p, and the answer by the groups' sizes.
use Rattle.lists.proofs.Base.{sym, ◌≤◌, arith, length, length-take-le}
use Rattle.permanova_statistics.proofs.ObservedLots.{sizes-front}
use Rattle.permanova_sampling.proofs.answer.Goals as goal

pub slice_bounds-p_values_of-end : goal.slice_bounds-p_values_of-end
slice_bounds-p_values_of-end c =
    let z-fits : c.args.d.kept ≤ length c.observe-o.new.z = let few = c.requires.weighed.sound.few in omega (arith, c.observe-o.auto.z) in
    sym (length-take-le _ _ z-fits)

pub p_values_of-c-requires : goal.p_values_of-c-requires
p_values_of-c-requires c =
    let z-fits : c.args.d.kept ≤ length c.observe-o.new.z = let few = c.requires.weighed.sound.few in omega (arith, c.observe-o.auto.z) in
    let w = c.requires.weighed in (
      record { sound = w.sound; over = record { pair_terms = w.pair_terms; weights = w.weights; observed = length-take-le _ _ z-fits } },
      c.requires.shuffles,
    )

pub slice_bounds-conclude-end-2 : goal.slice_bounds-conclude-end-2
slice_bounds-conclude-end-2 c =
    let counts-fit : c.args.d.groups ≤ length c.observe-o.new.counts = let room = c.requires.counts_room in omega (arith, c.observe-o.auto.counts) in
    sym (length-take-le _ _ counts-fit)

pub returns : goal.returns
returns c lot e =
    let a = c.args in
    let w = e.weighs in
    let told = c.observe-o.ensures lot w in
    let p = c.p_values_of-c.ensures lot (record { described = w.described; pair_terms = w.pair_terms; weights = w.weights; distances = told.distances; observed = told.result }) in
    let sizes = sizes-front lot a.counts.now w.described told.listed.sizes in
    record {
      result = c.conclude.ensures lot a.draws.seed a.draws.many (record { described = w.described; weighted_as = e.weighted_as; observed = told.result; sizes = sizes; p_values = p });
      listed = told.listed;
    }
