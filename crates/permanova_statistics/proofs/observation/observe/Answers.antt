-- `permanova_statistics::observation::observe` meets its contract. The design's groups are the labels, and what is observed over the lot's own terms is the lot's.
use Rattle.lists.proofs.Base.{◌≡◌, sym, ◌∙◌, ◌≤◌, arith, rules, length, length-take-le}
use Rattle.lists.proofs.Fronts.{Back, back}
use Rattle.permanova_statistics.proofs.ObservedLots.{observes}
use Rattle.permanova_statistics.proofs.observation.observe.Goals as goal

pub slice_bounds-gs-end : goal.slice_bounds-gs-end
slice_bounds-gs-end c =
    let few = c.requires.weighed.sound.few in
    let long : length c.args.d.group ≡ 256 = search rules in omega arith

pub slice_bounds-observe_kept-end : goal.slice_bounds-observe_kept-end
slice_bounds-observe_kept-end c =
    let fits : c.args.d.kept ≤ length c.args.d.group = let few = c.requires.weighed.sound.few in let long : length c.args.d.group ≡ 256 = search rules in omega arith in
    sym (length-take-le _ _ fits)

pub slice_bounds-observe_kept-end-3 : goal.slice_bounds-observe_kept-end-3
slice_bounds-observe_kept-end-3 c = sym (length-take-le _ _ c.requires.z_room)

pub observe_kept-requires : goal.observe_kept-requires
observe_kept-requires c =
    let fits : c.args.d.kept ≤ length c.args.d.group = let few = c.requires.weighed.sound.few in let long : length c.args.d.group ≡ 256 = search rules in omega arith in
    let w = c.requires.weighed in
    let sound = w.sound in
    record {
      labelled = record {
        weighted_squares = w.weighted_squares;
        pair_terms = w.pair_terms;
        weights = w.weights;
        labels = length-take-le _ _ fits;
        groups = sound.groups;
        some = sound.some;
        enough = sound.enough;
        few = sound.few;
      };
      z_long = length-take-le _ _ c.requires.z_room;
      counts_room = c.requires.counts_room;
      means_room = c.requires.means_room;
    }

pub returns : goal.returns
returns c lot e =
    let a = c.args in
    let z-back : Back a.d.kept a.z.now c.observe_kept.new.z = back a.d.kept a.z.now c.observe_kept.new.z c.requires.z_room c.observe_kept.auto.z in
    let told = c.observe_kept.ensures in observes lot e a.counts.now a.means.now (told.0, z-back.front ∙ told.1, told.2, told.3)
