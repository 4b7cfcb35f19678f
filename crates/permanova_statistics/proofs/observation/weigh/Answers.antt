-- `permanova_statistics::observation::weigh` meets its contract. The design's samples are weighed into the fronts of three slices.
use Rattle.lists.proofs.Base.{◌≡◌, sym, ◌∙◌, ℕ, ◌*◌, ◌≤◌, arith, rules, length, length-take-le}
use Rattle.std.specs.Prelude.{is_some}
use Rattle.lot.specs.Given.{held_by}
use Rattle.lists.proofs.Fronts.{Back, back}
use Rattle.permanova_statistics.proofs.ObservedLots.{weighs}
use Rattle.permanova_statistics.proofs.observation.weigh.Goals as goal

pub slice_bounds-ks-end : goal.slice_bounds-ks-end
slice_bounds-ks-end c =
    let few = c.requires.sound.few in
    let long : length c.args.d.samples ≡ 256 = search rules in omega arith

pub slice_bounds-weigh_kept-end : goal.slice_bounds-weigh_kept-end
slice_bounds-weigh_kept-end c =
    let fits : c.args.d.kept ≤ length c.args.d.samples = let few = c.requires.sound.few in let long : length c.args.d.samples ≡ 256 = search rules in omega arith in
    sym (length-take-le _ _ fits)

pub slice_bounds-weigh_kept-end-3 : goal.slice_bounds-weigh_kept-end-3
slice_bounds-weigh_kept-end-3 c = sym (length-take-le _ _ c.requires.weights_room)

pub slice_bounds-weigh_kept-end-5 : goal.slice_bounds-weigh_kept-end-5
slice_bounds-weigh_kept-end-5 c = sym (length-take-le _ _ c.requires.pair_terms_room)

pub slice_bounds-weigh_kept-end-7 : goal.slice_bounds-weigh_kept-end-7
slice_bounds-weigh_kept-end-7 c = sym (length-take-le _ _ c.requires.weighted_squares_room)

pub weigh_kept-requires : goal.weigh_kept-requires
weigh_kept-requires c =
    let fits : c.args.d.kept ≤ length c.args.d.samples = let few = c.requires.sound.few in let long : length c.args.d.samples ≡ 256 = search rules in omega arith in
    record {
      distances_fit = c.requires.distances_fit;
      samples = length-take-le _ _ fits;
      places = c.requires.samples;
      weights_fit = c.requires.weights_fit;
      weights_long = length-take-le _ _ c.requires.weights_room;
      pair_terms_long = length-take-le _ _ c.requires.pair_terms_room;
      weighted_squares_long = length-take-le _ _ c.requires.weighted_squares_room;
    }

pub returns : goal.returns
returns c labels stratified strata e =
    let a = c.args in
    let square : ℕ = a.d.kept * a.d.kept in
    let w-back : Back a.d.kept a.w.now c.weigh_kept.new.w = back a.d.kept a.w.now _ c.requires.weights_room c.weigh_kept.auto.w in
    let t-back : Back square a.pair_terms.now c.weigh_kept.new.t = back square a.pair_terms.now _ c.requires.pair_terms_room c.weigh_kept.auto.t in
    let p-back : Back square a.weighted_squares.now c.weigh_kept.new.p = back square a.weighted_squares.now _ c.requires.weighted_squares_room c.weigh_kept.auto.p in
    let told = c.weigh_kept.ensures in
    weighs a.d a.distances.now labels stratified strata (is_some a.weights) (held_by a.weights) e (w-back.front ∙ told.0) (t-back.front ∙ told.1) (p-back.front ∙ told.2)
