-- `exhaustive_answer::ordination::ordinate` meets its contract. Fronts of just the lengths that n asks.
use Rattle.lists.proofs.Base.{◌∙◌, ℕ, ◌+◌, ◌*◌, ◌≤◌, arith, length, take, drop, length-take-le}
use Rattle.exhaustive_answer.proofs.LentCoordinates.{columns-few, told_is}
use Rattle.exhaustive_answer.proofs.ordination.ordinate.Goals as goal

pub coordinates_of-requires : goal.coordinates_of-requires
coordinates_of-requires c =
    let front-here : ℕ = let k = c.components_used-k.result in k + k + c.args.n * k in
    let front_fits-here : front-here ≤ length c.args.coords.now = omega (arith, (columns-few c.args.n c.components_used-k.ensures).2, c.requires.coords_room) in
    let few = columns-few c.args.n c.components_used-k.ensures in record {
      d_len = (c.requires.fits, c.requires.few, few.0, omega (arith, few.1));
      out_len = (
        length-take-le _ _ front_fits-here,
        length-take-le _ _ c.requires.pair_terms_room,
        length-take-le _ _ c.requires.eigenpairs_room,
        length-take-le _ _ c.requires.weighted_squares_room,
        length-take-le _ _ c.requires.vectors_room,
      );
    }

pub returns : goal.returns
returns c =
    let front-here : ℕ = let k = c.components_used-k.result in k + k + c.args.n * k in
    let front_fits-here : front-here ≤ length c.args.coords.now = omega (arith, (columns-few c.args.n c.components_used-k.ensures).2, c.requires.coords_room) in
    let coords = c.args.coords.now in
    told_is c.args.n c.args.distances.now c.coordinates_of.result c.coordinates_of.new.out (take front-here coords)
    (drop front-here coords) c.components_used-k.ensures
    (c.coordinates_of.auto.out ∙ length-take-le front-here coords front_fits-here) c.coordinates_of.ensures
