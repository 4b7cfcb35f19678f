-- `eigen_ritz::rayleigh_ritz` meets its contract. Room of its own.
use Rattle.lists.proofs.Base.{arith, length-take-le}
use Rattle.eigen_ritz.proofs.FoundPairs.{small-square}
use Rattle.eigen_ritz.proofs.rayleigh_ritz.Goals as goal

pub rayleigh_ritz_in-requires : goal.rayleigh_ritz_in-requires
rayleigh_ritz_in-requires c =
    let small = small-square c.requires.4 in record {
      pairs_len = (
        length-take-le _ _ (omega (arith, small)),
        length-take-le _ _ (omega (arith, small)),
        length-take-le _ _ (omega (arith, small)),
        length-take-le _ _ (omega (arith, small)),
      );
      out_len = c.requires;
    }
