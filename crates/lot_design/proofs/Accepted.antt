-- What is known of a lot that no line turns away, and of its design.
use Rattle.lists.proofs.Base.{◌≡◌, sym, ◌∙◌, Bool, List, ℕ, ◌≤◌, arith}
use Rattle.lists.specs.inner.Numbers.{Below}
use Rattle.lot.specs.{Lot.Lot, Kept.kept_count}
use Rattle.lot.specs.inner.Description.{samples_of}
use Rattle.lot.proofs.{AcceptedLots.Passes, Samples.kept-below, Samples.kept-few}
use Rattle.lot_design.specs.declared.Design.{Design}
use Rattle.lot_design.specs.inner.Designs.{kept_of, Designable, Describes, Sound}
use Rattle.lot_design.proofs.Designs.{sound}

pub designable : (lot : Lot) {short beyond : Bool} → Passes lot short beyond → Designable (samples_of lot.labels lot.stratified lot.strata)
designable lot p = record { few = omega (arith, p.few, p.fits.labels_fit); strata_fit = λ g. p.fits.strata_fit g ∙ sym p.fits.labels_fit }

module _ (lot : Lot) {d : Design} (e : Describes lot d) where
  pub kept-all : d.kept ≤ d.n
  unfolding kept_count
  kept-all = omega (arith, e.kept_many, e.many, kept-few lot.labels)

  pub samples-below : Below d.n (kept_of d)
  samples-below = moved e.many e.kept_are (kept-below lot.labels)
    where
      moved : {n n' : ℕ} {l l' : List ℕ} → n ≡ n' → l ≡ l' → Below n' l' → Below n l
      moved en el b = rw (en, el) b

  module _ {short beyond : Bool} (p : Passes lot short beyond) where
    pub same-n : d.n ≡ lot.n
    same-n = e.many ∙ p.fits.labels_fit

    pub design-sound : Sound d
    design-sound = sound lot (omega (arith, p.few, p.fits.labels_fit)) (omega (arith, p.groups)) e

    pub groups-all : d.groups ≤ d.n
    groups-all = omega (arith, design-sound.enough, kept-all)
