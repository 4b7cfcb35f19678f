-- The summary from its parts, and that its warnings fit a byte.
use Rattle.lists.proofs.Base.{◌≡◌, Bool, not, ◌&&◌, List, ℕ, ◌+◌, ◌<◌, ◌≤◌, arith, eqb, ltb, Float, lt}
use Rattle.float.specs.Floats.{◌⊘◌, num, 0·5}
use Rattle.lists.specs.Filters.{any}
use Rattle.lot.specs.{Lot.Lot, Strata.fraction}
use Rattle.permanova_p_values.specs.WarningBits.{warning_bits}
use Rattle.permanova_statistics.specs.{Warnings.uninformed, Warnings.sizes_of, Warnings.warned, Summaries.summary_of}
use Rattle.permanova_p_values.proofs.JointWarnings.{warned-le}
use Rattle.lot_design.specs.declared.Design.{Design}
use Rattle.lot_design.specs.inner.Designs.{Describes}
use Rattle.permanova_statistics.specs.declared.observation.Observed.{Observed}
use Rattle.permanova_statistics.specs.inner.Observed.{observed_of}

pub warnings-fit : (a b c d e : Bool) {x more : ℕ} → x ≡ warning_bits a b c d e → more ≤ 96 → x + more < 256
warnings-fit a b c d e {x} {more} f g = omega (arith, warned-le a b c d e)

module _ (lot : Lot) (more : ℕ) {d : Design} {o : Observed} {counts : List ℕ} (e : Describes lot d) (eo : o ≡ observed_of lot) (ec : counts ≡ sizes_of lot) where
  pub summary-is : {share : Float} {none few small : Bool} {bits : ℕ}
      → share ≡ num d.informing ⊘ num d.kept → none ≡ (d.stratified && eqb d.informing 0) → few ≡ (lt share 0·5 && not (eqb d.informing 0))
      → small ≡ any (λ c. ltb c 5) counts → bits ≡ warning_bits d.left_out none few small o.negative
      → record { n = d.kept; n_groups = d.groups; r2 = o.r2; informative_fraction = share; warnings = bits + more } ≡ summary_of lot more
  unfolding summary_of fraction warned uninformed observed_of
  summary-is ef en ew es eb = rw (eb, es, ew, en, ef, ec, eo, e.left_out, e.stratified, e.informing, e.kept_many, e.groups_many)
