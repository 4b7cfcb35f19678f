-- `dapc_scatter::means::fill_group_means` meets its contract. Counts and sums, and the sums divided.
use Rattle.lists.proofs.Base.{◌≡◌, sym, ap, ◌∙◌, ℕ, ◌*◌, arith, length, replicate, length-replicate}
use Rattle.float.specs.Floats.{zero⁺}
use Rattle.lot.specs.Kept.{sizes}
use Rattle.dapc_scatter.proofs.MeanSums.{group-means-are}
use Rattle.dapc_scatter.proofs.means.fill_group_means.Goals as goal

pub count_groups-requires : goal.count_groups-requires
count_groups-requires c =
    let counts : length c.args.counts.now ≡ c.args.g = ap length c.requires.1 ∙ length-replicate {A = ℕ} c.args.g 0 in
    (c.requires.1 ∙ ap (λ (k : ℕ). replicate k 0) (sym counts), rw counts c.requires.3, omega (arith, counts), c.requires.4)

pub add_members-requires : goal.add_members-requires
add_members-requires c = (ap length c.requires.0 ∙ length-replicate (c.args.g * c.args.leading.lead) zero⁺, c.requires.2, c.requires.3)

pub divide_rows-requires : goal.divide_rows-requires
divide_rows-requires c =
    let p = c.args.leading.lead in
    let counts : length c.args.counts.now ≡ c.args.g = ap length c.requires.1 ∙ length-replicate {A = ℕ} c.args.g 0 in
    c.add_members.auto.mu ∙ ap length c.requires.0 ∙ length-replicate (c.args.g * p) zero⁺ ∙ ap (λ (k : ℕ). k * p) (sym (c.count_groups.auto.counts ∙ counts))

pub returns : goal.returns
returns c =
    let s = c.args.leading in
    let groups = s.groups.now in
    let counts : length c.args.counts.now ≡ c.args.g = ap length c.requires.1 ∙ length-replicate {A = ℕ} c.args.g 0 in
    let sized = c.count_groups.ensures ∙ ap (sizes groups (length groups)) counts in
    (group-means-are s.lead s.columns s.x.now groups c.args.g c.requires.0 c.add_members.ensures sized c.divide_rows.ensures, sized)
