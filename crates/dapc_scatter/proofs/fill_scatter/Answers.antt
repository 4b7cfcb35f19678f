-- `dapc_scatter::fill_scatter` meets its contract. Within, with the ridge, and between.
use Rattle.lists.proofs.Base.{sym, ap, ◌∙◌, ℕ, ◌*◌, length, length-replicate}
use Rattle.float.specs.Floats.{zero⁺}
use Rattle.dapc_scatter.specs.Ridge.{ridged}
use Rattle.dapc_scatter.proofs.{Scatter.within-is, Scatter.between_is, Counting.length-sizes}
use Rattle.dapc_scatter.proofs.fill_scatter.Goals as goal

pub add_within-requires : goal.add_within-requires
add_within-requires c =
    let p = c.args.leading.lead in
    (ap length c.requires.sw_value.0 ∙ length-replicate (p * p) zero⁺, c.requires.sw_value.2, c.requires.mu_len.0, c.requires.numbered.1)

pub add_ridge-requires : goal.add_ridge-requires
add_ridge-requires c =
    let s = c.args.leading in
    (c.add_within.auto.sw ∙ ap length c.requires.sw_value.0 ∙ length-replicate (s.lead * s.lead) zero⁺, c.requires.numbered.0)

pub add_between-requires : goal.add_between-requires
add_between-requires c =
    let s = c.args.leading in
    let p = s.lead in (
      ap length c.requires.sw_value.1 ∙ length-replicate (p * p) zero⁺,
      c.add_within.auto.d ∙ c.requires.sw_value.2,
      c.requires.sw_value.3,
      c.requires.mu_len.0 ∙ ap (λ (k : ℕ). k * p) (sym (ap length c.requires.mu_len.2 ∙ length-sizes s.groups.now (length s.groups.now) c.args.g)),
      c.requires.mu_len.1,
    )

pub returns : goal.returns
returns c =
    let s = c.args.leading in
    let mu = c.args.mu.now in (
      c.add_ridge.ensures ∙ ap (ridged s.lead) (within-is s.lead s.columns s.x.now s.groups.now mu c.requires.sw_value.0 c.add_within.ensures),
      between_is s.lead c.args.g s.groups.now mu c.args.mean.now c.requires.sw_value.1 c.requires.mu_len.2 c.add_between.ensures,
    )
