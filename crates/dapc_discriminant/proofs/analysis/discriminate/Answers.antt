-- `dapc_discriminant::analysis::discriminate` meets its contract. The axes are counted first, then means and scatter are filled.
use Rattle.lists.proofs.Base.{sym, ap, subst, ◌∙◌, ℕ, ◌+◌, ◌*◌, ◌≤◌, length, replicate, length-take-le}
use Rattle.float.specs.Floats.{zero⁺, zero⁻}
use Rattle.lists.proofs.Parts.{take-replicate}
use Rattle.lists.proofs.Fronts.{Back, back}
use Rattle.dapc_scatter.specs.declared.samples.Dimensions.{Dimensions}
use Rattle.dapc_discriminant.specs.{Outputs.leaves, Dapc.discriminate}
use Rattle.dapc_discriminant.proofs.DiscriminantCases.{square-fits, separated-is}
use Rattle.dapc_discriminant.proofs.analysis.discriminate.Goals as goal

pub fill-requires : goal.fill-requires
fill-requires c =
    let square-here : c.args.p * c.args.p ≤ 256 = square-fits c.args.p c.requires.0.narrow in
    let r = c.requires.0 in
    let none = take-replicate (c.args.p * c.args.p) 256 zero⁺ square-here in (
      record { means = take-replicate c.args.p 16 zero⁻ r.narrow; counted = take-replicate {A = ℕ} c.args.g 128 0 r.most; within = none; between = none },
      c.requires.1,
    )

pub decompose-requires : goal.decompose-requires
decompose-requires c =
    let mean-here : Back c.args.p (replicate 16 zero⁻) c.fill.new.mean = back c.args.p (replicate 16 zero⁻) c.fill.new.mean c.requires.0.narrow c.fill.auto.mean in
    let counts-here : Back {A = ℕ} c.args.g (replicate 128 0) c.fill.new.counts = back {A = ℕ} c.args.g (replicate 128 0) c.fill.new.counts c.requires.0.most c.fill.auto.counts in
    let square-here : c.args.p * c.args.p ≤ 256 = square-fits c.args.p c.requires.0.narrow in
    let within-here : let p = c.args.p in Back (p * p) (replicate 256 zero⁺) c.fill.new.sw = back (c.args.p * c.args.p) (replicate 256 zero⁺) c.fill.new.sw square-here c.fill.auto.sw in
    let between-here : let p = c.args.p in Back (p * p) (replicate 256 zero⁺) c.fill.new.sb = back (c.args.p * c.args.p) (replicate 256 zero⁺) c.fill.new.sb square-here c.fill.auto.sb in
    let a = c.args in
    record {
      fitting = record {
        axial = c.axes_of-axes.ensures;
        room = subst (λ (k : ℕ). k + length a.groups.now * k ≤ length a.out.now) (sym c.axes_of-axes.ensures) c.requires.0.room;
        places = c.requires.0.places;
      };
      means = length-take-le _ _ mean-here.fits;
      counted = counts-here.front ∙ c.fill.ensures.counted;
      within = length-take-le _ _ within-here.fits;
      between = length-take-le _ _ between-here.fits;
    }

pub returns : goal.returns
returns c =
    let sizes-here : Dimensions = let a = c.args in record { columns = a.columns; lead = a.p; axes = c.axes_of-axes.result; kept = a.m; groups = a.g } in
    let mean-here : Back c.args.p (replicate 16 zero⁻) c.fill.new.mean = back c.args.p (replicate 16 zero⁻) c.fill.new.mean c.requires.0.narrow c.fill.auto.mean in
    let square-here : c.args.p * c.args.p ≤ 256 = square-fits c.args.p c.requires.0.narrow in
    let within-here : let p = c.args.p in Back (p * p) (replicate 256 zero⁺) c.fill.new.sw = back (c.args.p * c.args.p) (replicate 256 zero⁺) c.fill.new.sw square-here c.fill.auto.sw in
    let between-here : let p = c.args.p in Back (p * p) (replicate 256 zero⁺) c.fill.new.sb = back (c.args.p * c.args.p) (replicate 256 zero⁺) c.fill.new.sb square-here c.fill.auto.sb in
    let a = c.args in
    let n = length a.groups.now in
    separated-is n sizes-here a.x.now a.groups.now a.out.now a.assigned.now
    c.fill.ensures mean-here.front within-here.front between-here.front c.decompose.ensures
    ∙ ap (λ (k : ℕ). leaves n a.p k (discriminate n a.columns a.p a.x.now a.groups.now a.g) a.out.now a.assigned.now) c.axes_of-axes.ensures
