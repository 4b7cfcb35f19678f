-- `ordination_pcoa::pcoa` meets its contract. By whether a line of the table holds.
use Rattle.lists.proofs.Base.{ap, ◌∙◌, length}
use Rattle.std.specs.Prelude.{Result}
use Rattle.outcome.specs.declared.Refusal.{Refusal}
use Rattle.outcome.proofs.Table.{told-passed, told-refused, passed-on}
use Rattle.ordination_coordinates.proofs.Lines.{passed-fits}
use Rattle.ordination_pcoa.specs.Call.{called}
use Rattle.ordination_pcoa.proofs.Calls.{call-refused, call-passed}
use Rattle.ordination_pcoa.proofs.pcoa.Goals as goal

pub returns-in_err-check : goal.returns-in_err-check
returns-in_err-check c =
    let a = c.args in
    ap (λ (r : Result Unit Refusal). called r a.out.now a.centred.now a.eigenpairs.now a.rotated.now a.vectors.now) (passed-on _ c.from_residual.ensures.1)
    ∙ call-refused a.components a.n a.distances.now a.out.now a.centred.now a.eigenpairs.now a.rotated.now a.vectors.now
    (told-refused c.check.ensures c.in_err-check.was)

pub solve-requires : goal.solve-requires
solve-requires c =
    let a = c.args in
    let f = passed-fits a.components a.n a.distances.now (length a.out.now) (length a.centred.now) (length a.eigenpairs.now)
    (length a.rotated.now) (length a.vectors.now)
    c.components_used-k.ensures (told-passed c.check.ensures c.in_ok-check.was) in
    let k = f.asks in
    let r = f.room in
    record { d_len = (f.distances, f.few, k.below, k.most); k_in_bounds = (r.out-fits, r.b-fits, r.w_fits, r.m-fits, r.v-fits) }

pub returns : goal.returns
returns c =
    let a = c.args in
    call-passed a.components a.n a.distances.now a.out.now a.centred.now a.eigenpairs.now a.rotated.now a.vectors.now
    c.components_used-k.ensures (told-passed c.check.ensures c.in_ok-check.was) c.solve.ensures
