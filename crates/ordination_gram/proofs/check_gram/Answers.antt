-- `ordination_gram::check_gram` meets its contract: the lines are asked in two parts, and the hashes are selected between them.
use Rattle.lists.proofs.Base.{sym, ap, ◌∙◌, subst, arith, ℕ}
use Rattle.std.specs.Prelude.{Result}
use Rattle.outcome.specs.declared.Refusal.{Refusal}
use Rattle.outcome.specs.Outcome.{Told, answered, judged}
use Rattle.outcome.proofs.Table.{told-passed, told-refused, passed-on}
use Rattle.ordination_sets.proofs.AcceptedSets.{early-passed}
use Rattle.ordination_gram.specs.Call.{outcome_of}
use Rattle.ordination_gram.specs.inner.Call.{Checked}
use Rattle.ordination_gram.proofs.GramCalls.{checked-early, checked-late}
use Rattle.ordination_gram.proofs.check_gram.Goals as goal

pub returns-in_err-early : goal.returns-in_err-early
returns-in_err-early c =
    let a = c.args in
    subst (λ (r : Result ℕ Refusal). Checked a.n a.hashes.now a.offsets.now a.short a.beyond r a.chosen.now a.means.now) (sym (passed-on _ c.from_residual.ensures.1))
    (checked-early a.n a.hashes.now a.offsets.now a.short a.beyond _ a.chosen.now a.means.now (told-refused c.early.ensures c.in_err-early.was))

pub select-m-requires : goal.select-m-requires
select-m-requires c =
    let a = c.args in
    early-passed a.n a.hashes.now a.offsets.now a.short a.beyond (sym (told-passed c.early.ensures c.in_ok-early.was))

pub returns-in_err-late : goal.returns-in_err-late
returns-in_err-late c =
    let a = c.args in
    let call = c.select-m in
    checked-late a.n a.hashes.now a.offsets.now a.short a.beyond (told-passed c.early.ensures c.in_ok-early.was) call.ensures
    (ap outcome_of (passed-on _ c.from_residual-in_err-late.ensures.1) ∙ ap (λ (t : Told). judged t (answered call.result)) (told-refused c.late.ensures c.in_err-late.was))
    (omega (arith, c.requires.0, call.auto.chosen)) (omega (arith, c.requires.1, call.auto.means))

pub returns : goal.returns
returns c =
    let a = c.args in
    let call = c.select-m in
    checked-late a.n a.hashes.now a.offsets.now a.short a.beyond (told-passed c.early.ensures c.in_ok-early.was) call.ensures
    (ap (λ (t : Told). judged t (answered call.result)) (told-passed c.late.ensures c.in_ok-late.was))
    (omega (arith, c.requires.0, call.auto.chosen)) (omega (arith, c.requires.1, call.auto.means))
