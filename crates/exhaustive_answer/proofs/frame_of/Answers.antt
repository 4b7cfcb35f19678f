-- `exhaustive_answer::frame_of` meets its contract. The columns that lead, and whether `dapc` refuses them.
use Rattle.exhaustive_answer.proofs.LotCounts.{frame_is}
use Rattle.exhaustive_answer.proofs.frame_of.Goals as goal

pub returns : goal.returns
returns c =
    let a = c.args in
    frame_is a.d.n a.d.kept a.d.groups a.x.now a.total c.components_used-columns.ensures
    c.columns_used-lead.ensures c.is_barred.ensures
