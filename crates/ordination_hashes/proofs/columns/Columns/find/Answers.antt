-- `ordination_hashes::columns::Columns::find` meets its contract: h stands where the hashes below it end, or nowhere.
use Rattle.lists.proofs.Base.{arith}
use Rattle.ordination_hashes.proofs.Lookup.{column-found, cut-missing}
use Rattle.ordination_hashes.proofs.columns.Columns.find.Goals as goal
use Rattle.ordination_hashes.proofs.columns.Columns.find.Goals.{else-i-self-via-then-i-self+else-self-i, else-i-self-via-else-i-self}

pub returns-then-self-i : goal.returns-then-self-i
returns-then-self-i c = column-found _ _ c.args.self.now.climbs _ c.if-i-self.true c.if-self-i.true

pub returns-else-i-self : goal.returns-else-i-self
returns-else-i-self c =
    elim c.else-i-self.branch [
      | else-i-self-via-then-i-self+else-self-i w ↦ cut-missing _ _ c.args.self.now.climbs c.place-i.ensures (λ b e. w.if-self-i.false e)
      | else-i-self-via-else-i-self w ↦ cut-missing _ _ c.args.self.now.climbs c.place-i.ensures (λ b e. omega (arith, w.if-i-self.false))
    ]
