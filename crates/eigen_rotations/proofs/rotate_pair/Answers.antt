-- `eigen_rotations::rotate_pair` meets its contract. After k turns the first k entries of both rows are turned, and the rest are as they were.
use Rattle.lists.proofs.Base.{sym, ap, ap₂, ◌∙◌, List, ℕ, arith, get_or, Float, nan}
use Rattle.lists.specs.Ranges.{table}
use Rattle.lists.proofs.{Writes.writing-none, Writes.writing-next, Writes.writing-all, Writes.writing-here, Zips.zip-table}
use Rattle.eigen_rotations.specs.Rotation.{turn_first, turn_second}
use Rattle.eigen_rotations.proofs.rotate_pair.Goals as goal

-- what goes to place i of each row
abbrev first : Float → Float → List Float → List Float → ℕ → Float
first c s x y i = turn_first c s (get_or x i nan) (get_or y i nan)

abbrev second : Float → Float → List Float → List Float → ℕ → Float
second c s x y i = turn_second c s (get_or x i nan) (get_or y i nan)

pub loop-k-init : goal.loop-k-init
loop-k-init c = (writing-none _ _, writing-none _ _)

pub loop-k-preserved : goal.loop-k-preserved
loop-k-preserved c =
    let a = c.args in
    let inv = c.loop-k.invariant in
    let x-here = writing-here (first a.r.c a.r.s a.x.now a.y.now) a.x.now nan inv.0 in
    let y-here = writing-here (second a.r.c a.r.s a.x.now a.y.now) a.y.now nan inv.1 in (
      writing-next _ _ inv.0 (omega arith) (ap₂ (turn_first a.r.c a.r.s) x-here y-here),
      writing-next _ _ inv.1 (omega arith) (ap₂ (turn_second a.r.c a.r.s) x-here y-here),
    )

pub returns : goal.returns
returns c =
    let a = c.args in
    let inv = c.loop-k.invariant in
    let same = c.requires in (
      writing-all _ _ inv.0 (omega arith) ∙ zip-table _ _ _ nan nan same,
      writing-all _ _ inv.1 (omega arith) ∙ ap (λ (k : ℕ). table k (second a.r.c a.r.s a.x.now a.y.now)) (sym same)
          ∙ zip-table (turn_second a.r.c a.r.s) a.x.now a.y.now nan nan same,
    )
