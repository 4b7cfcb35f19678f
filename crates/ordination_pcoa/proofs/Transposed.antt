-- The transposed matrix makes the same call of `pcoa`, be it accepted or refused: the same answer, and the same in everything lent.
use Rattle.lists.proofs.Base.{◌≡◌, ap, ◌∙◌, List, ℕ, ◌*◌, min, length, Float}
use Rattle.outcome.specs.{Outcome.Told, Outcome.judged, Refusals.first}
use Rattle.outcome.proofs.Table.{judged-same}
use Rattle.lot.specs.Mirror.{transposed}
use Rattle.ordination_coordinates.specs.{Pcoa.pcoa, Lines.pcoa_lines}
use Rattle.ordination_coordinates.proofs.Transposed.{pcoa-lines-transposed, pcoa-accepted-transposed}
use Rattle.ordination_pcoa.specs.Call.{leaves, pcoa_call}

pub pcoa-transposed : (components n : ℕ) (d out b w m v : List Float) → length d ≡ n * n
    → pcoa_call components n (transposed n d) out b w m v ≡ pcoa_call components n d out b w m v
unfolding pcoa_call
pcoa-transposed components n d out b w m v long =
    let lines = pcoa-lines-transposed components n d (length out) (length b) (length w) (length m) (length v) long in
    let said = first (pcoa_lines components n d (length out) (length b) (length w) (length m) (length v)) in
    let same : judged said (pcoa components n (transposed n d)) ≡ judged said (pcoa components n d) =
    judged-same said (pcoa-accepted-transposed components n d (length out) (length b) (length w) (length m) (length v) long) in
    λ i. leaves (min components n) n ((ap (λ (t : Told). judged t (pcoa components n (transposed n d))) (ap first lines) ∙ same) i) out b w m v
