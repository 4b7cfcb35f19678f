-- The two parts of an output, values with shares and then coordinates, are what `finish` says.
use Rattle.lists.proofs.Base.{◌≡◌, sym, ap, ap₂, ◌∙◌, List, ◌++◌, append_assoc, ℕ, ◌-◌, ◌≤◌, length, take, drop, length-take-le, Float}
use Rattle.lists.proofs.Rows.{part-rest}
use Rattle.ordination_coordinates.specs.{Signs.signs, Finish.scales, Finish.shares, Finish.coords, Finish.finish, Finish.laid}

-- coordinates from the signs and scales of k eigenpairs
pub placed : (n k : ℕ) (values vectors : List Float) {j : ℕ} {sg sc out : List Float} → j ≡ k → sg ≡ signs n j vectors → sc ≡ scales values → out ≡ coords n k sg sc vectors
    → out ≡ coords n k (signs n k vectors) (scales values) vectors
placed n k values vectors e hg hc h = h ∙ ap₂ (λ (x y : List Float). coords n k x y vectors) (hg ∙ ap (λ (i : ℕ). signs n i vectors) e) hc

pub finished : (n k : ℕ) (total : Float) (pairs : List Float) {x y : List Float} → k ≤ length pairs → x ≡ take k pairs ++ shares total (take k pairs)
    → y ≡ coords n k (signs n k (take (length pairs - k) (drop k pairs))) (scales (take k pairs)) (take (length pairs - k) (drop k pairs))
    → x ++ y ≡ laid (finish n total (take k pairs) (drop k pairs))
unfolding finish laid
finished n k total pairs {x} {y} h e f =
    let values = take k pairs in
    let vectors = drop k pairs in
    let rest : y ≡ coords n k (signs n k vectors) (scales values) vectors = f ∙ ap (λ (v : List Float). coords n k (signs n k v) (scales values) v) (part-rest pairs k) in
    ap₂ (λ (a b : List Float). a ++ b) e rest ∙ append_assoc values (shares total values) (coords n k (signs n k vectors) (scales values) vectors)
    ∙ ap (λ (j : ℕ). values ++ (shares total values ++ coords n j (signs n j vectors) (scales values) vectors)) (sym (length-take-le k pairs h))
