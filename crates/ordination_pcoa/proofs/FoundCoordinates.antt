-- From eigenpairs to coordinates: what is found, and an output of just the length.
use Rattle.lists.proofs.Base.{◌≡◌, sym, ap, ap₂, ◌∙◌, List, ◌++◌, ℕ, ◌+◌, ◌*◌, arith, length, take, drop, length-append}
use Rattle.lists.proofs.Base.{length-map, length-take-le, take_at, drop_at, drop-drop, Float}
use Rattle.float.specs.Floats.{zero⁺}
use Rattle.lists.specs.Writes.{over, cleared}
use Rattle.lists.proofs.{Ranges.length-grid, Writes.over-all}
use Rattle.std.specs.Prelude.{Result, Ok, Err}
use Rattle.outcome.specs.declared.Refusal.{Refusal}
use Rattle.outcome.specs.{Outcome.Outcome, Outcome.answered, Outcome.refused, Outcome.and_then, Numbers.number, Slices.output}
use Rattle.eigen_ritz.specs.Ritz.{Pairs}
use Rattle.eigen_ritz.specs.inner.Given as pairs
use Rattle.eigen_top.specs.TopEigs.{top_eigs}
use Rattle.ordination_coordinates.specs.{Signs.signs, Finish.scales, Finish.shares, Finish.coords, Finish.Coordinates, Finish.finish, Finish.laid}
use Rattle.eigen_matrix.specs.Trace.{trace}
use Rattle.ordination_coordinates.specs.{Centred.centred, Pcoa.ordinate, Pcoa.pcoa}
use Rattle.ordination_pcoa.specs.Given.{written}
use Rattle.ordination_pcoa.specs.inner.Given.{coordinates_of, Given, given, gives}
use Rattle.ordination_pcoa.proofs.LateRefusals.{Late, late-then, late-top, late-output}

-- ---- coordinates read off an output that holds them, k the number of values

module _ (n k : ℕ) (total : Float) (values vectors : List Float) (many : length values ≡ k) where
  abbrev c : Coordinates
  c = finish n total values vectors

  length-shares : length (shares total values) ≡ k
  unfolding shares
  length-shares = length-map values _ ∙ many

  length-coords : length (coords n k (signs n k vectors) (scales values) vectors) ≡ n * k
  unfolding coords
  length-coords = length-grid n k _

  -- the parts, with k for their number
  parts : laid c ≡ values ++ (shares total values ++ coords n k (signs n k vectors) (scales values) vectors)
  unfolding laid finish
  parts = ap (λ (j : ℕ). values ++ (shares total values ++ coords n j (signs n j vectors) (scales values) vectors)) many

  pub length-laid : length (laid c) ≡ k + k + n * k
  length-laid =
      let cs = coords n k (signs n k vectors) (scales values) vectors in
      ap length parts ∙ length-append values (shares total values ++ cs) ∙ omega (arith, length-append (shares total values) cs, many, length-shares, length-coords)

  pub laid-read : coordinates_of k (Ok tt) (laid c) ≡ answered c
  unfolding finish
  laid-read =
      let ss = shares total values in
      let cs = coords n k (signs n k vectors) (scales values) vectors in
      let rest : drop k (laid c) ≡ ss ++ cs = ap (drop k) parts ∙ drop_at values (ss ++ cs) k many in
      let front : take k (laid c) ≡ values = ap (take k) parts ∙ take_at values (ss ++ cs) k many in
      let next : take k (drop k (laid c)) ≡ ss = ap (take k) rest ∙ take_at ss cs k length-shares in
      let last : drop (k + k) (laid c) ≡ coords n (length values) (signs n (length values) vectors) (scales values) vectors =
      sym (drop-drop k k (laid c)) ∙ ap (drop k) rest ∙ drop_at ss cs k length-shares ∙ ap (λ (j : ℕ). coords n j (signs n j vectors) (scales values) vectors) (sym many) in
      λ i. answered (record { values = front i; shares = next i; coords = last i })

-- ---- of a matrix b

module _ (n k : ℕ) (b out : List Float) (size : length out ≡ k + k + n * k) {found : List Float} where
  ordinate-refused : {new : List Float} (old : List Float) (r : Refusal) → pairs.given k (Err r) found ≡ pairs.gives k n (top_eigs k n b) old → new ≡ cleared zero⁺ out
      → given k (Err r) new ≡ gives k n (ordinate k n b) out
  unfolding pairs.gives gives written ordinate and_then
  ordinate-refused {new} old r e h =
      let none : refused (number r) ≡ top_eigs k n b = ap (λ (g : pairs.Given). g.found) e in
      let is : refused (number r) ≡ ordinate k n b = ap (λ (o : Outcome Pairs). and_then o (λ p. answered (finish n (trace n b) p.values p.vectors))) none in
      let late : Late (ordinate k n b) = late-then (top_eigs k n b) (λ p. finish n (trace n b) p.values p.vectors) (late-top k n b) in
      ap₂ (λ (o : Outcome Coordinates) (l : List Float). record { found = o; out = l }) is (late-output laid (k + k + n * k) (ordinate k n b) out (sym is) late size h)

  ordinate-answered : {new : List Float} (old : List Float) {total : Float} → pairs.given k (Ok tt) found ≡ pairs.gives k n (top_eigs k n b) old → length found ≡ k + k * n
      → total ≡ trace n b → new ≡ laid (finish n total (take k found) (drop k found)) → given k (Ok tt) new ≡ gives k n (ordinate k n b) out
  unfolding pairs.gives gives written ordinate and_then output
  ordinate-answered {new} old {total} e len t h =
      let values = take k found in
      let vectors = drop k found in
      let many : length values ≡ k = length-take-le k found (omega arith) in
      let some : answered (record { values = values; vectors = vectors }) ≡ top_eigs k n b = ap (λ (g : pairs.Given). g.found) e in
      let is : answered (finish n (trace n b) values vectors) ≡ ordinate k n b =
      ap (λ (o : Outcome Pairs). and_then o (λ p. answered (finish n (trace n b) p.values p.vectors))) some in
      let made : new ≡ laid (finish n (trace n b) values vectors) = h ∙ ap (λ (x : Float). laid (finish n x values vectors)) t in
      let read : coordinates_of k (Ok tt) new ≡ ordinate k n b = ap (coordinates_of k (Ok tt)) made ∙ laid-read n k (trace n b) values vectors many ∙ is in
      let whole = length-laid n k (trace n b) values vectors many in
      let over-it : new ≡ over (laid (finish n (trace n b) values vectors)) out = made ∙ sym (over-all (laid (finish n (trace n b) values vectors)) out (omega arith)) in
      ap₂ (λ (o : Outcome Coordinates) (l : List Float). record { found = o; out = l }) read (over-it ∙ ap (λ (o : Outcome Coordinates). written k n o out) is)

  -- by what is returned
  pub refused-by : {new : List Float} (old : List Float) (c : Result Unit Refusal) (r : Refusal) → c ≡ Err r → pairs.given k c found ≡ pairs.gives k n (top_eigs k n b) old
      → new ≡ cleared zero⁺ out → given k (Err r) new ≡ gives k n (ordinate k n b) out
  refused-by old c r q e h = ordinate-refused old r (ap (λ (x : Result Unit Refusal). pairs.given k x found) (sym q) ∙ e) h

  pub answered-by : {new : List Float} (old : List Float) (c : Result Unit Refusal) {total : Float} → c ≡ Ok tt → pairs.given k c found ≡ pairs.gives k n (top_eigs k n b) old
      → length found ≡ k + k * n → total ≡ trace n b → new ≡ laid (finish n total (take k found) (drop k found)) → given k (Ok tt) new ≡ gives k n (ordinate k n b) out
  answered-by old c q e len t h = ordinate-answered old (ap (λ (x : Result Unit Refusal). pairs.given k x found) (sym q) ∙ e) len t h

-- ---- of distances d

pub centred-found : (n k : ℕ) (d out : List Float) {b : List Float} {g : Given} → b ≡ centred n d → g ≡ gives k n (ordinate k n b) out → g ≡ gives k n (pcoa k n d) out
unfolding pcoa
centred-found n k d out e h = h ∙ ap (λ (m : List Float). gives k n (ordinate k n m) out) e
