-- The answer of `check_gram` and the whole call of `gram_matrix`: the lines may be asked in two parts, and no refusal touches what is lent.
use Rattle.lists.proofs.Base.{◌≡◌, refl, sym, ap, ap₂, ◌∙◌, subst, Bool, true, false, cond, List, map, ℕ, ◌*◌, ◌≤◌, arith, length, take, replicate, Float}
use Rattle.float.specs.Floats.{zero⁺}
use Rattle.limits.specs.Limits.{most_selected}
use Rattle.lists.specs.{Filters.all, Writes.over, Writes.cleared}
use Rattle.std.specs.Prelude.{Result, Ok, Err}
use Rattle.outcome.specs.declared.Refusal.{Refusal}
use Rattle.outcome.specs.{Refusals.first, Outcome.Outcome, Outcome.Told, Outcome.answered, Outcome.refused, Outcome.passed, Outcome.judged}
use Rattle.outcome.specs.{Numbers.number, Slices.untouched, Slices.output, Slices.work}
use Rattle.ordination_hashes.specs.Selected.{selected}
use Rattle.ordination_sets.specs.Lines.{too_short, gram_lines, early_lines, late_lines}
use Rattle.ordination_hashes.specs.inner.{Columns.column_of, Stretches.Selection, Stretches.Climbs}
use Rattle.ordination_hashes.proofs.{Stretches.upward-selected, Lookup.upward-climbs}
use Rattle.ordination_gram.specs.inner.{Columns.column_gram, Call.Checked, Call.matrix_call}
use Rattle.ordination_gram.specs.{Gram.gram, Call.features, Call.outcome_of, Call.Called, Call.leaves, Call.gram_call, Call.called}
use Rattle.outcome.proofs.Table.{first-before, first-after, first-untouched, judged-passes, judged-refused}
use Rattle.ordination_sets.proofs.AcceptedSets.{Accepted, accepted, late-passes}
use Rattle.ordination_gram.proofs.GramOfColumns.{gram-is}

-- ---- the answer, in two parts

module _ (n : ℕ) (hashes offsets : List ℕ) (short beyond : Bool) where
  abbrev count : ℕ
  count = length (selected n hashes)

  abbrev asked : Told
  asked = first (early_lines n (length hashes) offsets short beyond)

  pub features-early : {k : ℕ} → refused k ≡ asked → refused k ≡ features n hashes offsets short beyond
  unfolding features gram_lines
  features-early e =
      ap (λ (t : Told). judged t (answered count)) (sym (first-before (early_lines n (length hashes) offsets short beyond) (late_lines count) (sym e)))

  pub features-late : passed ≡ asked → judged (first (late_lines count)) (answered count) ≡ features n hashes offsets short beyond
  unfolding features gram_lines
  features-late e =
      ap (λ (t : Told). judged t (answered count)) (sym (first-after (early_lines n (length hashes) offsets short beyond) (late_lines count) (sym e)))

-- ---- `check_gram`

module _ (n : ℕ) (hashes offsets : List ℕ) (short beyond : Bool) where
  pub checked-early : (r : Refusal) (chosen : List ℕ) (means : List Float) → refused (number r) ≡ asked n hashes offsets short beyond
      → Checked n hashes offsets short beyond (Err r) chosen means
  checked-early r chosen means e =
      record { told = features-early n hashes offsets short beyond e; stored = λ m q. cc; averages = λ m q. cc }

  pub checked-late : {r : Result ℕ Refusal} {m : ℕ} {chosen : List ℕ} {means : List Float} → passed ≡ asked n hashes offsets short beyond
      → Selection n hashes m chosen means → outcome_of r ≡ judged (first (late_lines m)) (answered m) → most_selected ≤ length chosen → most_selected ≤ length means
      → Checked n hashes offsets short beyond r chosen means
  checked-late {r} {m} {chosen} {means} e c f g h = record {
    told = f ∙ ap (λ (k : ℕ). judged (first (late_lines k)) (answered k)) c.counted ∙ features-late n hashes offsets short beyond e;
    stored = λ k q. let p = late-passes k m (sym (ap outcome_of q) ∙ f) in ap (λ (j : ℕ). take j chosen) p.0 ∙ c.stored (omega (arith, p.1));
    averages = λ k q. let p = late-passes k m (sym (ap outcome_of q) ∙ f) in ap (λ (j : ℕ). take j means) p.0 ∙ c.averages (omega (arith, p.1));
  }

  -- an answer that is a number of hashes: they are so many, and no line holds
  pub checked-answer : {r : Result ℕ Refusal} {chosen : List ℕ} {means : List Float} {m : ℕ} → Checked n hashes offsets short beyond r chosen means → r ≡ Ok m
      → (m ≡ length (selected n hashes)) × Accepted n hashes offsets short beyond
  unfolding features
  checked-answer {m = m} c e =
      let p = judged-passes (first (gram_lines n hashes offsets short beyond)) m (length (selected n hashes)) (sym (ap outcome_of e) ∙ c.told) in
      (p.1, accepted n hashes offsets short beyond p.0)

  -- the hashes that were left go upward
  pub checked-climbs : {r : Result ℕ Refusal} {chosen : List ℕ} {means : List Float} {m : ℕ} → Checked n hashes offsets short beyond r chosen means → r ≡ Ok m → Climbs (take m chosen)
  checked-climbs {m = m} c e = subst (λ (l : List ℕ). Climbs l) (sym (c.stored m e)) (upward-climbs (selected n hashes) (upward-selected n hashes))

  -- the matrix that `fill_gram` makes of what was left
  pub checked-gram : {r : Result ℕ Refusal} {chosen : List ℕ} {means : List Float} {m : ℕ} → Checked n hashes offsets short beyond r chosen means → r ≡ Ok m
      → column_gram n (map (column_of (take m chosen)) hashes) offsets (take m means) ≡ gram n hashes offsets
  checked-gram {m = m} c e =
      ap₂ (λ (x : List ℕ) (y : List Float). column_gram n (map (column_of x) hashes) offsets y) (c.stored m e) (c.averages m e) ∙ gram-is n hashes offsets (checked-answer c e).1.most

-- ---- the whole call

module _ (n : ℕ) (hashes offsets : List ℕ) (short beyond : Bool) (out : List Float) (words : List ℕ) where
  abbrev outcome : Outcome ℕ
  outcome = features n hashes offsets short beyond

  abbrev left : Outcome ℕ → Called
  left o = leaves o (output zero⁺ (λ m. gram n hashes offsets) (n * n) o out) (work 0 o words)

  -- the refusals of these lines leave everything untouched
  keeps : (k : ℕ) → refused k ≡ outcome → untouched k ≡ true
  unfolding features gram_lines early_lines late_lines all
  keeps k e =
      let lines = gram_lines n hashes offsets short beyond in
      first-untouched lines refl (judged-refused (first lines) k (length (selected n hashes)) e)

  pub call-refused : {a : Result ℕ Refusal} (r : Refusal) → a ≡ Err r → outcome_of a ≡ outcome → called a out words ≡ matrix_call n hashes offsets short beyond out words
  unfolding matrix_call output work
  call-refused {a} r e told =
      let same : refused (number r) ≡ outcome = sym (ap outcome_of e) ∙ told in
      let stays = keeps (number r) same in
      ap (λ (t : Result ℕ Refusal). called t out words) e ∙ ap₂ (λ (x : List Float) (y : List ℕ). leaves (refused (number r)) x y)
      (sym (ap (λ (b : Bool). cond b out (over (replicate (n * n) zero⁺) out)) stays)) (sym (ap (λ (b : Bool). cond b words (cleared 0 words)) stays))
      ∙ ap left same

  pub call-answered : {a : Result ℕ Refusal} {chosen : List ℕ} {means : List Float} (m : ℕ) {out' : List Float} {words' : List ℕ}
      → Checked n hashes offsets short beyond a chosen means → a ≡ Ok m
      → out' ≡ over (column_gram n (map (column_of (take m chosen)) hashes) offsets (take m means)) out → words' ≡ cleared 0 words
      → called a out' words' ≡ matrix_call n hashes offsets short beyond out words
  unfolding matrix_call output work
  call-answered {a} m {out'} {words'} c e f g =
      let same : answered m ≡ outcome = sym (ap outcome_of e) ∙ c.told in
      ap (λ (t : Result ℕ Refusal). called t out' words') e
      ∙ ap₂ (λ (x : List Float) (y : List ℕ). leaves (answered m) x y) (f ∙ ap (λ (x : List Float). over x out) (checked-gram n hashes offsets short beyond c e)) g
      ∙ ap left same

-- `gram_matrix` is that, by its own lengths
pub call-is : (n : ℕ) (hashes offsets : List ℕ) (out : List Float) (words : List ℕ) {short : Bool} {c : Called} → short ≡ too_short n (length out) (length words)
    → c ≡ matrix_call n hashes offsets short false out words → c ≡ gram_call n hashes offsets out words
unfolding matrix_call gram_call
call-is n hashes offsets out words e h = h ∙ ap (λ (s : Bool). matrix_call n hashes offsets s false out words) e
