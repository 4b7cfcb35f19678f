-- The two halves of a call, the matrix and its coordinates, and what they leave.
use Rattle.lists.proofs.Base.{◌≡◌, refl, sym, ap, ap₂, ◌∙◌, Bool, true, cond, List, ℕ, ◌*◌, min, length, take, replicate, Float}
use Rattle.float.specs.Floats.{zero⁺}
use Rattle.lists.specs.{Filters.all, Writes.over, Writes.cleared}
use Rattle.lists.proofs.{Ranges.length-grid, Writes.take-over}
use Rattle.std.specs.Prelude.{Result, Ok, Err}
use Rattle.outcome.specs.declared.Refusal.{Refusal}
use Rattle.outcome.specs.Refusals.{first}
use Rattle.outcome.specs.Outcome.{Outcome, Told, answered, refused, passed, judged, and_then, told_of}
use Rattle.outcome.specs.{Numbers.number, Numbers.told, Slices.untouched, Slices.output, Slices.work}
use Rattle.ordination_hashes.specs.Selected.{selected}
use Rattle.ordination_sets.specs.Lines.{gram_lines, early_lines, late_lines}
use Rattle.ordination_gram.specs.{Gram.gram, Call.features, Call.outcome_of}
use Rattle.ordination_gram.specs.Call as of-gram
use Rattle.ordination_gram.specs.inner.Call.{matrix_call}
use Rattle.outcome.proofs.Table.{first-untouched, judged-passes, judged-refused, told-passed, told-refused}
use Rattle.ordination_sets.proofs.AcceptedSets.{Accepted, accepted}
use Rattle.ordination_coordinates.specs.{Lengths.lacking, Lines.bad_components, Finish.Coordinates, Pcoa.ordinate, Pcoa.hash_pca}
use Rattle.ordination_pcoa.specs.Given.{written}
use Rattle.ordination_pcoa.specs.Call as of-pcoa
use Rattle.ordination_pcoa.proofs.{LateRefusals.Late, LateRefusals.late-work, Calls.late-ordinate, Calls.leaves-same}
use Rattle.ordination_hash_pca.specs.Call.{Called, called, leaves, judged_call, hash_pca_call}

-- ---- the lines

module _ (n : ℕ) (hashes offsets : List ℕ) (short beyond : Bool) where
  abbrev pub says : Told
  says = first (gram_lines n hashes offsets short beyond)

  abbrev pub count : ℕ
  count = length (selected n hashes)

  -- a refusal is one of the lines, which leave everything untouched
  refused-line : (k : ℕ) → refused k ≡ features n hashes offsets short beyond → refused k ≡ says
  unfolding features
  refused-line k e = judged-refused says k count e

  line-untouched : (k : ℕ) → refused k ≡ features n hashes offsets short beyond → untouched k ≡ true
  unfolding gram_lines early_lines late_lines all
  line-untouched k e = first-untouched (gram_lines n hashes offsets short beyond) refl (refused-line k e)

  -- and a number of hashes comes from sets that no line turns away
  answered-lines : (f : ℕ) → answered f ≡ features n hashes offsets short beyond → (says ≡ passed) × (f ≡ count)
  unfolding features
  answered-lines f e = judged-passes says f count e

-- ---- what a caller of `matrix` learns

abbrev answer_in : of-gram.Called → Outcome ℕ
answer_in (of-gram.leaves o x y) = o

abbrev matrix_in : of-gram.Called → List Float
matrix_in (of-gram.leaves o x y) = x

abbrev words_in : of-gram.Called → List ℕ
words_in (of-gram.leaves o x y) = y

module _ (k n : ℕ) (hashes offsets : List ℕ) (short beyond : Bool) (out b w m v : List Float) (words : List ℕ) (a : Result ℕ Refusal) {b' : List Float} {words' : List ℕ}
    (e : of-gram.called a b' words' ≡ matrix_call n hashes offsets short beyond b words) where
  answer-is : outcome_of a ≡ features n hashes offsets short beyond
  unfolding matrix_call
  answer-is = ap answer_in e

  matrix-is : {o : Outcome ℕ} → outcome_of a ≡ o → b' ≡ output zero⁺ (λ m. gram n hashes offsets) (n * n) o b
  unfolding matrix_call
  matrix-is f = ap matrix_in e ∙ ap (λ (o : Outcome ℕ). output zero⁺ (λ m. gram n hashes offsets) (n * n) o b) (sym answer-is ∙ f)

  words_are : {o : Outcome ℕ} → outcome_of a ≡ o → words' ≡ work 0 o words
  unfolding matrix_call
  words_are f = ap words_in e ∙ ap (λ (o : Outcome ℕ). work 0 o words) (sym answer-is ∙ f)

  -- a refusal leaves everything as it was
  pub sets-refused : (r : Refusal) → a ≡ Err r → called a out b' w m v words' ≡ judged_call k n hashes offsets short beyond out b w m v words
  unfolding judged_call leaves written output work and_then
  sets-refused r q =
      let same : refused (number r) ≡ features n hashes offsets short beyond = sym (ap outcome_of q) ∙ answer-is in
      let stays = line-untouched n hashes offsets short beyond (number r) same in
      let b-is : b' ≡ b = matrix-is (ap outcome_of q) ∙ ap (λ (c : Bool). cond c b (over (replicate (n * n) zero⁺) b)) stays in
      let w-is : words' ≡ words = words_are (ap outcome_of q) ∙ ap (λ (c : Bool). cond c words (cleared 0 words)) stays in
      let kept : called (Err r) out b w m v words ≡ leaves k n (count n hashes offsets short beyond) (refused (number r)) out b w m v words = rw stays in
      ap (λ (x : Result ℕ Refusal). called x out b' w m v words') q ∙ ap₂ (λ (x : List Float) (y : List ℕ). called (Err r) out x w m v y) b-is w-is
      ∙ kept ∙ ap (λ (t : Told). leaves k n (count n hashes offsets short beyond) (judged t (hash_pca k n hashes offsets)) out b w m v words)
      (refused-line n hashes offsets short beyond (number r) same)

  module _ (f : ℕ) (q : a ≡ Ok f) where
    lines-pass : (says n hashes offsets short beyond ≡ passed) × (f ≡ count n hashes offsets short beyond)
    lines-pass = answered-lines n hashes offsets short beyond f (sym (ap outcome_of q) ∙ answer-is)

    pub sets-accepted : Accepted n hashes offsets short beyond
    sets-accepted = accepted n hashes offsets short beyond lines-pass.0

    front : take (n * n) b' ≡ gram n hashes offsets
    unfolding output gram
    front = ap (take (n * n)) (matrix-is (ap outcome_of q)) ∙ take-over (gram n hashes offsets) b (n * n) (length-grid n n _)

    -- the coordinates of that matrix
    pub sets-settled : {t : Told} (r : Result ℕ Refusal) {out' b'' w' m' v' : List Float} → length b' ≡ length b
        → record { answer = t; out = out'; b = b''; w = w'; m = m'; v = v' } ≡ of-pcoa.leaves k n (ordinate k n (take (n * n) b')) out b' w m v
        → ((o : Outcome Coordinates) → t ≡ told_of o → outcome_of r ≡ and_then o (λ x. answered f))
        → called r out' b'' w' m' v' words' ≡ judged_call k n hashes offsets short beyond out b w m v words
    unfolding judged_call leaves of-pcoa.leaves hash_pca output work
    sets-settled {t} r {out'} {b''} {w'} {m'} {v'} long g told-same =
        let o = hash_pca k n hashes offsets in
        let late : Late o = late-ordinate k n (gram n hashes offsets) in
        let h : record { answer = t; out = out'; b = b''; w = w'; m = m'; v = v' } ≡ of-pcoa.leaves k n o out b w m v =
        leaves-same k n o late out b' b w m v long (g ∙ ap (λ (l : List Float). of-pcoa.leaves k n (ordinate k n l) out b' w m v) front) in
        let answer = told-same o (ap (λ (t : of-pcoa.Called). t.answer) h) ∙ ap (λ (j : ℕ). and_then o (λ x. answered j)) lines-pass.1 in
        let words-is : words' ≡ work 0 o words = words_are (ap outcome_of q) ∙ late-work 0 o words late in
        let made : called r out' b'' w' m' v' words' ≡ leaves k n (count n hashes offsets short beyond) o out b w m v words =
        λ i. record { answer = answer i; out = (h i).out; b = (h i).b; w = (h i).w; m = (h i).m; v = (h i).v; words = words-is i } in made
        ∙ ap (λ (t : Told). leaves k n (count n hashes offsets short beyond) (judged t o) out b w m v words) (sym lines-pass.0)

-- the answer, of what is found
pub said-refused : (f : ℕ) {c : Result Unit Refusal} (r : Refusal) → c ≡ Err r → (o : Outcome Coordinates) → told c ≡ told_of o → refused (number r) ≡ and_then o (λ x. answered f)
unfolding and_then
said-refused f r e (answered x) h = let same : refused (number r) ≡ passed = told-refused h e in cc
said-refused f r e (refused s) h = let same : number r ≡ s = (let told-so : refused (number r) ≡ refused s = told-refused h e in cc) in cc

pub said-passed : (f : ℕ) {c : Result Unit Refusal} → c ≡ Ok tt → (o : Outcome Coordinates) → told c ≡ told_of o → answered f ≡ and_then o (λ x. answered f)
unfolding and_then
said-passed f e (answered x) h = refl
said-passed f e (refused s) h = let same : passed ≡ refused s = told-passed h e in cc

-- ---- the whole call

pub call-is : (components n : ℕ) (hashes offsets : List ℕ) (out b w m v : List Float) (words : List ℕ) {k : ℕ} {short beyond : Bool} {c : Called}
    → k ≡ min components n → short ≡ lacking k n (length out) (length b) (length w) (length m) (length v) (length words) → beyond ≡ bad_components components
    → c ≡ judged_call k n hashes offsets short beyond out b w m v words → c ≡ hash_pca_call components n hashes offsets out b w m v words
unfolding hash_pca_call
call-is components n hashes offsets out b w m v words {k} {short} {beyond} {c} e f g h = h
    ∙ ap₂ (λ (s t : Bool). judged_call k n hashes offsets s t out b w m v words) f g
    ∙ ap (λ (j : ℕ). judged_call j n hashes offsets (lacking j n (length out) (length b) (length w) (length m) (length v) (length words)) (bad_components components) out b w m v words) e
