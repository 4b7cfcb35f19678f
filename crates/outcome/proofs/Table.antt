-- The table goes line by line and group by group: a line that holds is returned, and what does not hold leaves it to the rest.
use Rattle.lists.proofs.Base.{ℕ, ◌≡◌, refl, sym, ap, ◌∙◌, Bool, true, false, ◌&&◌, cond, List, [], ◌∷◌, ◌++◌}
use Rattle.lists.specs.Filters.{all}
use Rattle.std.specs.Prelude.{Result, Ok, Err, IsErrAnd}
use Rattle.std.proofs.lemmas.Result.{err_from_is_err_and}
use Rattle.outcome.specs.declared.Refusal.{Refusal}
use Rattle.outcome.specs.{Outcome.Outcome, Outcome.Told, Outcome.judged, Outcome.answered, Outcome.refused, Outcome.passed, Numbers.number, Numbers.told}
use Rattle.outcome.specs.{Refusals.Line, Refusals.◌when◌, Refusals.first, Slices.untouched}

module _ (k : ℕ) (lines : List Line) {b : Bool} where
  pub first_holds : b ≡ true → first ((k when b) ∷ lines) ≡ refused k
  unfolding first
  first_holds e = ap (λ (t : Bool). cond t (refused k) (first lines)) e

  pub first_passes : b ≡ false → first ((k when b) ∷ lines) ≡ first lines
  unfolding first
  first_passes e = ap (λ (t : Bool). cond t (refused k) (first lines)) e

-- where no line holds, none of the conditions does
pub first-passed : (k : ℕ) (lines : List Line) (b : Bool) → passed ≡ first ((k when b) ∷ lines) → (b ≡ false) × (passed ≡ first lines)
unfolding first
first-passed k lines true e = (cc, cc)
first-passed k lines false e = (refl, e)

-- ---- groups of lines

-- lines that pass leave it to those that follow
pub first-after : (xs ys : List Line) → first xs ≡ passed → first (xs ++ ys) ≡ first ys
unfolding first
first-after [] ys e = refl
first-after (x ∷ xs) ys e = by x.holds e (λ e. first-after xs ys e)
  where
    by : (b : Bool) → cond b (refused x.returned) (first xs) ≡ passed → (first xs ≡ passed → first (xs ++ ys) ≡ first ys)
        → cond b (refused x.returned) (first (xs ++ ys)) ≡ first ys
    by true e more = cc
    by false e more = more e

-- a line that they return stays
pub first-before : (xs ys : List Line) {k : ℕ} → first xs ≡ refused k → first (xs ++ ys) ≡ refused k
unfolding first
first-before [] ys e = cc
first-before (x ∷ xs) ys {k} e = by x.holds e (λ e. first-before xs ys e)
  where
    by : (b : Bool) → cond b (refused x.returned) (first xs) ≡ refused k → (first xs ≡ refused k → first (xs ++ ys) ≡ refused k)
        → cond b (refused x.returned) (first (xs ++ ys)) ≡ refused k
    by true e more = e
    by false e more = more e

-- where no line of two groups holds, none of either does
pub first-both : (xs ys : List Line) → first (xs ++ ys) ≡ passed → (first xs ≡ passed) × (first ys ≡ passed)
first-both xs ys e = by (first xs) refl
  where
    by : (c : Told) → first xs ≡ c → (first xs ≡ passed) × (first ys ≡ passed)
    by (answered _) h = (h, sym (first-after xs ys h) ∙ e)
    by (refused k) h = let z : refused k ≡ passed = sym (first-before xs ys h) ∙ e in (cc, cc)

-- where every line leaves what is lent alone, so does the one that is returned
pub first-untouched : (lines : List Line) {k : ℕ} → all (λ l. untouched l.returned) lines ≡ true → refused k ≡ first lines → untouched k ≡ true
unfolding first all
first-untouched [] h e = cc
first-untouched (l ∷ lines) {k} h e = by l.holds (untouched l.returned) refl h e (λ h e. first-untouched lines h e)
  where
    by : (b t : Bool) → untouched l.returned ≡ t → t && all (λ l. untouched l.returned) lines ≡ true → refused k ≡ cond b (refused l.returned) (first lines)
        → (all (λ l. untouched l.returned) lines ≡ true → refused k ≡ first lines → untouched k ≡ true) → untouched k ≡ true
    by true true u h e more = let same : k ≡ l.returned = cc in ap untouched same ∙ u
    by false true u h e more = more h e
    by b false u h e more = cc

-- ---- what comes out tells what the lines say: an answer where they pass, and else a refusal of theirs

module _ {A : Type 0} where
  pub judged-answers : (t : Told) (out : Outcome A) (a : A) → judged t out ≡ answered a → (t ≡ passed) × (out ≡ answered a)
  judged-answers (answered _) out a e = (refl, e)
  judged-answers (refused k) out a e = (cc, cc)

  pub judged-passes : (t : Told) (a b : A) → answered a ≡ judged t (answered b) → (t ≡ passed) × (a ≡ b)
  judged-passes t a b e = let told = judged-answers t (answered b) a (sym e) in (told.0, cc)

  pub judged-refused : (t : Told) (r : ℕ) (a : A) → refused r ≡ judged t (answered a) → refused r ≡ t
  judged-refused (answered _) r a e = cc
  judged-refused (refused q) r a e = let same : r ≡ q = cc in cc

  -- outcomes that are one where the lines pass
  pub judged-same : (t : Told) {x y : Outcome A} → (t ≡ passed → x ≡ y) → judged t x ≡ judged t y
  judged-same (answered _) e = e refl
  judged-same (refused k) e = refl

-- ---- what a check that the code returns says

module _ {c : Result Unit Refusal} {t : Told} (e : told c ≡ t) where
  pub told-passed : c ≡ Ok tt → passed ≡ t
  told-passed h = ap told (sym h) ∙ e

  pub told-refused : {r : Refusal} → c ≡ Err r → refused (number r) ≡ t
  told-refused h = ap told (sym h) ∙ e

-- one check after another: the first that refuses wins
module _ (xs ys : List Line) {c : Result Unit Refusal} (e : told c ≡ first xs) where
  pub check-refused : {r : Refusal} → c ≡ Err r → told c ≡ first (xs ++ ys)
  check-refused h = e ∙ sym (told-refused e h) ∙ sym (first-before xs ys (sym (told-refused e h)))

  pub check-next : {t : Told} → c ≡ Ok tt → t ≡ first ys → t ≡ first (xs ++ ys)
  check-next h f = f ∙ sym (first-after xs ys (sym (told-passed e h)))

-- what `?` hands on is the refusal that it met
pub passed-on : {A : Type 0} (r : Result A Refusal) {e : Refusal} → IsErrAnd r (λ f. f ≡ e) → r ≡ Err e
passed-on r h = let p = err_from_is_err_and r h in p.1 ∙ ap Err p.2
