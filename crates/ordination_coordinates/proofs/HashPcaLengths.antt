-- The lengths that `hash_pca` asks.
use Rattle.lists.proofs.Base.{◌≡◌, refl, sym, ◌∙◌, Bool, true, false, ◌||◌, ℕ, ◌+◌, ◌*◌, ◌/◌, ◌<◌, ◌≤◌, arith, lt-ltb, le-ltb, ltb-true, ltb-false, ltb}
use Rattle.limits.specs.Limits.{selected_words}
use Rattle.lists.proofs.Truths.{or-neither, or-false}
use Rattle.outcome.specs.Refusals.{short}
use Rattle.ordination_coordinates.specs.Lengths.{too_short, lacking}
use Rattle.ordination_coordinates.specs.inner.Lengths.{Lent}
use Rattle.ordination_coordinates.proofs.Lines.{long-enough}

-- the slices of `pcoa`, and the words
lacking-is : (k n out b w m v words : ℕ) → lacking k n out b w m v words ≡ (too_short k n out b w m v || ltb words (n * selected_words))
unfolding lacking too_short short
lacking-is k n out b w m v words =
    by (ltb out (k + k + n * k)) (ltb b (n * n)) (ltb w (n + n * n)) (ltb m (n * n)) (ltb v (n * n)) (ltb words (n * selected_words))
  where
    by : (o b w m v t : Bool) → (o || (b || (w || (m || (v || (t || false)))))) ≡ ((o || (b || (w || (m || (v || false))))) || t)
    by true b w m v t = refl
    by false true w m v t = refl
    by false false true m v t = refl
    by false false false true v t = refl
    by false false false false true t = refl
    by false false false false false t = or-false t

pub lacking-first : (k n out b w m v words : ℕ) → too_short k n out b w m v ≡ true → true ≡ lacking k n out b w m v words
lacking-first k n out b w m v words h = rw (lacking-is, h)

pub lacking-words : (k n out b w m v words : ℕ) {t : Bool} → too_short k n out b w m v ≡ false → t ≡ ltb words (n * selected_words) → t ≡ lacking k n out b w m v words
lacking-words k n out b w m v words h e = rw (lacking-is, h) e

pub words-test : (words n : ℕ) → ltb (words / selected_words) n ≡ ltb words (n * selected_words)
words-test words n = by (ltb (words / selected_words) n) refl
  where
    by : (t : Bool) → ltb (words / selected_words) n ≡ t → t ≡ ltb words (n * selected_words)
    by true h = let few : words / selected_words < n = ltb-true _ _ h in sym (lt-ltb words (n * selected_words) (omega arith))
    by false h = let many : n ≤ words / selected_words = ltb-false _ _ h in sym (le-ltb words (n * selected_words) (omega arith))

pub lent : (k n out b w m v words : ℕ) → lacking k n out b w m v words ≡ false → Lent k n out b w m v words
lent k n out b w m v words e =
    let s = or-neither (too_short k n out b w m v) (ltb words (n * selected_words)) (sym (lacking-is k n out b w m v words) ∙ e) in
    record { room = long-enough k n out b w m v s.0; sets = ltb-false _ _ s.1 }
