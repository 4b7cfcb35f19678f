-- Equal as numbers: the test is symmetric (`ne_comm`), what equals something equals itself (`ne-self`), and equal numbers have one square (`square-same`), -0.0 and 0.0
-- among them.
use mathlib.Core.Path.{◌≡◌, refl, sym, ap, ◌∙◌, subst}
use mathlib.Core.Bool.{Bool, true, false, not}
use Prim.Native.Nat.{ℕ, ◌*◌}
use native.Mathlib.Nat.{mul-mul-mul_comm, mul-pos}
use lib.Dec.{T, eqb, eqb→eq}
use lib.Ieee.{Float, nan, inf, fin, Format, unlike, up, down, round, mul, level, eq, ne, is_nan}
use lib.Ieee.Fits.{down_pos, and_l}
use lib.Ieee.Scale.{round_same}
use Rattle.float.proofs.Tests.{same_test}
use Rattle.float.proofs.Signed.{level-iff}
use Rattle.float.proofs.Nan.{nan-ne}

level_comm : (s : Bool) (a : ℕ) (t : Bool) (b : ℕ) → level s a t b ≡ level t b s a
level_comm s a t b = same_test (level s a t b) (level t b s a) (turn s a t b) (turn t b s a)
  where
    turn : (s : Bool) (a : ℕ) (t : Bool) (b : ℕ) → T (level s a t b) → T (level t b s a)
    turn s a t b h = let e = (level-iff s a t b).0 h in (level-iff t b s a).1 (e.1, e.0)

eq_comm : (x y : Float) → eq x y ≡ eq y x
unfolding eq
eq_comm nan nan = refl
eq_comm nan (inf t) = refl
eq_comm nan (fin t n d) = refl
eq_comm (inf s) nan = refl
eq_comm (inf true) (inf true) = refl
eq_comm (inf true) (inf false) = refl
eq_comm (inf false) (inf true) = refl
eq_comm (inf false) (inf false) = refl
eq_comm (inf s) (fin t n d) = refl
eq_comm (fin s m e) nan = refl
eq_comm (fin s m e) (inf t) = refl
eq_comm (fin s m e) (fin t n d) = level_comm s (m * up e * down d) t (n * up d * down e)

pub ne_comm : (x y : Float) → ne x y ≡ ne y x
unfolding ne
ne_comm x y = ap not (eq_comm x y)

-- only a NaN differs from itself, and it differs from everything
pub ne-self : (x y : Float) → ne x y ≡ false → ne x x ≡ false
unfolding ne eq is_nan
ne-self nan y e = e
ne-self (inf s) y e = nan-ne (inf s)
ne-self (fin s m d) y e = nan-ne (fin s m d)

-- the sign of a square
like : (s : Bool) → unlike s s ≡ false
like true = refl
like false = refl

equal-square : (f : Format) (x y : Float) → T (eq x y) → mul f x x ≡ mul f y y
unfolding eq mul
equal-square f nan y h = absurd h
equal-square f (inf s) nan h = absurd h
equal-square f (inf s) (inf t) h = ap inf (like s ∙ sym (like t))
equal-square f (inf s) (fin t n d) h = absurd h
equal-square f (fin s m e) nan h = absurd h
equal-square f (fin s m e) (inf t) h = absurd h
equal-square f (fin s m e) (fin t n d) h =
    let a = m * up e in
    let b = n * up d in
    let same : a * down d ≡ b * down e = eqb→eq (a * down d) (b * down e) (and_l (eqb (a * down d) (b * down e)) _ h) in
    ap (λ (z : Bool). round f z (a * a) (down e * down e)) (like s ∙ sym (like t))
    ∙ round_same f (unlike t t) (a * a) (down e * down e) (b * b) (down d * down d) (mul-pos (down_pos e) (down_pos e)) (mul-pos (down_pos d) (down_pos d))
    (mul-mul-mul_comm a a (down d) (down d) ∙ ap (λ (z : ℕ). z * z) same ∙ mul-mul-mul_comm b (down e) b (down e))

pub square-same : (f : Format) (x y : Float) → ne x y ≡ false → mul f x x ≡ mul f y y
unfolding ne
square-same f x y e = equal-square f x y (holds (eq x y) e)
  where
    holds : (b : Bool) → not b ≡ false → T b
    holds true e = tt
    holds false e = subst T e tt
